use Rattle.std.proofs.Common.{◌≡◌, All}
use Rattle.tau_workers.proofs.workers.Worker.work_on.Given as goal

abbrev pub invariant-loop : goal.invariant-loop
invariant-loop g l =
    (goal.iterator-loop g).can_next l.iterator' × (goal.iterator-loop g).is_finite l.iterator' × (l.self.number ≡ l.fn.self.number) × (g.P.StepPlace.key l.self.place ≡ g.P.StepPlace.key l.fn.self.place) × All (g.P.StepPlace.vouches l.self.place) l.self.hand.jobs
