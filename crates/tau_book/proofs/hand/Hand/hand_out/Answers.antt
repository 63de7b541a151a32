use Rattle.std.proofs.Common.{◌≡◌, ◌<◌, ℕ, List, length, sym, subst}
use Rattle.tau_eval.specs.Turn.{TurnSoFar}
use Rattle.tau_book.specs.Hands.{Held, IsNumbered}
use Rattle.tau_book.proofs.JobLists.{numbered, number_at}
use Rattle.tau_book.proofs.hand.Hand.hand_out.Goals as goal

pub returns-clause-job : goal.returns-clause-job
returns-clause-job c =
    let jobs : List TurnSoFar = c.self.inside.jobs.items in
    let place : ℕ = c.place_of_number-place.result in
    let within : place < length jobs = subst (λ (js : List TurnSoFar). place < length js) c.deref.ensures.value c.place_of_number-place.ensures.within in
    let number : (d : TurnSoFar) → c.args.number ≡ number_at jobs place d = subst (λ (js : List TurnSoFar). (d : TurnSoFar) → c.args.number ≡ number_at js place d) c.deref.ensures.value c.place_of_number-place.ensures.number in
    subst (λ (h : Held). IsNumbered h.jobs c.args.number c.remove.result c.remove.new.self.items) c.self.view_is
    (subst (λ (js : List TurnSoFar). IsNumbered jobs c.args.number c.remove.result js) (sym c.remove.ensures.items) (numbered jobs c.args.number place c.remove.result within c.remove.ensures.value number))
