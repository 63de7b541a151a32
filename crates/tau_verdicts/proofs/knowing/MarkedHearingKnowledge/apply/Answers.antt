use Rattle.std.proofs.Common.{ℕ, Bool, List, [], sym, subst}
use Rattle.tau_points.specs.declared.point.Point.{Point}
use Rattle.tau_trace.specs.Run.{len}
use Rattle.tau_verdicts.specs.Doomed.{flag_of, takers_of, AreDoomed, cleared}
use Rattle.tau_verdicts.specs.Freedom.{AreFree}
use Rattle.tau_verdicts.proofs.knowing.MarkedHearingKnowledge.apply.Goals as goal

pub change-requires : goal.change-requires
change-requires c = c.requires.1.hearing.room

pub returns : goal.returns
returns c = λ T leads.
    let D : ℕ → Bool = flag_of c.change.new.self.doomed.items in
    let K : ℕ → List Point = takers_of c.change.new.self.takers.items in
    let F : (ℕ → Bool) → Type 0 = λ E. AreDoomed T (len T) E (cleared c.args.change.leaves [] (takers_of c.args.self.now.takers.items)) in
    let G : (ℕ → List Point) → Type 0 = λ M. AreDoomed T (len T) D M in
    let H : (ℕ → Bool) → Type 0 = λ E. AreFree T (len T) E in
    (leads.hearing.after c.change.new.self.hearing c.change.ensures.hearing, subst G (λ i u. sym (c.change.ensures.takers u) i) (subst F (λ i u. sym (c.change.ensures.doomed u) i) leads.noted), subst H (λ i u. sym (c.change.ensures.free u) i) leads.free)
