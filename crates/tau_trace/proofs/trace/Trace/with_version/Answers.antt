use Rattle.std.proofs.Common.{◌≡◌, ◌<◌, ◌∙◌, ap, length, refl, sym, subst, Some, List, take, arith}
use Rattle.std.specs.Prelude.{slice_get}
use Rattle.std.proofs.lemmas.Option.{slice_get_read}
use Rattle.tau_trace.specs.Run.{Run, step_at, versioned}
use Rattle.tau_trace.specs.Stored.{Stored}
use Rattle.tau_trace.specs.Known.{WellFormed}
use Rattle.tau_trace.proofs.Prefix.{IsRaised, prefix, run_of, sound_versioned, may_follow_versioned}
use Rattle.tau_trace.proofs.trace.Trace.with_version.Goals as goal

pub push_spare-requires-clause-step : goal.push_spare-requires-clause-step
push_spare-requires-clause-step c =
    let T = c.args.self.now.run in
    let v = c.args.version in
    let P : Stored → Type 0 = λ x. WellFormed x.run in
    let w : WellFormed T = subst P c.self.view_is c.self.invariant.well_formed in
    let xs = c.deref-step-items.result.now in
    let k = c.loop-step.step-index in
    let here : slice_get xs k ≡ Some c.step-item.result = slice_get_read xs (length xs) k c.step-item.result refl (omega arith) c.step-item.is in
    let stands : step_at T k ≡ Some c.step-item.result = ap (λ ys. slice_get ys k) (sym c.loop-step.invariant.0) ∙ here in
    let run_is : c.reserve.new.self.run ≡ versioned v (prefix T k) = c.reserve.ensures.run ∙ c.loop-step.invariant.1 ∙ ap (λ ys. versioned v (run_of T.opening (take k ys))) c.loop-step.invariant.0 in
    rw (run_is, c.in_ok-copy.ensures) (may_follow_versioned T v k c.step-item.result c.requires w stands)

pub begin-requires : goal.begin-requires
begin-requires c =
    let v = c.args.version in
    let R : Stored → Type 0 = λ x. IsRaised x.run.opening.version v in
    rw c.in_ok-in_version.ensures (sound_versioned c.self.inside.opening v (subst R (sym c.self.view_is) c.requires) c.self.invariant.well_formed.opening)
