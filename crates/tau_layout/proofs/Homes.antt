-- The nodes of transactors, as they are told.
use Rattle.std.proofs.Common.{◌≡◌, ◌↔◌, ℕ, suc, ◌<◌, List, [], ◌∷◌, ◌++◌, Option, Some, None, true, false, sym, subst, arith, eqb}
use Rattle.std.specs.Prelude.{IsSome, IfSome}
use Rattle.std.specs.Option.{option_eq}
use Rattle.std.proofs.lemmas.Bool.{eqb-true}
use Rattle.std.proofs.Common.{eq-eqb}
use Rattle.std.proofs.lemmas.Option.{slice_get_within}
use Rattle.tau_trace.specs.declared.step.Step.TheVariants.{New}
use Rattle.tau_trace.specs.Run.{Run, len}
use Rattle.tau_trace.specs.Known.{IsSound}
use Rattle.tau_trace.specs.Numbering.{born, IsHome, start, created}
use Rattle.tau_trace.proofs.Agreement.{born-grows}
use Rattle.tau_trace.proofs.Once.{home_once, new-rises}
use Rattle.tau_layout.specs.declared.lanes.Lane.{Lane}
use Rattle.tau_layout.specs.Inner.Marking.{lane_of, AddsLane, there}

-- a transactor that stands at a node exists
home_born : (T : Run) (t n : ℕ) → IsSound T.opening → IsHome T t n → t < born T (len T)
home_born T t n s (start e) = omega (arith, slice_get_within T.opening.homes t n e, s.a_home_each)
home_born T t n s (created {j = j} {by = by} b e) = omega (arith, b.made, new-rises T j by t b, born-grows T (suc j) (len T) (omega (arith, slice_get_within T.steps j (New by b.behaviour b.node b.state) b.stands)))

pub home_told : (T : Run) (t n : ℕ) (r : Option ℕ) → IfSome r (IsHome T t) → option_eq eqb r (Some n) ≡ true → IsHome T t n
home_told T t n None h e = absurd (cc)
home_told T t n (Some m) h e = subst (IsHome T t) (eqb-true m n e) h

pub home_not_told : (T : Run) (t n : ℕ) (r : Option ℕ) → IsSound T.opening → (IsSome r ↔ (t < born T (len T))) → IfSome r (IsHome T t) → option_eq eqb r (Some n) ≡ false → IsHome T t n → ⊥
home_not_told T t n None s x h e at =
    let some = x.1 (home_born T t n s at) in
    absurd (cc)
home_not_told T t n (Some m) s x h e at =
    let same = eq-eqb m n (home_once T t m n s h at) in
    absurd (cc)

pub adds_there : (T : Run) (n t : ℕ) (old new : List Lane) → IsHome T t n → new ≡ old ++ lane_of n t ∷ [] → AddsLane T n t old new
adds_there T n t old new h e = subst (AddsLane T n t old) (sym e) (there h)
