-- What the readers of a table find in its records.
use Rattle.std.proofs.Common.{◌≡◌, ℕ, zero, suc, ◌<◌, true, false, List, Some, None, refl, sym, ◌∙◌, subst, arith}
use Rattle.std.specs.Prelude.{slice_get}
use Rattle.std.proofs.lemmas.Option.{slice_get_within}
use Rattle.tau_value.specs.declared.shared.Value.{Value}
use Rattle.tau_trace.specs.Run.{Run, len}
use Rattle.tau_trace.specs.Numbering.{born}
use Rattle.tau_trace.specs.Histories.{history, IsLiving}
use Rattle.tau_trace.proofs.Reading.{past_end}
use Rattle.tau_states.specs.declared.state_record.StateRecord.{StateRecord}
use Rattle.tau_states.specs.Table.{IsBase, Holds}
use Rattle.tau_states.specs.Answers.{IsPresent, HasClosed, IsStateAfter, IsSavedAfter, IsIntervalAfter}

module _ (T : Run) (opening : List Value) (rs : List StateRecord) (h : Holds T opening rs) (t : ℕ) where
  pub absent : None ≡ slice_get rs t → ¬ (t < born T (len T))
  absent e l = omega (arith, past_end rs t (sym e), h.count)

  pub exists : (r : StateRecord) → Some r ≡ slice_get rs t → t < born T (len T)
  exists r e = omega (arith, slice_get_within rs t r (sym e), h.count)

  pub interval_is : (r : StateRecord) → Some r ≡ slice_get rs t → IsIntervalAfter T t (Some r.interval)
  interval_is r e = (exists r e, (h.each t r (sym e)).interval)

  pub stable_is : (r : StateRecord) → Some r ≡ slice_get rs t → r.stable ≡ (history T t (len T)).stable
  stable_is r e = (h.each t r (sym e)).stable

  pub ended_is : (r : StateRecord) → Some r ≡ slice_get rs t → r.ended ≡ true → ¬ IsPresent T t
  ended_is r e is p = let x = (h.each t r (sym e)).ended.0 is in p.living x.place x.before x.ends

  pub living_is : (r : StateRecord) → Some r ≡ slice_get rs t → r.ended ≡ false → IsLiving T t (len T)
  living_is r e is j l ends = let both = sym is ∙ (h.each t r (sym e)).ended.1 (record { place = j; before = l; ends = ends }) in cc

  pub state_is : (r : StateRecord) → Some r ≡ slice_get rs t → r.ended ≡ false → IsStateAfter T opening t (Some r.state)
  state_is r e is = (record { exists = exists r e; living = living_is r e is }, (h.each t r (sym e)).state)

  pub at_first : (r : StateRecord) → Some r ≡ slice_get rs t → r.interval ≡ 0 → ¬ HasClosed T t
  at_first r e is p = omega (arith, p.closed, (h.each t r (sym e)).interval, is)

  pub saved_is : (r : StateRecord) → Some r ≡ slice_get rs t → ¬ (r.interval ≡ 0) → IsSavedAfter T opening t (Some r.base)
  saved_is r e not = by r.interval refl where
    by : (i : ℕ) → r.interval ≡ i → IsSavedAfter T opening t (Some r.base)
    by zero is = absurd (not is)
    by (suc i) is = (i, exists r e, sym (h.each t r (sym e)).interval ∙ is, let P : ℕ → Type 0 = λ n. IsBase T opening t n r.base in subst P is (h.each t r (sym e)).base)
