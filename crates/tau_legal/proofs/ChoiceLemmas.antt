-- What a table of states says of whether a transactor is stable decides between a Set and a Skip, and a Rollback and a Stay.
use Rattle.std.proofs.Common.{◌≡◌, ℕ, ◌<◌, Bool, true, false, List, length, refl, sym, ap, ◌∙◌, subst, arith}
use Rattle.tau_value.specs.declared.shared.Value.{Value}
use Rattle.tau_value.specs.declared.shared.Value.TheVariants as values
use Rattle.tau_value.specs.Val.{Val}
use Rattle.tau_value.specs.Value.{val_of}
use Rattle.tau_trace.specs.declared.step.Step.TheVariants.{Set, Skip, Rollback, Stay}
use Rattle.tau_trace.specs.Run.{Run, len}
use Rattle.tau_trace.specs.Numbering.{born}
use Rattle.tau_trace.specs.Histories.{history}
use Rattle.tau_states.specs.Opening.{opening_states}
use Rattle.tau_states.specs.Table.{Holds}
use Rattle.tau_states.specs.declared.state_record.StateRecord.{StateRecord}
use Rattle.tau_eval.specs.Eff as eff
use Rattle.tau_legal.specs.Turns.{TurnHas}
use Rattle.tau_legal.specs.declared.choices.Choice.TheVariants.{GoesOn, Ends}
use Rattle.tau_legal.specs.Choices.{IsChoiceOf}

-- the test tells whether t is stable, in each run whose states the records are
abbrev pub TellsStable : List StateRecord → ℕ → Bool → Type 0
TellsStable records t b = (T : Run) (opening : List Value) → Holds T opening records → t < born T (len T) → b ≡ (history T t (len T)).stable

module _ (records : List StateRecord) (t : ℕ) (b : Bool) (lt : t < length records) (tells : TellsStable records t b) where
  -- a transactor with a record exists, so the test tells it
  stable_is : (T : Run) (opening : List Value) (x : Bool) → Holds T opening records → b ≡ x → (history T t (len T)).stable ≡ x
  stable_is T opening x h e = sym (tells T opening h (omega (arith, lt, h.count))) ∙ e

  -- a Set, where t is volatile
  pub set_fits : (v w : Value) → b ≡ false → v ≡ w → (T : Run) → IsChoiceOf T records t (eff.set (val_of w)) (GoesOn (Set t v) values.Unit)
  set_fits v w volatile same T P h has =
      let same_effect = ap (λ (x : Value). eff.set (val_of x)) (sym same) in
      (record { by = refl; of_turn = refl; fits = (subst (TurnHas P T t (len T)) same_effect has, stable_is T (opening_states P.starts) false h volatile) }, refl, refl)

  -- a Skip, where t is stable
  pub skip_fits : (x : Val) → b ≡ true → (T : Run) → IsChoiceOf T records t (eff.set x) (GoesOn (Skip t) values.Unit)
  skip_fits x stable T P h has = (record { by = refl; of_turn = refl; fits = (x, has, stable_is T (opening_states P.starts) true h stable) }, refl, refl)

  -- a Rollback, where t is volatile
  pub rollback_fits : b ≡ false → (T : Run) → IsChoiceOf T records t eff.rollback (Ends (Rollback t))
  rollback_fits volatile T P h has = (record { by = refl; of_turn = refl; fits = (has, stable_is T (opening_states P.starts) false h volatile) }, refl)

  -- a Stay, where t is stable
  pub stay_fits : b ≡ true → (T : Run) → IsChoiceOf T records t eff.rollback (Ends (Stay t))
  stay_fits stable T P h has = (record { by = refl; of_turn = refl; fits = (has, stable_is T (opening_states P.starts) true h stable) }, refl)
