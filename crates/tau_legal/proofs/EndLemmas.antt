-- A legal trace is complete exactly where no step is legal after it.
use Rattle.std.proofs.Common.{◌≡◌, inl, inr, ⊎_elim, ℕ, ◌<◌, Bool, true, false, IsTrue, IsFalse, Option, Some, None, length, refl, sym, ap, ◌∙◌, subst, arith}
use Rattle.std.proofs.lemmas.Bool.{cases_lt}
use Rattle.std.proofs.lemmas.List.{length-map}
use Rattle.tau_value.specs.declared.shared.Value.{Value}
use Rattle.tau_value.specs.declared.shared.Value.TheVariants as values
use Rattle.tau_value.specs.Val as val
use Rattle.tau_value.specs.Val.{Val, items_of, inside-items_of}
use Rattle.tau_value.specs.Value.{val_of}
use Rattle.tau_tree.specs.declared.programs.Program.{Program}
use Rattle.tau_tree.specs.Sound.{Sound}
use Rattle.tau_trace.specs.declared.step.Step.{Step}
use Rattle.tau_trace.specs.declared.step.Step.TheVariants.{Take, Drop, Fall, Void, Get, Set, Skip, Send, New, Stabilize, Ask, Checkpoint, Hold, Rollback, Stay, Done, Trap, Fail, Lose, Echo, Heed, Repeat}
use Rattle.tau_trace.specs.Run.{Run, len}
use Rattle.tau_trace.specs.Numbering.{born, sent, InFlight, Receives}
use Rattle.tau_trace.specs.Histories.{history, IsLiving}
use Rattle.tau_trace.specs.Turns.{Turn}
use Rattle.tau_trace.specs.Known.{WellFormed, IsKnownValue, IsKnownAt}
use Rattle.tau_trace.proofs.Agreement.{born-grows}
use Rattle.tau_past.specs.Decisions.{Free, FallsBy, DropsBy, fall, drop, take}
use Rattle.tau_script.specs.Scripts.{NoneDue, DueStep, HasObject, fails, loses, repeats, is_failure}
use Rattle.tau_script.proofs.Determined.{one_step}
use Rattle.tau_script.proofs.Existing.{determined}
use Rattle.tau_script.proofs.Passing.{object}
use Rattle.tau_eval.specs.Eff as eff
use Rattle.tau_eval.specs.Eff.{Eff}
use Rattle.tau_eval.specs.Known.{IsKnown, IsKnownEffect}
use Rattle.tau_legal.specs.Turns.{TurnHas}
use Rattle.tau_legal.specs.Fits.{Arrives, ArrivesLate, Fits, most_transactors}
use Rattle.tau_legal.specs.Traces.{IsLegal, Legal, Complete}
use Rattle.tau_legal.specs.Laws.{CompleteWhereNoStepIsLegal}
use Rattle.tau_legal.proofs.TraceLemmas.{legal_fitting}
use Rattle.tau_legal.proofs.ValueLemmas.{turn_effect_known}
use Rattle.tau_legal.proofs.VersionLemmas.{due_version}
use Rattle.tau_legal.proofs.TurnLemmas.{receiver_exists, receiver_known, effect_exists}

-- each plain value is that of a value
abbrev value_from : Val → Value
value_from val.unit = values.Unit
value_from (val.truth b) = values.Truth b
value_from (val.int z) = values.Int z
value_from (val.text t) = values.Text t
value_from (val.name n) = values.Name n
value_from (val.list vs) = values.List (items_of vs)

val_of-from : (v : Val) → val_of (value_from v) ≡ v
val_of-from val.unit = refl
val_of-from (val.truth b) = refl
val_of-from (val.int z) = refl
val_of-from (val.text t) = refl
val_of-from (val.name n) = refl
val_of-from (val.list vs) = ap val.list (inside-items_of vs)

known_value : (n : ℕ) (v : Val) → IsKnown n v → IsKnownValue n (value_from v)
known_value n v k = let there = subst (IsKnown n) (sym (val_of-from v)) k in record { in_bounds = there.0; names = there.1 }

-- after a complete trace no step is legal
none_legal : (P : Program) (T : Run) → Complete P T → (s : Step) → ¬ IsLegal P T (len T) s
none_legal P T c s l = ⊎_elim due (λ n. other s l.fits n.1) l.allowed where
  due : DueStep P.script T (len T) s → ⊥
  due d = let e : None ≡ Some s = one_step P.script T (len T) None (Some s) c.none_due d in absurd (cc)

  turn : (t : ℕ) (e : Eff) → TurnHas P T t (len T) e → ⊥
  turn t e h = c.no_turn t h.place h.message h.turn

  other : (s : Step) → Fits P T (len T) s → IsFalse (is_failure s) → ⊥
  other (Take t m) f n = c.none_in_flight m f.0.in_flight
  other (Drop t m) f n = c.none_in_flight m f.0.in_flight
  other (Fall t m) f n = c.none_in_flight m f.0.in_flight
  other (Void t m) f n = c.none_in_flight m f.0.in_flight
  other (Get t) f n = turn t _ f
  other (Set t v) f n = turn t _ f.0
  other (Skip t) f n = turn t _ f.1
  other (Send t u v) f n = turn t _ f
  other (New t b i v) f n = turn t _ f.0
  other (Stabilize t) f n = turn t _ f
  other (Ask t a) f n = turn t _ f.0
  other (Checkpoint t) f n = turn t _ f.0
  other (Hold t) f n = turn t _ f.0
  other (Rollback t) f n = turn t _ f.0
  other (Stay t) f n = turn t _ f.0
  other (Done t) f n = turn t _ f
  other (Trap t code) f n = ⊎_elim (λ h. turn t _ h) (λ h. turn t _ h.1.effect) f
  other (Fail t) f n = absurd (cc)
  other (Lose m) f n = absurd (cc)
  other (Echo t m) f n = c.none_in_flight m f.0.in_flight
  other (Heed t m) f n = c.none_in_flight m f.0.in_flight
  other (Repeat m) f n = absurd (cc)

module _ (P : Program) (T : Run) (sound : Sound P) (well : WellFormed T) (legal : Legal P T) (none : (s : Step) → IsKnownAt T (len T) s → ¬ IsLegal P T (len T) s) where
  -- a due step would be legal
  not_due : (s : Step) → DueStep P.script T (len T) s → HasObject T (len T) s → ⊥
  not_due s d (fails {t = t} lt living) = none (Fail t) lt (record { fits = (lt, living); allowed = inl d })
  not_due s d (loses {m = m} flies) = none (Lose m) flies.exists (record { fits = flies; allowed = inl d })
  not_due s d (repeats {m = m} flies) = none (Repeat m) flies.exists (record { fits = (flies, due_version P T (len T) m sound d); allowed = inl d })

  none_due : NoneDue P.script T (len T)
  none_due = by (determined P.script T (len T)).step refl where
    by : (s : Option Step) → (determined P.script T (len T)).step ≡ s → NoneDue P.script T (len T)
    by None e = ((determined P.script T (len T)).step_is None).1 (sym e)
    by (Some s) e = let d = ((determined P.script T (len T)).step_is (Some s)).1 (sym e) in absurd (not_due s d (object P.script T (len T) d.cursor s d.due))

  -- so no step but one of a script fits
  none_fits : (s : Step) → IsKnownAt T (len T) s → IsFalse (is_failure s) → ¬ Fits P T (len T) s
  none_fits s known n f = none s known (record { fits = f; allowed = inr (none_due, n) })

  behaviours_are : length T.opening.behaviours ≡ length P.behaviours
  behaviours_are = ap (λ o. length o.behaviours) legal.opening ∙ length-map P.behaviours (λ b. b.name)

  nodes_are : T.opening.nodes ≡ P.nodes
  nodes_are = ap (λ o. o.nodes) legal.opening

  module _ (t : ℕ) (exists : t < born T (len T)) where
    by_mode : (A : Type 0) → (IsTrue (history T t (len T)).stable → A) → (IsFalse (history T t (len T)).stable → A) → A
    by_mode A stable volatile = by (history T t (len T)).stable refl where
      by : (b : Bool) → (history T t (len T)).stable ≡ b → A
      by true e = stable e
      by false e = volatile e

    -- each effect of an open turn has a step that fits
    no_effect : (e : Eff) → TurnHas P T t (len T) e → IsKnownEffect (born T (len T)) (length P.behaviours) P.nodes e → ⊥
    no_effect eff.get h known = none_fits (Get t) exists refl h
    no_effect (eff.set v) h known = by_mode ⊥
        (λ stable. none_fits (Skip t) exists refl (v, h, stable))
        (λ volatile. none_fits (Set t (value_from v)) (exists, known_value (born T (len T)) v known) refl (subst (λ x. TurnHas P T t (len T) (eff.set x)) (sym (val_of-from v)) h, volatile))
    no_effect (eff.send u v) h known =
        none_fits (Send t u (value_from v)) (exists, known.0, known_value (born T (len T)) v known.1) refl (subst (λ x. TurnHas P T t (len T) (eff.send u x)) (sym (val_of-from v)) h)
    no_effect (eff.new b n v) h known = ⊎_elim
        (λ few. none_fits (New t b n (value_from v)) (exists, omega (arith, known.0, behaviours_are), omega (arith, known.1, nodes_are), known_value (born T (len T)) v known.2) refl (subst (λ x. TurnHas P T t (len T) (eff.new b n x)) (sym (val_of-from v)) h, few))
        (λ full. none_fits (Trap t 7) (exists, omega arith, omega arith) refl (inr (refl, record { behaviour = b; node = n; state = v; effect = h; full = full })))
        (cases_lt (born T (len T)) most_transactors)
    no_effect eff.stabilize h known = none_fits (Stabilize t) exists refl h
    no_effect eff.ask h known =
        let free : ¬ ¬ Free T t (len T) = (λ n. none_fits (Ask t true) exists refl (h, (λ _. n, λ _. refl))) in
        none_fits (Ask t false) exists refl (h, (λ e. absurd (cc), λ n. absurd (free n)))
    no_effect eff.checkpoint h known =
        let not : ¬ Free T t (len T) = (λ f. none_fits (Checkpoint t) exists refl (h, f)) in
        none_fits (Hold t) exists refl (h, not)
    no_effect eff.rollback h known = by_mode ⊥ (λ stable. none_fits (Stay t) exists refl (h, stable)) (λ volatile. none_fits (Rollback t) exists refl (h, volatile))
    no_effect eff.done h known = none_fits (Done t) exists refl h
    no_effect (eff.trap code) h known = none_fits (Trap t code) (exists, known.0, known.1) refl (inl h)

  no_turn : (t place m : ℕ) → ¬ Turn T t (len T) place m
  no_turn t place m u =
      let known = (well.known place (Take t m) u.takes).0 in
      let earlier = u.before in
      let has = effect_exists P T sound well (legal_fitting P T legal) t (len T) place m (omega arith) u in
      no_effect t (omega (arith, known, born-grows T place (len T) (omega arith))) has.0 has.1 (turn_effect_known P T sound well legal.opening t has.0 has.1)

  -- each message in flight has a receipt that fits
  module _ (t m : ℕ) (flies : InFlight T m (len T)) (receives : Receives T m t) where
    known_pair : (t < born T (len T)) × (m < sent T (len T))
    known_pair = (receiver_known T well m t (len T) flies.exists receives, flies.exists)

    living : IsLiving T t (len T)
    living j lt e =
        let late : ArrivesLate T t m (len T) = record { in_flight = flies; receiver = receives; ended = record { place = j; before = lt; ends = e } } in
        none_fits (Void t m) known_pair refl (late, λ echoes. none_fits (Echo t m) known_pair refl (late, echoes))

    arrives : Arrives T t m (len T)
    arrives = record { in_flight = flies; receiver = receives; living = living; idle = λ place n u. no_turn t place n u }

    not_falls : ¬ FallsBy T t (len T) m
    not_falls f = none_fits (Fall t m) known_pair refl (arrives, fall f)

    not_drops : ¬ DropsBy T t (len T) m
    not_drops d = none_fits (Drop t m) known_pair refl (arrives, drop not_falls d)

    not_in_flight : ⊥
    not_in_flight =
        let takes_it = take not_falls not_drops in
        none_fits (Take t m) known_pair refl (arrives, takes_it, λ notice. none_fits (Heed t m) known_pair refl (arrives, takes_it, notice))

  complete : Complete P T
  complete = record {
    none_due = none_due;
    no_turn = no_turn;
    none_in_flight = λ m f. let r = receiver_exists P T (λ k s e. (legal.steps k s e).fits) m (len T) (omega arith) f.exists in not_in_flight r.0 m f r.1;
  }

pub complete_where_no_step_is_legal : CompleteWhereNoStepIsLegal
complete_where_no_step_is_legal P T = (none_legal P T, complete P T)
