-- What comes about of a sound program is well formed and legal.
use Rattle.std.proofs.Common.{◌≡◌, inl, inr, ℕ, ◌<◌, ◌≤◌, IsTrue, IsFalse, [], length, refl, ap, ◌∙◌, arith}
use Rattle.std.proofs.lemmas.List.{length-map}
use Rattle.std.proofs.lemmas.Option.{slice_get_within}
use Rattle.rand_pcg.specs.Lcg.{Lcg}
use Rattle.tau_value.specs.declared.limits.TheConstants.{STEP_LIMIT}
use Rattle.tau_value.specs.declared.shared.Value.{Value}
use Rattle.tau_value.specs.Value.{val_of}
use Rattle.tau_tree.specs.declared.programs.Program.{Program}
use Rattle.tau_tree.specs.Sound.{Sound}
use Rattle.tau_trace.specs.declared.step.Step.{Step}
use Rattle.tau_trace.specs.declared.step.Step.TheVariants.{Take, Get, Set, Skip, Send, New, Stabilize, Ask, Checkpoint, Hold, Rollback, Stay, Done, Trap, Fail, Lose, Repeat}
use Rattle.tau_trace.specs.Run.{Run, len, appended}
use Rattle.tau_trace.specs.Numbering.{born, sent, InFlight, Receives}
use Rattle.tau_trace.specs.Known.{WellFormed, MayFollow, IsKnownAt, IsKnownValue}
use Rattle.tau_trace.proofs.Agreement.{born-grows}
use Rattle.tau_trace.proofs.Indexing.{len-appended, well_formed_appended}
use Rattle.tau_script.specs.Openings.{program_opening}
use Rattle.tau_script.specs.Scripts.{DueStep, HasObject, fails, loses, repeats, is_failure}
use Rattle.tau_script.proofs.Passing.{object, object_known}
use Rattle.tau_script.proofs.SoundOpenings.{sound_opening}
use Rattle.tau_eval.specs.Eff as eff
use Rattle.tau_eval.specs.Eff.{Eff}
use Rattle.tau_eval.specs.Known.{IsKnown, IsKnownEffect}
use Rattle.tau_legal.specs.Turns.{TurnHas}
use Rattle.tau_legal.specs.Fits.{Fits, is_of_turn}
use Rattle.tau_legal.specs.Traces.{IsLegal, Legal}
use Rattle.tau_legal.proofs.TraceLemmas.{legal_grows}
use Rattle.tau_legal.proofs.TurnLemmas.{receiver_known}
use Rattle.tau_legal.proofs.ValueLemmas.{turn_effect_known}
use Rattle.tau_legal.proofs.VersionLemmas.{fits_in_version, due_version}
use Rattle.tau_book.specs.SerialRun.{ComesAbout, begins, due, chooses, Choosable, IsReceipt, take, drop, fall, void, echo, heed, IsStepOf, of_turn, of_message}

-- neither a step of a turn nor a receipt is a failure
turn_no_failure : (s : Step) → IsTrue (is_of_turn s) → IsFalse (is_failure s)
turn_no_failure (Fail t) h = absurd (cc)
turn_no_failure (Lose m) h = absurd (cc)
turn_no_failure (Repeat m) h = absurd (cc)
turn_no_failure s h = refl

receipt_no_failure : (t m : ℕ) (s : Step) → IsReceipt t m s → IsFalse (is_failure s)
receipt_no_failure t m s take = refl
receipt_no_failure t m s drop = refl
receipt_no_failure t m s fall = refl
receipt_no_failure t m s void = refl
receipt_no_failure t m s echo = refl
receipt_no_failure t m s heed = refl

pub chosen_no_failure : (P : Program) (T : Run) (o : Choosable) (s : Step) → IsStepOf P T o s → IsFalse (is_failure s)
chosen_no_failure P T o s (of_turn u h) = turn_no_failure s h.of_turn
chosen_no_failure P T o s (of_message {t = t} {m = m} r f) = receipt_no_failure t m s r

chosen_fits : (P : Program) (T : Run) (o : Choosable) (s : Step) → IsStepOf P T o s → Fits P T (len T) s
chosen_fits P T o s (of_turn u h) = h.fits
chosen_fits P T o s (of_message r f) = f

-- what a fitting step of a sound program names exists
module _ (P : Program) (T : Run) (sound : Sound P) (well : WellFormed T) (opens : T.opening ≡ program_opening P) where
  pair : (t m : ℕ) → InFlight T m (len T) → Receives T m t → (t < born T (len T)) × (m < sent T (len T))
  pair t m flies to = (receiver_known T well m t (len T) flies.exists to, flies.exists)

  receipt_known : (t m : ℕ) (s : Step) → IsReceipt t m s → Fits P T (len T) s → IsKnownAt T (len T) s
  receipt_known t m s take f = pair t m f.0.in_flight f.0.receiver
  receipt_known t m s drop f = pair t m f.0.in_flight f.0.receiver
  receipt_known t m s fall f = pair t m f.0.in_flight f.0.receiver
  receipt_known t m s void f = pair t m f.0.in_flight f.0.receiver
  receipt_known t m s echo f = pair t m f.0.in_flight f.0.receiver
  receipt_known t m s heed f = pair t m f.0.in_flight f.0.receiver

  owner_known : (t : ℕ) (e : Eff) → TurnHas P T t (len T) e → t < born T (len T)
  owner_known t e h =
      let known = (well.known h.place (Take t h.message) h.turn.takes).0 in
      let earlier = h.turn.before in
      omega (arith, known, born-grows T h.place (len T) (omega arith))

  effect_known : (t : ℕ) (e : Eff) → TurnHas P T t (len T) e → IsKnownEffect (born T (len T)) (length P.behaviours) P.nodes e
  effect_known t e h = turn_effect_known P T sound well opens t e h

  value_known : (v : Value) → IsKnown (born T (len T)) (val_of v) → IsKnownValue (born T (len T)) v
  value_known v k = record { in_bounds = k.0; names = k.1 }

  behaviours_are : length T.opening.behaviours ≡ length P.behaviours
  behaviours_are = ap (λ o. length o.behaviours) opens ∙ length-map P.behaviours (λ b. b.name)

  nodes_are : T.opening.nodes ≡ P.nodes
  nodes_are = ap (λ o. o.nodes) opens

  turn_known : (s : Step) → IsTrue (is_of_turn s) → Fits P T (len T) s → IsKnownAt T (len T) s
  turn_known (Get t) h f = owner_known t eff.get f
  turn_known (Set t v) h f = (owner_known t (eff.set (val_of v)) f.0, value_known v (effect_known t (eff.set (val_of v)) f.0))
  turn_known (Skip t) h f = owner_known t (eff.set f.0) f.1
  turn_known (Send t u v) h f = let k = effect_known t (eff.send u (val_of v)) f in (owner_known t (eff.send u (val_of v)) f, k.0, value_known v k.1)
  turn_known (New t b n v) h f =
      let k = effect_known t (eff.new b n (val_of v)) f.0 in
      (owner_known t (eff.new b n (val_of v)) f.0, omega (arith, k.0, behaviours_are), omega (arith, k.1, nodes_are), value_known v k.2)
  turn_known (Stabilize t) h f = owner_known t eff.stabilize f
  turn_known (Ask t a) h f = owner_known t eff.ask f.0
  turn_known (Checkpoint t) h f = owner_known t eff.checkpoint f.0
  turn_known (Hold t) h f = owner_known t eff.checkpoint f.0
  turn_known (Rollback t) h f = owner_known t eff.rollback f.0
  turn_known (Stay t) h f = owner_known t eff.rollback f.0
  turn_known (Done t) h f = owner_known t eff.done f
  turn_known (Trap t code) h (inl f) = let k = effect_known t (eff.trap code) f in (owner_known t (eff.trap code) f, k.0, k.1)
  turn_known (Trap t code) h (inr f) = (owner_known t (eff.new f.1.behaviour f.1.node f.1.state) f.1.effect, omega (arith, f.0), omega (arith, f.0))
  turn_known s h f = absurd (cc)

  chosen_known : (o : Choosable) (s : Step) → IsStepOf P T o s → IsKnownAt T (len T) s
  chosen_known o s (of_turn u h) = turn_known s h.of_turn h.fits
  chosen_known o s (of_message {t = t} {m = m} r f) = receipt_known t m s r f

-- a due step fits
due_fits : (P : Program) (T : Run) (s : Step) → Sound P → DueStep P.script T (len T) s → HasObject T (len T) s → Fits P T (len T) s
due_fits P T s sound d (fails lt living) = (lt, living)
due_fits P T s sound d (loses flies) = flies
due_fits P T s sound d (repeats {m = m} flies) = (flies, due_version P T (len T) m sound d)

pub record IsLegalRun (P : Program) (T : Run) : Type 0 where
  pub well_formed : WellFormed T
  pub legal : Legal P T

grown : (P : Program) (T : Run) (s : Step) → IsLegalRun P T → IsKnownAt T (len T) s → IsLegal P T (len T) s → len (appended T s) ≤ STEP_LIMIT → IsLegalRun P (appended T s)
grown P T s is known legal few =
    let may : MayFollow T s = record { known = known; version = fits_in_version P T (len T) s is.well_formed is.legal.opening legal.fits; few_steps = omega (arith, few, len-appended T s) } in
    let well : WellFormed (appended T s) = well_formed_appended T s is.well_formed may in
    record { well_formed = well; legal = legal_grows P T s is.well_formed well is.legal legal }

opened : (P : Program) → Sound P → IsLegalRun P (record { opening = program_opening P; steps = [] })
opened P sound = record {
  well_formed = record {
    opening = sound_opening P sound;
    known = λ k s e. absurd (omega (arith, slice_get_within [] k s e));
    versions = λ k s e. absurd (omega (arith, slice_get_within [] k s e));
    few_steps = omega arith;
  };
  legal = record { opening = refl; steps = λ k s e. absurd (omega (arith, slice_get_within [] k s e)) };
}

pub legal_run : (P : Program) (jobs seed : ℕ) → Sound P → (T : Run) (g : Lcg) → ComesAbout P jobs seed T g → len T ≤ STEP_LIMIT → IsLegalRun P T
legal_run P jobs seed sound T g begins few = opened P sound
legal_run P jobs seed sound T g (due {T = U} {g = h} {s = s} a d) few =
    let before = legal_run P jobs seed sound U h a (omega (arith, few, len-appended U s)) in
    let has : HasObject U (len U) s = object P.script U (len U) d.cursor s d.due in
    grown P U s before (object_known U (len U) s has) (record { fits = due_fits P U s sound d has; allowed = inl d }) few
legal_run P jobs seed sound T g (chooses {T = U} {g = h} {s = s} {chosen = chosen} a n o got is) few =
    let before = legal_run P jobs seed sound U h a (omega (arith, few, len-appended U s)) in
    grown P U s before (chosen_known P U sound before.well_formed before.legal.opening chosen s is) (record { fits = chosen_fits P U chosen s is; allowed = inr (n, chosen_no_failure P U chosen s is) }) few
