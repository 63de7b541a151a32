-- After one more step the run is legal, and the cursor the script's.
use Rattle.std.proofs.Common.{◌≡◌, inl, inr, ℕ, IsTrue, Option, Some, None, [], refl, sym, ap, subst, arith}
use Rattle.std.specs.Prelude.{IsFalse}
use Rattle.std.proofs.lemmas.Option.{slice_get_within}
use Rattle.tau_tree.specs.declared.programs.Program.{Program}
use Rattle.tau_tree.specs.Sound.{Sound}
use Rattle.tau_trace.specs.declared.step.Step.{Step}
use Rattle.tau_trace.specs.declared.step.Step.TheVariants.{Take, Drop, Fall, Void, Fail, Lose, Echo, Heed, Repeat}
use Rattle.tau_trace.specs.Steps.{received_by}
use Rattle.tau_trace.specs.Run.{Run, len, appended}
use Rattle.tau_trace.specs.Known.{WellFormed}
use Rattle.tau_trace.proofs.Agreement.{agree_sym, agree_appended, step_at-appended}
use Rattle.tau_trace.proofs.Indexing.{len-appended}
use Rattle.tau_script.specs.declared.cursor.Cursor.{Cursor}
use Rattle.tau_script.specs.Cursors.{CursorAt, ComesTo, IsCurrent, moved_past, moved_past_due}
use Rattle.tau_script.specs.Openings.{program_opening}
use Rattle.tau_script.specs.Scripts.{IsDue, DueStep, NoneDue, Allows, is_failure}
use Rattle.tau_script.proofs.Determined.{one_cursor}
use Rattle.tau_script.proofs.Same.{goes_on}
use Rattle.tau_eval.specs.Turn as jobs
use Rattle.tau_legal.specs.Fits.{Fits, is_of_turn}
use Rattle.tau_legal.specs.Traces.{Fitting, Legal}
use Rattle.tau_legal.proofs.LocalLemmas.{fits_same}
use Rattle.tau_legal.proofs.TraceLemmas.{legal_grows}
use Rattle.tau_rules.specs.System.{Core, with_step}
use Rattle.tau_rules.specs.declared.answers.Delivered.{Delivered}
use Rattle.tau_rules.specs.declared.answers.Delivered.TheVariants.{Began, Dropped, Fell, Voided, Echoed, Heeded}
use Rattle.tau_rules.specs.declared.answers.Acted.{Acted}
use Rattle.tau_rules.specs.declared.answers.Acted.TheVariants.{Reply, TurnOver, Redo}
use Rattle.tau_rules.specs.Answers.{IsDelivered, IsActed}
use Rattle.tau_failures.specs.LegalRun.{LegalRun, IsLegalRun}
use Rattle.tau_failures.proofs.DueLemmas.{due_here}

-- the last step of a longer run that fits, fits
pub fits_at_end : (P : Program) (T : Run) (s : Step) → WellFormed T → WellFormed (appended T s) → Fitting P (appended T s) → Fits P T (len T) s
fits_at_end P T s v w f =
    let stands = step_at-appended T s in
    fits_same P (appended T s) T (len T) s w v (agree_sym (agree_appended T s)) (w.known (len T) s stands) (f.steps (len T) s stands)

-- a run without steps is legal
pub legal_first : (P : Program) (T : Run) → T ≡ record { opening = program_opening P; steps = [] } → Legal P T
legal_first P T e = record { opening = ap (λ (x : Run). x.opening) e; steps = λ k s at. absurd (omega (arith, slice_get_within T.steps k s at, ap len e)) }

-- a receipt is no step of a script, nor is a step of a turn
receipt_no_failure : (s : Step) (m : ℕ) → received_by s ≡ Some m → IsFalse (is_failure s)
receipt_no_failure (Take t n) m e = refl
receipt_no_failure (Drop t n) m e = refl
receipt_no_failure (Fall t n) m e = refl
receipt_no_failure (Void t n) m e = refl
receipt_no_failure (Echo t n) m e = refl
receipt_no_failure (Heed t n) m e = refl
receipt_no_failure s m e = absurd (cc)

turn_no_failure : (s : Step) → IsTrue (is_of_turn s) → IsFalse (is_failure s)
turn_no_failure (Fail t) e = absurd (cc)
turn_no_failure (Lose m) e = absurd (cc)
turn_no_failure (Repeat m) e = absurd (cc)
turn_no_failure s e = refl

-- a receipt of the message was appended
pub record IsReceived (old new : Core) (m : ℕ) : Type 0 where
  pub step : Step
  pub receipt : received_by step ≡ Some m
  pub appended : new ≡ with_step old step

pub received : (old new : Core) (m : ℕ) (d : Delivered) → IsDelivered old new m d → IsReceived old new m
received old new m (Began job) h = record { step = Take job.who m; receipt = refl; appended = h.appended }
received old new m Dropped h = record { step = Drop h.0 m; receipt = refl; appended = h.1 }
received old new m Fell h = record { step = Fall h.0 m; receipt = refl; appended = h.1 }
received old new m Voided h = record { step = Void h.0 m; receipt = refl; appended = h.1 }
received old new m Echoed h = record { step = Echo h.0 m; receipt = refl; appended = h.1 }
received old new m Heeded h = record { step = Heed h.0 m; receipt = refl; appended = h.1 }

-- the run determines the cursor
pub same_run : (old new : LegalRun) → IsLegalRun old.system.program old.system.run old.cursor → IsLegalRun new.system.program new.system.run new.cursor → new.system ≡ old.system → new ≡ old
same_run old new kept after is =
    let P : Program = old.system.program in
    let T : Run = old.system.run in
    let cursor : new.cursor ≡ old.cursor = one_cursor P.script T (len T) new.cursor old.cursor (subst (λ (k : Core). CursorAt k.program.script k.run (len k.run) new.cursor) is after.cursor_is) kept.cursor_is in
    λ i. record { system = is i; cursor = cursor i }

module _ (old new : Core) (c b d : Cursor) (kept : IsLegalRun old.program old.run c) (w : WellFormed new.run) (f : Fitting new.program new.run)
    (moves : IsCurrent new.program.script new.run (len new.run) b → CursorAt new.program.script new.run (len new.run) d) where
  after_step : (due : Option Step) (s : Step) → IsDue old.program.script old.run (len old.run) due → Allows old.program.script old.run (len old.run) s → new ≡ with_step old s → b ≡ moved_past_due due c
      → IsLegalRun new.program new.run d
  after_step due s is_due allowed is moved =
      let P : Program = old.program in
      let T : Run = old.run in
      let long : WellFormed (appended T s) = subst (λ (k : Core). WellFormed k.run) is w in
      let fitting : Fitting P (appended T s) = subst (λ (k : Core). Fitting k.program k.run) is f in
      let legal : Legal P (appended T s) = legal_grows P T s kept.well_formed long kept.legal (record { fits = fits_at_end P T s kept.well_formed long fitting; allowed = allowed }) in
      let comes : ComesTo P.script (appended T s) (len (appended T s)) (moved_past_due due c) =
      subst (λ k. ComesTo P.script (appended T s) k (moved_past_due due c)) (sym (len-appended T s)) (goes_on P.script T c due s kept.cursor_is (due_here P T c kept due is_due)) in
      let here : ComesTo P.script (appended T s) (len (appended T s)) b = subst (λ (x : Cursor). ComesTo P.script (appended T s) (len (appended T s)) x) (sym moved) comes in
      record {
        sound = subst (λ (k : Core). Sound k.program) (sym is) kept.sound;
        well_formed = w;
        legal = subst (λ (k : Core). Legal k.program k.run) (sym is) legal;
        cursor_is = moves (inr (subst (λ (k : Core). ComesTo k.program.script k.run (len k.run) b) (sym is) here));
      }

  -- after a due step
  pub after_due : (s : Step) → DueStep old.program.script old.run (len old.run) s → new ≡ with_step old s → b ≡ moved_past s c → IsLegalRun new.program new.run d
  after_due s is_due is moved = after_step (Some s) s is_due (inl is_due) is moved

  module _ (none : NoneDue old.program.script old.run (len old.run)) (same : b ≡ c) where
    after_other : (s : Step) → IsFalse (is_failure s) → new ≡ with_step old s → IsLegalRun new.program new.run d
    after_other s no_failure is = after_step None s none (inr (none, no_failure)) is same

    -- after a receipt
    pub after_delivered : (m : ℕ) (r : Delivered) → IsDelivered old new m r → IsLegalRun new.program new.run d
    after_delivered m r h =
        let receipt = received old new m r h in
        after_other receipt.step (receipt_no_failure receipt.step m receipt.receipt) receipt.appended

    -- after an effect
    pub after_acted : (job : jobs.TurnSoFar) (a : Acted) → IsActed old new job a → IsLegalRun new.program new.run d
    after_acted job (Reply r) h = after_other h.0 (turn_no_failure h.0 h.1.step.of_turn) h.1.appended
    after_acted job TurnOver h = after_other h.0 (turn_no_failure h.0 h.1.step.of_turn) h.1.appended
    after_acted job (Redo other) h =
        let is = h.unchanged in
        record {
          sound = subst (λ (k : Core). Sound k.program) (sym is) kept.sound;
          well_formed = w;
          legal = subst (λ (k : Core). Legal k.program k.run) (sym is) kept.legal;
          cursor_is = moves (inl (subst (λ (x : Cursor). CursorAt new.program.script new.run (len new.run) x) (sym same) (subst (λ (k : Core). CursorAt k.program.script k.run (len k.run) c) (sym is) kept.cursor_is)));
        }
