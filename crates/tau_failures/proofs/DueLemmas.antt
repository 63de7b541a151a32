-- What is due where the cursor stands.
use Rattle.std.proofs.Common.{◌≡◌, ℕ, ◌<◌, IsTrue, Option, Some, None, List, length, refl, ap, ◌∙◌, subst}
use Rattle.std.proofs.lemmas.Option.{slice_get_within}
use Rattle.std.specs.Prelude.{IfSome}
use Rattle.tau_tree.specs.declared.entries.Entry.{Entry}
use Rattle.tau_tree.specs.declared.programs.Program.{Program}
use Rattle.tau_trace.specs.declared.step.Step.{Step}
use Rattle.tau_trace.specs.declared.step.Step.TheVariants.{Repeat}
use Rattle.tau_trace.specs.Run.{Run, len}
use Rattle.tau_trace.specs.Numbering.{InFlight}
use Rattle.tau_script.specs.declared.cursor.Cursor.{Cursor}
use Rattle.tau_script.specs.Cursors.{IsDueAt}
use Rattle.tau_script.specs.Scripts.{IsDue, DueStep, HasObject, fails, loses, repeats, is_failure}
use Rattle.tau_script.proofs.Determined.{one_cursor}
use Rattle.tau_script.proofs.Passing.{object}
use Rattle.tau_legal.proofs.VersionLemmas.{due_version}
use Rattle.tau_failures.specs.LegalRun.{IsLegalRun}

-- a step that has its object is one that only a script makes, so a due step is
object_failure : (T : Run) (k : ℕ) (s : Step) → HasObject T k s → IsTrue (is_failure s)
object_failure T k s (fails lt living) = refl
object_failure T k s (loses f) = refl
object_failure T k s (repeats f) = refl

pub due_failure : (S : List Entry) (T : Run) (k : ℕ) (c : Cursor) (due : Option Step) → IsDueAt S T k c due → IfSome due (λ s. IsTrue (is_failure s))
due_failure S T k c None h = tt
due_failure S T k c (Some s) h = object_failure T k s (object S T k c s h)

-- the message of a due Repeat is in flight
pub repeats_in_flight : (T : Run) (k m : ℕ) → HasObject T k (Repeat m) → InFlight T m k
repeats_in_flight T k m h = by (Repeat m) h refl where
  by : (s : Step) → HasObject T k s → s ≡ Repeat m → InFlight T m k
  by s (fails lt living) e = absurd (cc)
  by s (loses f) e = absurd (cc)
  by s (repeats {m = n} f) e =
      let same : n ≡ m = cc in
      subst (λ x. InFlight T x k) same f

-- a due step has its object
pub due_object : (P : Program) (T : Run) (s : Step) → DueStep P.script T (len T) s → HasObject T (len T) s
due_object P T s d = object P.script T (len T) d.cursor s d.due

module _ (P : Program) (T : Run) (c : Cursor) (kept : IsLegalRun P T c) where
  -- what is due is due at the cursor
  pub due_here : (due : Option Step) → IsDue P.script T (len T) due → IsDueAt P.script T (len T) c due
  due_here due d = subst (λ (x : Cursor). IsDueAt P.script T (len T) x due) (one_cursor P.script T (len T) d.cursor c d.stands kept.cursor_is) d.due

  -- the entry of a due step stands in the script
  pub due_entry : (s : Step) → DueStep P.script T (len T) s → c.entry < length P.script
  due_entry s d =
      let here = due_here (Some s) d in
      slice_get_within P.script c.entry here.entry here.ripe.stands

  -- a Repeat is due in version 2 alone
  pub due_repeats : (s : Step) (m : ℕ) → DueStep P.script T (len T) s → s ≡ Repeat m → T.opening.version ≡ 2
  due_repeats s m d e = ap (λ o. o.version) kept.legal.opening ∙ due_version P T (len T) m kept.sound (subst (DueStep P.script T (len T)) e d)
