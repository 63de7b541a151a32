-- Passing over entries, and what is due where the cursor rests.
use Rattle.std.proofs.Common.{◌≡◌, ◌⊎◌, inl, inr, ℕ, zero, suc, ◌<◌, ◌≤◌, List, Option, Some, None, refl, sym, subst, ◌∙◌, arith}
use Rattle.std.specs.Prelude.{IfSome}
use Rattle.tau_tree.specs.declared.entries.Entry.{Entry}
use Rattle.tau_tree.specs.declared.entries.Failure.{Failure}
use Rattle.tau_tree.specs.declared.entries.Failure.TheVariants as failures
use Rattle.tau_trace.specs.declared.step.Step.{Step}
use Rattle.tau_trace.specs.declared.step.Step.TheVariants as steps
use Rattle.tau_trace.specs.Run.{Run, len, appended}
use Rattle.tau_trace.specs.Numbering.{born}
use Rattle.tau_trace.specs.Known.{IsKnownAt, WellFormed}
use Rattle.tau_trace.proofs.Indexing.{born-le}
use Rattle.tau_script.specs.declared.cursor.Cursor.{Cursor}
use Rattle.tau_script.specs.Cursors.{next_entry, IsDueAs, IsRipe, IsPassedOver, PassesTo, rests, passes, IsDueAt, IsDueHere, MovedFrom, CursorAt, ComesTo, IsCurrent}
use Rattle.tau_script.specs.Scripts.{HasObject, fails, loses, repeats}

module _ (S : List Entry) (T : Run) (k : ℕ) where
  -- where passing over ends, the cursor rests
  pub at_rest : (c d : Cursor) → PassesTo S T k c d → ¬ IsPassedOver S T k d
  at_rest c d (rests n) = n
  at_rest c d (passes p q) = at_rest (next_entry c) d q

  -- a cursor that rests stays
  pub stays : (c d : Cursor) → ¬ IsPassedOver S T k c → PassesTo S T k c d → c ≡ d
  stays c d n (rests m) = refl
  stays c d n (passes p q) = absurd (n p)

  -- a cursor passes over entries to one place alone
  pub passes_once : (c d e : Cursor) → PassesTo S T k c d → PassesTo S T k c e → d ≡ e
  passes_once c d e (rests n) q = stays c e n q
  passes_once c d e (passes p q) (rests n) = absurd (n p)
  passes_once c d e (passes p q) (passes r s) = passes_once (next_entry c) d e q s

  -- at a cursor that rests, what a ripe entry is due as is due
  pub due_ripe : (c : Cursor) (e : Entry) (r : Option Step) → ¬ IsPassedOver S T k c → IsRipe S k c e → IsDueAs T k c.who e.failure r → IsDueAt S T k c r
  due_ripe c e None n ripe due = absurd (n (record { entry = e; ripe = ripe; not_due = due }))
  due_ripe c e (Some s) n ripe due = record { entry = e; ripe = ripe; due = due }

-- a due failure has its object
pub object_as : (T : Run) (k from : ℕ) (f : Failure) (s : Step) → IsDueAs T k from f (Some s) → HasObject T k s
object_as T k from (failures.Fail n) s d = subst (HasObject T k) (sym d.2) (fails d.1.1.exists d.1.1.living)
object_as T k from (failures.Lose m) s d = subst (HasObject T k) (sym d.1) (loses d.0)
object_as T k from (failures.Repeat m) s d = subst (HasObject T k) (sym d.1) (repeats d.0)

pub object : (S : List Entry) (T : Run) (k : ℕ) (c : Cursor) (s : Step) → IsDueAt S T k c (Some s) → HasObject T k s
object S T k c s d = object_as T k c.who d.entry.failure s d.due

-- so it names what exists
pub object_known : (T : Run) (k : ℕ) (s : Step) → HasObject T k s → IsKnownAt T k s
object_known T k s (fails e l) = e
object_known T k s (loses f) = f.exists
object_known T k s (repeats f) = f.exists

-- and a transactor that fails has a number after it
known_fits : (T : Run) (s : Step) (t : ℕ) → WellFormed T → IsKnownAt T (len T) s → s ≡ steps.Fail t → t < 4294967295
known_fits T s t w k e =
    let below : t < born T (len T) = subst (IsKnownAt T (len T)) e k in
    omega (arith, below, born-le T (len T), w.opening.few_names, w.few_steps)

pub object_fits : (T : Run) (s : Step) → WellFormed T → HasObject T (len T) s → (t : ℕ) → s ≡ steps.Fail t → t < 4294967295
object_fits T s w o t e = known_fits T s t w (object_known T (len T) s o) e

pub if_some : {A : Type 0} (P : A → Type 0) (r : Option A) → ((x : A) → r ≡ Some x → P x) → IfSome r P
if_some P None h = tt
if_some P (Some x) h = h x refl

-- the script's cursor rests
pub cursor_rests : (S : List Entry) (T : Run) (k : ℕ) (c : Cursor) → CursorAt S T k c → ¬ IsPassedOver S T k c
cursor_rests S T zero c p = at_rest S T 0 _ c p
cursor_rests S T (suc k) c m = at_rest S T (suc k) m.0 c m.2

-- a cursor that is current comes to the script's by passing over entries
arrived : (S : List Entry) (T : Run) (k : ℕ) (c d : Cursor) → ComesTo S T k c → PassesTo S T k c d → CursorAt S T k d
arrived S T zero c d e p = subst (λ b. PassesTo S T 0 b d) e p
arrived S T (suc k) c d m p = (c, m, p)

pub current : (S : List Entry) (T : Run) (k : ℕ) (c d : Cursor) → IsCurrent S T k c → PassesTo S T k c d → CursorAt S T k d
current S T k c d (inl a) p = subst (CursorAt S T k) (stays S T k c d (cursor_rests S T k c a) p) a
current S T k c d (inr b) p = arrived S T k c d b p
