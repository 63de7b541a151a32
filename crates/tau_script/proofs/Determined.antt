-- At each place there is one cursor at most, and one step is due or none is.
use Rattle.std.proofs.Common.{◌≡◌, ◌⊎◌, inl, inr, ℕ, zero, suc, ◌+◌, ◌<◌, ◌≤◌, List, Option, Some, None, refl, sym, ap, subst, ◌∙◌, arith}
use Rattle.std.specs.Prelude.{IsFalse}
use Rattle.tau_tree.specs.declared.entries.Entry.{Entry}
use Rattle.tau_tree.specs.declared.entries.Failure.{Failure}
use Rattle.tau_tree.specs.declared.entries.Failure.TheVariants as failures
use Rattle.tau_trace.specs.declared.step.Step.{Step}
use Rattle.tau_trace.specs.declared.step.Step.TheVariants as steps
use Rattle.tau_trace.specs.Run.{Run, len}
use Rattle.tau_trace.proofs.Lists.{same_some}
use Rattle.tau_script.specs.declared.cursor.Cursor.{Cursor}
use Rattle.tau_script.specs.Cursors.{moved_past_due, IsDueAs, IsRipe, IsDueAt, IsDueHere, MovedFrom, CursorAt, PassesTo}
use Rattle.tau_script.specs.Scripts.{IsDue, IsComplete, Allows, is_failure}
use Rattle.tau_script.proofs.Passing.{passes_once}

due_as_once : (T : Run) (k from : ℕ) (f : Failure) (r s : Step) → IsDueAs T k from f (Some r) → IsDueAs T k from f (Some s) → r ≡ s
due_as_once T k from (failures.Fail n) r s d e =
    let same : d.0 ≡ e.0 = omega (arith, d.1.2 e.0 e.1.1 e.1.0, e.1.2 d.0 d.1.1 d.1.0) in
    d.2 ∙ ap steps.Fail same ∙ sym e.2
due_as_once T k from (failures.Lose m) r s d e = d.1 ∙ sym e.1
due_as_once T k from (failures.Repeat m) r s d e = d.1 ∙ sym e.1

same_entry : (S : List Entry) (k : ℕ) (c : Cursor) (e f : Entry) → IsRipe S k c e → IsRipe S k c f → e ≡ f
same_entry S k c e f r s = same_some (sym r.stands ∙ s.stands)

due_once : (S : List Entry) (T : Run) (k : ℕ) (c : Cursor) (r s : Option Step) → IsDueAt S T k c r → IsDueAt S T k c s → r ≡ s
due_once S T k c None None d e = refl
due_once S T k c None (Some s) d e = absurd (d e.entry e.ripe)
due_once S T k c (Some r) None d e = absurd (e d.entry d.ripe)
due_once S T k c (Some r) (Some s) d e =
    let same = same_entry S k c d.entry e.entry d.ripe e.ripe in
    let here : IsDueAs T k c.who e.entry.failure (Some r) = subst (λ x. IsDueAs T k c.who x.failure (Some r)) same d.due in
    ap Some (due_as_once T k c.who e.entry.failure r s here e.due)

due_same_cursor : (S : List Entry) (T : Run) (k : ℕ) (c d : Cursor) (r s : Option Step) → c ≡ d → IsDueAt S T k c r → IsDueAt S T k d s → r ≡ s
due_same_cursor S T k c d r s e x y = due_once S T k d r s (subst (λ b. IsDueAt S T k b r) e x) y

pub one_cursor : (S : List Entry) (T : Run) (k : ℕ) (c d : Cursor) → CursorAt S T k c → CursorAt S T k d → c ≡ d
one_cursor S T zero c d p q = passes_once S T 0 _ c d p q
one_cursor S T (suc k) c d m n =
    let before : m.1.before ≡ n.1.before = one_cursor S T k m.1.before n.1.before m.1.stood n.1.stood in
    let step : m.1.step ≡ n.1.step = due_same_cursor S T k m.1.before n.1.before m.1.step n.1.step before m.1.due n.1.due in
    let moved : m.0 ≡ n.0 = m.1.moved ∙ (λ i. moved_past_due (step i) (before i)) ∙ sym n.1.moved in
    passes_once S T (suc k) n.0 c d (subst (λ b. PassesTo S T (suc k) b c) moved m.2) n.2

pub one_step : (S : List Entry) (T : Run) (k : ℕ) (r s : Option Step) → IsDue S T k r → IsDue S T k s → r ≡ s
one_step S T k r s x y =
    due_same_cursor S T k x.cursor y.cursor r s (one_cursor S T k x.cursor y.cursor x.stands y.stands) x.due y.due

pub no_failure : (S : List Entry) (T : Run) (s : Step) → IsComplete S T → Allows S T (len T) s → IsFalse (is_failure s)
no_failure S T s c (inl d) = let e : None ≡ Some s = one_step S T (len T) None (Some s) c.none_due d in absurd (cc)
no_failure S T s c (inr n) = n.1
