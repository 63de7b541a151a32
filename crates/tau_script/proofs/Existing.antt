-- Each place has a cursor, and a due step or none.
use Rattle.std.proofs.Common.{◌≡◌, ◌⊎◌, inl, inr, ⊎_elim, ℕ, zero, suc, ◌+◌, ◌<◌, ◌≤◌, List, length, Option, Some, None, refl, sym, ap, subst, ◌∙◌, arith}
use Rattle.std.specs.Prelude.{slice_get}
use Rattle.std.proofs.lemmas.Option.{slice_get_within}
use Rattle.tau_tree.specs.declared.entries.Entry.{Entry}
use Rattle.tau_tree.specs.declared.entries.Failure.{Failure}
use Rattle.tau_tree.specs.declared.entries.Failure.TheVariants as failures
use Rattle.tau_trace.specs.declared.step.Step.{Step}
use Rattle.tau_trace.specs.declared.step.Step.TheVariants as steps
use Rattle.tau_trace.specs.Run.{Run}
use Rattle.tau_trace.specs.Nodes.{IsNextLiving}
use Rattle.tau_trace.proofs.Lists.{same_some}
use Rattle.tau_script.specs.declared.cursor.Cursor.{Cursor}
use Rattle.tau_script.specs.Cursors.{first_cursor, next_entry, moved_past_due, IsDueAs, IsRipe, IsPassedOver, PassesTo, rests, passes, IsDueAt, MovedFrom, CursorAt}
use Rattle.tau_script.specs.Scripts.{IsDue}
use Rattle.tau_script.specs.Laws.{IsDetermined}
use Rattle.tau_script.proofs.Passing.{due_ripe, cursor_rests}
use Rattle.tau_script.proofs.Determined.{one_cursor, one_step}
use Rattle.tau_script.proofs.Decided.{Decided, le_or_above, in_flight, next_living}

fail_as : (T : Run) (k from n : ℕ) (r : Option ℕ) → IsNextLiving T n k from r → (s : Option Step) × IsDueAs T k from (failures.Fail n) s
fail_as T k from n None h = (None, h)
fail_as T k from n (Some t) h = (Some (steps.Fail t), (t, h, refl))

due_as : (T : Run) (k from : ℕ) (f : Failure) → (s : Option Step) × IsDueAs T k from f s
due_as T k from (failures.Fail n) = let b = next_living T n k from in fail_as T k from n b.0 b.1
due_as T k from (failures.Lose m) = ⊎_elim (λ f. (Some (steps.Lose m), (f, refl))) (λ n. (None, n)) (in_flight T m k)
due_as T k from (failures.Repeat m) = ⊎_elim (λ f. (Some (steps.Repeat m), (f, refl))) (λ n. (None, n)) (in_flight T m k)

not_both : (T : Run) (k from : ℕ) (f : Failure) (s : Step) → IsDueAs T k from f None → IsDueAs T k from f (Some s) → ⊥
not_both T k from (failures.Fail n) s d e = omega (arith, d e.0 e.1.1, e.1.0)
not_both T k from (failures.Lose m) s d e = d e.0
not_both T k from (failures.Repeat m) s d e = d e.0

-- by the step as which the ripe entry at the cursor is due
passed_ripe : (S : List Entry) (T : Run) (k : ℕ) (c : Cursor) (e : Entry) (r : Option Step) → IsRipe S k c e → IsDueAs T k c.who e.failure r → Decided (IsPassedOver S T k c)
passed_ripe S T k c e None ripe d = inl (record { entry = e; ripe = ripe; not_due = d })
passed_ripe S T k c e (Some s) ripe d =
    inr (λ p.
    let same : p.entry ≡ e = same_some (sym p.ripe.stands ∙ ripe.stands) in
    not_both T k c.who e.failure s (subst (λ x. IsDueAs T k c.who x.failure None) same p.not_due) d)

-- by the entry at the cursor
passed_at : (S : List Entry) (T : Run) (k : ℕ) (c : Cursor) (o : Option Entry) → slice_get S c.entry ≡ o → Decided (IsPassedOver S T k c)
passed_at S T k c None e = inr (λ p. let f = sym e ∙ p.ripe.stands in absurd (cc))
passed_at S T k c (Some x) e =
    ⊎_elim
    (λ ripe. let b = due_as T k c.who x.failure in passed_ripe S T k c x b.0 (record { stands = e; ripe = ripe }) b.1)
    (λ later. inr (λ p.
    let same : p.entry ≡ x = same_some (sym p.ripe.stands ∙ e) in
    omega (arith, p.ripe.ripe, ap (λ y. y.at) same)))
    (le_or_above x.at k)

passed : (S : List Entry) (T : Run) (k : ℕ) (c : Cursor) → Decided (IsPassedOver S T k c)
passed S T k c = passed_at S T k c (slice_get S c.entry) refl

-- passing over ends, since the script does
passing : (S : List Entry) (T : Run) (k left : ℕ) (c : Cursor) → length S ≤ c.entry + left → (d : Cursor) × PassesTo S T k c d
passing S T k zero c h = (c, rests (λ p. omega (arith, slice_get_within S c.entry p.entry p.ripe.stands)))
passing S T k (suc left) c h =
    ⊎_elim
    (λ p. let b = passing S T k left (next_entry c) (omega arith) in (b.0, passes p b.1))
    (λ n. (c, rests n))
    (passed S T k c)

passing_all : (S : List Entry) (T : Run) (k : ℕ) (c : Cursor) → (d : Cursor) × PassesTo S T k c d
passing_all S T k c = passing S T k (length S) c (omega arith)

due_in : (S : List Entry) (T : Run) (k : ℕ) (c : Cursor) → ¬ IsPassedOver S T k c → (o : Option Entry) → slice_get S c.entry ≡ o → (s : Option Step) × IsDueAt S T k c s
due_in S T k c n None e = (None, λ x ripe. let f = sym e ∙ ripe.stands in absurd (cc))
due_in S T k c n (Some x) e =
    ⊎_elim
    (λ l. let b = due_as T k c.who x.failure in (b.0, due_ripe S T k c x b.0 n (record { stands = e; ripe = l }) b.1))
    (λ later. (
      None,
      λ y ripe.
          let same : y ≡ x = same_some (sym ripe.stands ∙ e) in
          omega (arith, ripe.ripe, ap (λ z. z.at) same),
    ))
    (le_or_above x.at k)

due_here : (S : List Entry) (T : Run) (k : ℕ) (c : Cursor) → CursorAt S T k c → (s : Option Step) × IsDueAt S T k c s
due_here S T k c a = due_in S T k c (cursor_rests S T k c a) (slice_get S c.entry) refl

a_cursor : (S : List Entry) (T : Run) (k : ℕ) → (c : Cursor) × CursorAt S T k c
a_cursor S T zero = passing_all S T 0 first_cursor
a_cursor S T (suc k) =
    let a = a_cursor S T k in
    let d = due_here S T k a.0 a.1 in
    let b = passing_all S T (suc k) (moved_past_due d.0 a.0) in
    (b.0, (moved_past_due d.0 a.0, record { before = a.0; stood = a.1; step = d.0; due = d.1; moved = refl }, b.1))

pub determined : (S : List Entry) (T : Run) (k : ℕ) → IsDetermined S T k
determined S T k =
    let a = a_cursor S T k in
    let d = due_here S T k a.0 a.1 in
    let here : IsDue S T k d.0 = record { cursor = a.0; stands = a.1; due = d.1 } in
    record {
      cursor = a.0;
      cursor_is = λ c. (λ x. one_cursor S T k c a.0 x a.1, λ e. subst (CursorAt S T k) (sym e) a.1);
      step = d.0;
      step_is = λ s. (λ x. one_step S T k s d.0 x here, λ e. subst (IsDue S T k) (sym e) here);
    }
