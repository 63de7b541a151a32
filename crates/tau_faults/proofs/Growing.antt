-- A cursor isn't moved back.
use Rattle.std.proofs.Common.{◌≡◌, ℕ, zero, suc, ◌+◌, ◌≤◌, List, Option, Some, None, ap, subst, arith}
use Rattle.tau_tree.specs.declared.entries.Entry.{Entry}
use Rattle.tau_trace.specs.declared.step.Step.{Step}
use Rattle.tau_trace.specs.declared.step.Step.TheVariants as steps
use Rattle.tau_trace.specs.Run.{Run}
use Rattle.tau_script.specs.declared.cursor.Cursor.{Cursor}
use Rattle.tau_script.specs.Cursors.{next_entry, moved_past, moved_past_due, PassesTo, rests, passes, CursorAt}

passing_grows : (S : List Entry) (T : Run) (k : ℕ) (c d : Cursor) → PassesTo S T k c d → c.entry ≤ d.entry
passing_grows S T k c d (rests not) = omega arith
passing_grows S T k c d (passes p more) = omega (arith, passing_grows S T k (next_entry c) d more)

past_grows : (s : Step) (c : Cursor) → c.entry ≤ (moved_past s c).entry
past_grows (steps.Fail t) c = omega arith
past_grows (steps.Lose m) c = omega arith
past_grows (steps.Repeat m) c = omega arith
past_grows s c = omega arith

moved_grows : (s : Option Step) (c : Cursor) → c.entry ≤ (moved_past_due s c).entry
moved_grows None c = omega arith
moved_grows (Some s) c = past_grows s c

-- at an earlier place there was one that isn't behind it
pub cursor_earlier : (S : List Entry) (T : Run) (d k : ℕ) (c : Cursor) → CursorAt S T (d + k) c → (b : Cursor) × CursorAt S T k b × (b.entry ≤ c.entry)
cursor_earlier S T zero k c at =
    let same : 0 + k ≡ k = omega arith in
    (c, subst (λ (j : ℕ). CursorAt S T j c) same at, omega arith)
cursor_earlier S T (suc d) k c at =
    let up : suc d + k ≡ suc (d + k) = omega arith in
    let there : CursorAt S T (suc (d + k)) c = subst (λ (j : ℕ). CursorAt S T j c) up at in
    let m = there.1 in
    let rest = cursor_earlier S T d k m.before m.stood in
    (rest.0, rest.1, omega (arith, rest.2, passing_grows S T (suc (d + k)) there.0 c there.2, ap (λ (y : Cursor). y.entry) m.moved, moved_grows m.step m.before))
