-- Cursors and due steps read the opening and the steps before their place alone.
use Rattle.std.proofs.Common.{◌≡◌, ◌⊎◌, ◌↔◌, ℕ, zero, suc, ◌+◌, ◌<◌, ◌≤◌, List, Option, Some, None, refl, sym, subst, ◌∙◌, arith}
use Rattle.tau_tree.specs.declared.entries.Entry.{Entry}
use Rattle.tau_tree.specs.declared.entries.Failure.{Failure}
use Rattle.tau_tree.specs.declared.entries.Failure.TheVariants as failures
use Rattle.tau_trace.specs.declared.step.Step.{Step}
use Rattle.tau_trace.specs.Run.{Run, Agree, len, appended}
use Rattle.tau_trace.specs.Nodes.{LivesAt, IsNextLiving}
use Rattle.tau_trace.proofs.Agreement.{agree_sym, agree_below, agree_appended, same_at}
use Rattle.tau_script.specs.declared.cursor.Cursor.{Cursor}
use Rattle.tau_script.specs.Cursors.{next_entry, moved_past_due, IsDueAs, IsRipe, IsPassedOver, PassesTo, rests, passes, IsDueAt, IsDueHere, MovedFrom, CursorAt, ComesTo}
use Rattle.tau_script.specs.Scripts.{IsDue}
use Rattle.tau_script.specs.Laws.{IsSameScript}

lives-same : (T U : Run) (n t k : ℕ) → Agree T U k → LivesAt T n t k → LivesAt U n t k
lives-same T U n t k a l =
    let same = same_at T U k a in
    record {
      exists = omega (arith, l.exists, same.born_is);
      home = (same.home t n l.exists).0 l.home;
      living = λ j b e.
          let ended = (same.ended t).1 (record { place = j; before = b; ends = e }) in
          l.living ended.place ended.before ended.ends;
    }

next-same : (T U : Run) (n k from : ℕ) (r : Option ℕ) → Agree T U k → IsNextLiving T n k from r → IsNextLiving U n k from r
next-same T U n k from None a h = λ t l. h t (lives-same U T n t k (agree_sym a) l)
next-same T U n k from (Some r) a h =
    (h.0, lives-same T U n r k a h.1, λ t l f. h.2 t (lives-same U T n t k (agree_sym a) l) f)

due_as-same : (T U : Run) (k from : ℕ) (f : Failure) (r : Option Step) → Agree T U k → IsDueAs T k from f r → IsDueAs U k from f r
due_as-same T U k from (failures.Fail n) None a d = next-same T U n k from None a d
due_as-same T U k from (failures.Fail n) (Some s) a d = (d.0, next-same T U n k from (Some d.0) a d.1, d.2)
due_as-same T U k from (failures.Lose m) None a d = λ f. d (((same_at T U k a).in_flight m).1 f)
due_as-same T U k from (failures.Lose m) (Some s) a d = (((same_at T U k a).in_flight m).0 d.0, d.1)
due_as-same T U k from (failures.Repeat m) None a d = λ f. d (((same_at T U k a).in_flight m).1 f)
due_as-same T U k from (failures.Repeat m) (Some s) a d = (((same_at T U k a).in_flight m).0 d.0, d.1)

passed-same : (S : List Entry) (T U : Run) (k : ℕ) (c : Cursor) → Agree T U k → IsPassedOver S T k c → IsPassedOver S U k c
passed-same S T U k c a p =
    record { entry = p.entry; ripe = p.ripe; not_due = due_as-same T U k c.who p.entry.failure None a p.not_due }

passes-same : (S : List Entry) (T U : Run) (k : ℕ) (c d : Cursor) → Agree T U k → PassesTo S T k c d → PassesTo S U k c d
passes-same S T U k c d a (rests n) = rests (λ p. n (passed-same S U T k c (agree_sym a) p))
passes-same S T U k c d a (passes p q) = passes (passed-same S T U k c a p) (passes-same S T U k (next_entry c) d a q)

due-same : (S : List Entry) (T U : Run) (k : ℕ) (c : Cursor) (r : Option Step) → Agree T U k → IsDueAt S T k c r → IsDueAt S U k c r
due-same S T U k c None a d = d
due-same S T U k c (Some s) a d =
    record { entry = d.entry; ripe = d.ripe; due = due_as-same T U k c.who d.entry.failure (Some s) a d.due }

pub cursor-same : (S : List Entry) (T U : Run) (k : ℕ) (c : Cursor) → Agree T U k → CursorAt S T k c → CursorAt S U k c
cursor-same S T U zero c a p = passes-same S T U 0 _ c a p
cursor-same S T U (suc k) c a m =
    let b : Agree T U k = agree_below k (omega arith) a in (
      m.0,
      record {
        before = m.1.before;
        stood = cursor-same S T U k m.1.before b m.1.stood;
        step = m.1.step;
        due = due-same S T U k m.1.before m.1.step b m.1.due;
        moved = m.1.moved;
      },
      passes-same S T U (suc k) m.0 c a m.2,
    )

comes-same : (S : List Entry) (T U : Run) (k : ℕ) (c : Cursor) → Agree T U k → ComesTo S T k c → ComesTo S U k c
comes-same S T U zero c a e = e
comes-same S T U (suc k) c a m =
    let b : Agree T U k = agree_below k (omega arith) a in
    record {
      before = m.before;
      stood = cursor-same S T U k m.before b m.stood;
      step = m.step;
      due = due-same S T U k m.before m.step b m.due;
      moved = m.moved;
    }

is_due-same : (S : List Entry) (T U : Run) (k : ℕ) (r : Option Step) → Agree T U k → IsDue S T k r → IsDue S U k r
is_due-same S T U k r a d =
    record { cursor = d.cursor; stands = cursor-same S T U k d.cursor a d.stands; due = due-same S T U k d.cursor r a d.due }

pub same_script : (S : List Entry) (T U : Run) (k : ℕ) → Agree T U k → IsSameScript S T U k
same_script S T U k a =
    let b = agree_sym a in
    record {
      cursor = λ c. (cursor-same S T U k c a, cursor-same S U T k c b);
      comes = λ c. (comes-same S T U k c a, comes-same S U T k c b);
      step = λ r. (is_due-same S T U k r a, is_due-same S U T k r b);
    }

pub goes_on : (S : List Entry) (T : Run) (c : Cursor) (due : Option Step) (s : Step) → CursorAt S T (len T) c → IsDueAt S T (len T) c due → ComesTo S (appended T s) (suc (len T)) (moved_past_due due c)
goes_on S T c due s a d =
    let b = agree_appended T s in
    record {
      before = c;
      stood = cursor-same S T (appended T s) (len T) c b a;
      step = due;
      due = due-same S T (appended T s) (len T) c due b d;
      moved = refl;
    }
