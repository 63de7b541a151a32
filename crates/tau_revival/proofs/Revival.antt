-- The revived script makes the same due at each place before the end of the run.
use Rattle.std.proofs.Common.{◌≡◌, inl, inr, ◌↔◌, ℕ, zero, suc, ◌+◌, ◌-◌, ◌<◌, ◌≤◌, List, [], ◌∷◌, ◌++◌, length, take, drop, Option, Some, None, All, refl, sym, ◌∙◌, ap, subst, arith, length-append, length-take, take-append-drop}
use Rattle.std.specs.Prelude.{slice_get}
use Rattle.std.proofs.lemmas.Bool.{cases_lt}
use Rattle.std.proofs.lemmas.Bool.Decides.{nat_tests}
use Rattle.std.proofs.lemmas.List.{drop_all, append-nil}
use Rattle.std.proofs.lemmas.List.Elements.{All-append, All-cons, All-nil}
use Rattle.std.proofs.lemmas.Option.{slice_get_within, get_or_from_slice_get}
use Rattle.tau_tree.specs.declared.entries.Entry.{Entry}
use Rattle.tau_tree.specs.declared.entries.Failure.TheVariants as failures
use Rattle.tau_trace.specs.declared.step.Step.{Step}
use Rattle.tau_trace.specs.declared.step.Step.TheVariants as steps
use Rattle.tau_trace.specs.Run.{Run, len}
use Rattle.tau_script.specs.declared.cursor.Cursor.{Cursor}
use Rattle.tau_script.specs.Cursors.{first_cursor, next_entry, moved_past, moved_past_due, IsRipe, IsPassedOver, PassesTo, rests, passes, IsDueAt, CursorAt}
use Rattle.tau_script.specs.Scripts.{IsDue}
use Rattle.tau_script.specs.Laws.{IsDetermined}
use Rattle.tau_revival.specs.Revival.{place_by, block_place, failing_nodes, revived}

get_left : (xs ys : List Entry) (i : ℕ) → i < length xs → slice_get (xs ++ ys) i ≡ slice_get xs i
get_left [] ys i lt = absurd (omega arith)
get_left (x ∷ xs) ys zero lt = refl
get_left (x ∷ xs) ys (suc i) lt = get_left xs ys i (omega arith)

get_right : (xs ys : List Entry) (j i : ℕ) → j ≡ length xs + i → slice_get (xs ++ ys) j ≡ slice_get ys i
get_right [] ys j i e = ap (slice_get ys) (omega arith)
get_right (x ∷ xs) ys zero i e = absurd (omega arith)
get_right (x ∷ xs) ys (suc j) i e = get_right xs ys j i (omega arith)

some_inj : (a b : Entry) → Some a ≡ Some b → a ≡ b
some_inj a b e = cc

-- a cursor isn't moved back
passing_grows : (V : List Entry) (U : Run) (k : ℕ) (c d : Cursor) → PassesTo V U k c d → c.entry ≤ d.entry
passing_grows V U k c d (rests not) = omega arith
passing_grows V U k c d (passes p more) = omega (arith, passing_grows V U k (next_entry c) d more)

past_grows : (s : Step) (c : Cursor) → c.entry ≤ (moved_past s c).entry
past_grows (steps.Fail t) c = omega arith
past_grows (steps.Lose m) c = omega arith
past_grows (steps.Repeat m) c = omega arith
past_grows s c = omega arith

moved_grows : (s : Option Step) (c : Cursor) → c.entry ≤ (moved_past_due s c).entry
moved_grows None c = omega arith
moved_grows (Some s) c = past_grows s c

-- nor past the end
passing_stays : (V : List Entry) (U : Run) (k : ℕ) (c d : Cursor) → c.entry ≤ length V → PassesTo V U k c d → d.entry ≤ length V
passing_stays V U k c d le (rests not) = le
passing_stays V U k c d le (passes p more) = passing_stays V U k (next_entry c) d (omega (arith, slice_get_within V c.entry p.entry p.ripe.stands)) more

past_next : (s : Step) (c : Cursor) → (moved_past s c).entry ≤ c.entry + 1
past_next (steps.Fail t) c = omega arith
past_next (steps.Lose m) c = omega arith
past_next (steps.Repeat m) c = omega arith
past_next s c = omega arith

moved_stays : (V : List Entry) (U : Run) (k : ℕ) (s : Option Step) (c : Cursor) → c.entry ≤ length V → IsDueAt V U k c s → (moved_past_due s c).entry ≤ length V
moved_stays V U k None c le due = le
moved_stays V U k (Some s) c le due = omega (arith, past_next s c, slice_get_within V c.entry due.entry due.ripe.stands)

pub cursor_within : (V : List Entry) (U : Run) (k : ℕ) (c : Cursor) → CursorAt V U k c → c.entry ≤ length V
cursor_within V U zero c at = passing_stays V U 0 first_cursor c (omega arith) at
cursor_within V U (suc k) c at =
    let m = at.1 in
    let before : m.before.entry ≤ length V = cursor_within V U k m.before m.stood in
    let moved : (at.0).entry ≤ length V = subst (λ (y : Cursor). y.entry ≤ length V) (sym m.moved) (moved_stays V U k m.step m.before before m.due) in
    passing_stays V U (suc k) at.0 c moved at.2

-- where the block goes
pub data PlaceOf (S : List Entry) (n e x : ℕ) : Type 0 where
  at_end : length S ≤ e → x ≡ length S → PlaceOf S n e x
  behind : (en : Entry) → slice_get S e ≡ Some en → en.at ≤ n → x ≡ e + 1 → PlaceOf S n e x
  before : (en : Entry) → slice_get S e ≡ Some en → n < en.at → x ≡ e → PlaceOf S n e x

past_end : (S : List Entry) (e : ℕ) → slice_get S e ≡ None → length S ≤ e
past_end [] e none = omega arith
past_end (x ∷ S) zero none = absurd (cc)
past_end (x ∷ S) (suc e) none = omega (arith, past_end S e none)

place_of : (S : List Entry) (n e : ℕ) (o : Option Entry) → slice_get S e ≡ o → PlaceOf S n e (place_by o (length S) n e)
place_of S n e None is = at_end (past_end S e is) refl
place_of S n e (Some en) is = elim (cases_lt n en.at) [
  | inl later ↦ before en is later (grind (arith, nat_tests))
  | inr ripe ↦ behind en is ripe (grind (arith, nat_tests))
]

within : (S : List Entry) (n e x : ℕ) → PlaceOf S n e x → x ≤ length S
within S n e x (at_end long is) = omega arith
within S n e x (behind en stands ripe is) = omega (arith, slice_get_within S e en stands)
within S n e x (before en stands later is) = omega (arith, slice_get_within S e en stands)

module _ (S block : List Entry) (n e x : ℕ) (place : PlaceOf S n e x) (some : 0 < length block) (all : All (λ en. en.at ≡ n) block) where
  abbrev R : List Entry
  R = take x S ++ (block ++ drop x S)

  front_long : length (take x S) ≡ x
  front_long = omega (arith, length-take x S, within S n e x place)

  -- before the block
  get_same : (i : ℕ) → i < x → slice_get R i ≡ slice_get S i
  get_same i lt =
      get_left (take x S) (block ++ drop x S) i (omega (arith, front_long))
      ∙ sym (get_left (take x S) (drop x S) i (omega (arith, front_long)))
      ∙ ap (λ (l : List Entry). slice_get l i) (take-append-drop x S)

  in_block : (j k : ℕ) (en : Entry) → slice_get block j ≡ Some en → en.at ≤ k → k < n → ⊥
  in_block j k en stands ripe lt = omega (arith, ap (λ (y : Entry). y.at) (get_or_from_slice_get block j en en stands), all j en (slice_get_within block j en stands))

  -- a cursor that isn't behind the place of the cursor after n steps finds the same ripe entries
  in_revived : (i k : ℕ) (en : Entry) → i ≤ e → k < n → slice_get S i ≡ Some en → en.at ≤ k → slice_get R i ≡ Some en
  in_revived i k en le lt stands ripe = elim (cases_lt i x) [
    | inl front ↦ get_same i front ∙ stands
    | inr back ↦ absurd (none place back)
  ]
    where
      none : PlaceOf S n e x → x ≤ i → ⊥
      none (at_end long is) back = omega (arith, slice_get_within S i en stands)
      none (behind other at_e due is) back = omega arith
      none (before other at_e later is) back =
          let i_is : i ≡ e = omega arith in
          let same : other ≡ en = some_inj other en (sym at_e ∙ ap (slice_get S) (sym i_is) ∙ stands) in
          omega (arith, ap (λ (y : Entry). y.at) same)

  in_old : (i k : ℕ) (en : Entry) → i ≤ e → k < n → slice_get R i ≡ Some en → en.at ≤ k → slice_get S i ≡ Some en
  in_old i k en le lt stands ripe = elim (cases_lt i x) [
    | inl front ↦ sym (get_same i front) ∙ stands
    | inr back ↦ absurd (none place back)
  ]
    where
      here : x ≤ i → slice_get (block ++ drop x S) (i - x) ≡ Some en
      here back = sym (get_right (take x S) (block ++ drop x S) i (i - x) (omega (arith, front_long))) ∙ stands

      none : PlaceOf S n e x → x ≤ i → ⊥
      none (behind other at_e due is) back = omega arith
      none (before other at_e later is) back = in_block (i - x) k en (sym (get_left block (drop x S) (i - x) (omega arith)) ∙ here back) ripe lt
      none (at_end long is) back =
          let nothing : drop x S ≡ [] = drop_all x S (omega arith) in
          in_block (i - x) k en (sym (ap (λ (l : List Entry). slice_get l (i - x)) (ap (λ (l : List Entry). block ++ l) nothing ∙ append-nil block)) ∙ here back) ripe lt

  ripe_to : (c : Cursor) (k : ℕ) (en : Entry) → c.entry ≤ e → k < n → IsRipe S k c en → IsRipe R k c en
  ripe_to c k en le lt r = record { stands = in_revived c.entry k en le lt r.stands r.ripe; ripe = r.ripe }

  ripe_from : (c : Cursor) (k : ℕ) (en : Entry) → c.entry ≤ e → k < n → IsRipe R k c en → IsRipe S k c en
  ripe_from c k en le lt r = record { stands = in_old c.entry k en le lt r.stands r.ripe; ripe = r.ripe }

  module _ (U : Run) where
    passed_to : (c : Cursor) (k : ℕ) → c.entry ≤ e → k < n → IsPassedOver S U k c → IsPassedOver R U k c
    passed_to c k le lt p = record { entry = p.entry; ripe = ripe_to c k p.entry le lt p.ripe; not_due = p.not_due }

    passed_from : (c : Cursor) (k : ℕ) → c.entry ≤ e → k < n → IsPassedOver R U k c → IsPassedOver S U k c
    passed_from c k le lt p = record { entry = p.entry; ripe = ripe_from c k p.entry le lt p.ripe; not_due = p.not_due }

    due_to : (c : Cursor) (k : ℕ) (s : Option Step) → c.entry ≤ e → k < n → IsDueAt S U k c s → IsDueAt R U k c s
    due_to c k None le lt due = λ en r. due en (ripe_from c k en le lt r)
    due_to c k (Some s) le lt due = record { entry = due.entry; ripe = ripe_to c k due.entry le lt due.ripe; due = due.due }

    due_from : (c : Cursor) (k : ℕ) (s : Option Step) → c.entry ≤ e → k < n → IsDueAt R U k c s → IsDueAt S U k c s
    due_from c k None le lt due = λ en r. due en (ripe_to c k en le lt r)
    due_from c k (Some s) le lt due = record { entry = due.entry; ripe = ripe_from c k due.entry le lt due.ripe; due = due.due }

    passes_to : (k : ℕ) (c d : Cursor) → d.entry ≤ e → k < n → PassesTo S U k c d → PassesTo R U k c d
    passes_to k c d le lt (rests not) = rests (λ p. not (passed_from c k le lt p))
    passes_to k c d le lt (passes p more) = passes (passed_to c k (omega (arith, le, passing_grows S U k (next_entry c) d more)) lt p) (passes_to k (next_entry c) d le lt more)

    -- a cursor at place k comes from cursors that aren't behind it
    cursor_to : (k : ℕ) (c : Cursor) → c.entry ≤ e → k < n → CursorAt S U k c → CursorAt R U k c
    cursor_to zero c le lt at = passes_to 0 first_cursor c le lt at
    cursor_to (suc k) c le lt at =
        let m = at.1 in
        let le_b : (at.0).entry ≤ e = omega (arith, le, passing_grows S U (suc k) at.0 c at.2) in
        let le_m : m.before.entry ≤ e = omega (arith, le_b, ap (λ (y : Cursor). y.entry) m.moved, moved_grows m.step m.before) in
        let back : k < n = omega arith in
        (at.0, record { before = m.before; stood = cursor_to k m.before le_m back m.stood; step = m.step; due = due_to m.before k m.step le_m back m.due; moved = m.moved }, passes_to (suc k) at.0 c le lt at.2)

    -- and before place k there was one
    cursor_before : (k : ℕ) (c : Cursor) → CursorAt S U (suc k) c → (d : Cursor) × CursorAt S U k d × (d.entry ≤ c.entry)
    cursor_before k c at =
        let m = at.1 in
        (m.before, m.stood, omega (arith, passing_grows S U (suc k) at.0 c at.2, ap (λ (y : Cursor). y.entry) m.moved, moved_grows m.step m.before))

    cursor_earlier : (d k : ℕ) (c : Cursor) → CursorAt S U (d + k) c → (b : Cursor) × CursorAt S U k b × (b.entry ≤ c.entry)
    cursor_earlier zero k c at =
        let same : 0 + k ≡ k = omega arith in
        (c, subst (λ (j : ℕ). CursorAt S U j c) same at, omega arith)
    cursor_earlier (suc d) k c at =
        let up : suc d + k ≡ suc (d + k) = omega arith in
        let prior = cursor_before (d + k) c (subst (λ (j : ℕ). CursorAt S U j c) up at) in
        let rest = cursor_earlier d k prior.0 prior.1 in
        (rest.0, rest.1, omega (arith, rest.2, prior.2))

    same_cursor : (V : List Entry) (k : ℕ) (b d : Cursor) → IsDetermined V U k → CursorAt V U k b → CursorAt V U k d → b ≡ d
    same_cursor V k b d is first second = (is.cursor_is b).0 first ∙ sym ((is.cursor_is d).0 second)

    module _ (one : (k : ℕ) → IsDetermined S U k) (other : (k : ℕ) → IsDetermined R U k) (c : Cursor) (at : CursorAt S U n c) (c_is : c.entry ≡ e) where
      not_behind : (k : ℕ) (b : Cursor) → k < n → CursorAt S U k b → b.entry ≤ e
      not_behind k b lt stands =
          let up : n ≡ n - k + k = omega arith in
          let early = cursor_earlier (n - k) k c (subst (λ (j : ℕ). CursorAt S U j c) up at) in
          omega (arith, ap (λ (y : Cursor). y.entry) (same_cursor S k b early.0 (one k) stands early.1), early.2)

      due_in_revived : (k : ℕ) (s : Option Step) → k < n → IsDue S U k s → IsDue R U k s
      due_in_revived k s lt due =
          let le = not_behind k due.cursor lt due.stands in
          record { cursor = due.cursor; stands = cursor_to k due.cursor le lt due.stands; due = due_to due.cursor k s le lt due.due }

      due_in_old : (k : ℕ) (s : Option Step) → k < n → IsDue R U k s → IsDue S U k s
      due_in_old k s lt due =
          let mine = (one k).cursor in
          let stands : CursorAt S U k mine = ((one k).cursor_is mine).1 refl in
          let le = not_behind k mine lt stands in
          let same = same_cursor R k due.cursor mine (other k) due.stands (cursor_to k mine le lt stands) in
          record { cursor = mine; stands = stands; due = due_from mine k s le lt (subst (λ (y : Cursor). IsDueAt R U k y s) same due.due) }

      pub keeps : (k : ℕ) (s : Option Step) → k < n → IsDue S U k s ↔ IsDue R U k s
      keeps k s lt = (due_in_revived k s lt, due_in_old k s lt)

    -- where the cursor goes on from the end of the run: what it has passed over stands before the block
    passed_early : (c : Cursor) (k : ℕ) → c.entry < x → IsPassedOver S U k c → IsPassedOver R U k c
    passed_early c k lt p = record { entry = p.entry; ripe = record { stands = get_same c.entry lt ∙ p.ripe.stands; ripe = p.ripe.ripe }; not_due = p.not_due }

    passes_then : (k : ℕ) (b c d : Cursor) → c.entry ≤ x → PassesTo S U k b c → PassesTo R U k c d → PassesTo R U k b d
    passes_then k b c d le (rests not) more = more
    passes_then k b c d le (passes p rest) more =
        passes (passed_early b k (omega (arith, le, passing_grows S U k (next_entry b) c rest)) p) (passes_then k (next_entry b) c d le rest more)

    pub goes_on : (c d : Cursor) → c.entry ≤ e → c.entry ≤ x → CursorAt S U n c → PassesTo R U n c d → CursorAt R U n d
    goes_on c d le_e le at more = going n refl at
      where
        going : (m : ℕ) → m ≡ n → CursorAt S U m c → CursorAt R U m d
        going zero is at = passes_then 0 first_cursor c d le at (subst (λ (j : ℕ). PassesTo R U j c d) (sym is) more)
        going (suc m) is at =
            let w = at.1 in
            let le_b : (at.0).entry ≤ e = omega (arith, le_e, passing_grows S U (suc m) at.0 c at.2) in
            let le_m : w.before.entry ≤ e = omega (arith, le_b, ap (λ (y : Cursor). y.entry) w.moved, moved_grows w.step w.before) in
            let lt : m < n = omega (arith, is) in
            (at.0, record { before = w.before; stood = cursor_to m w.before le_m lt w.stood; step = w.step; due = due_to w.before m w.step le_m lt w.due; moved = w.moved }, passes_then (suc m) at.0 c d le at.2 (subst (λ (j : ℕ). PassesTo R U j c d) (sym is) more))

-- the block
pub failing_at : (n nodes : ℕ) → All (λ en. en.at ≡ n) (failing_nodes n nodes)
failing_at n zero = All-nil (λ en. en.at ≡ n)
failing_at n (suc m) = All-append (λ en. en.at ≡ n) (failing_nodes n m) (record { at = n; failure = failures.Fail m } ∷ []) (failing_at n m) (All-cons (λ en. en.at ≡ n) (record { at = n; failure = failures.Fail m }) [] refl (All-nil (λ en. en.at ≡ n)))

pub length-failing_nodes : (n nodes : ℕ) → length (failing_nodes n nodes) ≡ nodes
length-failing_nodes n zero = refl
length-failing_nodes n (suc m) = omega (arith, length-append (failing_nodes n m) (record { at = n; failure = failures.Fail m } ∷ []), length-failing_nodes n m)

-- the place isn't before the cursor
not_before : (S : List Entry) (n e x : ℕ) → PlaceOf S n e x → e ≤ length S → e ≤ x
not_before S n e x (at_end long is) le = omega (arith, le, is)
not_before S n e x (behind en stands ripe is) le = omega (arith, is)
not_before S n e x (before en stands later is) le = omega (arith, is)

module _ (S : List Entry) (T : Run) (nodes : ℕ) (c : Cursor) (some : 0 < nodes) (at : CursorAt S T (len T) c) where
  place : PlaceOf S (len T) c.entry (block_place S (len T) c.entry)
  place = place_of S (len T) c.entry (slice_get S c.entry) refl

  filled : 0 < length (failing_nodes (len T) nodes)
  filled = omega (arith, length-failing_nodes (len T) nodes, some)

  pub keeps_due : ((k : ℕ) → IsDetermined S T k) → ((k : ℕ) → IsDetermined (revived S nodes (len T) c.entry) T k) → (k : ℕ) (s : Option Step) → k < len T → IsDue S T k s ↔ IsDue (revived S nodes (len T) c.entry) T k s
  keeps_due one other = keeps S (failing_nodes (len T) nodes) (len T) c.entry (block_place S (len T) c.entry) place filled (failing_at (len T) nodes) T one other c at refl

  pub goes_on_there : (d : Cursor) → PassesTo (revived S nodes (len T) c.entry) T (len T) c d → CursorAt (revived S nodes (len T) c.entry) T (len T) d
  goes_on_there d more =
      goes_on S (failing_nodes (len T) nodes) (len T) c.entry (block_place S (len T) c.entry) place filled (failing_at (len T) nodes) T c d (omega arith)
      (not_before S (len T) c.entry (block_place S (len T) c.entry) place (cursor_within S T (len T) c at)) at more
