-- The parts of forms, by the number of forms before the marks.
use Rattle.std.proofs.Common.{◌≡◌, ⊎_elim, ℕ, zero, suc, ◌+◌, ◌-◌, ◌<◌, ◌≤◌, true, false, if◌then◌else◌, List, [], ◌∷◌, ◌++◌, length, take, drop, length-drop, ◌||◌, Some, refl, sym, ap, ◌∙◌, arith, codes}
use Rattle.std.specs.Prelude.{slice_get, slice_range, All}
use Rattle.std.proofs.lemmas.Bool.{cases_Bool}
use Rattle.std.proofs.lemmas.List.{take_all}
use Rattle.std.proofs.lemmas.List.Elements.{All-head, All-tail}
use Rattle.tau_trace.proofs.Lists.{same_some}
use Rattle.tau_trace.proofs.Sequences.{cases_last}
use Rattle.tau_sexpr.specs.Tree.{Tree, depths}
use Rattle.tau_text.specs.Parts.{is_mark, is_marked, before, behind, program_forms, step_forms}

pub before_mark : (w : List ℕ) (t : Tree) (ts : List Tree) → is_mark w t ≡ true → before w (t ∷ ts) ≡ []
before_mark w t ts e = ap (λ b. if b then [] else t ∷ before w ts) e

pub before_other : (w : List ℕ) (t : Tree) (ts : List Tree) → is_mark w t ≡ false → before w (t ∷ ts) ≡ t ∷ before w ts
before_other w t ts e = ap (λ b. if b then [] else t ∷ before w ts) e

pub behind_mark : (w : List ℕ) (t : Tree) (ts : List Tree) → is_mark w t ≡ true → behind w (t ∷ ts) ≡ ts
behind_mark w t ts e = ap (λ b. if b then ts else behind w ts) e

pub behind_other : (w : List ℕ) (t : Tree) (ts : List Tree) → is_mark w t ≡ false → behind w (t ∷ ts) ≡ behind w ts
behind_other w t ts e = ap (λ b. if b then ts else behind w ts) e

pub any_mark : (w : List ℕ) (t : Tree) (ts : List Tree) → is_mark w t ≡ true → is_marked w (t ∷ ts) ≡ true
any_mark w t ts e = ap (λ b. b || is_marked w ts) e

pub any_other : (w : List ℕ) (t : Tree) (ts : List Tree) → is_mark w t ≡ false → is_marked w (t ∷ ts) ≡ is_marked w ts
any_other w t ts e = ap (λ b. b || is_marked w ts) e

-- the first mark stands behind forms that are none
pub first_mark : (w : List ℕ) (ts : List Tree) (i : ℕ) (t : Tree) → ((k : ℕ) (u : Tree) → k < i → slice_get ts k ≡ Some u → is_mark w u ≡ false) → slice_get ts i ≡ Some t → is_mark w t ≡ true
    → length (before w ts) ≡ i
first_mark w [] i t none at is = absurd (cc)
first_mark w (x ∷ xs) zero t none at is =
    let same : x ≡ t = cc in
    ap length (before_mark w x xs (ap (is_mark w) same ∙ is))
first_mark w (x ∷ xs) (suc i) t none at is =
    let rest = first_mark w xs i t (λ k u l e. none (suc k) u (omega arith) e) at is in
    ap length (before_other w x xs (none 0 x (omega arith) refl)) ∙ ap suc rest

-- forms that are no marks all stand before one
pub no_mark : (w : List ℕ) (ts : List Tree) → ((k : ℕ) (u : Tree) → k < length ts → slice_get ts k ≡ Some u → is_mark w u ≡ false) → length (before w ts) ≡ length ts
no_mark w [] none = refl
no_mark w (x ∷ xs) none =
    let rest = no_mark w xs (λ k u l e. none (suc k) u (omega arith) e) in
    ap length (before_other w x xs (none 0 x (omega arith) refl)) ∙ ap suc rest

-- one more form that is no mark
pub one_more : (w : List ℕ) (ts : List Tree) (i : ℕ) (f : Tree) → ((k : ℕ) (u : Tree) → k < i → slice_get ts k ≡ Some u → is_mark w u ≡ false) → slice_get ts i ≡ Some f → is_mark w f ≡ false
    → (k : ℕ) (u : Tree) → k < i + 1 → slice_get ts k ≡ Some u → is_mark w u ≡ false
one_more w ts i f none at is k u l stands = ⊎_elim
    (λ (e : k ≡ i). ap (is_mark w) (same_some (sym stands ∙ ap (slice_get ts) e ∙ at)) ∙ is)
    (λ (b : k < i). none k u b stands)
    (cases_last k i (omega arith))

-- no more forms stand before a mark than there are
pub before_le : (w : List ℕ) (ts : List Tree) → length (before w ts) ≤ length ts
before_le w [] = omega arith
before_le w (t ∷ ts) = ⊎_elim
    (λ e. omega (arith, ap length (before_mark w t ts e)))
    (λ e. omega (arith, ap length (before_other w t ts e), before_le w ts))
    (cases_Bool (is_mark w t))

-- the forms before a mark are so many from the front on
pub before_taken : (w : List ℕ) (ts : List Tree) → take (length (before w ts)) ts ≡ before w ts
before_taken w [] = refl
before_taken w (t ∷ ts) = ⊎_elim
    (λ e. ap (λ b. take (length b) (t ∷ ts)) (before_mark w t ts e) ∙ sym (before_mark w t ts e))
    (λ e. ap (λ b. take (length b) (t ∷ ts)) (before_other w t ts e) ∙ ap (λ b. t ∷ b) (before_taken w ts) ∙ sym (before_other w t ts e))
    (cases_Bool (is_mark w t))

-- those behind it are the rest
pub behind_dropped : (w : List ℕ) (ts : List Tree) → drop (suc (length (before w ts))) ts ≡ behind w ts
behind_dropped w [] = refl
behind_dropped w (t ∷ ts) = ⊎_elim
    (λ e. ap (λ b. drop (suc (length b)) (t ∷ ts)) (before_mark w t ts e) ∙ sym (behind_mark w t ts e))
    (λ e. ap (λ b. drop (suc (length b)) (t ∷ ts)) (before_other w t ts e) ∙ behind_dropped w ts ∙ sym (behind_other w t ts e))
    (cases_Bool (is_mark w t))

-- there is a mark where not all forms stand before one
pub marked_below : (w : List ℕ) (ts : List Tree) → length (before w ts) < length ts → is_marked w ts ≡ true
marked_below w [] l = absurd (omega arith)
marked_below w (t ∷ ts) l = ⊎_elim
    (λ e. any_mark w t ts e)
    (λ e. any_other w t ts e ∙ marked_below w ts (omega (arith, ap length (before_other w t ts e))))
    (cases_Bool (is_mark w t))

-- and none where all do
pub unmarked_all : (w : List ℕ) (ts : List Tree) → length (before w ts) ≡ length ts → is_marked w ts ≡ false
unmarked_all w [] l = refl
unmarked_all w (t ∷ ts) l = ⊎_elim
    (λ e. absurd (omega (arith, ap length (before_mark w t ts e))))
    (λ e. any_other w t ts e ∙ unmarked_all w ts (omega (arith, ap length (before_other w t ts e))))
    (cases_Bool (is_mark w t))

-- where all stand before one, they are all, and none is behind
pub all_before : (w : List ℕ) (ts : List Tree) → length (before w ts) ≡ length ts → before w ts ≡ ts
all_before w [] l = refl
all_before w (t ∷ ts) l = ⊎_elim
    (λ e. absurd (omega (arith, ap length (before_mark w t ts e))))
    (λ e. before_other w t ts e ∙ ap (λ b. t ∷ b) (all_before w ts (omega (arith, ap length (before_other w t ts e)))))
    (cases_Bool (is_mark w t))

pub none_behind : (w : List ℕ) (ts : List Tree) → length (before w ts) ≡ length ts → behind w ts ≡ []
none_behind w [] l = refl
none_behind w (t ∷ ts) l = ⊎_elim
    (λ e. absurd (omega (arith, ap length (before_mark w t ts e))))
    (λ e. behind_other w t ts e ∙ none_behind w ts (omega (arith, ap length (before_other w t ts e))))
    (cases_Bool (is_mark w t))

-- forms that go on with a mark which is not among them are cut there
pub cut_before : (w : List ℕ) (m : Tree) (ts us : List Tree) → All (λ x. is_mark w x ≡ false) ts → is_mark w m ≡ true → before w (ts ++ m ∷ us) ≡ ts
cut_before w m [] us none is = before_mark w m us is
cut_before w m (t ∷ ts) us none is =
    before_other w t (ts ++ m ∷ us) (All-head (λ x. is_mark w x ≡ false) t ts none)
    ∙ ap (λ b. t ∷ b) (cut_before w m ts us (All-tail (λ x. is_mark w x ≡ false) t ts none) is)

pub cut_behind : (w : List ℕ) (m : Tree) (ts us : List Tree) → All (λ x. is_mark w x ≡ false) ts → is_mark w m ≡ true → behind w (ts ++ m ∷ us) ≡ us
cut_behind w m [] us none is = behind_mark w m us is
cut_behind w m (t ∷ ts) us none is =
    behind_other w t (ts ++ m ∷ us) (All-head (λ x. is_mark w x ≡ false) t ts none)
    ∙ cut_behind w m ts us (All-tail (λ x. is_mark w x ≡ false) t ts none) is

pub cut_marked : (w : List ℕ) (m : Tree) (ts us : List Tree) → is_mark w m ≡ true → is_marked w (ts ++ m ∷ us) ≡ true
cut_marked w m [] us is = any_mark w m us is
cut_marked w m (t ∷ ts) us is = ⊎_elim
    (λ e. any_mark w t (ts ++ m ∷ us) e)
    (λ e. any_other w t (ts ++ m ∷ us) e ∙ cut_marked w m ts us is)
    (cases_Bool (is_mark w t))

-- a form that is no deeper than the deepest of others
pub before_depth : (w : List ℕ) (ts : List Tree) → depths (before w ts) ≤ depths ts
before_depth w [] = omega arith
before_depth w (t ∷ ts) = ⊎_elim
    (λ e. omega (arith, ap depths (before_mark w t ts e)))
    (λ e. omega (arith, ap depths (before_other w t ts e), before_depth w ts))
    (cases_Bool (is_mark w t))

-- the forms of the steps, as a range: so many of those from the mark on to the end
module _ (ts : List Tree) (mark end count : ℕ) (m : mark ≡ length (program_forms ts)) (e : end ≡ length ts) (c : count ≡ length (before (codes "report") (slice_range ts (mark + 1) end))) where
  rest : List Tree
  rest = drop (mark + 1) ts

  whole : slice_range ts (mark + 1) end ≡ rest
  unfolding rest
  whole = take_all (end - (mark + 1)) (drop (mark + 1) ts) (omega (arith, length-drop (mark + 1) ts))

  counted : count ≡ length (before (codes "report") rest)
  counted = c ∙ ap (λ us. length (before (codes "report") us)) whole

  -- the range is within the forms
  pub steps_within : mark < end → mark + 1 + count ≤ end
  unfolding rest
  steps_within l = omega (arith, counted, before_le (codes "report") rest, length-drop (mark + 1) ts)

  -- and holds the forms of the steps
  pub steps_range : slice_range ts (mark + 1) (mark + 1 + count) ≡ step_forms ts
  unfolding rest
  steps_range =
      let next : mark + 1 ≡ suc (length (program_forms ts)) = omega (arith, m) in
      let dropped : rest ≡ behind (codes "trace") ts = ap (λ n. drop n ts) next ∙ behind_dropped (codes "trace") ts in
      let taken : mark + 1 + count - (mark + 1) ≡ length (before (codes "report") rest) = omega (arith, counted) in
      ap (λ n. take n rest) taken ∙ before_taken (codes "report") rest ∙ ap (before (codes "report")) dropped
