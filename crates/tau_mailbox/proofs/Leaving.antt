-- A letter that leaves an ascending list.
use Rattle.std.proofs.Common.{◌≡◌, ℕ, zero, suc, ◌<◌, Bool, true, false, eqb, List, [], ◌∷◌, ◌++◌, length, get_or, find, filter, All, Some, eqb-true, sym, refl, ap, ◌∙◌, subst, arith}
use Rattle.std.proofs.lemmas.Bool.Decides.{nat_tests}
use Rattle.std.proofs.lemmas.List.{length-append, get_or_at}
use Rattle.std.proofs.lemmas.List.Elements.{All-nil, All-cons, All-tail, All-filter}
use Rattle.tau_mailbox.specs.declared.letter.Letter.{Letter}
use Rattle.tau_mailbox.specs.Letters.{is_message, is_other, is_for, IsAscending, AllBelow}
use Rattle.tau_mailbox.proofs.Lists.{filter-all, filter-without}

-- new is the ascending list old without this letter of it
pub record Leaves (l : Letter) (old new : List Letter) : Type 0 where
  pub ascending : IsAscending old
  pub found : find (is_message l.message) old ≡ Some l
  pub rest : new ≡ filter (is_other l.message) old

-- the letters before x have smaller messages, those after it greater ones, and new has all of them
pub record Split (x : Letter) (old new : List Letter) : Type 0 where
  pub before : List Letter
  pub after : List Letter
  pub whole : old ≡ before ++ x ∷ after
  pub rest : new ≡ before ++ after
  pub below : AllBelow x.message before
  pub above : All (λ l. x.message < l.message) after

-- of ascending letters, those after the first are above it
pub above-first : (y : Letter) (ys : List Letter) → IsAscending (y ∷ ys) → All (λ l. y.message < l.message) ys
above-first y ys up k d lt = up zero (suc k) d (omega arith) (omega (arith, lt))

-- and ascend
pub ascending-rest : (y : Letter) (ys : List Letter) → IsAscending (y ∷ ys) → IsAscending ys
ascending-rest y ys up i j d lt within = up (suc i) (suc j) d (omega (arith, lt)) (omega (arith, within))

-- what the search finds is above what all are above
find-above : (m : ℕ) (ls : List Letter) (x : Letter) (n : ℕ) → All (λ l. n < l.message) ls → find (is_message m) ls ≡ Some x → n < x.message
find-above m [] x n above e = absurd (cc)
find-above m (y ∷ ys) x n above e = by (eqb y.message m) refl (λ here. find-above m ys x n (All-tail (λ l. n < l.message) y ys above) here)
  where
    by : (b : Bool) → eqb y.message m ≡ b → (find (is_message m) ys ≡ Some x → n < x.message) → n < x.message
    by true t later = let same : y ≡ x = (let h = rw t at e in cc) in subst (λ (l : Letter). n < l.message) same (above 0 y (omega arith))
    by false t later = later (rw t at e)

-- a letter that the search finds splits the list
pub split : (x : Letter) (old : List Letter) → IsAscending old → find (is_message x.message) old ≡ Some x → Split x old (filter (is_other x.message) old)
split x [] up e = absurd (cc)
split x (y ∷ ys) up e = by (eqb y.message x.message) refl (λ here. split x ys (ascending-rest y ys up) here)
  where
    by : (b : Bool) → eqb y.message x.message ≡ b → (find (is_message x.message) ys ≡ Some x → Split x ys (filter (is_other x.message) ys)) → Split x (y ∷ ys) (filter (is_other x.message) (y ∷ ys))
    by true t later =
        let same : y ≡ x = (let h = rw t at e in cc) in
        let above : All (λ l. x.message < l.message) ys = subst (λ (z : Letter). All (λ l. z.message < l.message) ys) same (above-first y ys up) in
        record {
          before = [];
          after = ys;
          whole = ap (λ z. z ∷ ys) same;
          rest = rw t (filter-all (is_other x.message) ys (λ k d lt. grind (arith, nat_tests, above k d lt)));
          below = All-nil (λ l. l.message < x.message);
          above = above;
        }
    by false t later =
        let found : find (is_message x.message) ys ≡ Some x = rw t at e in
        let s = later found in
        record {
          before = y ∷ s.before;
          after = s.after;
          whole = ap (λ ls. y ∷ ls) s.whole;
          rest = rw t (ap (λ ls. y ∷ ls) s.rest);
          below = All-cons (λ l. l.message < x.message) y s.before (find-above x.message ys x y.message (above-first y ys up) found) s.below;
          above = s.above;
        }

-- the letters left for another receiver
pub others-left : (x : Letter) (old new : List Letter) (q : ℕ) → Split x old new → eqb x.who q ≡ false → filter (is_for q) old ≡ filter (is_for q) new
others-left x old new q s apart = rw (s.whole, s.rest) (filter-without (is_for q) s.before x s.after apart)

pub split-leaving : (x : Letter) (old new : List Letter) → Leaves x old new → Split x old new
split-leaving x old new leaves = subst (λ ls. Split x old ls) (sym leaves.rest) (split x old leaves.ascending leaves.found)

-- what holds of each letter holds of the one that leaves
pub held-by : (x : Letter) (old new : List Letter) (P : Letter → Type 0) → All P old → Split x old new → P x
held-by x old new P all s = subst P (ap (λ ls. get_or ls (length s.before) x) s.whole ∙ get_or_at s.before x s.after x (length s.before) refl) (all (length s.before) x (within s.before s.after (sym s.whole)))
  where
    within : (front back : List Letter) → front ++ x ∷ back ≡ old → length front < length old
    within front back e = rw (← e) (omega (arith, length-append front (x ∷ back)))

-- what the search finds has the message
message-found : (m : ℕ) (ls : List Letter) (x : Letter) → find (is_message m) ls ≡ Some x → x.message ≡ m
message-found m [] x e = absurd (cc)
message-found m (y ∷ ys) x e = by (eqb y.message m) refl (λ here. message-found m ys x here)
  where
    by : (b : Bool) → eqb y.message m ≡ b → (find (is_message m) ys ≡ Some x → x.message ≡ m) → x.message ≡ m
    by true t later = let same : y ≡ x = (let h = rw t at e in cc) in rw (← same) (eqb-true y.message m t)
    by false t later = later (rw t at e)

-- a letter that was searched and taken out leaves
pub leaves-found : (m : ℕ) (x : Letter) (old new : List Letter) → IsAscending old → find (is_message m) old ≡ Some x → new ≡ filter (is_other m) old → Leaves x old new
leaves-found m x old new up e rest =
    let is : x.message ≡ m = message-found m old x e in
    record {
      ascending = up;
      found = subst (λ n. find (is_message n) old ≡ Some x) (sym is) e;
      rest = subst (λ n. new ≡ filter (is_other n) old) (sym is) rest;
    }

-- a list that stands below a bound also does so where a filter thins it
pub below-filtered : (p : Letter → Bool) (m : ℕ) (ls : List Letter) → AllBelow m ls → AllBelow m (filter p ls)
below-filtered p m ls below = All-filter p (λ l. l.message < m) ls below
