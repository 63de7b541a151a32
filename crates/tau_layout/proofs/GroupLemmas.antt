-- The nodes that have a lane, and the longest name.
use Rattle.std.proofs.Common.{◌≡◌, ◌⊎◌, inl, inr, ⊎_elim, ℕ, suc, ◌+◌, ◌≤◌, Bool, true, false, ◌||◌, cond, List, [], ◌∷◌, ◌++◌, max, replicate, refl, sym, ◌∙◌, arith, eq-eqb}
use Rattle.std.specs.Prelude.{slice_get}
use Rattle.std.specs.Option.{option_map_or}
use Rattle.std.proofs.lemmas.Bool.{eqb-true}
use Rattle.tau_trace.proofs.Counts.{count-suc, count-zero}
use Rattle.tau_layout.specs.declared.lanes.Lane.{Lane}
use Rattle.tau_layout.specs.Lanes.{stands_at, name_length, longest_name}
use Rattle.tau_layout.specs.Inner.Marking.{Marks, IsNodesMarked, one_if_marked, marked_below}
use Rattle.tau_layout.proofs.LaneLemmas.{marks_first}

or_true : (a b : Bool) → (a || b) ≡ true → (a ≡ true) ⊎ (b ≡ true)
or_true true b h = inl refl
or_true false b h = inr h

or_left : (a b : Bool) → a ≡ true → (a || b) ≡ true
or_left true b h = refl
or_left false b h = cc

or_right : (a b : Bool) → b ≡ true → (a || b) ≡ true
or_right true b h = refl
or_right false b h = h

stands_to : (xs : List Lane) (x : Lane) (n : ℕ) → stands_at (xs ++ x ∷ []) n ≡ true → (stands_at xs n ≡ true) ⊎ (n ≡ x.node)
stands_to [] x n h = ⊎_elim (λ e. inr (sym (eqb-true x.node n e))) (λ f. absurd (cc)) (or_true _ false h)
stands_to (y ∷ ys) x n h = ⊎_elim
    (λ e. inl (or_left _ (stands_at ys n) e))
    (λ r. ⊎_elim (λ s. inl (or_right _ (stands_at ys n) s)) (λ e. inr e) (stands_to ys x n r))
    (or_true _ (stands_at (ys ++ x ∷ []) n) h)

stands_from : (xs : List Lane) (x : Lane) (n : ℕ) → (stands_at xs n ≡ true) ⊎ (n ≡ x.node) → stands_at (xs ++ x ∷ []) n ≡ true
stands_from [] x n q = ⊎_elim (λ h. absurd (cc)) (λ e. or_left _ false (eq-eqb x.node n (sym e))) q
stands_from (y ∷ ys) x n q = ⊎_elim
    (λ h. ⊎_elim (λ e. or_left _ (stands_at (ys ++ x ∷ []) n) e) (λ s. or_right _ (stands_at (ys ++ x ∷ []) n) (stands_from ys x n (inl s))) (or_true _ (stands_at ys n) h))
    (λ e. or_right _ (stands_at (ys ++ x ∷ []) n) (stands_from ys x n (inr e)))
    q

-- the marks of nodes, lane by lane
pub nodes_first : (nodes : ℕ) (marks : List Bool) → marks ≡ replicate nodes false → IsNodesMarked [] nodes marks
nodes_first nodes marks e = marks_first (λ n. stands_at [] n ≡ true) nodes marks e (λ n h. absurd (cc))

pub nodes_next : (lanes : List Lane) (lane : Lane) (nodes : ℕ) (old new : List Bool) → IsNodesMarked lanes nodes old → Marks (λ n. n ≡ lane.node) old new → IsNodesMarked (lanes ++ lane ∷ []) nodes new
nodes_next lanes lane nodes old new a m = record {
  count_is = m.count ∙ a.count_is;
  marked = λ n. (
    λ h. ⊎_elim
        (λ o. let p = (a.marked n).0 o in (stands_from lanes lane n (inl p.0), p.1))
        (λ s. (stands_from lanes lane n (inr s.0), omega (arith, s.1, a.count_is)))
        ((m.marked n).0 h),
    λ p. (m.marked n).1 (⊎_elim
        (λ h. inl ((a.marked n).1 (h, p.1)))
        (λ e. inr (e, omega (arith, p.1, a.count_is)))
        (stands_to lanes lane n p.0)),
  );
}

-- the count of marks
pub marked_more : (marks : List Bool) (n : ℕ) → marked_below marks (suc n) ≡ marked_below marks n + one_if_marked marks n
marked_more marks n = count-suc (λ k. option_map_or (λ mark. mark) (slice_get marks k) false) n

pub marked_zero : (marks : List Bool) → marked_below marks 0 ≡ 0
marked_zero marks = count-zero (λ k. option_map_or (λ mark. mark) (slice_get marks k) false)

one_most : (b : Bool) → cond b 1 0 ≤ 1
one_most true = omega arith
one_most false = omega arith

pub one_if_most : (marks : List Bool) (n : ℕ) → one_if_marked marks n ≤ 1
one_if_most marks n = one_most (option_map_or (λ mark. mark) (slice_get marks n) false)

-- the longest name, lane by lane
pub longest_push : (names : List (List ℕ)) (xs : List Lane) (x : Lane) → longest_name names (xs ++ x ∷ []) ≡ max (name_length names x.who) (longest_name names xs)
longest_push names [] x = refl
longest_push names (y ∷ ys) x =
    let rest = longest_push names ys x in
    omega (arith, rest)
