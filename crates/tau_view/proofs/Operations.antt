-- The stored lists after an operation, and what they hold.
use Rattle.std.proofs.Common.{◌≡◌, ◌≢◌, inl, ⊎_elim, ℕ, ◌+◌, ◌<◌, Bool, true, false, not, ◌&&◌, ◌||◌, IsTrue, List, [], ◌∷◌, ◌++◌, length, take, get_or, refl, sym, ap, ◌∙◌}
use Rattle.std.proofs.lemmas.List.{take_more}
use Rattle.tau_history.specs.Timeline.{Timeline}
use Rattle.tau_points.specs.declared.point.Point.{Point}
use Rattle.tau_points.specs.Members.{Adds, Joins, HasAll}
use Rattle.tau_view.specs.Held.{same_point, only}
use Rattle.tau_view.specs.Edges.{edges_to, both_edges}
use Rattle.tau_view.specs.Rules.{touched, depended, merged, merged_in}
use Rattle.tau_view.specs.Stored.{Stored, history_in, point_in, pair_in, held}
use Rattle.tau_view.proofs.Sets.{point_in-Adds, pair_in-Adds, pair_in-Joins, is_same}

pub touched_is : (s : Stored) (new : List Point) (p : Point) → Adds s.roots new p → held (record s { roots = new }) ≡ touched p (held s)
touched_is s new p a = λ i. record { history = history_in s.histories; edge = pair_in s.edges; root = point_in-Adds s.roots new p a i }

pub depended_is : (s : Stored) (fresh new : List (Point × Point)) (p : Point) → pair_in fresh ≡ edges_to p (point_in s.roots) → Joins s.edges fresh new → held (record s { edges = new }) ≡ depended p (held s)
depended_is s fresh new p e j =
    let all = pair_in-Joins s.edges fresh new j ∙ (λ i x y. pair_in s.edges x y || e i x y) in
    λ i. record { history = history_in s.histories; edge = all i; root = point_in s.roots }

pub merged_is : (s t : Stored) (histories : List (ℕ × Timeline)) (new : List (Point × Point)) → history_in histories ≡ merged_in (history_in s.histories) (history_in t.histories) → Joins s.edges t.edges new → held (record { histories = histories; edges = new; roots = s.roots }) ≡ merged (held s) (held t)
merged_is s t histories new e j = λ i. record { history = e i; edge = pair_in-Joins s.edges t.edges new j i; root = point_in s.roots }

point_in-push : (ps : List Point) (r q : Point) → point_in (ps ++ r ∷ []) q ≡ (point_in ps q || same_point q r)
point_in-push [] r q = by_test (same_point q r) where
  by_test : (b : Bool) → (b || false) ≡ (false || b)
  by_test true = refl
  by_test false = refl
point_in-push (p ∷ ps) r q = by_test (same_point q p) _ _ (point_in-push ps r q) where
  by_test : (b x y : Bool) → x ≡ y || same_point q r → (b || x) ≡ ((b || y) || same_point q r)
  by_test true x y e = refl
  by_test false x y e = e

-- s: the source is the point; a: the target was among the points; t: it is the new one; n: it is another than the point
one_more : (s a t n : Bool) → ((s && (a && n)) || (s && (t && n))) ≡ (s && ((a || t) && n))
one_more false a t n = refl
one_more true false t n = refl
one_more true true t false = by_test t where
  by_test : (b : Bool) → (b && false) ≡ false
  by_test true = refl
  by_test false = refl
one_more true true t true = refl

-- edges to one point more
pub edges_to-more : (p : Point) (rs : List Point) (k : ℕ) (d : Point) → k < length rs → both_edges (edges_to p (point_in (take k rs))) (edges_to p (only (get_or rs k d))) ≡ edges_to p (point_in (take (k + 1) rs))
edges_to-more p rs k d h =
    let r = get_or rs k d in
    let grown = take_more rs k d h in
    let one : (y : Point) → point_in (take (k + 1) rs) y ≡ (point_in (take k rs) y || same_point y r) = λ y. ap (λ xs. point_in xs y) grown ∙ point_in-push (take k rs) r y in
    λ i x y. (one_more (same_point x p) (point_in (take k rs) y) (same_point y r) (not (same_point y p))
    ∙ ap (λ b. same_point x p && (b && not (same_point y p))) (sym (one y))) i

-- t: the target is the root; u: it is the point
apart : (s t u : Bool) → (IsTrue t → IsTrue u → ⊥) → (s && t) ≡ (s && (t && not u))
apart false t u f = refl
apart true false u f = refl
apart true true true f = absurd (f refl refl)
apart true true false f = refl

pub new_edge : (p r : Point) (old new : List (Point × Point)) → r ≢ p → Adds old new (p, r) → pair_in new ≡ both_edges (pair_in old) (edges_to p (only r))
new_edge p r old new n a =
    pair_in-Adds old new p r a
    ∙ (λ i x y. pair_in old x y || apart (same_point x p) (same_point y r) (same_point y p) (λ t u. n (sym (is_same y r t) ∙ is_same y p u)) i)

-- a merge that gives the same again
pub merged_covered : (s t : Stored) → merged_in (history_in s.histories) (history_in t.histories) ≡ history_in s.histories → HasAll s.edges t.edges → merged (held s) (held t) ≡ held s
merged_covered s t e has = sym (merged_is s t s.histories s.edges (sym e) (λ x. (λ c. inl c, λ c. ⊎_elim (λ h. h) (has x) c)))
