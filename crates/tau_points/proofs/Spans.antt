-- The pairs from a point, as a part of an ascending relation.
use Rattle.std.proofs.Common.{◌≡◌, ◌⊎◌, ◌↔◌, ◌<◌, ◌≤◌, ◌-◌, ◌+◌, ℕ, List, [], ◌∷◌, ◌++◌, length, get_or, take, drop, sym, refl, false, ◌∙◌, ap, subst, arith, inl, inr, ⊎_elim, length-take, length-drop}
use Rattle.std.specs.List.{Contains, AllWithin}
use Rattle.std.specs.Ordering.{is_lt}
use Rattle.std.specs.declared.cmp.Ordering.TheVariants.{Less}
use Rattle.std.proofs.lemmas.Bool.{cases_lt}
use Rattle.std.proofs.lemmas.List.{get_or-take, get_or-drop, get_or_default, take_more}
use Rattle.std.proofs.lemmas.List.Elements.{Contains-append_left, Contains-append_right, Contains-push, Contains-push_cases}
use Rattle.tau_points.specs.Members.{AddsAll}
use Rattle.tau_points.specs.Order.{point_cmp, IsAscendingInPairs}
use Rattle.tau_points.specs.Reach.{Leads}
use Rattle.tau_points.specs.declared.point.Point.{Point}
use Rattle.tau_points.proofs.Membership.{Contains-none, Contains-head, Contains-take, Contains-drop}
use Rattle.tau_points.proofs.PointOrder.{point_cmp-total, IsSpan, any_pair, sources_after, after_other}
use Rattle.tau_points.proofs.SortedLists.{not_below_itself, tail_of}

-- the part from first to past
abbrev pub part : List (Point × Point) → ℕ → ℕ → List (Point × Point)
part xs first past = take (past - first) (drop first xs)

get_or-part : (xs : List (Point × Point)) (first past k : ℕ) (d : Point × Point) → first ≤ k → k < past → get_or (part xs first past) (k - first) d ≡ get_or xs k d
get_or-part xs first past k d low high =
    let e : first + (k - first) ≡ k = omega arith in
    get_or-take (past - first) (drop first xs) (k - first) d (omega arith) ∙ get_or-drop first xs (k - first) d ∙ ap (λ n. get_or xs n d) e

stands : (p q : Point) (xs : List (Point × Point)) (first past : ℕ) → IsSpan p xs first past → (k : ℕ) → k < length xs → get_or xs k (p, q) ≡ (p, q) → (first ≤ k) × (k < past)
stands p q xs first past s k within e = (
  ⊎_elim (λ (low : k < first). absurd (not_below_itself point_cmp-total p (subst (λ (x : Point × Point). point_cmp x.0 p ≡ Less) e (s.before k (p, q) (omega arith) low)))) (λ h. h) (cases_lt k first),
  ⊎_elim (λ h. h) (λ (high : past ≤ k). absurd (not_below_itself point_cmp-total p (subst (λ (x : Point × Point). point_cmp p x.0 ≡ Less) e (s.after k (p, q) high within)))) (cases_lt k past),
)

pub part_iff : (p q : Point) (xs : List (Point × Point)) (first past : ℕ) → past ≤ length xs → IsSpan p xs first past → Contains (part xs first past) (p, q) ↔ Contains xs (p, q)
part_iff p q xs first past within s = (
  λ c. Contains-drop first xs (p, q) (Contains-take (past - first) (drop first xs) (p, q) c),
  λ c. let at = stands p q xs first past s c.0 c.1 c.2 in
      (c.0 - first, omega (arith, length-take (past - first) (drop first xs), length-drop first xs, at.0, at.1), get_or-part xs first past c.0 (p, q) at.0 at.1 ∙ c.2),
)

-- the targets of the first i pairs of the part are on the stack
pub targets_more : (p : Point) (xs : List (Point × Point)) (i : ℕ) (x d : Point × Point) (old stack new : List Point) → i < length xs → x ≡ get_or xs i d → x.0 ≡ p → new ≡ stack ++ x.1 ∷ []
    → AddsAll (λ q. Contains (take i xs) (p, q)) old stack → AddsAll (λ q. Contains (take (i + 1) xs) (p, q)) old new
targets_more p xs i x d old stack new below is from pushed adds q =
    let pair : x ≡ (p, x.1) = λ j. (from j, x.1) in
    let one : take (i + 1) xs ≡ take i xs ++ (p, x.1) ∷ [] = take_more xs i d below ∙ ap (λ (z : Point × Point). take i xs ++ z ∷ []) (sym is ∙ pair) in (
      λ c. ⊎_elim
          (λ a. ⊎_elim (λ b. inl b) (λ b. inr (rw one (Contains-append_left (take i xs) ((p, x.1) ∷ []) (p, q) b))) ((adds q).0 a))
          (λ (e : x.1 ≡ q). inr (rw one (Contains-append_right (take i xs) ((p, x.1) ∷ []) (p, q) (subst (λ (z : Point). Contains {X = Point × Point} ((p, x.1) ∷ []) (p, z)) e (Contains-head (p, x.1) [])))))
          (Contains-push_cases stack x.1 q (rw pushed at c)),
      λ c. rw pushed (⊎_elim
          (λ a. Contains-append_left stack (x.1 ∷ []) q ((adds q).1 (inl a)))
          (λ b. ⊎_elim (λ a. Contains-append_left stack (x.1 ∷ []) q ((adds q).1 (inr a)))
          (λ (e : (p, x.1) ≡ (p, q)). subst (λ (z : Point). Contains (stack ++ x.1 ∷ []) z) (ap (λ (z : Point × Point). z.1) e) (Contains-push stack x.1))
          (Contains-push_cases (take i xs) (p, x.1) (p, q) (rw one at b))) c),
    )

-- a walk over pairs, of which the first i begin at p and were pushed
pub record Walk (p : Point) (xs : List (Point × Point)) (i : ℕ) (old stack : List Point) : Type 0 where
  pub within : i ≤ length xs
  pub sources : AllWithin (λ (x : Point × Point). x.0 ≡ p) xs 0 i
  pub adds : AddsAll (λ q. Contains (take i xs) (p, q)) old stack

pub walk_start : (p : Point) (xs : List (Point × Point)) (old : List Point) → Walk p xs 0 old old
walk_start p xs old = record {
  within = omega arith;
  sources = λ k d low high. absurd (omega arith);
  adds = λ q. (λ c. inl c, λ c. ⊎_elim (λ a. a) (λ b. absurd (Contains-none {A = Point × Point} (p, q) b)) c);
}

pub walk_more : (p : Point) (xs : List (Point × Point)) (i : ℕ) (d : Point × Point) (old stack new : List Point) → i < length xs → (get_or xs i d).0 ≡ p → new ≡ stack ++ (get_or xs i d).1 ∷ [] → Walk p xs i old stack → Walk p xs (i + 1) old new
walk_more p xs i d old stack new below from pushed w = record {
  within = omega arith;
  sources = λ k e low high. ⊎_elim (λ (less : k < i). w.sources k e low less)
      (λ (le : i ≤ k). let same : k ≡ i = omega arith in
      subst (λ n. (get_or xs n e).0 ≡ p) (sym same) (ap (λ (x : Point × Point). x.0) (get_or_default xs i e d below) ∙ from)) (cases_lt k i);
  adds = targets_more p xs i (get_or xs i d) d old stack new below refl from pushed w.adds;
}

-- why the walk ended: no pair was left, or the next begins elsewhere
abbrev pub Ended : Point → List (Point × Point) → ℕ → Type 0
Ended p xs i = (length xs ≤ i) ⊎ ((i < length xs) × ((get_or xs i any_pair).0 ≡ p → ⊥))

module _ (p : Point) (xs : List (Point × Point)) (first : ℕ) (up : IsAscendingInPairs xs) (fits : first ≤ length xs)
    (before : AllWithin (λ (x : Point × Point). point_cmp x.0 p ≡ Less) xs 0 first) (not_before : AllWithin (λ (x : Point × Point). is_lt (point_cmp x.0 p) ≡ false) xs first (length xs)) where
  later : (i k : ℕ) → Ended p (drop first xs) i → (d : Point × Point) → first + i ≤ k → k < length xs → point_cmp p (get_or xs k d).0 ≡ Less
  later i k ended d low within =
      ⊎_elim
      (λ (none : length (drop first xs) ≤ i). absurd (omega (arith, length-drop first xs)))
      (λ other.
      let below : first + i < length xs = omega arith in
      let at : get_or (drop first xs) i any_pair ≡ get_or xs (first + i) d = get_or-drop first xs i any_pair ∙ get_or_default xs (first + i) any_pair d below in
      let elsewhere : (get_or xs (first + i) d).0 ≡ p → ⊥ = λ e. other.1 (ap (λ (x : Point × Point). x.0) at ∙ e) in
      sources_after p xs (first + i) k d up (after_other p (get_or xs (first + i) d).0 (not_before (first + i) d (omega arith) below) elsewhere) low within)
      ended

  walk_span : (i : ℕ) (old new : List Point) → Walk p (drop first xs) i old new → Ended p (drop first xs) i → IsSpan p xs first (first + i)
  walk_span i old new w ended = record {
    ordered = omega arith;
    before = before;
    inside = λ k d low high.
        let e : first + (k - first) ≡ k = omega arith in
        let at : get_or (drop first xs) (k - first) d ≡ get_or xs k d = get_or-drop first xs (k - first) d ∙ ap (λ n. get_or xs n d) e in
        ap (λ (x : Point × Point). x.0) (sym at) ∙ w.sources (k - first) d (omega arith) (omega arith);
    after = λ k d low high. later i k ended d low high;
  }

  walk_end : (i : ℕ) (old new : List Point) → Walk p (drop first xs) i old new → Ended p (drop first xs) i → AddsAll (Leads xs p) old new
  walk_end i old new w ended q =
      let e : first + i - first ≡ i = omega arith in
      let same : part xs first (first + i) ≡ take i (drop first xs) = ap (λ n. take n (drop first xs)) e in
      let within : first + i ≤ length xs = omega (arith, w.within, length-drop first xs) in
      let both = part_iff p q xs first (first + i) within (walk_span i old new w ended) in (
        λ c. ⊎_elim (λ a. inl a) (λ b. inr (both.0 (rw same b))) ((w.adds q).0 c),
        λ c. (w.adds q).1 (⊎_elim (λ a. inl a) (λ b. inr (rw same at (both.1 b))) c),
      )

-- the same in a second reading of the pairs, and over their tail as a slice has it
pub walked : (p : Point) (xs ys tail : List (Point × Point)) (first i : ℕ) (old new : List Point) → ys ≡ xs → tail ≡ take (length ys - first) (drop first ys) → IsAscendingInPairs ys → first ≤ length xs
    → AllWithin (λ (x : Point × Point). point_cmp x.0 p ≡ Less) xs 0 first → AllWithin (λ (x : Point × Point). is_lt (point_cmp x.0 p) ≡ false) xs first (length xs)
    → Walk p tail i old new → Ended p tail i → AddsAll (Leads xs p) old new
walked p xs ys tail first i old new e f up fits before not_before w ended =
    let is : tail ≡ drop first xs = f ∙ tail_of first ys ∙ ap (λ (l : List (Point × Point)). drop first l) e in
    walk_end p xs first (subst IsAscendingInPairs e up) fits before not_before i old new
    (subst (λ (l : List (Point × Point)). Walk p l i old new) is w) (subst (λ (l : List (Point × Point)). Ended p l i) is ended)
