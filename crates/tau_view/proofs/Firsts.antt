-- The first point of an ascending list with a property is the least one.
use Rattle.std.proofs.Common.{◌≡◌, ◌≢◌, ℕ, zero, suc, ◌+◌, ◌<◌, ◌⊎◌, ⊎_elim, List, [], ◌∷◌, length, get_or, take, refl, sym, subst, add-one, arith}
use Rattle.std.specs.Prelude.{Contains, IsFalse}
use Rattle.std.specs.List.{AllByRecursion}
use Rattle.std.specs.declared.cmp.Ordering.TheVariants.{Less}
use Rattle.tau_history.specs.declared.fate.Fate.{Fate}
use Rattle.tau_history.specs.declared.fate.Fate.TheVariants.{Ahead, Open, Stable, Closed, Fallen}
use Rattle.tau_view.specs.Held.{is_firm}
use Rattle.tau_points.specs.declared.point.Point.{Point}
use Rattle.tau_points.specs.Order.{point_cmp, IsAscending}
use Rattle.tau_points.proofs.Membership.{Contains-head, Contains-later, Contains-none, Contains-cons_cases}
use Rattle.tau_points.proofs.PointOrder.{point_cmp-total}
use Rattle.tau_points.proofs.SortedLists.{sorted_above, sorted_rest, not_below_itself, not_both}

above_all : (x : Point) (xs : List Point) → AllByRecursion (λ y. point_cmp x y ≡ Less) xs → (q : Point) → Contains xs q → point_cmp x q ≡ Less
above_all x [] a q h = absurd (Contains-none q h)
above_all x (y ∷ ys) a q h =
    let rest = above_all x ys a.1 q in
    ⊎_elim (λ e. subst (λ z. point_cmp x z ≡ Less) (sym e) a.0) rest (Contains-cons_cases y ys q h)

module _ (P : Point → Type 0) (d : Point) where
  pub first_least : (xs : List Point) (k : ℕ) → IsAscending xs → k < length xs → ((q : Point) → Contains (take k xs) q → P q → ⊥) → (q : Point) → Contains xs q → P q → point_cmp q (get_or xs k d) ≢ Less
  first_least [] k asc h none q c p e = absurd (omega arith)
  first_least (x ∷ xs) zero asc h none q c p e =
      ⊎_elim (λ same. not_below_itself point_cmp-total x (subst (λ z. point_cmp z x ≡ Less) same e))
      (λ later. not_both point_cmp-total q x e (above_all x xs (sorted_above point_cmp x xs asc) q later)) (Contains-cons_cases x xs q c)
  first_least (x ∷ xs) (suc k) asc h none q c p e =
      let rest = first_least xs k (sorted_rest point_cmp x xs asc) (omega arith) (λ r m. none r (Contains-later x (take k xs) r m)) q in
      ⊎_elim (λ same. none x (Contains-head x (take k xs)) (subst P same p)) (λ later. rest later p e) (Contains-cons_cases x xs q c)

-- a fate that is neither Stable nor Closed isn't firm
pub not_firm : (f : Fate) → (f ≡ Stable → ⊥) → (f ≡ Closed → ⊥) → IsFalse (is_firm f)
not_firm Ahead s c = refl
not_firm Open s c = refl
not_firm Stable s c = absurd (s refl)
not_firm Closed s c = absurd (c refl)
not_firm Fallen s c = refl
