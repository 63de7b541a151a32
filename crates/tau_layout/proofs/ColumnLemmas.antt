-- The columns of lanes, and how many nodes before theirs have a lane.
use Rattle.std.proofs.Common.{◌≡◌, ◌⊎◌, inl, inr, ⊎_elim, ℕ, zero, suc, ◌+◌, ◌≤◌, ◌<◌, ◌^◌, Bool, true, false, List, [], ◌∷◌, ◌++◌, Option, Some, None, map, length, refl, sym, ap, subst, arith, length-append}
use Rattle.std.specs.Prelude.{slice_get}
use Rattle.std.specs.Option.{option_map_or}
use Rattle.tau_trace.proofs.Counts.{count-same}
use Rattle.tau_trace.proofs.Lists.{same_some}
use Rattle.tau_layout.specs.declared.columns.Column.{Column}
use Rattle.tau_layout.specs.declared.lanes.Lane.{Lane}
use Rattle.tau_svg.specs.declared.shapes.grid.Grid.{Grid}
use Rattle.tau_svg.specs.Shapes.Grids.{x_of}
use Rattle.tau_layout.specs.Lanes.{stands_at, nodes_below}
use Rattle.tau_layout.specs.Inner.Marking.{IsNodesMarked, marked_below}
use Rattle.tau_layout.specs.Inner.Laying.{lane_of, lanes_of, AreColumns}

-- one of two truths holds where the other does
same_truth : (a b : Bool) → (a ≡ true → b ≡ true) → (b ≡ true → a ≡ true) → a ≡ b
same_truth true true to from = refl
same_truth false false to from = refl
same_truth true false to from = absurd (let e = to refl in cc)
same_truth false true to from = absurd (let e = from refl in cc)

mark_of : (o : Option Bool) → option_map_or (λ mark. mark) o false ≡ true → o ≡ Some true
mark_of None e = absurd (cc)
mark_of (Some b) e = ap Some e

mark_from : (o : Option Bool) → o ≡ Some true → option_map_or (λ mark. mark) o false ≡ true
mark_from None e = absurd (cc)
mark_from (Some b) e = same_some e

pub marked_are : (lanes : List Lane) (nodes n : ℕ) (marks : List Bool) → IsNodesMarked lanes nodes marks → n ≤ nodes → marked_below marks n ≡ nodes_below lanes n
marked_are lanes nodes n marks a le = count-same (λ k. option_map_or (λ mark. mark) (slice_get marks k) false) (stands_at lanes) n (λ j lt. same_truth _ _
    (λ e. ((a.marked j).0 (mark_of (slice_get marks j) e)).0)
    (λ e. mark_from (slice_get marks j) ((a.marked j).1 (e, omega (arith, lt)))))

-- an element of a list with one more at its end
push_at : {A : Type 0} (xs : List A) (x : A) (k : ℕ) (y : A) → slice_get (xs ++ x ∷ []) k ≡ Some y → (slice_get xs k ≡ Some y) ⊎ ((k ≡ length xs) × (x ≡ y))
push_at [] x zero y e = inr (refl, same_some e)
push_at [] x (suc k) y e = absurd (cc)
push_at (z ∷ xs) x zero y e = inl e
push_at (z ∷ xs) x (suc k) y e = ⊎_elim (λ o. inl o) (λ p. inr (ap suc p.0, p.1)) (push_at xs x k y e)

pub columns_next : (g : Grid) (lanes : List Lane) (k : ℕ) (old new : List Column) (c : Column) → AreColumns g lanes k old → new ≡ old ++ c ∷ [] → slice_get lanes k ≡ Some (lane_of c) → c.x ≡ x_of g k (nodes_below lanes c.node) → 386 ≤ c.x → c.x < 2 ^ 50 → AreColumns g lanes (k + 1) new
columns_next g lanes k old new c a is at x left right = subst (AreColumns g lanes (k + 1)) (sym is) (record {
  count_is = omega (arith, a.count_is, length-append old (c ∷ []));
  each = λ rank d e. ⊎_elim (λ o. a.each rank d o) (λ p. one rank d p.0 p.1) (push_at old c rank d e);
}) where
  one : (rank : ℕ) (d : Column) → rank ≡ length old → c ≡ d → (slice_get lanes rank ≡ Some (lane_of d)) × (d.x ≡ x_of g rank (nodes_below lanes d.node)) × (386 ≤ d.x) × (d.x < 2 ^ 50)
  one rank d r s =
      let here : k ≡ rank = omega (arith, r, a.count_is) in
      subst (λ (r : ℕ). (slice_get lanes r ≡ Some (lane_of d)) × (d.x ≡ x_of g r (nodes_below lanes d.node)) × (386 ≤ d.x) × (d.x < 2 ^ 50)) here
      (subst (λ (y : Column). (slice_get lanes k ≡ Some (lane_of y)) × (y.x ≡ x_of g k (nodes_below lanes y.node)) × (386 ≤ y.x) × (y.x < 2 ^ 50)) s (at, x, left, right))

-- the columns are those of the lanes
all_lanes : (lanes : List Lane) (columns : List Column) → length columns ≡ length lanes → ((rank : ℕ) (c : Column) → slice_get columns rank ≡ Some c → slice_get lanes rank ≡ Some (lane_of c)) → map lane_of columns ≡ lanes
all_lanes [] [] e each = refl
all_lanes (l ∷ ls) [] e each = absurd (omega (arith, e))
all_lanes [] (c ∷ cs) e each = absurd (omega (arith, e))
all_lanes (l ∷ ls) (c ∷ cs) e each =
    let first : l ≡ lane_of c = same_some (each 0 c refl) in
    let rest = all_lanes ls cs (omega (arith, e)) (λ rank d at. each (suc rank) d at) in
    cc

pub columns_lanes : (g : Grid) (lanes : List Lane) (columns : List Column) → AreColumns g lanes (length lanes) columns → lanes_of columns ≡ lanes
columns_lanes g lanes columns a = all_lanes lanes columns a.count_is (λ rank c e. (a.each rank c e).0)
