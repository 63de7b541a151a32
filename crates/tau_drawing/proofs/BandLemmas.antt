-- The lanes of a node stand side by side.
use Rattle.std.proofs.Common.{◌≡◌, ⊎_elim, ℕ, zero, suc, ◌+◌, ◌-◌, ◌≤◌, ◌<◌, ◌^◌, true, false, cond, ltb, List, [], ◌∷◌, ◌++◌, length, get_or, refl, sym, ap, ◌∙◌, arith, add-one}
use Rattle.std.specs.List.{AllPairs}
use Rattle.std.specs.List.Sorted.{IsNonDecreasingBy, IsPartitionPoint}
use Rattle.std.proofs.lemmas.Bool.{cases_lt, lt-ltb, le-ltb, ltb-true, ltb-false}
use Rattle.std.proofs.lemmas.List.{length-map, get_or-map}
use Rattle.std.proofs.lemmas.List.Sums.{sum_by-cons, count_by-le-length}
use Rattle.std.proofs.lemmas.Option.{slice_get-get_or}
use Rattle.tau_layout.specs.declared.columns.Column.{Column}
use Rattle.tau_layout.specs.declared.lanes.Lane.{Lane}
use Rattle.tau_layout.specs.Lanes.{ComesBefore, nodes_below}
use Rattle.tau_layout.specs.Plans.{Plan, grid}
use Rattle.tau_svg.specs.Shapes.Grids.{x_of}
use Rattle.tau_layout.specs.Inner.Laying.{lane_of, lanes_of, IsColumnOf}
use Rattle.tau_svg.specs.Markup.Lines.{Line, with_line, with_lines}
use Rattle.tau_svg.specs.declared.shapes.grid.Grid.{Grid}
use Rattle.tau_drawing.proofs.ColumnLanes.{columns_length}
use Rattle.tau_drawing.specs.Lanes.Bands.{lanes_below, first_x, last_x, band_line, node_line, band_lines, bands_below}

-- one more lane in front

below_cons : (n : ℕ) (x : Lane) (xs : List Lane) → lanes_below (x ∷ xs) n ≡ cond (ltb x.node n) 1 0 + lanes_below xs n
below_cons n x xs = sum_by-cons (λ (l : Lane). cond (ltb l.node n) 1 0) x xs

below_more : (n : ℕ) (x : Lane) (xs : List Lane) → x.node < n → lanes_below (x ∷ xs) n ≡ 1 + lanes_below xs n
below_more n x xs lt = below_cons n x xs ∙ ap (λ b. cond b 1 0 + lanes_below xs n) (lt-ltb x.node n lt)

below_same : (n : ℕ) (x : Lane) (xs : List Lane) → n ≤ x.node → lanes_below (x ∷ xs) n ≡ lanes_below xs n
below_same n x xs le =
    let e = below_cons n x xs ∙ ap (λ b. cond b 1 0 + lanes_below xs n) (le-ltb x.node n le) in
    omega (arith, e)

pub below_most : (lanes : List Lane) (n : ℕ) → lanes_below lanes n ≤ length lanes
below_most lanes n = count_by-le-length (λ (l : Lane). ltb l.node n) lanes

below_none : (n : ℕ) (ls : List Lane) → ((k : ℕ) (d : Lane) → k < length ls → n ≤ (get_or ls k d).node) → lanes_below ls n ≡ 0
below_none n [] all = refl
below_none n (x ∷ xs) all = below_same n x xs (all 0 x (omega arith)) ∙ below_none n xs (λ k d lt. all (suc k) d (omega (arith, lt)))

-- lanes by node

abbrev pub Rises : List Lane → Type 0
Rises ls = IsNonDecreasingBy (λ (l : Lane). l.node) ls

rises_tail : (x : Lane) (xs : List Lane) → Rises (x ∷ xs) → Rises xs
rises_tail x xs r i j d le lt = r (suc i) (suc j) d (omega (arith, le)) (omega (arith, lt))

pub rises : (ls : List Lane) → AllPairs ComesBefore ls → Rises ls
rises ls a i j d le lt = ⊎_elim
    (λ below. ⊎_elim (λ h. omega (arith, h)) (λ h. omega (arith, h.0)) (a i j d below lt))
    (λ ge. let same : i ≡ j = omega (arith, le, ge) in omega (arith, ap (λ k. (get_or ls k d).node) same))
    (cases_lt i j)

-- the lanes before the count are those at lower nodes
pub split : (n : ℕ) (ls : List Lane) → Rises ls → (k : ℕ) (d : Lane) → k < length ls → (k < lanes_below ls n → (get_or ls k d).node < n) × (lanes_below ls n ≤ k → n ≤ (get_or ls k d).node)
split n [] r k d lt = absurd (omega (arith, lt))
split n (x ∷ xs) r k d lt = ⊎_elim (λ under. in_front (λ j l. split n xs (rises_tail x xs r) j d l) under k lt) (λ over. behind over k lt) (cases_lt x.node n) where
  in_front : ((j : ℕ) → j < length xs → (j < lanes_below xs n → (get_or xs j d).node < n) × (lanes_below xs n ≤ j → n ≤ (get_or xs j d).node)) → x.node < n → (k : ℕ) → k < length (x ∷ xs) → (k < lanes_below (x ∷ xs) n → (get_or (x ∷ xs) k d).node < n) × (lanes_below (x ∷ xs) n ≤ k → n ≤ (get_or (x ∷ xs) k d).node)
  in_front here under zero lt = (λ h. under, λ h. absurd (omega (arith, h, below_more n x xs under)))
  in_front here under (suc k) lt =
      let p = here k (omega (arith, lt)) in
      (λ h. p.0 (omega (arith, h, below_more n x xs under)), λ h. p.1 (omega (arith, h, below_more n x xs under)))

  behind : n ≤ x.node → (k : ℕ) → k < length (x ∷ xs) → (k < lanes_below (x ∷ xs) n → (get_or (x ∷ xs) k d).node < n) × (lanes_below (x ∷ xs) n ≤ k → n ≤ (get_or (x ∷ xs) k d).node)
  behind over k lt =
      let none : lanes_below (x ∷ xs) n ≡ 0 = below_same n x xs over ∙ below_none n xs (λ j e l. let up = r 0 (suc j) e (omega arith) (omega (arith, l)) in omega (arith, over, up)) in
      (λ h. absurd (omega (arith, h, none)), λ h. let up = r 0 k d (omega arith) lt in omega (arith, over, up))

-- where the columns are parted, there is the count
pub parted : (n : ℕ) (cs : List Column) (i : ℕ) → i ≤ length cs → IsPartitionPoint (λ (c : Column). ltb c.node n ≡ true) (λ (c : Column). ltb c.node n ≡ false) cs i → i ≡ lanes_below (lanes_of cs) n
parted n [] i le p = omega (arith, le)
parted n (c ∷ cs) zero le p =
    let first : n ≤ c.node = ltb-false c.node n (p.1 0 c (omega arith) (omega arith)) in
    parted n cs 0 (omega arith) (λ k d l m. absurd (omega (arith, l, m)), λ k d l m. p.1 (suc k) d (omega arith) (omega (arith, m)))
    ∙ sym (below_same n (lane_of c) (lanes_of cs) first)
parted n (c ∷ cs) (suc i) le p =
    let first : c.node < n = ltb-true c.node n (p.0 0 c (omega arith) (omega arith)) in
    let rest = parted n cs i (omega (arith, le)) (λ k d l m. p.0 (suc k) d (omega arith) (omega (arith, m)), λ k d l m. p.1 (suc k) d (omega (arith, l)) (omega (arith, m))) in
    omega (arith, rest, below_more n (lane_of c) (lanes_of cs) first)

pub columns_rise : (cs : List Column) → Rises (lanes_of cs) → IsNonDecreasingBy (λ (c : Column). c.node) cs
columns_rise cs r i j d le lt =
    let up = r i j (lane_of d) le (omega (arith, lt, length-map cs lane_of)) in
    let one = ap (λ (l : Lane). l.node) (get_or-map lane_of cs i d (lane_of d) (omega (arith, le, lt))) in
    let other = ap (λ (l : Lane). l.node) (get_or-map lane_of cs j d (lane_of d) lt) in
    omega (arith, up, one, other)

module _ (plan : Plan) (cs : List Column) (are : lanes_of cs ≡ plan.lanes) (each : IsColumnOf plan cs) (r : Rises plan.lanes) (n : ℕ) where
  -- a column whose lane is counted at node n, and not below it, stands at n
  node_is : (k : ℕ) (d : Column) → k < length cs → lanes_below plan.lanes n ≤ k → k < lanes_below plan.lanes (n + 1) → (get_or cs k d).node ≡ n
  node_is k d lt from to =
      let within : k < length plan.lanes = omega (arith, lt, ap length are, length-map cs lane_of) in
      let low = (split n plan.lanes r k (lane_of d) within).1 from in
      let high = (split (n + 1) plan.lanes r k (lane_of d) within).0 to in
      let is = ap (λ (l : Lane). l.node) (ap (λ ls. get_or ls k (lane_of d)) (sym are) ∙ get_or-map lane_of cs k d (lane_of d) lt) in
      omega (arith, low, high, is)

  x_is : (k : ℕ) (d : Column) → k < length cs → lanes_below plan.lanes n ≤ k → k < lanes_below plan.lanes (n + 1) → ((get_or cs k d).x ≡ x_of (grid plan) k (nodes_below plan.lanes n)) × (386 ≤ (get_or cs k d).x) × ((get_or cs k d).x < 2 ^ 50)
  x_is k d lt from to =
      let a = each k (get_or cs k d) (slice_get-get_or cs k d lt) in
      (a.0 ∙ ap (λ m. x_of (grid plan) k (nodes_below plan.lanes m)) (node_is k d lt from to), a.1, a.2)

  -- the first and the last lane of node n, where it has one
  pub first_is : (k : ℕ) (d : Column) → k ≡ lanes_below plan.lanes n → k < lanes_below plan.lanes (n + 1) → ((get_or cs k d).x ≡ first_x plan n) × (386 ≤ (get_or cs k d).x) × ((get_or cs k d).x < 2 ^ 50)
  first_is k d e to =
      let a = x_is k d (omega (arith, to, columns_length plan cs are each, below_most plan.lanes (n + 1))) (omega (arith, e)) to in
      (a.0 ∙ ap (λ i. x_of (grid plan) i (nodes_below plan.lanes n)) e, a.1, a.2)

  pub last_is : (k : ℕ) (d : Column) → k ≡ lanes_below plan.lanes (n + 1) → lanes_below plan.lanes n < k → ((get_or cs (k - 1) d).x ≡ last_x plan n) × (386 ≤ (get_or cs (k - 1) d).x) × ((get_or cs (k - 1) d).x < 2 ^ 50)
  last_is k d e from =
      let a = x_is (k - 1) d (omega (arith, e, from, columns_length plan cs are each, below_most plan.lanes (n + 1))) (omega (arith, from)) (omega (arith, e, from)) in
      (a.0 ∙ ap (λ i. x_of (grid plan) (i - 1) (nodes_below plan.lanes n)) e, a.1, a.2)

-- the lines of a node that has a lane
pub band_told : (plan : Plan) (n first last : ℕ) (g : Grid) (out framed new : List ℕ) → g ≡ grid plan → lanes_below plan.lanes n < lanes_below plan.lanes (n + 1) → first ≡ first_x plan n → last ≡ last_x plan n
    → framed ≡ with_line out (band_line g first last) → new ≡ with_line framed (node_line g n first last) → new ≡ with_lines out (band_lines plan n)
band_told plan n first last g out framed new eg lt ef el frame text =
    let h = grid plan in
    let both : Grid → ℕ → ℕ → List Line = λ x a b. band_line x a b ∷ node_line x n a b ∷ [] in
    text ∙ ap (λ w. with_line w (node_line g n first last)) frame
    ∙ ap (λ x. with_lines out (both x first last)) eg
    ∙ ap (λ a. with_lines out (both h a last)) ef
    ∙ ap (λ b. with_lines out (both h (first_x plan n) b)) el
    ∙ ap (λ b. with_lines out (cond b (both h (first_x plan n) (last_x plan n)) [])) (sym (lt-ltb (lanes_below plan.lanes n) (lanes_below plan.lanes (n + 1)) lt))

pub bands_more : (plan : Plan) (n : ℕ) → bands_below plan (n + 1) ≡ bands_below plan n ++ band_lines plan n
bands_more plan n = ap (bands_below plan) (add-one n)
