-- Two lists of entries in one, each in its order.
use Rattle.std.proofs.Common.{◌≡◌, ℕ, zero, suc, ◌+◌, List, [], ◌∷◌, ◌++◌, length, take, drop, ap, arith}
use Rattle.tau_tree.specs.declared.entries.Entry.{Entry}
use Rattle.tau_faults.specs.Faults.{inserted}
use Rattle.tau_faults.specs.Laws.{AreMerged, none, of_first, of_other}

first_alone : (ds : List Entry) → AreMerged ds [] ds
first_alone [] = none
first_alone (d ∷ ds) = of_first (first_alone ds)

-- with more of the first
pub merged_first : (one other both ds : List Entry) → AreMerged one other both → AreMerged (one ++ ds) other (both ++ ds)
merged_first one other both ds none = first_alone ds
merged_first one other both ds (of_first {one = xs} {other = ys} {both = zs} m) = of_first (merged_first xs ys zs ds m)
merged_first one other both ds (of_other {one = xs} {other = ys} {both = zs} m) = of_other (merged_first xs ys zs ds m)

-- with one more of the other
pub merged_other : (one other both : List Entry) (x : Entry) → AreMerged one other both → AreMerged one (other ++ x ∷ []) (both ++ x ∷ [])
merged_other one other both x none = of_other none
merged_other one other both x (of_first {one = xs} {other = ys} {both = zs} m) = of_first (merged_other xs ys zs x m)
merged_other one other both x (of_other {one = xs} {other = ys} {both = zs} m) = of_other (merged_other xs ys zs x m)

-- an entry goes behind a front
pub inserted_behind : (front back : List Entry) (n d : ℕ) (x : Entry) → n ≡ length front + d → inserted (front ++ back) n x ≡ (front ++ take d back) ++ x ∷ drop d back
inserted_behind [] back n d x e =
    let same : n ≡ d = omega (arith, e) in
    ap (λ (i : ℕ). take i back ++ x ∷ drop i back) same
inserted_behind (y ∷ front) back zero d x e = absurd (omega (arith, e))
inserted_behind (y ∷ front) back (suc n) d x e = ap (λ (l : List Entry). y ∷ l) (inserted_behind front back n d x (omega (arith, e)))
