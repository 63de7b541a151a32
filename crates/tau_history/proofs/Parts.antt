-- The closed form of the order of histories.
use Rattle.std.proofs.Common.{◌≡◌, ℕ, ◌≤◌, ◌↔◌, List, ◌∷◌, ◌++◌, length, take, refl, sym, ap, ◌∙◌, arith}
use Rattle.std.specs.Prelude.{slice_get}
use Rattle.std.proofs.Math.Seq.{take-length}
use Rattle.std.proofs.lemmas.Bool.{le-leb}
use Rattle.std.proofs.lemmas.List.{take-append-le}
use Rattle.tau_history.specs.Timeline.{Timeline, interval}
use Rattle.tau_history.specs.Order.{Precedes}
use Rattle.tau_history.specs.Parts.{PrecedesByParts, by_interval, by_incarnation, by_mode}
use Rattle.tau_history.proofs.Gets.{slice_get-seam}
use Rattle.tau_history.proofs.Order.{IsBelow, fallen, same_point, later_interval, below_of, precedes_of, longer}
use Rattle.tau_history.proofs.Precedence.{tells_shorter}

-- the closed numbers of a later interval begin with those of an earlier one, and go on with its number
front_is : (xs : List ℕ) (n : ℕ) (rest ys : List ℕ) (k : ℕ) → ys ≡ xs ++ n ∷ rest → k ≡ length xs → xs ≡ take k ys
front_is xs n rest ys k e h =
    let le : k ≤ length xs = omega arith in
    sym (ap (take k) e ∙ take-append-le k xs (n ∷ rest) le ∙ ap (λ j. take j xs) h ∙ take-length xs)

parts_of_below : (a b : Timeline) → IsBelow a b → PrecedesByParts a b
parts_of_below a b (fallen e l) = by_incarnation e l
parts_of_below a b (same_point e l s) = by_mode e l s
parts_of_below a b (later_interval n r e l) =
    by_interval (longer a b n r e) (front_is a.closed n r b.closed (interval a) e refl) (ap (λ xs. slice_get xs (interval a)) e ∙ slice_get-seam a.closed n r) l

precedes_by_parts : (a b : Timeline) → PrecedesByParts a b → Precedes a b
precedes_by_parts a b (by_interval {n = n} lt front number le) =
    (tells_shorter a b a.last n lt refl number).suffices (le-leb a.last n le) (record { is = front; shorter = omega arith })
precedes_by_parts a b (by_incarnation e l) = precedes_of a b (fallen e l)
precedes_by_parts a b (by_mode e l s) = precedes_of a b (same_point e l s)

pub precedence_by_parts : (a b : Timeline) → Precedes a b ↔ PrecedesByParts a b
precedence_by_parts a b = (λ p. parts_of_below a b (below_of p), λ p. precedes_by_parts a b p)
