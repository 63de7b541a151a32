-- Ranges of bytes that a test holds of, byte by byte.
use Rattle.std.proofs.Common.{◌≡◌, ℕ, ◌+◌, ◌-◌, ◌≤◌, List, ◌++◌, length, drop, sym, ap, ◌∙◌, arith, length-drop}
use Rattle.std.specs.List.{slice_range}
use Rattle.std.proofs.lemmas.List.{take-append-drop, drop-drop, length-take-le}

-- what is left at a, as a range and what is left after it
pub drop-range : (xs : List ℕ) (a b : ℕ) → a ≤ b → drop a xs ≡ slice_range xs a b ++ drop b xs
drop-range xs a b le =
    let place : a + (b - a) ≡ b = omega arith in
    sym (take-append-drop (b - a) (drop a xs)) ∙ ap (λ ys. slice_range xs a b ++ ys) (drop-drop (b - a) a xs ∙ ap (λ k. drop k xs) place)

pub length-range : (xs : List ℕ) (a b : ℕ) → a ≤ b → b ≤ length xs → length (slice_range xs a b) ≡ b - a
length-range xs a b le most = length-take-le (b - a) (drop a xs) (rw (length-drop a xs) (omega arith))
