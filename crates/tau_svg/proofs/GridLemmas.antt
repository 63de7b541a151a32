-- Bounds on products and quotients of measures.
use Rattle.std.proofs.Common.{ℕ, ◌+◌, ◌-◌, ◌*◌, ◌/◌, ◌^◌, ◌<◌, ◌≤◌, arith}
use Rattle.std.proofs.Math.Nat.{mul-le-mul, mul-le-mul_left, mul-le-mul_right, div-le_self}
use Rattle.tau_svg.specs.Shapes.Grids.{rows_height}

pub lane_step : (lane rank : ℕ) → lane ≤ 116 → rank < 2 ^ 40 → lane * rank < 2 ^ 47
lane_step lane rank l r = omega (arith, mul-le-mul_right rank l)

pub row_step : (row n : ℕ) → row ≤ 18 → n < 2 ^ 32 → row * n < 2 ^ 37
row_step row n l r = omega (arith, mul-le-mul_right n l)

-- lines of names
pub names_step : (names rows : ℕ) → names < 2 ^ 35 → rows < 2 ^ 32 → names * (rows / 50) ≤ 2 ^ 62
names_step names rows n r =
    let below : names ≤ 2 ^ 35 = omega (arith, n) in
    let few : rows / 50 ≤ 2 ^ 27 = omega (arith, r) in
    omega (arith, mul-le-mul below few)

-- more rows go further down
pub rows_grow : (row names a b : ℕ) → a ≤ b → rows_height row names a ≤ rows_height row names b
rows_grow row names a b le =
    let lines : a / 50 ≤ b / 50 = omega (arith, le) in
    omega (arith, mul-le-mul_left row le, mul-le-mul_left names lines)

pub strip_part : (width row : ℕ) → width < 2 ^ 50 → row ≤ 2000 → (width - 78) * row < 2 ^ 61
strip_part width row w r =
    let below : width - 78 ≤ 2 ^ 50 = omega arith in
    omega (arith, mul-le-mul below r)

pub quotient_below : (n k : ℕ) → n / k ≤ n
quotient_below n k = div-le_self n k
