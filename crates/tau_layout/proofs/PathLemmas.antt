-- The ends of paths.
use Rattle.std.proofs.Common.{◌≡◌, ℕ, ◌^◌, ◌<◌, ◌≤◌, Bool, true, false, refl, arith}
use Rattle.tau_trace.specs.declared.step.Step.{Step}
use Rattle.tau_trace.specs.declared.step.Step.TheVariants.{Lose}
use Rattle.tau_svg.specs.Shapes.Shapes.{beside}
use Rattle.tau_layout.specs.declared.paths.spots.Spot.{Spot}
use Rattle.tau_layout.specs.Paths.Paths.{line_end, turn}

pub line_end_other : (s : Step) (right : Bool) (down : ℕ) (p : Spot) → ((m : ℕ) → s ≡ Lose m → ⊥) → line_end s right down p ≡ turn right down p
line_end_other (Lose m) right down p none = absurd (none m refl)
line_end_other s right down p none = refl

pub beside_most : (right : Bool) (x off : ℕ) → x < 2 ^ 51 → off ≤ 43 → beside right x off < 2 ^ 52
beside_most true x off l m = omega (arith, l, m)
beside_most false x off l m = omega (arith, l, m)
