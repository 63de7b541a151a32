-- The paths of messages to those that receive them (docs/formats.md, "Pictures").
use Rattle.std.specs.Prelude.{ℕ, ◌+◌, ◌-◌, ◌*◌, ◌%◌, Bool, false, not, if◌then◌else◌, List, ◌++◌, codes}
use Rattle.tau_svg.specs.Markup.Lines.{Piece}
use Rattle.tau_trace.specs.declared.step.Step.{Step}
use Rattle.tau_trace.specs.declared.step.Step.TheVariants.{Fall, Lose}
use Rattle.tau_svg.specs.Shapes.Shapes.{go, go_to, beside}
use Rattle.tau_layout.specs.declared.paths.spots.Spot.{Spot}
use Rattle.tau_layout.specs.declared.paths.sources.Sender.{Sender}
use Rattle.tau_layout.specs.declared.paths.sources.Source.{Source}
use Rattle.tau_layout.specs.declared.paths.sources.Source.TheVariants.{Post, Earlier, Drawn}

-- how far beside the middle of a lane a line comes down, by a number
abbrev pub track : Bool → ℕ → ℕ
track wide n = if wide then 28 + 5 * (n % 4) else 10 + 3 * (n % 4)

-- the same of the line of message m to a step: that of a Lose comes down at it, and a Fall has another track than the receipt
-- that follows
abbrev pub offset : Bool → Step → ℕ → ℕ
offset wide (Lose n) m = 16
offset wide (Fall t n) m = track wide (m + 2)
offset wide s m = track wide m

-- how far beside the middle of the lane the line of a post ends
abbrev pub gap : Step → ℕ
gap (Lose m) = 16
gap s = 6

-- a curve by one middle to an end
abbrev pub curve : ℕ → ℕ → ℕ → ℕ → List Piece
curve x y to_x to_y = go_to (codes "Q") x y ++ go_to (codes " ") to_x to_y

-- a line that comes down at `down` ends in the row of the step, in the lane whose middle is p: 6 beside the middle, and for a Lose
-- where it comes down
abbrev pub turn : Bool → ℕ → Spot → List Piece
turn right down p = go (codes "V") (p.y - 5) ++ (curve down p.y (beside (not right) down 3) p.y ++ go (codes "H") (beside right p.x 6))

abbrev pub line_end : Step → Bool → ℕ → Spot → List Piece
line_end (Lose m) right down p = go (codes "V") p.y
line_end s right down p = turn right down p

-- a post comes from the left
abbrev pub post_path : Step → Spot → List Piece
post_path s p = go_to (codes "M") (p.x - 24) p.y ++ go (codes "H") (p.x - gap s)

-- a message whose origin isn't drawn comes from above, on the left of the lane
abbrev pub earlier_path : ℕ → Step → ℕ → Spot → List Piece
earlier_path top s down p = go_to (codes "M") down (top - 12) ++ line_end s false down p

-- and another one from the spot of its sender, along the row of that
abbrev pub way_end : Sender → ℕ → ℕ
way_end q down = if q.own then down - 5 else beside q.right down 5

abbrev pub drawn_path : Sender → Step → ℕ → Spot → List Piece
drawn_path q s down p =
    go_to (codes "M") q.spot.x q.spot.y ++ (go (codes "H") (way_end q down) ++ (curve down q.spot.y down (q.spot.y + 5) ++ line_end s q.right down p))

-- the path of message m to a step, the lanes' top and the middle of the step's lane being given
abbrev pub receipt_path : Bool → ℕ → Step → ℕ → Source → Spot → List Piece
receipt_path wide top s m Post p = post_path s p
receipt_path wide top s m (Earlier o) p = earlier_path top s (p.x - offset wide s m) p
receipt_path wide top s m (Drawn q) p = drawn_path q s (beside q.right p.x (offset wide s m)) p
