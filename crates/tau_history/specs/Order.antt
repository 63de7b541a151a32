-- The order of histories (docs/rules.md, "Histories").
use Rattle.std.specs.Prelude.{◌≡◌, ◌≢◌, ◌⊎◌, Bool, not, ◌&&◌, IsTrue, nat_lt, ◌==◌, if◌then◌else◌}
use Rattle.tau_history.specs.Timeline.{Timeline, Move, keep, stabilize, close, fall, moved, interval}

-- only a stable history makes the move `close`
abbrev pub MayMove : Move → Timeline → Type 0
MayMove close h = IsTrue h.stable
MayMove keep h = Unit {0}
MayMove stabilize h = Unit {0}
MayMove fall h = Unit {0}

-- the second history is reached from the first by any number of moves, none included
pub data Precedes (a : Timeline) : Timeline → Type 0 where
  here : Precedes a a
  more : {b c : Timeline} → Precedes a b → (m : Move) → MayMove m b → c ≡ moved m b → Precedes a c

-- one of the two precedes the other
abbrev pub AreComparable : Timeline → Timeline → Type 0
AreComparable a b = Precedes a b ⊎ Precedes b a

-- the first precedes the second and is not the same
pub record IsBefore (a b : Timeline) : Type 0 where
  pub precedes : Precedes a b
  pub differs : a ≢ b

-- interval, incarnation and mode, compared in turn
abbrev pub ranks_before : Timeline → Timeline → Bool
ranks_before a b =
    if interval a == interval b then (if a.last == b.last then not a.stable && b.stable else nat_lt a.last b.last) else nat_lt (interval a) (interval b)

-- of two histories of which one precedes the other, the later one
abbrev pub later_of : Timeline → Timeline → Timeline
later_of a b = if ranks_before a b then b else a
