-- Histories of a transactor as contracts see them, and their moves (docs/rules.md, "Histories").
use Rattle.std.specs.Prelude.{ℕ, ◌+◌, Bool, true, false, List, [], ◌∷◌, ◌++◌, length}

-- a history: its mode, stable or volatile; the numbers of its closed intervals; the number of its present one
pub record Timeline : Type 0 where
  pub stable : Bool
  pub closed : List ℕ
  pub last : ℕ

-- all incarnation numbers of the history, that of its present interval last
abbrev pub numbers : Timeline → List ℕ
numbers h = h.closed ++ h.last ∷ []

-- the present interval, counted from 0
abbrev pub interval : Timeline → ℕ
interval h = length h.closed

-- the history with which a start transactor opens
abbrev pub opening : Timeline
opening = record { stable = false; closed = 0 ∷ []; last = 0 }

-- the history with which a created transactor opens
abbrev pub newborn : Timeline
newborn = record { stable = false; closed = []; last = 0 }

-- what a step makes of a history; `keep` is no change
pub data Move : Type 0 where
  keep : Move
  stabilize : Move
  close : Move
  fall : Move

-- the history after a move
abbrev pub moved : Move → Timeline → Timeline
moved keep h = h
moved stabilize h = record { stable = true; closed = h.closed; last = h.last }
moved close h = record { stable = false; closed = numbers h; last = 0 }
moved fall h = record { stable = false; closed = h.closed; last = h.last + 1 }
