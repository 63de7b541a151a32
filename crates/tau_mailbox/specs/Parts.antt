-- The letters of each receiver.
use Rattle.std.specs.Prelude.{◌≡◌, ◌≤◌, ◌<◌, ◌+◌, ℕ, List, [], ◌∷◌, ◌++◌, map, min, length, filter, slice_index_or, slice_set}
use Rattle.tau_mailbox.specs.declared.letter.Letter.{Letter}
use Rattle.tau_mailbox.specs.Letters.{WithRoom, is_other}

-- new is old with the element at place i replaced by one to which R relates it
pub record ChangesAt (i : ℕ) (R : WithRoom → WithRoom → Type 0) (old new : List WithRoom) : Type 0 where
  pub part : WithRoom
  pub is : new ≡ slice_set old i part
  pub related : (d : WithRoom) → R (slice_index_or old i d) part

-- the same letters, and no less room
abbrev pub Keeps : WithRoom → WithRoom → Type 0
Keeps old new = (new.letters ≡ old.letters) × (old.room ≤ new.room)

-- one letter more at the end, in one place of the room
abbrev pub Gains : Letter → WithRoom → WithRoom → Type 0
Gains l old new = (new.letters ≡ old.letters ++ l ∷ []) × (old.room ≤ new.room + 1)

-- the letters without the message m, and no less room
abbrev pub Loses : ℕ → WithRoom → WithRoom → Type 0
Loses m old new = (new.letters ≡ filter (is_other m) old.letters) × (old.room ≤ new.room)

-- each part keeps its letters and no less room, and those that are new are empty
pub record Widens (old new : List WithRoom) : Type 0 where
  pub longer : length old ≤ length new
  pub kept : (q : ℕ) (d : WithRoom) → q < length old → Keeps (slice_index_or old q d) (slice_index_or new q d)
  pub fresh : (q : ℕ) (d : WithRoom) → length old ≤ q → q < length new → (slice_index_or new q d).letters ≡ []

-- the room of each part, but at most r
abbrev pub rooms_of : List WithRoom → ℕ → List ℕ
rooms_of ps r = map (λ p. min p.room r) ps
