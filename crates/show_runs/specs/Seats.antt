-- The two seats of a table.
use Rattle.std.specs.Prelude.{◌≡◌, length}
use Rattle.tau_seat.specs.Seated.{Tabled, Seated}

-- a seat of this table with one number
abbrev pub IsAt : Tabled → Seated → Type 0
IsAt t s = (s.table ≡ t.table) × (length s.numbers ≡ 1)
