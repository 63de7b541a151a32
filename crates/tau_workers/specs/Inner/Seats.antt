-- The seats of workers.
use Rattle.std.specs.Prelude.{◌≡◌, length}
use Rattle.tau_seat.specs.Seated.{Tabled, Seated}
use Rattle.tau_seat.specs.SeatPlaces.{Placed}

-- a seat of this table, which names its program and limit
abbrev pub IsSeatOf : Tabled → Seated → Type 0
IsSeatOf t s = (s.table ≡ t.table) × (s.program ≡ t.program) × (s.limit ≡ t.limit)

-- a place at such a seat with one number
abbrev pub HasOne : Tabled → Placed → Type 0
HasOne t p = IsSeatOf t p.seat × (length p.seat.numbers ≡ 1)
