-- Seats of a table.
use Rattle.std.proofs.Common.{◌≡◌, length, ap, ◌∙◌}
use Rattle.tau_seat.specs.Seated.{Tabled, Seated, Stays}
use Rattle.show_runs.specs.Seats.{IsAt}

-- a seat stays a seat of its table
pub stays_at : (t : Tabled) (old new : Seated) → IsAt t old → Stays old new → IsAt t new
stays_at t old new at stays = (stays.table_is ∙ at.0, ap length stays.numbers_are ∙ at.1)
