-- What a trace keeps of each transactor and message beside its steps, and what that means.
use Rattle.std.specs.Prelude.{◌≡◌, ℕ, zero, ◌<◌, Bool, true, false, ◌&&◌, ◌==◌, if◌then◌else◌, List, Option, Some, None, is_none, is_some, slice_get, length}
use Rattle.tau_history.specs.Timeline.{interval, Move, keep, stabilize, close, fall}
use Rattle.tau_trace.specs.declared.step.Step.{Step}
use Rattle.tau_trace.specs.declared.transactor.Transactor.{Transactor}
use Rattle.tau_trace.specs.Steps.{ends_turn, is_take}
use Rattle.tau_trace.specs.Run.{Run, len}
use Rattle.tau_trace.specs.Places.{IsFirst}
use Rattle.tau_trace.specs.Numbering.{born, IsHome}
use Rattle.tau_trace.specs.Histories.{history, move_of, EndsAt}
use Rattle.tau_trace.specs.Turns.{IsOpenTurn}

-- a start transactor at the opening, and one right after its New
abbrev pub opened_at : ℕ → Transactor
opened_at n = record { home = n; turn = None; end = None; stable = false; at_opening = false }

abbrev pub created_at : ℕ → Transactor
created_at n = record { home = n; turn = None; end = None; stable = false; at_opening = true }

-- the turn that is open after a step at place k
abbrev pub turn_after : Step → ℕ → Option ℕ → Option ℕ
turn_after s k turn = if is_take s then Some k else (if ends_turn s then None else turn)

-- the first falling step at interval 0 is the end
abbrev pub end_after : Move → ℕ → Bool → Option ℕ → Option ℕ
end_after fall k at_opening end = if at_opening && is_none end then Some k else end
end_after m k at_opening end = end

abbrev pub stable_after : Move → Bool → Bool
stable_after keep stable = stable
stable_after stabilize stable = true
stable_after close stable = false
stable_after fall stable = false

abbrev pub at_opening_after : Move → Bool → Bool
at_opening_after close at_opening = false
at_opening_after m at_opening = at_opening

-- a transactor after a step of its own at place k
abbrev pub transactor_after : Step → ℕ → Transactor → Transactor
transactor_after s k r = record {
  home = r.home;
  turn = turn_after s k r.turn;
  end = end_after (move_of r.stable s) k r.at_opening r.end;
  stable = stable_after (move_of r.stable s) r.stable;
  at_opening = at_opening_after (move_of r.stable s) r.at_opening;
}

-- and after a falling step
abbrev pub transactor_fallen : ℕ → Transactor → Transactor
transactor_fallen k r = record { home = r.home; turn = None; end = end_after fall k r.at_opening r.end; stable = false; at_opening = r.at_opening }

-- it has ended in the later record, and not yet in the first
abbrev pub ends_by : Transactor → Transactor → Bool
ends_by r later = is_none r.end && is_some later.end

-- the record says what the steps below place k say of transactor t
pub record Tracks (T : Run) (k t : ℕ) (r : Transactor) : Type 0 where
  pub home : IsHome T t r.home
  pub turn : IsOpenTurn T t k r.turn
  pub end : IsFirst (EndsAt T t) k r.end
  pub stable : r.stable ≡ (history T t k).stable
  pub at_opening : r.at_opening ≡ (interval (history T t k) == 0)

-- a record for each transactor
pub record TracksAll (T : Run) (records : List Transactor) : Type 0 where
  pub count : length records ≡ born T (len T)
  pub each : (t : ℕ) (r : Transactor) → slice_get records t ≡ Some r → Tracks T (len T) t r
