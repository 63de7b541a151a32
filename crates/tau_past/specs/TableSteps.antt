-- How a step goes on with the tables, by its kind.
use Rattle.std.specs.Option.{option_map_or}
use Rattle.std.specs.Prelude.{ℕ, ◌-◌, Bool, true, false, Option, None, Some, List, slice_get, nat_lt, option_map, if◌then◌else◌, ◌||◌, ◌==◌}
use Rattle.tau_history.specs.Timeline.{Timeline, interval, numbers, opening, newborn}
use Rattle.tau_points.specs.declared.point.Point.{Point}
use Rattle.tau_trace.specs.declared.step.Step.{Step}
use Rattle.tau_trace.specs.declared.step.Step.TheVariants.{Take, Set, New}
use Rattle.tau_trace.specs.Steps.{ends_turn, is_send}
use Rattle.tau_trace.specs.Run.{Run, step_at}
use Rattle.tau_past.specs.declared.carrying.Carrying.{Carrying}
use Rattle.tau_past.specs.declared.made.Made.{Made}
use Rattle.tau_past.specs.Carried.{touches, first_point}
use Rattle.tau_past.specs.Tables.{nothing, same_point}

-- what the turn of a transactor carries
abbrev pub carrying_of : Option (Option Carrying) → Carrying
carrying_of (Some (Some c)) = c
carrying_of (Some None) = nothing
carrying_of None = nothing

abbrev pub carried_by : List (Option Carrying) → Option ℕ → Carrying
carried_by turns None = nothing
carried_by turns (Some t) = carrying_of (slice_get turns t)

-- the place, where a Send stands there
abbrev pub send_place : Run → ℕ → Option ℕ
send_place T k = if option_map_or is_send (step_at T k) false then Some k else None

-- what the turn carries after a step of its own
abbrev pub turn_after : Step → ℕ → Point → Option ℕ → Option Carrying → Option Carrying
turn_after (Take t m) k own origin turn = Some (record { touched = None; rest = origin })
turn_after s k own origin turn =
    if ends_turn s then None else (if touches s then option_map (λ c. record { touched = Some own; rest = Some k }) turn else turn)

abbrev pub point_of : ℕ → Timeline → Point
point_of t h = record { who = t; interval = interval h; incarnation = h.last }

abbrev pub taker : Step → Point → ℕ → Option Point
taker (Set t v) own u = Some own
taker (New t b n v) own u = Some (first_point u)
taker s own u = None

-- the last place at which the point, if there is one, takes
abbrev pub latest_for : (Point → Option ℕ) → Option Point → Option ℕ
latest_for latest None = None
latest_for latest (Some p) = latest p

-- the last places at which points take, after the point, if there is one, takes at place k
abbrev pub latest_after : (Point → Option ℕ) → Option Point → ℕ → Point → Option ℕ
latest_after latest None k q = latest q
latest_after latest (Some p) k q = if same_point p q then Some k else latest q

-- the point at which the interval before the point's was closed, by the history of its transactor
abbrev pub closing_in : Timeline → Point → Option Point
closing_in h p =
    if (p.interval == 0 || nat_lt (interval h) p.interval) then None
    else option_map (λ n. record { who = p.who; interval = p.interval - 1; incarnation = n }) (slice_get (numbers h) (p.interval - 1))

-- the history with which a transactor opens
abbrev pub opening_history : ℕ → ℕ → Timeline
opening_history starts t = if nat_lt t starts then opening else newborn

-- the point at which a step was made, where it is a Checkpoint
abbrev pub checked_point : Bool → Option Made → Option Point
checked_point true (Some m) = Some m.point
checked_point true None = None
checked_point false m = None
