-- The link to the interval before, as a value.
use Rattle.std.specs.Prelude.{ℕ, ◌-◌, ◌==◌, Option, Some, None, if◌then◌else◌}
use Rattle.std.specs.Option.{option_map}
use Rattle.tau_points.specs.declared.point.Point.{Point}
use Rattle.tau_view.specs.Held.{Histories}
use Rattle.tau_view.specs.Past.{number_in}

-- the point of the interval before, as the history of the point's transactor has it
abbrev pub before_in : Histories → Point → Option Point
before_in hs p =
    if p.interval == 0 then None else option_map (λ n. record { who = p.who; interval = p.interval - 1; incarnation = n }) (number_in (hs p.who) (p.interval - 1))
