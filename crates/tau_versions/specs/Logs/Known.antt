-- What the history of a transactor at its bound tells of what is known in a set of places.
use Rattle.std.specs.Prelude.{◌≡◌, ◌↔◌, ℕ}
use Rattle.tau_history.specs.Fates.{fate}
use Rattle.tau_history.specs.declared.fate.Fate.TheVariants.{Stable, Closed, Fallen}
use Rattle.tau_points.specs.declared.point.Point.{Point}
use Rattle.tau_trace.specs.Run.{Run}
use Rattle.tau_trace.specs.Histories.{history}
use Rattle.tau_past.specs.Heard.{Bound}
use Rattle.tau_past.specs.Pasts.{FellIn, StabilizedIn}
use Rattle.tau_versions.specs.Logs.Takes.{ClosedIn}

-- the fate of q by its transactor's history at place a tells what is known of q in H
pub record TellsKnown (T : Run) (H : ℕ → Type 0) (q : Point) (a : ℕ) : Type 0 where
  pub fallen : (fate (history T q.who a) q.interval q.incarnation ≡ Fallen) ↔ FellIn T H q
  pub closed : (fate (history T q.who a) q.interval q.incarnation ≡ Closed) ↔ ClosedIn T H q
  pub stable : fate (history T q.who a) q.interval q.incarnation ≡ Stable → StabilizedIn T H q

-- where a is the bound of H at a point's transactor, the history there tells what is known of the point in H
abbrev pub FatesAtBoundsTellTheKnown : (ℕ → Type 0) → Type 0
FatesAtBoundsTellTheKnown H = (T : Run) (q : Point) (a : ℕ) → Bound T H q.who a → TellsKnown T H q a
