-- The fate of a point by a history of its transactor (docs/rules.md, "Fates").
use Rattle.std.specs.Prelude.{◌≡◌, ℕ, ◌<◌, ◌≤◌, Bool, IsTrue, IsFalse, Option, Some, None, nat_lt, slice_get, slice_index, if◌then◌else◌, ◌==◌}
use Rattle.tau_history.specs.Timeline.{Timeline, numbers, interval}
use Rattle.tau_history.specs.declared.fate.Fate.{Fate}
use Rattle.tau_history.specs.declared.fate.Fate.TheVariants.{Ahead, Open, Stable, Closed, Fallen}

-- the point is where the history stands
pub record IsOwn (h : Timeline) (i m : ℕ) : Type 0 where
  pub interval_is : i ≡ interval h
  pub incarnation_is : m ≡ h.last

-- the fate, where the history has this number at the point's interval; `own` says that this interval is the present one
abbrev pub fate_at : Bool → Bool → ℕ → Option ℕ → Fate
fate_at own stable m None = Ahead
fate_at own stable m (Some n) = if nat_lt m n then Fallen else (if nat_lt n m then Ahead else (if own then (if stable then Stable else Open) else Closed))

-- the fate of the point at interval i and incarnation m
abbrev pub fate : Timeline → ℕ → ℕ → Fate
fate h i m = fate_at (i == interval h) h.stable m (slice_get (numbers h) i)

-- the table of fates, a row for each. The interval was closed at this number
pub record IsClosed (h : Timeline) (i m : ℕ) : Type 0 where
  pub below : i < interval h
  pub number : m ≡ slice_index (numbers h) i

-- the history fell from this number
pub record IsFallen (h : Timeline) (i m : ℕ) : Type 0 where
  pub within : i ≤ interval h
  pub below_number : m < slice_index (numbers h) i

-- the history stands there, and is stable
pub record IsStable (h : Timeline) (i m : ℕ) : Type 0 where
  pub own : IsOwn h i m
  pub mode : IsTrue h.stable

-- the history stands there, and is volatile
pub record IsOpen (h : Timeline) (i m : ℕ) : Type 0 where
  pub own : IsOwn h i m
  pub mode : IsFalse h.stable

-- every other point
pub record IsAhead (h : Timeline) (i m : ℕ) : Type 0 where
  pub not_closed : ¬ IsClosed h i m
  pub not_fallen : ¬ IsFallen h i m
  pub not_stable : ¬ IsStable h i m
  pub not_open : ¬ IsOpen h i m

-- the row of a fate
abbrev pub HasFate : Timeline → ℕ → ℕ → Fate → Type 0
HasFate h i m Ahead = IsAhead h i m
HasFate h i m Open = IsOpen h i m
HasFate h i m Stable = IsStable h i m
HasFate h i m Closed = IsClosed h i m
HasFate h i m Fallen = IsFallen h i m
