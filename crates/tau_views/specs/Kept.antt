-- The views that are kept of a run (docs/definitions.md, "View of what was heard").
use Rattle.std.specs.Prelude.{◌≡◌, ℕ, ◌<◌, Option, Some, None, List, length, map, slice_get}
use Rattle.std.specs.Option.{option_map}
use Rattle.tau_view.specs.Held.{Held}
use Rattle.tau_view.specs.Trim.{EdgeTest, RootTest, trim}
use Rattle.tau_trace.specs.Run.{Run, len}
use Rattle.tau_trace.specs.Numbering.{born, sent, InFlight}
use Rattle.tau_views.specs.Views.{IsViewOf, IsMessageView}

-- what is held is, trimmed, what was heard
pub record IsTrimmed (de : EdgeTest) (dr : RootTest) (IsWhole : Held → Type 0) (h : Held) : Type 0 where
  pub whole : Held
  pub is_whole : IsWhole whole
  pub is : h ≡ trim de dr whole

-- what the views of transactors hold, and those of messages; of a message that isn't in flight there is none
abbrev pub held_of : {V : Type 0} → (V → Held) → List V → List Held
held_of held vs = map held vs

abbrev pub letters_of : {V : Type 0} → (V → Held) → List (Option V) → List (Option Held)
letters_of held vs = map (option_map held) vs

-- a view of each transactor, and of each message that is in flight after the run
pub record AreViews (de : EdgeTest) (dr : RootTest) (T : Run) (own : List Held) (letters : List (Option Held)) : Type 0 where
  pub transactors : length own ≡ born T (len T)
  pub each : (t : ℕ) (h : Held) → slice_get own t ≡ Some h → IsTrimmed de dr (IsViewOf T t (len T)) h
  pub messages : length letters ≡ sent T (len T)
  pub letter : (m : ℕ) (h : Held) → slice_get letters m ≡ Some (Some h) → IsTrimmed de dr (IsMessageView T m) h
  pub in_flight : (m : ℕ) → InFlight T m (len T) → (h : Held) × (slice_get letters m ≡ Some (Some h))
  pub gone : (m : ℕ) → m < sent T (len T) → ¬ InFlight T m (len T) → slice_get letters m ≡ Some None
