-- Which edges and roots a pruned view drops (docs/rules.md, "Views").
use Rattle.std.specs.Prelude.{◌≡◌, Bool, ◌||◌}
use Rattle.tau_history.specs.declared.fate.Fate.{Fate}
use Rattle.tau_view.specs.Held.{is_closed, is_fallen}
use Rattle.tau_view.specs.Trim.{EdgeTest, RootTest, trim}
use Rattle.tau_view.specs.Dropping.{edges_by, roots_by}
use Rattle.tau_view.specs.Stored.{Stored, held}

-- an edge whose source is Closed or Fallen, or whose target is Closed
abbrev pub drops_between : Fate → Fate → Bool
drops_between from to = (is_closed from || is_fallen from) || is_closed to

abbrev pub prunes_edge : EdgeTest
prunes_edge = edges_by drops_between

-- a Closed root
abbrev pub prunes_root : RootTest
prunes_root = roots_by is_closed

-- no edge and no root is stored that is dropped
abbrev pub IsPruned : Stored → Type 0
IsPruned s = held s ≡ trim prunes_edge prunes_root (held s)
