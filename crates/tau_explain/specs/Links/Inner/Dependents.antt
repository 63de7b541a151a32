-- Links that marked steps make, turned round, as a search backwards goes through them.
use Rattle.std.specs.Prelude.{◌≡◌, ◌⊎◌, ℕ, suc, ◌≤◌, ◌<◌, Bool, true, List, [], Option, Some, None, Contains, slice_get, set, length}
use Rattle.tau_history.specs.Timeline.{numbers}
use Rattle.tau_points.specs.declared.point.Point.{Point}
use Rattle.tau_points.specs.Members.{AddsAll}
use Rattle.tau_trace.specs.Run.{Run, len}
use Rattle.tau_trace.specs.Histories.{history}
use Rattle.tau_trace.specs.Known.{WellFormed}
use Rattle.tau_past.specs.declared.carrying.Carrying.{Carrying}
use Rattle.tau_past.specs.Carried.{Carried}
use Rattle.tau_past.specs.Audits.{ChecksAt}
use Rattle.tau_past.specs.Tables.{TakesAt}
use Rattle.tau_explain.specs.Links.Links.{Makes}
use Rattle.tau_explain.specs.Links.Marks.{IsMarked}
use Rattle.tau_explain.specs.Links.Inner.Rows.{touched_by, rests_of, AreRows}

-- p's transactor came to p in the trace: at p's interval it had p's incarnation or a later one
pub record CameTo (T : Run) (p : Point) : Type 0 where
  pub number : ℕ
  pub has : slice_get (numbers (history T p.who (len T))) p.interval ≡ Some number
  pub reached : p.incarnation ≤ number

-- a marked step makes the link from p to q
pub record IsLinked (T : Run) (marks : List Bool) (p q : Point) : Type 0 where
  pub came : CameTo T p
  pub place : ℕ
  pub marked : IsMarked marks place
  pub makes : Makes T place p q

-- by the step at a marked place p takes what it carries
pub record Takes (T : Run) (marks : List Bool) (p : Point) (j : ℕ) : Type 0 where
  pub marked : IsMarked marks j
  pub takes : TakesAt T p j

-- a marked place at which p takes was gone through
pub record HasPassed (T : Run) (marks passed : List Bool) (p : Point) : Type 0 where
  pub place : ℕ
  pub gone_through : IsMarked passed place
  pub takes : Takes T marks p place

-- the marked place of the Checkpoint that was made at q
abbrev pub TellsCheckpoint : Run → List Bool → Point → Option ℕ → Type 0
TellsCheckpoint T marks q None = (j : ℕ) → IsMarked marks j → ¬ ChecksAt T j q
TellsCheckpoint T marks q (Some j) = IsMarked marks j × ChecksAt T j q

-- with a place all that rest on it were gone through
abbrev pub IsPassedOn : List Carrying → List Bool → Type 0
IsPassedOn carrying passed = (i j : ℕ) → IsMarked passed i → slice_get (rests_of carrying) j ≡ Some (Some i) → IsMarked passed j

-- one place of a search: it was gone through before, and nothing changes; or it is now, its taker is pushed, and all that
-- rest on it are left
pub data PassesPlace (T : Run) (marks : List Bool) (carrying : List Carrying) (place : ℕ) (passed0 passed : List Bool) (left0 left : List ℕ) (into0 into : List Point) : Type 0 where
  known : IsMarked passed0 place → passed ≡ passed0 → left ≡ left0 → into ≡ into0 → PassesPlace T marks carrying place passed0 passed left0 left into0 into
  fresh : (¬ IsMarked passed0 place) → passed ≡ set passed0 place true → AddsAll (λ j. slice_get (rests_of carrying) j ≡ Some (Some place)) left0 left
      → AddsAll (λ p. Takes T marks p place) into0 into → PassesPlace T marks carrying place passed0 passed left0 left into0 into

-- places that carry q are gone through, some are left; takers of those gone through are pushed
pub record Spreads (T : Run) (marks : List Bool) (carrying : List Carrying) (q : Point) (passed0 passed : List Bool) (left : List ℕ) (into0 into : List Point) : Type 0 where
  pub kept : (j : ℕ) → IsMarked passed0 j → IsMarked passed j
  pub carries_left : (j : ℕ) → Contains left j → Carried T j q
  pub carries : (j : ℕ) → IsMarked passed j → IsMarked passed0 j ⊎ Carried T j q
  pub touching : (j : ℕ) → slice_get (touched_by carrying) j ≡ Some (Some q) → IsMarked passed j ⊎ Contains left j
  pub resting : (i j : ℕ) → IsMarked passed i → slice_get (rests_of carrying) j ≡ Some (Some i) → IsMarked passed j ⊎ Contains left j
  pub into_kept : (p : Point) → Contains into0 p → Contains into p
  pub allowed : (p : Point) → Contains into p → Contains into0 p ⊎ ((j : ℕ) × Takes T marks p j × Carried T j q)
  pub takers : (p : Point) (j : ℕ) → IsMarked passed j → Takes T marks p j → Contains into p ⊎ IsMarked passed0 j

-- all places that carry q are gone through, and their takers pushed
pub record AddsTakers (T : Run) (marks : List Bool) (q : Point) (passed0 passed : List Bool) (into0 into : List Point) : Type 0 where
  pub all : (j : ℕ) → Carried T j q → IsMarked passed j
  pub allowed : (p : Point) → Contains into p → Contains into0 p ⊎ ((j : ℕ) × Takes T marks p j × Carried T j q)
  pub takers : (p : Point) (j : ℕ) → IsMarked passed j → Takes T marks p j → Contains into p ⊎ IsMarked passed0 j

-- p is the transactor's point at the interval with a lesser incarnation
abbrev pub IsBelowNumber : ℕ → ℕ → ℕ → Point → Type 0
IsBelowNumber who interval number p = (p.who ≡ who) × (p.interval ≡ interval) × (p.incarnation < number)

-- p is the transactor's point at the interval with at most this incarnation
abbrev pub IsUpToNumber : ℕ → ℕ → ℕ → Point → Type 0
IsUpToNumber who interval number p = (p.who ≡ who) × (p.interval ≡ interval) × (p.incarnation ≤ number)

-- the points of the interval after q's to which q's transactor came, where a marked Checkpoint was made at q
pub record IsAbove (T : Run) (marks : List Bool) (q p : Point) : Type 0 where
  pub place : ℕ
  pub marked : IsMarked marks place
  pub checks : ChecksAt T place q
  pub who_is : p.who ≡ q.who
  pub interval_is : p.interval ≡ suc q.interval
  pub came : CameTo T p

-- a search can go on: the rows are those of the trace, nothing is left, and with a place all that rest on it were gone through
pub record IsReady (T : Run) (last_touching : Point → Option ℕ) (earlier_touching last_resting earlier_resting : List (Option ℕ)) (passed : List Bool) : Type 0 where
  pub carrying : List Carrying
  pub rows : AreRows T (len T) carrying last_touching earlier_touching last_resting earlier_resting
  pub count : length passed ≡ len T
  pub on : IsPassedOn carrying passed

-- a search can go on from a point: there is a mark for each step, the Checkpoints are told, and nothing is left
pub record CanSearch (T : Run) (marks : List Bool) (checkpoints last_touching : Point → Option ℕ) (earlier_touching last_resting earlier_resting : List (Option ℕ)) (passed : List Bool) (left : List ℕ) : Type 0 where
  pub well_formed : WellFormed T
  pub marks_count : length marks ≡ len T
  pub told : (q : Point) → TellsCheckpoint T marks q (checkpoints q)
  pub ready : IsReady T last_touching earlier_touching last_resting earlier_resting passed
  pub none_left : left ≡ []
