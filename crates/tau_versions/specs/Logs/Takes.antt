-- What the logs say of what points take.
use Rattle.std.specs.Prelude.{◌≡◌, ◌≢◌, ◌⊎◌, ◌↔◌, ℕ, suc, ◌-◌, ◌<◌, ◌≤◌, List, [], ◌∷◌, ◌++◌, length, take, drop, Some, Contains, slice_get}
use Rattle.tau_points.specs.declared.point.Point.{Point}
use Rattle.tau_trace.specs.Run.{Run, Does}
use Rattle.tau_trace.specs.Points.{point_at, Leaves}
use Rattle.tau_trace.specs.Numbering.{IsNew}
use Rattle.tau_trace.specs.Known.{WellFormed}
use Rattle.tau_past.specs.Carried.{Pending, SentWith, TakesBy, is_set}
use Rattle.tau_past.specs.Heard.{Own, Heard, HeardBy}
use Rattle.tau_past.specs.Pasts.{ClosesAt}
use Rattle.tau_versions.specs.declared.logs.version.Version.{Version}
use Rattle.tau_versions.specs.Logs.Versions.{IsLatest}
use Rattle.tau_versions.specs.Logs.Told.{Told}

-- what the version's point has taken
abbrev pub taken : List Point → Version → List Point
taken takes v = take (v.last - v.first) (drop v.first takes)

-- q is closed, known in H: a Checkpoint in H was made at it, or it is the opening point of a start
abbrev pub ClosedIn : Run → (ℕ → Type 0) → Point → Type 0
ClosedIn T H q = ClosesAt T H q.who q.interval q

-- what is taken at place j is covered by a list, known in H: q is listed or closed, or a listed or a closed point took it
-- at an earlier place
pub data Covered (T : Run) (H : ℕ → Type 0) (listed : List Point) (j : ℕ) (q : Point) : Type 0 where
  is_listed : Contains listed q → Covered T H listed j q
  is_closed : ClosedIn T H q → Covered T H listed j q
  through : {r : Point} {i : ℕ} → Contains listed r ⊎ ClosedIn T H r → i < j → H i → TakesBy T i r q → Covered T H listed j q

-- the listed points were taken by u's point at place a, before it or at u's New, and they cover all that was
pub record TellsTaken (T : Run) (u a : ℕ) (listed : List Point) : Type 0 where
  pub took : (q : Point) → Contains listed q → (j : ℕ) × Own T u a j × TakesBy T j (point_at T u a) q
  pub covers : (j : ℕ) (q : Point) → Own T u a j → TakesBy T j (point_at T u a) q → Covered T (Heard T u a) listed j q

-- the log tells at each place up to n what u's point there has taken
pub record TellsTakes (T : Run) (u n : ℕ) (log : Told) : Type 0 where
  pub within : (i : ℕ) (v : Version) → slice_get log.versions i ≡ Some v → (v.first ≤ v.last) × (v.last ≤ length log.takes)
  pub told : (a i : ℕ) (v : Version) → a ≤ n → IsLatest log.versions a i v → TellsTaken T u a (taken log.takes v)

-- where the point stays and takes nothing, what it has taken stays
abbrev pub TakenStays : Type 0
TakenStays = (T : Run) (u n : ℕ) (listed : List Point) → point_at T u (suc n) ≡ point_at T u n → ((q : Point) → ¬ TakesBy T n (point_at T u n) q)
    → TellsTaken T u n listed → TellsTaken T u (suc n) listed

-- a point that was reached by a Checkpoint or a falling step has taken nothing
abbrev pub ReachedPointsHaveTakenNothing : Type 0
ReachedPointsHaveTakenNothing = (T : Run) (u n : ℕ) → WellFormed T → Leaves T u n → TellsTaken T u (suc n) []

-- the roots of u at place n are pending there, and cover all that is
pub record TellsPending (T : Run) (u n : ℕ) (roots : List Point) : Type 0 where
  pub pending : (q : Point) → Contains roots q → Pending T u n q
  pub covers : (q : Point) → Pending T u n q → Covered T (Heard T u n) roots n q

-- the roots of message m are carried by it, and cover at place n all that is
pub record TellsSent (T : Run) (m n : ℕ) (roots : List Point) : Type 0 where
  pub sent : (q : Point) → Contains roots q → SentWith T m q
  pub covers : (q : Point) → SentWith T m q → Covered T (HeardBy T m) roots n q

-- by a Set u's point takes each other root
abbrev pub SetsTakeTheRoots : Type 0
SetsTakeTheRoots = (T : Run) (u n : ℕ) (roots before after : List Point) → Does is_set T u n → TellsPending T u n roots → TellsTaken T u n before
    → ((q : Point) → Contains after q ↔ (Contains before q ⊎ (Contains roots q × (q ≢ point_at T u n)))) → TellsTaken T u (suc n) after

-- by a further Set of a turn it takes what it has taken before
abbrev pub LaterSetsTakeNothingNew : Type 0
LaterSetsTakeNothingNew = (T : Run) (u n : ℕ) (listed : List Point) → Does is_set T u n
    → ((q : Point) → Pending T u n q → q ≢ point_at T u n → (i : ℕ) × (i < n) × Own T u n i × TakesBy T i (point_at T u n) q)
    → TellsTaken T u n listed → TellsTaken T u (suc n) listed

-- the first point of a transactor that a New makes takes what its creator's turn carries
abbrev pub NewbornsTakeWhatIsCarried : Type 0
NewbornsTakeWhatIsCarried = (T : Run) (by u n : ℕ) (roots : List Point) → WellFormed T → IsNew T n by u → TellsPending T by n roots → TellsTaken T u (suc n) roots

-- with a version that begins after place n the log goes on
abbrev pub TakesGoOn : Type 0
TakesGoOn = (T : Run) (u n : ℕ) (old new : Told) (v : Version) (more : List Point) → new.versions ≡ old.versions ++ v ∷ [] → new.takes ≡ old.takes ++ more
    → v.from ≡ suc n → v.first ≤ v.last → v.last ≤ length new.takes → TellsTaken T u (suc n) (taken new.takes v)
    → TellsTakes T u n old → TellsTakes T u (suc n) new
