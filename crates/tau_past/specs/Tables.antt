-- Tables that tell what the steps of a trace carry and which points take it. A search for pasts goes by them.
use Rattle.std.specs.Prelude.{◌≡◌, ◌⊎◌, ◌↔◌, ℕ, suc, ◌+◌, ◌<◌, Bool, ◌&&◌, List, Option, None, Some, IsTrue, length, slice_get, nat_eq}
use Rattle.tau_history.specs.Stored.{Stored}
use Rattle.tau_points.specs.declared.point.Point.{Point}
use Rattle.tau_trace.specs.declared.step.Step.{Step}
use Rattle.tau_trace.specs.declared.step.Step.TheVariants.{Take}
use Rattle.tau_trace.specs.Run.{Run, len, ActsAt, Does}
use Rattle.tau_trace.specs.Numbering.{born, IsNew, IsOrigin, IsSendAt, IsPlaceOf}
use Rattle.tau_trace.specs.Histories.{history, Falls}
use Rattle.tau_trace.specs.Points.{point_at}
use Rattle.tau_trace.specs.Turns.{IsOpenTurn, HasOpenTurn}
use Rattle.tau_trace.specs.Known.{WellFormed}
use Rattle.tau_past.specs.declared.carrying.Carrying.{Carrying}
use Rattle.tau_past.specs.declared.made.Made.{Made}
use Rattle.tau_past.specs.Carried.{Pending, Carried, is_set, first_point}
use Rattle.tau_past.specs.Pasts.{ClosesAt, Everywhere}

-- an item for each number below n, in order, to which P relates the number
pub record Lists {A : Type 0} (n : ℕ) (P : ℕ → A → Type 0) (xs : List A) : Type 0 where
  pub count : length xs ≡ n
  pub each : (k : ℕ) (x : A) → slice_get xs k ≡ Some x → P k x

-- what the step at a place, if one is named, carries
abbrev pub CarriedFrom : Run → Option ℕ → Point → Type 0
CarriedFrom T None q = ⊥
CarriedFrom T (Some j) q = Carried T j q

-- c tells the set P of points: the one that was touched last, and all that the step at an earlier place carries
pub record TellsPoints (T : Run) (k : ℕ) (P : Point → Type 0) (c : Carrying) : Type 0 where
  pub points : (q : Point) → P q ↔ ((c.touched ≡ Some q) ⊎ CarriedFrom T c.rest q)
  pub earlier : (j : ℕ) → c.rest ≡ Some j → j < k

-- nothing is carried
abbrev pub nothing : Carrying
nothing = record { touched = None; rest = None }

-- what a step of t at place k would carry; None where no turn is open
abbrev pub TellsTurn : Run → ℕ → ℕ → Option Carrying → Type 0
TellsTurn T k t None = IsOpenTurn T t k None
TellsTurn T k t (Some c) = HasOpenTurn T t k × TellsPoints T k (Pending T t k) c

-- the transactor's history at place k
abbrev pub TellsHistory : Run → ℕ → ℕ → Stored → Type 0
TellsHistory T k t h = h.history ≡ history T t k

-- the place of the origin of message m where a Send stands there; None where none does
abbrev pub IsSendPlaceOf : Run → ℕ → Option ℕ → Type 0
IsSendPlaceOf T m None = (j by : ℕ) → IsOrigin T j by m → ¬ IsSendAt T j
IsSendPlaceOf T m (Some j) = IsPlaceOf T m (Some j) × IsSendAt T j

-- what the turn that the step begins goes on from: where it is a Take, the place of the Send that is its message's origin
abbrev pub TellsCarrier : Run → Step → Option ℕ → Type 0
TellsCarrier T (Take t m) o = IsSendPlaceOf T m o
TellsCarrier T s o = o ≡ None

-- what the step at place k carries
abbrev pub TellsCarried : Run → ℕ → Carrying → Type 0
TellsCarried T k c = TellsPoints T k (Carried T k) c

-- the point at which the step at place k was made, and whether it is a falling step; None where nobody made it
abbrev pub TellsMade : Run → ℕ → Option Made → Type 0
TellsMade T k None = (t : ℕ) → ¬ ActsAt T t k
TellsMade T k (Some m) = ActsAt T m.point.who k × (m.point ≡ point_at T m.point.who k) × (IsTrue m.falls ↔ Falls T m.point.who k)

-- point p takes, by the step at place j, what this step carries: a Set was made at p, or p is the first point of the
-- transactor that the step makes
pub data TakesAt (T : Run) (p : Point) (j : ℕ) : Type 0 where
  by_set : {t : ℕ} → Does is_set T t j → p ≡ point_at T t j → TakesAt T p j
  by_new : {by u : ℕ} → IsNew T j by u → p ≡ first_point u → TakesAt T p j

-- the point that takes by the step at place k; None where none does
abbrev pub TellsTaker : Run → ℕ → Option Point → Type 0
TellsTaker T k o = (p : Point) → TakesAt T p k ↔ (o ≡ Some p)

-- the place of the New of transactor u; None where no New makes it, as for a start
abbrev pub IsBirth : Run → ℕ → Option ℕ → Type 0
IsBirth T u None = (j by : ℕ) → ¬ IsNew T j by u
IsBirth T u (Some j) = (by : ℕ) × IsNew T j by u

-- the last place below n at which P holds; None where there is none
abbrev pub IsLast : (ℕ → Type 0) → ℕ → Option ℕ → Type 0
IsLast P n None = (j : ℕ) → j < n → ¬ P j
IsLast P n (Some k) = (k < n) × P k × ((j : ℕ) → k < j → j < n → ¬ P j)

-- the place before k at which the point that takes by the step at k took last
abbrev pub TellsEarlier : Run → ℕ → Option ℕ → Type 0
TellsEarlier T k o = (p : Point) → TakesAt T p k → IsLast (TakesAt T p) k o

abbrev pub same_point : Point → Point → Bool
same_point p q = nat_eq p.who q.who && (nat_eq p.interval q.interval && nat_eq p.incarnation q.incarnation)

-- the closing point of the interval before p's
abbrev pub ClosesBefore : Run → Point → Point → Type 0
ClosesBefore T p q = (i : ℕ) × (p.interval ≡ suc i) × ClosesAt T Everywhere p.who i q

-- for each point the last place before k at which it takes
abbrev pub TellsLatest : Run → ℕ → (Point → Option ℕ) → Type 0
TellsLatest T k latest = (p : Point) → IsLast (TakesAt T p) k (latest p)

-- the number of transactors that are told of: all that ever exist
abbrev pub all_born : Run → ℕ
all_born T = born T (len T)

-- the tables tell of the whole trace
pub record IsIndex (T : Run) (hs : List Stored) (cs : List Carrying) (ms : List (Option Made)) (last : Point → Option ℕ) (es : List (Option ℕ)) (ts : List (Option Point)) (bs : List (Option ℕ)) : Type 0 where
  pub well_formed : WellFormed T
  pub histories : Lists (all_born T) (TellsHistory T (len T)) hs
  pub carried : Lists (len T) (TellsCarried T) cs
  pub made : Lists (len T) (TellsMade T) ms
  pub latest : TellsLatest T (len T) last
  pub earlier : Lists (len T) (TellsEarlier T) es
  pub takers : Lists (len T) (TellsTaker T) ts
  pub births : Lists (all_born T) (IsBirth T) bs
