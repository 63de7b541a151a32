-- What a change must be for the step at a place, part by part.
use Rattle.std.specs.Prelude.{◌≡◌, ◌⊎◌, ℕ, suc, Bool, false, List, [], length, Option, Some, None, slice_get, option_and_then}
use Rattle.tau_points.specs.declared.point.Point.{Point}
use Rattle.tau_trace.specs.Steps.{removed_by}
use Rattle.tau_trace.specs.Run.{Run, step_at, ActsAt}
use Rattle.tau_trace.specs.Numbering.{born, sent, IsNew, IsSent, IsEchoed, IsRepeated, HasSender}
use Rattle.tau_trace.specs.Points.{point_at}
use Rattle.tau_trace.specs.Known.{WellFormed}
use Rattle.tau_past.specs.KnownLaws.{HearsOf, HearsOfNone}
use Rattle.tau_versions.specs.Logs.Told.{Told}
use Rattle.tau_versions.specs.Logs.Takes.{TellsTaken}
use Rattle.tau_heard.specs.declared.own.Own.{Own}
use Rattle.tau_heard.specs.declared.letter.Letter.{Letter}
use Rattle.tau_heard.specs.declared.letter.Sender.{Sender}
use Rattle.tau_heard.specs.declared.hearing.Hearing.{Hearing}
use Rattle.tau_heard.specs.declared.change.ActorChange.{ActorChange}
use Rattle.tau_heard.specs.declared.change.Newborn.{Newborn}
use Rattle.tau_heard.specs.declared.change.LogChange.TheVariants as log
use Rattle.tau_heard.specs.declared.change.HearingChange.{HearingChange}
use Rattle.tau_heard.specs.Changed.{IsLogAfter, roots_after, touched_after, depended_after}
use Rattle.tau_heard.specs.Bounds.{last_number, AreRaised}
use Rattle.tau_versions.specs.Search.Logs.{TellsLog}
use Rattle.tau_heard.specs.Logs.{KeepsLatest}
use Rattle.tau_heard.specs.Turns.{IsAlong, TellsTurn}
use Rattle.tau_heard.specs.Falls.{falls_at}
use Rattle.tau_heard.specs.Hears.{Hears}
use Rattle.tau_heard.specs.After.{IsAfter}

-- the message that the transactor hears of is in flight; where it hears of none, the step hears of none, or of its own one
abbrev pub HearsRightly : Run → ℕ → ℕ → List (Option Letter) → Option ℕ → Type 0
HearsRightly T t n letters None = HearsOfNone T n ⊎ ((m : ℕ) × HearsOf T n m × HasSender T m t)
HearsRightly T t n letters (Some m) = HearsOf T n m × ((l : Letter) × (slice_get letters m ≡ Some (Some l)))

-- the step at place n is made by the transactor of the change; its log goes on, and its turn, and it hears of the message
pub record ActorFollows (T : Run) (n : ℕ) (letters : List (Option Letter)) (logs : List Told) (own : List Own) (a : ActorChange) : Type 0 where
  pub acts : ActsAt T a.who n
  pub log : (old new : Told) (x : Own) → slice_get logs a.who ≡ Some old → slice_get own a.who ≡ Some x → IsLogAfter a.log old new → TellsLog T a.who n old
      → TellsTurn T a.who n x.roots x.touched x.depended → TellsLog T a.who (suc n) new × KeepsLatest n old new
  pub turn : (roots : List Point) (touched depended : Bool) → TellsTurn T a.who n roots touched depended
      → TellsTurn T a.who (suc n) (roots_after a.turn roots) (touched_after a.turn touched) (depended_after a.turn depended)
  pub hears : HearsRightly T a.who n letters a.hears

abbrev pub FollowsActor : Run → ℕ → List (Option Letter) → List Told → List Own → Option ActorChange → Type 0
FollowsActor T n letters logs own None = (t : ℕ) → ¬ ActsAt T t n
FollowsActor T n letters logs own (Some a) = ActorFollows T n letters logs own a

-- what t's turn takes along
abbrev pub TakesAlong : Run → ℕ → ℕ → Own → List Point → Type 0
TakesAlong T t n x along = IsAlong x.touched x.depended (point_at T t n) x.roots along

-- the transactor that the step makes has what its creator had heard, and its first point has taken what that takes along
pub record NewbornFollows (T : Run) (n : ℕ) (logs : List Told) (own : List Own) (a : ActorChange) (b : Newborn) : Type 0 where
  pub birth : IsNew T n a.who (born T n)
  pub log_stays : a.log ≡ log.Stays
  pub log : (x : Own) → slice_get own a.who ≡ Some x → ((along : List Point) → TakesAlong T a.who n x along → TellsTaken T (born T n) (suc n) along) → TellsLog T (born T n) (suc n) b.log
  pub one_version : length b.log.versions ≡ 1
  pub numbers : (x : Own) → slice_get own a.who ≡ Some x → AreRaised x.numbers.numbers a.who (last_number logs a.who) [] b.own.numbers.numbers
  pub roots : b.own.roots ≡ []
  pub touched : b.own.touched ≡ false
  pub depended : b.own.depended ≡ false

abbrev pub FollowsBirth : Run → ℕ → List Told → List Own → Option ActorChange → Option Newborn → Type 0
FollowsBirth T n logs own a None = born T (suc n) ≡ born T n
FollowsBirth T n logs own None (Some b) = ⊥
FollowsBirth T n logs own (Some a) (Some b) = NewbornFollows T n logs own a b

-- a Send's message carries what its sender takes along, and a notice nothing
pub data CarriesRightly (T : Run) (n : ℕ) (own : List Own) (t : ℕ) (roots : List Point) : Type 0 where
  sends : IsSent T n t (sent T n) → ((x : Own) → slice_get own t ≡ Some x → TakesAlong T t n x roots) → CarriesRightly T n own t roots
  echoes : {m : ℕ} → IsEchoed T n t m (sent T n) → roots ≡ [] → CarriesRightly T n own t roots

-- the message that a Send or an Echo makes has what its maker had heard
pub record LetterFollows (T : Run) (n : ℕ) (logs : List Told) (own : List Own) (a : ActorChange) (l : Letter) : Type 0 where
  pub carries : CarriesRightly T n own a.who l.roots
  pub log_stays : a.log ≡ log.Stays
  pub sender : Sender
  pub is_sender : l.sender ≡ Some sender
  pub who : sender.who ≡ a.who
  pub version : sender.version ≡ last_number logs a.who
  pub numbers : (x : Own) → slice_get own a.who ≡ Some x → sender.numbers.value.items ≡ x.numbers.numbers

-- both tell of the same sender, by the same numbers
abbrev pub IsSameSender : Option Sender → Option Sender → Type 0
IsSameSender None None = Unit {0}
IsSameSender (Some s) (Some r) = (r.who ≡ s.who) × (r.version ≡ s.version) × (r.numbers.value.items ≡ s.numbers.value.items)
IsSameSender None (Some r) = ⊥
IsSameSender (Some s) None = ⊥

-- the message that a Repeat makes has and carries what the message that it repeats does
pub record CopyFollows (T : Run) (n : ℕ) (letters : List (Option Letter)) (l : Letter) : Type 0 where
  pub repeated : ℕ
  pub letter : Letter
  pub stands : slice_get letters repeated ≡ Some (Some letter)
  pub copies : IsRepeated T n repeated (sent T n)
  pub sender : IsSameSender letter.sender l.sender
  pub roots : l.roots ≡ letter.roots

abbrev pub FollowsLetter : Run → ℕ → List (Option Letter) → List Told → List Own → Option ActorChange → Option Letter → Type 0
FollowsLetter T n letters logs own a None = sent T (suc n) ≡ sent T n
FollowsLetter T n letters logs own None (Some l) = CopyFollows T n letters l
FollowsLetter T n letters logs own (Some a) (Some l) = LetterFollows T n logs own a l

-- the change is that of the step at place n
pub record IsChange (T : Run) (n : ℕ) (h : Hearing) (c : HearingChange) : Type 0 where
  pub actor : FollowsActor T n h.letters.items h.logs.items h.own.items c.actor
  pub newborn : FollowsBirth T n h.logs.items h.own.items c.actor c.newborn
  pub letter : FollowsLetter T n h.letters.items h.logs.items h.own.items c.actor c.letter
  pub gone : (m : ℕ) → c.gone ≡ Some m → option_and_then removed_by (step_at T n) ≡ Some m
  pub falls : falls_at T n ≡ c.falls

-- with a change that is that of the step, what is kept is right one step later
abbrev pub ChangesFollow : Type 0
ChangesFollow = (T : Run) (n : ℕ) (h g : Hearing) (c : HearingChange) → WellFormed T → Hears T n h.logs.items h.own.items h.letters.items h.falls → IsAfter h c g → IsChange T n h c
    → Hears T (suc n) g.logs.items g.own.items g.letters.items g.falls
