-- Laws of what is pending, of what is heard and of what a Checkpoint fixes, each the contract of a function of the crate.
use Rattle.std.specs.Prelude.{◌≡◌, ◌≢◌, ◌⊎◌, ◌↔◌, ℕ, suc, ◌<◌, ◌≤◌, max, Bool, ◌||◌, Some, None, option_and_then, length}
use Rattle.tau_points.specs.declared.point.Point.{Point}
use Rattle.tau_points.specs.Reach.{IsWithin}
use Rattle.tau_trace.specs.declared.step.Step.{Step}
use Rattle.tau_trace.specs.declared.step.Step.TheVariants.{Take}
use Rattle.tau_trace.specs.Steps.{ends_turn, leaves_turns, is_send, is_new}
use Rattle.tau_trace.specs.Run.{Run, step_at, ActsAt, Does}
use Rattle.tau_trace.specs.Numbering.{born, sent, IsNew, IsOrigin}
use Rattle.tau_trace.specs.Histories.{history, Closes}
use Rattle.tau_trace.specs.Points.{point_at, IsOpeningPoint}
use Rattle.tau_trace.specs.Turns.{Turn, IsOpenTurn, HasOpenTurn}
use Rattle.tau_trace.specs.Known.{WellFormed}
use Rattle.tau_past.specs.Carried.{touches, Pending, Carried, SentWith}
use Rattle.tau_past.specs.Heard.{heard_by, IsCausallyClosed, Heard, HeardBy, HeardTogether, HoldsStepsBefore, Bound}
use Rattle.tau_past.specs.Pasts.{Past, PastIn, Is, StabilizedIn}
use Rattle.tau_past.specs.Safety.{RolledBack, KeepsRules}

-- Pending points.

-- the same turns are open for t at place k and one step later
abbrev pub KeepsTurns : Run → ℕ → ℕ → Type 0
KeepsTurns T t k = (place m : ℕ) → Turn T t (suc k) place m ↔ Turn T t k place m

-- the same points are pending for t at place k and one step later
abbrev pub KeepsPending : Run → ℕ → ℕ → Type 0
KeepsPending T t k = (q : Point) → Pending T t (suc k) q ↔ Pending T t k q

-- the kinds that neither begin nor end a turn nor touch
abbrev pub keeps_pending : Step → Bool
keeps_pending s = leaves_turns s || (is_send s || is_new s)

-- the turns that are open for t after the step at place k: that of a Take alone, none after a step of an ending kind, and
-- otherwise those that were open before it
pub record TurnsAfterStep (T : Run) (t k : ℕ) : Type 0 where
  pub other : ¬ ActsAt T t k → KeepsTurns T t k
  pub take : (m : ℕ) → step_at T k ≡ Some (Take t m) → (place n : ℕ) → Turn T t (suc k) place n ↔ ((place ≡ k) × (n ≡ m))
  pub ending : Does ends_turn T t k → (place n : ℕ) → ¬ Turn T t (suc k) place n
  pub touching : Does touches T t k → KeepsTurns T t k
  pub keeping : Does keeps_pending T t k → KeepsTurns T t k

abbrev pub TurnsStepByStep : Type 0
TurnsStepByStep = (T : Run) (t k : ℕ) → TurnsAfterStep T t k

-- the points that are pending for t after the step at place k: after a Take those that its message carries, after a step of
-- an ending kind none, and otherwise those before it, with t's own point where the step touches in an open turn
pub record PendingAfterStep (T : Run) (t k : ℕ) : Type 0 where
  pub other : ¬ ActsAt T t k → KeepsPending T t k
  pub take : (m : ℕ) → step_at T k ≡ Some (Take t m) → (q : Point) → Pending T t (suc k) q ↔ SentWith T m q
  pub ending : Does ends_turn T t k → (q : Point) → ¬ Pending T t (suc k) q
  pub touching : Does touches T t k → (q : Point) → Pending T t (suc k) q ↔ (Pending T t k q ⊎ (HasOpenTurn T t k × (q ≡ point_at T t k)))
  pub keeping : Does keeps_pending T t k → KeepsPending T t k

abbrev pub PendingStepByStep : Type 0
PendingStepByStep = (T : Run) (t k : ℕ) → PendingAfterStep T t k

-- without an open turn nothing is pending
abbrev pub PendingNeedsATurn : Type 0
PendingNeedsATurn = (T : Run) (t k : ℕ) (q : Point) → Pending T t k q → HasOpenTurn T t k

-- a touching step at point q is in H
pub record TouchedIn (T : Run) (H : ℕ → Type 0) (q : Point) : Type 0 where
  pub place : ℕ
  pub held : H place
  pub touching : Does touches T q.who place
  pub at_point : q ≡ point_at T q.who place

-- a pending point was the point of a touching step that t has heard of
abbrev pub PendingPointsWereTouched : Type 0
PendingPointsWereTouched = (T : Run) (t k : ℕ) (q : Point) → Pending T t k q → TouchedIn T (Heard T t k) q

-- each point that a place of the closed set H carries was the point of a touching step in H
abbrev pub CarriedPointsWereTouched : (ℕ → Type 0) → Type 0
CarriedPointsWereTouched H = (T : Run) (j : ℕ) (q : Point) → IsCausallyClosed T H → H j → Carried T j q → TouchedIn T H q

-- each point that a message carries was the point of a touching step that the message has heard of
abbrev pub SentPointsWereTouched : Type 0
SentPointsWereTouched = (T : Run) (m : ℕ) (q : Point) → SentWith T m q → TouchedIn T (HeardBy T m) q

-- What is heard.

-- the step at place k hears of message m: it is a Take, a Drop, a Fall or a Heed of it
abbrev pub HearsOf : Run → ℕ → ℕ → Type 0
HearsOf T k m = option_and_then heard_by (step_at T k) ≡ Some m

-- the step at place k hears of no message
abbrev pub HearsOfNone : Run → ℕ → Type 0
HearsOfNone T k = option_and_then heard_by (step_at T k) ≡ None

-- both sets have the same places
abbrev pub IsSame : (ℕ → Type 0) → (ℕ → Type 0) → Type 0
IsSame H G = (j : ℕ) → H j ↔ G j

-- both sets together
abbrev pub Union : (ℕ → Type 0) → (ℕ → Type 0) → ℕ → Type 0
Union H G j = H j ⊎ G j

-- the set and place k
abbrev pub With : (ℕ → Type 0) → ℕ → ℕ → Type 0
With H k j = H j ⊎ (j ≡ k)

-- what transactors and messages have heard is closed
pub record HeardSetsAreClosed (T : Run) : Type 0 where
  pub transactor : (t k : ℕ) → IsCausallyClosed T (Heard T t k)
  pub message : (m : ℕ) → IsCausallyClosed T (HeardBy T m)
  pub together : (t k m : ℕ) → IsCausallyClosed T (HeardTogether T t k m)

abbrev pub WhatIsHeardIsClosed : Type 0
WhatIsHeardIsClosed = (T : Run) → HeardSetsAreClosed T

-- the union of two closed sets is closed
abbrev pub UnionsAreClosed : (ℕ → Type 0) → (ℕ → Type 0) → Type 0
UnionsAreClosed H G = (T : Run) → IsCausallyClosed T H → IsCausallyClosed T G → IsCausallyClosed T (Union H G)

-- H holds what the actor of the step at place j had heard there, and what the message that the step hears of has heard
pub record HoldsHeardAt (T : Run) (H : ℕ → Type 0) (j : ℕ) : Type 0 where
  pub actor : (u : ℕ) → ActsAt T u j → IsWithin (Heard T u j) H
  pub message : (m : ℕ) → HearsOf T j m → IsWithin (HeardBy T m) H

-- with a step the closed set H holds all that was heard there
abbrev pub ClosedSetsHoldWhatWasHeard : (ℕ → Type 0) → Type 0
ClosedSetsHoldWhatWasHeard H = (T : Run) (j : ℕ) → IsCausallyClosed T H → H j → HoldsHeardAt T H j

-- what is heard stands before the place where it is heard, and what a message has heard not after its origin; a post has
-- heard nothing
pub record HeardStandsBefore (T : Run) : Type 0 where
  pub transactor : (t k j : ℕ) → t < born T k → Heard T t k j → j < k
  pub message : (m k by j : ℕ) → IsOrigin T k by m → HeardBy T m j → j ≤ k
  pub sent_message : (m k j : ℕ) → m < sent T k → HeardBy T m j → j < k
  pub post : (m j : ℕ) → m < length T.opening.targets → ¬ HeardBy T m j

abbrev pub WhatIsHeardStandsBefore : Type 0
WhatIsHeardStandsBefore = (T : Run) → WellFormed T → HeardStandsBefore T

-- what t has heard after the step at place k: what it had heard, its own step, and what the message that this step hears
-- of has heard; for a t that the step creates, what its creator had heard and the step
pub record HeardAfterStep (T : Run) (t k : ℕ) : Type 0 where
  pub other : ¬ ActsAt T t k → IsSame (Heard T t (suc k)) (Heard T t k)
  pub alone : ActsAt T t k → HearsOfNone T k → IsSame (Heard T t (suc k)) (With (Heard T t k) k)
  pub hearing : (m : ℕ) → ActsAt T t k → HearsOf T k m → IsSame (Heard T t (suc k)) (With (HeardTogether T t k m) k)
  pub created : (by : ℕ) → IsNew T k by t → IsSame (Heard T t (suc k)) (With (Heard T by k) k)

abbrev pub HeardStepByStep : Type 0
HeardStepByStep = (T : Run) (t k : ℕ) → WellFormed T → HeardAfterStep T t k

-- a message has heard what its sender had heard at its origin, and its origin
abbrev pub MessagesHearWithTheirSender : Type 0
MessagesHearWithTheirSender = (T : Run) (m k by : ℕ) → IsOrigin T k by m → IsSame (HeardBy T m) (With (Heard T by k) k)

-- what was heard stays heard
abbrev pub HeardGrows : Type 0
HeardGrows = (T : Run) (t j k : ℕ) → j ≤ k → IsWithin (Heard T t j) (Heard T t k)

-- Bounds of closed sets.

-- with a step of u the closed set H holds each earlier step of u
abbrev pub ClosedSetsHoldEarlierSteps : (ℕ → Type 0) → Type 0
ClosedSetsHoldEarlierSteps H = (T : Run) (u j k : ℕ) → IsCausallyClosed T H → H k → ActsAt T u k → ActsAt T u j → j ≤ k → H j

-- H has at most one bound at u
abbrev pub BoundsAreUnique : (ℕ → Type 0) → Type 0
BoundsAreUnique H = (T : Run) (u a b : ℕ) → Bound T H u a → Bound T H u b → a ≡ b

-- the bound of a union is the greater of the two bounds
abbrev pub UnionsHaveTheGreaterBound : (ℕ → Type 0) → (ℕ → Type 0) → Type 0
UnionsHaveTheGreaterBound H G = (T : Run) (u a b : ℕ) → Bound T H u a → Bound T G u b → Bound T (Union H G) u (max a b)

-- with its step at place k, t has the bound k+1, and the bounds of others stay
pub record BoundsWithStep (T : Run) (H : ℕ → Type 0) (t k : ℕ) : Type 0 where
  pub own : Bound T (With H k) t (suc k)
  pub other : (u a : ℕ) → u ≢ t → Bound T H u a → Bound T (With H k) u a

-- a step that joins the earlier steps of its actor changes the actor's bound alone
abbrev pub StepsChangeTheirBoundAlone : (ℕ → Type 0) → Type 0
StepsChangeTheirBoundAlone H = (T : Run) (t k : ℕ) → ActsAt T t k → HoldsStepsBefore T H t k → BoundsWithStep T H t k

-- where H has just the steps of u before place k, the history of u at its bound is that at k
abbrev pub BoundsTellHistories : (ℕ → Type 0) → Type 0
BoundsTellHistories H = (T : Run) (u a k : ℕ) → HoldsStepsBefore T H u k → Bound T H u a → history T u a ≡ history T u k

-- what a transactor or a message has heard at place k has a bound at each u; of its own steps a transactor has heard just
-- those before k, also together with a message that exists there
pub record HasBounds (T : Run) (k : ℕ) : Type 0 where
  pub transactor : (t u : ℕ) → t < born T k → (a : ℕ) × Bound T (Heard T t k) u a
  pub message : (m u : ℕ) → m < sent T k → (a : ℕ) × Bound T (HeardBy T m) u a
  pub own : (t : ℕ) → t < born T k → HoldsStepsBefore T (Heard T t k) t k
  pub together : (t m : ℕ) → t < born T k → m < sent T k → HoldsStepsBefore T (HeardTogether T t k m) t k

abbrev pub WhatIsHeardHasBounds : Type 0
WhatIsHeardHasBounds = (T : Run) (k : ℕ) → WellFormed T → HasBounds T k

-- What a Checkpoint fixes.

-- the past of t's point at its Checkpoint at place c is what t knew of it there; each point of it is the opening point of
-- a start or has a Stabilize that t had heard of, and none is rolled back
pub record FixesPast (T : Run) (t c : ℕ) : Type 0 where
  pub known : (q : Point) → Past T (point_at T t c) q ↔ PastIn T (Heard T t c) (Is (point_at T t c)) q
  pub settled : (q : Point) → Past T (point_at T t c) q → StabilizedIn T (Heard T t c) q ⊎ IsOpeningPoint T q
  pub kept : (q : Point) → Past T (point_at T t c) q → ¬ RolledBack T q

-- in a trace that keeps the rules each Checkpoint fixes the past of its point
abbrev pub CheckpointsFixTheirPast : Type 0
CheckpointsFixTheirPast = (T : Run) (t c : ℕ) → WellFormed T → KeepsRules T → Closes T t c → FixesPast T t c

-- in such a trace each Checkpoint was made at a point at which its transactor had stabilized
abbrev pub CheckpointsWereStabilized : Type 0
CheckpointsWereStabilized = (T : Run) (t c : ℕ) → WellFormed T → KeepsRules T → Closes T t c → StabilizedIn T (Heard T t c) (point_at T t c)
