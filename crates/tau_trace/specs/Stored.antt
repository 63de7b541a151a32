-- What contracts see of the type `Trace`, and what it keeps.
use Rattle.std.specs.Prelude.{◌≡◌, ℕ, Bool, ◌&&◌, List, ◌++◌, ◌∷◌, [], Option, Some, None, slice_get, slice_set, length, nat_lt, vec_len, option_and_then}
use Rattle.std.specs.Vec.{vec_capacity}
use Rattle.std.specs.Option.{option_or}
use Rattle.std.specs.declared.alloc.Global.{Global}
use Rattle.std.specs.declared.vec.Vec.{Vec}
use Rattle.tau_trace.specs.declared.opening.Opening.{Opening}
use Rattle.tau_trace.specs.declared.step.Step.{Step}
use Rattle.tau_trace.specs.declared.step.Step.TheVariants.{Send, New, Echo, Repeat}
use Rattle.tau_trace.specs.declared.transactor.Transactor.{Transactor}
use Rattle.tau_trace.specs.declared.message.Message.{Message}
use Rattle.tau_trace.specs.Steps.{actor, removed_by}
use Rattle.tau_trace.specs.Run.{Run, len, step_at}
use Rattle.tau_trace.specs.Places.{IsFirst}
use Rattle.tau_trace.specs.Numbering.{born, sent, IsPlaceOf, IsReceiver, Removes, number_made}
use Rattle.tau_trace.specs.Known.{WellFormed}
use Rattle.tau_trace.specs.Tracking.{transactor_after, created_at, TracksAll}
use Rattle.tau_trace.specs.Living.{Tracked}

-- the run, and whether one more step can be appended without memory
pub record Stored : Type 0 where
  pub run : Run
  pub ready : Bool

-- a vector with room for one more item
abbrev pub has_room : {A : Type 0} → Vec A Global → Bool
has_room v = nat_lt (vec_len v) (vec_capacity v)

-- the records after transactor t's own step, by its record
abbrev pub noted_at : Step → ℕ → List Transactor → ℕ → Option Transactor → List Transactor
noted_at s k ts t None = ts
noted_at s k ts t (Some r) = slice_set ts t (transactor_after s k r)

-- the records after the own step of a transactor
abbrev pub noted_of : Step → ℕ → List Transactor → Option ℕ → List Transactor
noted_of s k ts None = ts
noted_of s k ts (Some t) = noted_at s k ts t (slice_get ts t)

-- the records after a step that may be a New
abbrev pub with_new : Step → List Transactor → List Transactor
with_new (New t b n v) ts = ts ++ created_at n ∷ []
with_new s ts = ts

-- the records of transactors after a step at place k
abbrev pub transactors_after : Step → ℕ → List Transactor → List Transactor
transactors_after s k ts = with_new s (noted_of s k ts (actor s))

-- a message right after the step that made it, by its receiver and the place of its origin
abbrev pub sent_to : Option ℕ → Option ℕ → Message
sent_to u k = record { target = u; origin = k; ended_by = None }

-- a post, by its receiver
abbrev pub posted : ℕ → Message
posted u = sent_to (Some u) None

-- a message after a step at place k that takes it out of flight
abbrev pub removed_at : ℕ → Message → Message
removed_at k r = record { target = r.target; origin = r.origin; ended_by = option_or r.ended_by (Some k) }

-- the records after message m was taken out of flight, by its record
abbrev pub removed_by_record : ℕ → List Message → ℕ → Option Message → List Message
removed_by_record k ms m None = ms
removed_by_record k ms m (Some r) = slice_set ms m (removed_at k r)

-- the records after a message, or none, was taken out of flight
abbrev pub removed_of : ℕ → List Message → Option ℕ → List Message
removed_of k ms None = ms
removed_of k ms (Some m) = removed_by_record k ms m (slice_get ms m)

-- the place of the origin of a message, by its record
abbrev pub origin_in : List Message → ℕ → Option ℕ
origin_in ms m = option_and_then (λ r. r.origin) (slice_get ms m)

-- the receiver of a message, by its record
abbrev pub target_in : List Message → ℕ → Option ℕ
target_in ms m = option_and_then (λ r. r.target) (slice_get ms m)

-- the sender of a message, by its record: the actor of the step at the place of its origin
abbrev pub sender_in : List Step → List Message → ℕ → Option ℕ
sender_in steps ms m = option_and_then (λ j. option_and_then actor (slice_get steps j)) (origin_in ms m)

-- the records after a step at place k that may make a message
abbrev pub with_sent : List Step → ℕ → Step → List Message → List Message
with_sent steps k (Send t u v) ms = ms ++ sent_to (Some u) (Some k) ∷ []
with_sent steps k (Echo t m) ms = ms ++ sent_to (sender_in steps ms m) (Some k) ∷ []
with_sent steps k (Repeat m) ms = ms ++ sent_to (target_in ms m) (origin_in ms m) ∷ []
with_sent steps k s ms = ms

-- the records of messages after a step at place k
abbrev pub messages_after : List Step → Step → ℕ → List Message → List Message
messages_after steps s k ms = with_sent steps k s (removed_of k ms (removed_by s))

-- the number that the step at place k made
abbrev pub IsMadeAt : Run → ℕ → ℕ → Type 0
IsMadeAt T k made = (s : Step) → step_at T k ≡ Some s → made ≡ number_made s (born T k) (sent T k)

-- the record says what the steps below place k say of message m
pub record TracksMessage (T : Run) (k m : ℕ) (r : Message) : Type 0 where
  pub receiver : IsReceiver T m r.target
  pub origin : IsPlaceOf T m r.origin
  pub ended_by : IsFirst (Removes T m) k r.ended_by

-- a record for each message
pub record TracksMessages (T : Run) (records : List Message) : Type 0 where
  pub count : length records ≡ sent T (len T)
  pub each : (m : ℕ) (r : Message) → slice_get records m ≡ Some r → TracksMessage T (len T) m r

-- for each step the number that it made
pub record HasNumbers (T : Run) (made : List ℕ) : Type 0 where
  pub count : length made ≡ len T
  pub each : (k : ℕ) (s : Step) → step_at T k ≡ Some s → slice_get made k ≡ Some (number_made s (born T k) (sent T k))

-- what a trace keeps beside its run says what the run says
pub record IsIndexed (T : Run) (made : List ℕ) (tracked : Tracked) (records : List Message) : Type 0 where
  pub well_formed : WellFormed T
  pub numbers : HasNumbers T made
  pub transactors : TracksAll T tracked.transactors
  pub nodes : tracked.nodes ≡ T.opening.nodes
  pub messages : TracksMessages T records
