-- What the record of a transactor says.
use Rattle.std.specs.Prelude.{◌≡◌, ℕ, suc, Bool, IsTrue, ◌||◌, Option, Some, None, slice_get, slice_set, length, map, List, [], ◌∷◌, ◌++◌}
use Rattle.tau_value.specs.declared.shared.Value.{Value}
use Rattle.tau_value.specs.declared.shared.Value.TheVariants as values
use Rattle.tau_value.specs.Value.{val_of}
use Rattle.tau_tree.specs.declared.posts.Post.{Post}
use Rattle.tau_tree.specs.declared.starts.Start.{Start}
use Rattle.tau_tree.specs.declared.programs.Program.{Program}
use Rattle.tau_trace.specs.Run.{Run, len}
use Rattle.tau_trace.specs.Numbering.{born, sent}
use Rattle.tau_trace.specs.Turns.{Turn}
use Rattle.tau_states.specs.Opening.{opening_states}
use Rattle.tau_trace.specs.declared.step.Step.{Step}
use Rattle.tau_trace.specs.declared.step.Step.TheVariants.{Take, Send, New, Echo, Repeat}
use Rattle.tau_trace.specs.Steps.{ends_turn, leaves_turns}
use Rattle.tau_legal.specs.Choices.{goes_on}
use Rattle.tau_rules.specs.declared.records.Record.{Record}
use Rattle.tau_rules.specs.declared.records.RecordChange.{RecordChange}
use Rattle.tau_rules.specs.declared.records.RecordChange.TheVariants as changes
use Rattle.tau_legal.specs.Turns.{HasBehaviour, HasValue, Replies, RepliesOf}

-- where a turn is open for t, the record has the value of its message and its replies
pub record IsOfTurn (P : Program) (T : Run) (t place m : ℕ) (r : Record) : Type 0 where
  pub message : HasValue P T m (val_of r.message)
  pub replies : RepliesOf T (opening_states P.starts) t (suc place) (len T) r.replies

-- the record is that of transactor t
pub record IsRecord (P : Program) (T : Run) (t : ℕ) (r : Record) : Type 0 where
  pub behaviour : HasBehaviour P T t r.behaviour
  pub turn : (place m : ℕ) → Turn T t (len T) place m → IsOfTurn P T t place m r

-- a record for each transactor
pub record AreRecords (P : Program) (T : Run) (rs : List Record) : Type 0 where
  pub count : length rs ≡ born T (len T)
  pub each : (t : ℕ) (r : Record) → slice_get rs t ≡ Some r → IsRecord P T t r

-- a value for each message
pub record AreValues (P : Program) (T : Run) (vs : List Value) : Type 0 where
  pub count : length vs ≡ sent T (len T)
  pub each : (m : ℕ) (v : Value) → slice_get vs m ≡ Some v → HasValue P T m (val_of v)

-- the records at the opening: each has the behaviour of its start
abbrev pub HasStarts : List Start → List Record → Type 0
HasStarts ss rs = map (λ r. r.behaviour) rs ≡ map (λ s. s.behaviour) ss

-- the values at the opening: those of the posts
abbrev pub HasPosts : List Post → List Value → Type 0
HasPosts qs vs = map val_of vs ≡ map (λ q. val_of q.value) qs

-- the record after a change: a turn begins with a message, has one reply more, or nothing changes
abbrev pub IsChanged : RecordChange → Record → Record → Type 0
IsChanged (changes.Begins v) r q = (q.behaviour ≡ r.behaviour) × (q.message ≡ v) × (q.replies ≡ [])
IsChanged (changes.Replied x) r q = (q.behaviour ≡ r.behaviour) × (q.message ≡ r.message) × (q.replies ≡ r.replies ++ val_of x ∷ [])
IsChanged changes.Kept r q = q ≡ r

-- the kinds of steps after which no turn has begun or gone on with a reply
abbrev pub keeps_record : Step → Bool
keeps_record s = leaves_turns s || ends_turn s

-- the step at the end of the run changes its transactor's record so
abbrev pub Changes : Program → Run → Step → RecordChange → Type 0
Changes P T s (changes.Begins v) = (t : ℕ) × (m : ℕ) × (s ≡ Take t m) × HasValue P T m (val_of v)
Changes P T s (changes.Replied x) = IsTrue (goes_on s) × Replies T (opening_states P.starts) (len T) s (val_of x)
Changes P T s changes.Kept = IsTrue (keeps_record s)

-- the value of the message that a step makes, where these are the values so far: of a Send its value, of an Echo unit, of a Repeat
-- that of the message
abbrev pub sent_value : List Value → Step → Option Value
sent_value vs (Send t u v) = Some v
sent_value vs (Echo t m) = Some values.Unit
sent_value vs (Repeat m) = slice_get vs m
sent_value vs s = None

abbrev pub with_sent : List Value → Option Value → List Value
with_sent vs None = vs
with_sent vs (Some v) = vs ++ v ∷ []

-- the record of the transactor that a New makes
abbrev pub IsNewborn : Step → Option Record → Type 0
IsNewborn (New t b n v) found = (r : Record) × (found ≡ Some r) × (r.behaviour ≡ b)
IsNewborn s found = found ≡ None

-- the records with that of a newborn
abbrev pub with_newborn : List Record → Option Record → List Record
with_newborn rs None = rs
with_newborn rs (Some r) = rs ++ r ∷ []

-- the record of t has changed, and no other
pub record IsOneChanged (c : RecordChange) (t : ℕ) (old new : List Record) : Type 0 where
  pub before : Record
  pub after : Record
  pub stood : slice_get old t ≡ Some before
  pub changed : IsChanged c before after
  pub is : new ≡ slice_set old t after

-- the record of the transactor that makes the step has changed; where nobody makes it, none has
abbrev pub HasChanged : RecordChange → Option ℕ → List Record → List Record → Type 0
HasChanged c None old new = new ≡ old
HasChanged c (Some t) old new = IsOneChanged c t old new
