-- The numbers of transactors and messages, what made them, and the messages in flight (docs/definitions.md, "Opening",
-- "Origin", "In flight").
use Rattle.std.specs.Prelude.{◌≡◌, ℕ, ◌+◌, ◌<◌, Bool, false, Option, Some, None, IsTrue, length, slice_get, option_and_then}
use Rattle.std.specs.Option.{option_map_or}
use Rattle.tau_value.specs.declared.shared.Value.{Value}
use Rattle.tau_trace.specs.declared.step.Step.{Step}
use Rattle.tau_trace.specs.declared.step.Step.TheVariants.{Send, New, Echo, Repeat}
use Rattle.tau_trace.specs.Steps.{removed_by, is_new, is_send, is_echo, makes_message}
use Rattle.tau_trace.specs.Run.{Run, step_at, starts}
use Rattle.tau_trace.specs.Places.{count_below}

-- how many transactors exist at place k: the starts, and one for each New before it
abbrev pub born : Run → ℕ → ℕ
born T k = starts T + count_below (λ j. option_map_or is_new (step_at T j) false) k

-- how many messages exist at place k: the posts, and one for each step before it that makes one
abbrev pub sent : Run → ℕ → ℕ
sent T k = length T.opening.targets + count_below (λ j. option_map_or makes_message (step_at T j) false) k

-- the step at place j is a New by transactor `by`, and makes transactor u
pub record IsNew (T : Run) (j by u : ℕ) : Type 0 where
  pub behaviour : ℕ
  pub node : ℕ
  pub state : Value
  pub stands : step_at T j ≡ Some (New by behaviour node state)
  pub made : u ≡ born T j

-- the step at place j is a Send by transactor `by`, and makes message m
pub record IsSent (T : Run) (j by m : ℕ) : Type 0 where
  pub to : ℕ
  pub value : Value
  pub stands : step_at T j ≡ Some (Send by to value)
  pub made : m ≡ sent T j

-- the step at place j is an Echo of message n by transactor `by`, and makes message m
pub record IsEchoed (T : Run) (j by n m : ℕ) : Type 0 where
  pub stands : step_at T j ≡ Some (Echo by n)
  pub made : m ≡ sent T j
  pub earlier : n < m

-- the step at place j is a Repeat of message n, and makes message m
pub record IsRepeated (T : Run) (j n m : ℕ) : Type 0 where
  pub stands : step_at T j ≡ Some (Repeat n)
  pub made : m ≡ sent T j
  pub earlier : n < m

-- the origin of a message is the step at place j, by transactor `by`: the Send or the Echo that made it, or the origin of
-- the message that it repeats
pub data IsOrigin (T : Run) (j by : ℕ) : ℕ → Type 0 where
  direct : {m : ℕ} → IsSent T j by m → IsOrigin T j by m
  echoed : {n m : ℕ} → IsEchoed T j by n m → IsOrigin T j by m
  copied : {k n m : ℕ} → IsRepeated T k n m → IsOrigin T j by n → IsOrigin T j by m

-- transactor u is the sender of message m; a post and its copies have none
pub record HasSender (T : Run) (m u : ℕ) : Type 0 where
  pub place : ℕ
  pub origin : IsOrigin T place u m

-- the step at place j is a Send
abbrev pub IsSendAt : Run → ℕ → Type 0
IsSendAt T j = IsTrue (option_map_or is_send (step_at T j) false)

-- the step at place j is an Echo
abbrev pub IsEchoAt : Run → ℕ → Type 0
IsEchoAt T j = IsTrue (option_map_or is_echo (step_at T j) false)

-- message m is a notice: its origin is an Echo
pub record IsNotice (T : Run) (m : ℕ) : Type 0 where
  pub place : ℕ
  pub by : ℕ
  pub origin : IsOrigin T place by m
  pub echo : IsEchoAt T place

-- transactor u is the receiver of message m: that of the post or of the Send; of a notice the sender of the message that
-- was echoed; of a copy that of the message that it repeats
pub data Receives (T : Run) : ℕ → ℕ → Type 0 where
  post : {m u : ℕ} → slice_get T.opening.targets m ≡ Some u → Receives T m u
  message : {j by m u : ℕ} → (origin : IsSent T j by m) → origin.to ≡ u → Receives T m u
  notice : {j by n m u : ℕ} → IsEchoed T j by n m → HasSender T n u → Receives T m u
  copy : {k n m u : ℕ} → IsRepeated T k n m → Receives T n u → Receives T m u

-- the place of the origin of message m; None where it has none
abbrev pub IsPlaceOf : Run → ℕ → Option ℕ → Type 0
IsPlaceOf T m None = (j by : ℕ) → ¬ IsOrigin T j by m
IsPlaceOf T m (Some j) = (by : ℕ) × IsOrigin T j by m

-- the sender of message m; None where it has none
abbrev pub IsSender : Run → ℕ → Option ℕ → Type 0
IsSender T m None = (u : ℕ) → ¬ HasSender T m u
IsSender T m (Some u) = HasSender T m u

-- the receiver of message m; None where it has none
abbrev pub IsReceiver : Run → ℕ → Option ℕ → Type 0
IsReceiver T m None = (u : ℕ) → ¬ Receives T m u
IsReceiver T m (Some u) = Receives T m u

-- transactor t stands at node n
pub data IsHome (T : Run) (t n : ℕ) : Type 0 where
  start : slice_get T.opening.homes t ≡ Some n → IsHome T t n
  created : {j by : ℕ} → (birth : IsNew T j by t) → birth.node ≡ n → IsHome T t n

-- the step at place j takes message m out of flight
abbrev pub Removes : Run → ℕ → ℕ → Type 0
Removes T m j = option_and_then removed_by (step_at T j) ≡ Some m

-- message m is in flight at place k: it exists there, and no earlier step took it
pub record InFlight (T : Run) (m k : ℕ) : Type 0 where
  pub exists : m < sent T k
  pub not_removed : (j : ℕ) → j < k → ¬ Removes T m j

-- the number that a Send, an Echo, a Repeat or a New makes, where there are so many transactors and messages
abbrev pub number_made : Step → ℕ → ℕ → ℕ
number_made (Send t u v) transactors messages = messages
number_made (Echo t m) transactors messages = messages
number_made (Repeat m) transactors messages = messages
number_made (New t b n v) transactors messages = transactors
number_made s transactors messages = 0
