-- Where the values of messages stand: that of a post in the program, and those of a Send and an Echo in their step.
use Rattle.std.specs.Prelude.{◌≡◌, ℕ, ◌<◌, List, [], ◌∷◌, ◌++◌, Option, Some, None, length, slice_get}
use Rattle.std.specs.Option.{option_map_or}
use Rattle.tau_value.specs.Val as val
use Rattle.tau_value.specs.Val.{Val}
use Rattle.tau_value.specs.Value.{val_of}
use Rattle.tau_tree.specs.declared.programs.Program.{Program}
use Rattle.tau_trace.specs.declared.step.Step.{Step}
use Rattle.tau_trace.specs.declared.step.Step.TheVariants.{Send, Echo, Repeat}
use Rattle.tau_trace.specs.Run.{Run, step_at}
use Rattle.tau_trace.specs.Numbering.{sent, IsSent, IsEchoed, IsRepeated}
use Rattle.tau_drawing.specs.declared.messages.bearers.Bearer.{Bearer}
use Rattle.tau_drawing.specs.declared.messages.bearers.Bearer.TheVariants.{Posted, Made}

-- the value of message m stands there; a copy has that of the message that it repeats
pub data HasBearer (T : Run) : ℕ → Bearer → Type 0 where
  posted : {m : ℕ} → m < length T.opening.targets → HasBearer T m (Posted m)
  sends : {j by m : ℕ} → IsSent T j by m → HasBearer T m (Made j)
  echoes : {j by n m : ℕ} → IsEchoed T j by n m → HasBearer T m (Made j)
  copied : {k n m : ℕ} {b : Bearer} → IsRepeated T k n m → HasBearer T n b → HasBearer T m b

-- for each message that exists at place k where its value stands
pub record AreBearers (T : Run) (k : ℕ) (bearers : List Bearer) : Type 0 where
  pub count_is : length bearers ≡ sent T k
  pub each : (m : ℕ) (b : Bearer) → slice_get bearers m ≡ Some b → HasBearer T m b

-- the first so many posts
pub record ArePosted (n : ℕ) (bearers : List Bearer) : Type 0 where
  pub count_is : length bearers ≡ n
  pub each : (m : ℕ) (b : Bearer) → slice_get bearers m ≡ Some b → b ≡ Posted m

-- where the value of the message that step s at place k makes stands; None where it makes none
abbrev pub bearer_made : List Bearer → Step → ℕ → Option Bearer
bearer_made bearers (Send t u v) k = Some (Made k)
bearer_made bearers (Echo t m) k = Some (Made k)
bearer_made bearers (Repeat m) k = slice_get bearers m
bearer_made bearers s k = None

abbrev pub with_bearer : List Bearer → Option Bearer → List Bearer
with_bearer bearers None = bearers
with_bearer bearers (Some b) = bearers ++ b ∷ []

-- the value that a step sends; an Echo sends unit
abbrev pub value_sent : Step → Val
value_sent (Send t u v) = val_of v
value_sent s = val.unit

-- the value that stands there
abbrev pub borne : Program → Run → Bearer → Val
borne P T (Posted p) = option_map_or (λ q. val_of q.value) (slice_get P.posts p) val.unit
borne P T (Made j) = option_map_or value_sent (step_at T j) val.unit
