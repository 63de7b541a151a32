-- What the program gives a turn: its body, its message, the replies so far, and so its next effect (docs/definitions.md, "Meaning of behaviours").
use Rattle.std.specs.Prelude.{◌≡◌, ℕ, suc, ◌≤◌, List, [], ◌∷◌, ◌++◌, Some, slice_get}
use Rattle.tau_value.specs.declared.shared.Value.{Value}
use Rattle.tau_value.specs.Val as val
use Rattle.tau_value.specs.Val.{Val}
use Rattle.tau_value.specs.Value.{val_of}
use Rattle.tau_tree.specs.declared.starts.Start.{Start}
use Rattle.tau_tree.specs.declared.posts.Post.{Post}
use Rattle.tau_tree.specs.declared.programs.Program.{Program}
use Rattle.tau_tree.specs.Behaviour.{NamedCode}
use Rattle.tau_tree.specs.Code.{Code}
use Rattle.tau_trace.specs.declared.step.Step.{Step}
use Rattle.tau_trace.specs.declared.step.Step.TheVariants.{Get, Set, Skip, Send, New, Stabilize, Ask}
use Rattle.tau_trace.specs.Run.{Run, step_at, ActsAt}
use Rattle.tau_trace.specs.Numbering.{born, IsNew, IsSent, IsEchoed, IsRepeated}
use Rattle.tau_trace.specs.Points.{point_at}
use Rattle.tau_trace.specs.Turns.{Turn}
use Rattle.tau_past.specs.States.{StateAt}
use Rattle.tau_states.specs.Opening.{opening_states}
use Rattle.tau_eval.specs.Eff.{Eff}
use Rattle.tau_eval.specs.Meaning.{next}

-- transactor t has behaviour b: a start by the program, another one by its New
pub data HasBehaviour (P : Program) (T : Run) (t b : ℕ) : Type 0 where
  start : {s : Start} → slice_get P.starts t ≡ Some s → s.behaviour ≡ b → HasBehaviour P T t b
  created : {j by : ℕ} → (birth : IsNew T j by t) → birth.behaviour ≡ b → HasBehaviour P T t b

-- what transactor t evaluates in each of its turns
pub record HasBody (P : Program) (T : Run) (t : ℕ) (body : Code) : Type 0 where
  pub number : ℕ
  pub behaviour : NamedCode
  pub has : HasBehaviour P T t number
  pub stands : slice_get P.behaviours number ≡ Some behaviour
  pub is : behaviour.body ≡ body

-- the value of a message: a post's by the program, that of a Send by it; that of a notice is unit, and that of a copy the one of
-- the message that it repeats
pub data HasValue (P : Program) (T : Run) : ℕ → Val → Type 0 where
  post : {m : ℕ} {v : Val} {q : Post} → slice_get P.posts m ≡ Some q → val_of q.value ≡ v → HasValue P T m v
  message : {j by m : ℕ} {v : Val} → (origin : IsSent T j by m) → val_of origin.value ≡ v → HasValue P T m v
  notice : {j by n m : ℕ} {v : Val} → IsEchoed T j by n m → val.unit ≡ v → HasValue P T m v
  copy : {k n m : ℕ} {v : Val} → IsRepeated T k n m → HasValue P T n v → HasValue P T m v

-- the reply that the step at place j gives its turn: the state for a Get, the truth for an Ask, the new name for a New, and
-- unit for a Set, Skip, Send or Stabilize
abbrev pub Replies : Run → List Value → ℕ → Step → Val → Type 0
Replies T opening j (Get t) r = (v : Value) × StateAt T opening (point_at T t j) j v × (r ≡ val_of v)
Replies T opening j (Ask t answer) r = r ≡ val.truth answer
Replies T opening j (New t b n v) r = r ≡ val.name (born T j)
Replies T opening j (Set t v) r = r ≡ val.unit
Replies T opening j (Skip t) r = r ≡ val.unit
Replies T opening j (Send t u v) r = r ≡ val.unit
Replies T opening j (Stabilize t) r = r ≡ val.unit
Replies T opening j s r = ⊥

-- the replies that the steps of t from place a on and before place k give, in order
pub data RepliesOf (T : Run) (opening : List Value) (t a : ℕ) : ℕ → List Val → Type 0 where
  before : {k : ℕ} → k ≤ a → RepliesOf T opening t a k []
  another : {k : ℕ} {rs : List Val} → a ≤ k → ¬ ActsAt T t k → RepliesOf T opening t a k rs → RepliesOf T opening t a (suc k) rs
  reply : {k : ℕ} {s : Step} {rs : List Val} → (r : Val) → a ≤ k → ActsAt T t k → step_at T k ≡ Some s → Replies T opening k s r → RepliesOf T opening t a k rs → RepliesOf T opening t a (suc k) (rs ++ r ∷ [])

-- the next effect of t's open turn at place k: its body with the message of its Take, after the replies since
pub record TurnHas (P : Program) (T : Run) (t k : ℕ) (e : Eff) : Type 0 where
  pub place : ℕ
  pub message : ℕ
  pub body : Code
  pub value : Val
  pub replies : List Val
  pub turn : Turn T t k place message
  pub body_is : HasBody P T t body
  pub value_is : HasValue P T message value
  pub replies_are : RepliesOf T (opening_states P.starts) t (suc place) k replies
  pub effect_is : next body (record { nodes = P.nodes; own = t; message = value }) replies ≡ e
