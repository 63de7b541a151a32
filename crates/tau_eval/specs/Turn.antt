-- A turn, as contracts see a job.
use Rattle.std.specs.Prelude.{◌≡◌, ℕ, List, [], ◌∷◌, ◌++◌, slice_get, Some, refl}
use Rattle.std.specs.Coded.{Coded, code_by, coded_ℕ, coded_list, coded×}
use Rattle.tau_value.specs.Val.{Val, val_code}
use Rattle.tau_tree.specs.Code.{Code, code_code}
use Rattle.tau_tree.specs.declared.programs.Program.{Program}
use Rattle.tau_tree.specs.Sound.{bodies}
use Rattle.tau_eval.specs.Eff.{Eff}
use Rattle.tau_eval.specs.Meaning.{Setting, next}

-- a turn as far as it has come: the body of its behaviour, how many nodes there are, its transactor, the place of its Take,
-- its message and the replies so far
pub record TurnSoFar : Type 0 where
  pub body : Code
  pub nodes : ℕ
  pub who : ℕ
  pub place : ℕ
  pub message : Val
  pub replies : List Val

abbrev pub turn_code : Coded TurnSoFar
turn_code =
    code_by ((Code × (ℕ × ℕ)) × (ℕ × (Val × List Val))) (coded× (coded× code_code (coded× coded_ℕ coded_ℕ)) (coded× coded_ℕ (coded× val_code (coded_list val_code)))) (λ t. ((t.body, (t.nodes, t.who)), (t.place, (t.message, t.replies)))) (λ p. record { body = p.0.0; nodes = p.0.1.0; who = p.0.1.1; place = p.1.0; message = p.1.1.0; replies = p.1.1.1 }) (λ _. refl)

-- a turn of a transactor, a behaviour of a program, the place of a Take, a message and replies
pub record IsTurnOf (p : Program) (transactor behaviour take : ℕ) (msg : Val) (rs : List Val) (t : TurnSoFar) : Type 0 where
  pub body : slice_get (bodies p) behaviour ≡ Some t.body
  pub nodes : t.nodes ≡ p.nodes
  pub who : t.who ≡ transactor
  pub place : t.place ≡ take
  pub message : t.message ≡ msg
  pub replies : t.replies ≡ rs

-- what a turn is evaluated with
abbrev pub setting_in : TurnSoFar → Setting
setting_in t = record { nodes = t.nodes; own = t.who; message = t.message }

-- the effect that comes next in a turn
abbrev pub next_in : TurnSoFar → Eff
next_in t = next t.body (setting_in t) t.replies

-- the turn with one reply more
abbrev pub with_reply : TurnSoFar → Val → TurnSoFar
with_reply t reply = record t { replies = t.replies ++ reply ∷ [] }
