-- What a suspended turn keeps: it goes on to the effects that the meaning of its body tells.
use Rattle.std.specs.Prelude.{◌≡◌, ℕ, ◌<◌, ◌≤◌, true, List, ◌++◌, map, drop, length, vec_len}
use Rattle.std.specs.Vec.{vec_capacity}
use Rattle.tau_value.specs.Val.{Val}
use Rattle.tau_value.specs.Value.{val_of}
use Rattle.tau_tree.specs.Code.{Code}
use Rattle.tau_tree.specs.Expr.{code_of}
use Rattle.tau_eval.specs.Eff.{has_reply}
use Rattle.tau_eval.specs.Effect.{eff_of}
use Rattle.tau_eval.specs.Outcome.{Outcome, effect_of}
use Rattle.tau_eval.specs.Meaning.{Setting, next}
use Rattle.tau_eval.specs.Machine.{running, reached}
use Rattle.tau_eval.specs.Turn.{TurnSoFar, setting_in}
use Rattle.tau_eval.specs.declared.effects.Effect.{Effect}
use Rattle.tau_eval.specs.declared.course.Course.{Course}
use Rattle.tau_eval.specs.declared.course.State.{State}
use Rattle.tau_eval.specs.declared.course.State.TheVariants.{Running, Reached}

-- the turn that a course is of
abbrev pub turn_of : Course → TurnSoFar
turn_of c =
    record { body = code_of c.body.now; nodes = c.nodes; who = c.who; place = c.turn; message = val_of c.message; replies = map val_of c.replies.items }

abbrev pub setting_by : Course → Setting
setting_by c = setting_in (turn_of c)

-- a body with these replies, of which so many are used: with any replies to come, what comes tells the effect that the
-- meaning tells
pub record Continues (body : Code) (s : Setting) (replies : List Val) (used : ℕ) (comes : List Val → Outcome) : Type 0 where
  pub within : used ≤ length replies
  pub follows : (rs : List Val) → next body s (replies ++ rs) ≡ effect_of (comes (drop used replies ++ rs))

-- the same of a course
abbrev pub GoesOn : Course → (List Val → Outcome) → Type 0
GoesOn c comes = Continues (code_of c.body.now) (setting_by c) (map val_of c.replies.items) c.used comes

-- what comes of a course in a state
abbrev pub stated : Course → State → List Val → Outcome
stated c (Running focus) = running c.machine (setting_by c) focus
stated c (Reached effect) = reached c.machine (setting_by c) (eff_of effect)

-- a course that has reached an effect; all replies are used where it has a reply, and there is room for one more
pub record IsPending (c : Course) (effect : Effect) : Type 0 where
  pub goes_on : GoesOn c (reached c.machine (setting_by c) (eff_of effect))
  pub settled : has_reply (eff_of effect) ≡ true → length c.replies.items ≤ c.used
  pub room : vec_len c.replies < vec_capacity c.replies
