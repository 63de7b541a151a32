-- What comes of the evaluation of an expression.
use Rattle.std.specs.Prelude.{ℕ, ◌+◌, nat_lt, if◌then◌else◌, List, [], ◌∷◌, Ok, Err}
use Rattle.tau_value.specs.Val.{Val}
use Rattle.tau_eval.specs.Eff as eff
use Rattle.tau_eval.specs.Eff.{Eff}
use Rattle.tau_eval.specs.Operations.{Answer}

-- a value, with the count of evaluations so far and the replies that are left; or the effect at which the evaluation stops
pub data Outcome : Type 0 where
  gives : Val → ℕ → List Val → Outcome
  stops : Eff → Outcome

-- what comes after a value has been given, with its count and its replies
abbrev pub After : Type 0
After = ℕ → List Val → Outcome

-- goes on from a value; what has stopped stays so
abbrev pub and_then : Outcome → (Val → After) → Outcome
and_then (gives v n rs) f = f v n rs
and_then (stops e) f = stops e

-- an evaluation begins and counts one; the one that would be number 100,001 in the turn is trap 6 instead
abbrev pub begun : ℕ → (ℕ → Outcome) → Outcome
begun n f = if nat_lt n 100000 then f (n + 1) else stops (eff.trap 6)

-- the value of an operation, or its trap
abbrev pub finished : Answer → After
finished (Ok v) n rs = gives v n rs
finished (Err code) n rs = stops (eff.trap code)

-- an effect that has a reply uses one, and its value is the reply; with no reply left the evaluation stops at it
abbrev pub asks : Eff → After
asks e n [] = stops e
asks e n (r ∷ rs) = gives r n rs

-- where an evaluation stops: the effect done where the whole body has a value
abbrev pub effect_of : Outcome → Eff
effect_of (gives v n rs) = eff.done
effect_of (stops e) = e
