-- Effects as plain data, which contracts see in place of the program's own type.
use Rattle.std.specs.Prelude.{ℕ, Bool, true, false, IsTrue}
use Rattle.tau_value.specs.Val.{Val}

-- what the evaluation of a body stops at; transactors, behaviours and nodes by their numbers
pub data Eff : Type 0 where
  get : Eff
  -- the new state
  set : Val → Eff
  -- the receiver, and the value that is sent
  send : ℕ → Val → Eff
  -- the behaviour, the node and the state
  new : ℕ → ℕ → Val → Eff
  stabilize : Eff
  checkpoint : Eff
  rollback : Eff
  ask : Eff
  done : Eff
  -- the code
  trap : ℕ → Eff

-- whether an effect has a reply; after one that has none the turn ends
abbrev pub has_reply : Eff → Bool
has_reply get = true
has_reply (set v) = true
has_reply (send to v) = true
has_reply (new b n state) = true
has_reply stabilize = true
has_reply ask = true
has_reply e = false

abbrev pub HasReply : Eff → Type 0
HasReply e = IsTrue (has_reply e)
