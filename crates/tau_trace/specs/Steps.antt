-- Kinds of steps, and what a step names (docs/rules.md, "Steps").
use Rattle.std.specs.Prelude.{ℕ, Bool, true, false, Option, Some, None, ◌||◌}
use Rattle.tau_value.specs.declared.shared.Value.{Value}
use Rattle.tau_trace.specs.declared.step.Step.{Step}
use Rattle.tau_trace.specs.declared.step.Step.TheVariants.{Take, Drop, Fall, Void, Get, Set, Skip, Send, New, Stabilize, Ask, Checkpoint, Hold, Rollback, Stay, Done, Trap, Fail, Lose, Echo, Heed, Repeat}

-- the transactor that makes the step; a Lose and a Repeat are steps of nobody
abbrev pub actor : Step → Option ℕ
actor (Take t m) = Some t
actor (Drop t m) = Some t
actor (Fall t m) = Some t
actor (Void t m) = Some t
actor (Get t) = Some t
actor (Set t v) = Some t
actor (Skip t) = Some t
actor (Send t u v) = Some t
actor (New t b n v) = Some t
actor (Stabilize t) = Some t
actor (Ask t a) = Some t
actor (Checkpoint t) = Some t
actor (Hold t) = Some t
actor (Rollback t) = Some t
actor (Stay t) = Some t
actor (Done t) = Some t
actor (Trap t c) = Some t
actor (Fail t) = Some t
actor (Lose m) = None
actor (Echo t m) = Some t
actor (Heed t m) = Some t
actor (Repeat m) = None

-- the message that the step takes out of flight
abbrev pub removed_by : Step → Option ℕ
removed_by (Take t m) = Some m
removed_by (Drop t m) = Some m
removed_by (Void t m) = Some m
removed_by (Lose m) = Some m
removed_by (Echo t m) = Some m
removed_by (Heed t m) = Some m
removed_by s = None

-- the message that the step receives: a Fall leaves it in flight
abbrev pub received_by : Step → Option ℕ
received_by (Take t m) = Some m
received_by (Drop t m) = Some m
received_by (Fall t m) = Some m
received_by (Void t m) = Some m
received_by (Echo t m) = Some m
received_by (Heed t m) = Some m
received_by s = None

-- the kinds that end their transactor's turn
abbrev pub ends_turn : Step → Bool
ends_turn (Fall t m) = true
ends_turn (Done t) = true
ends_turn (Checkpoint t) = true
ends_turn (Hold t) = true
ends_turn (Rollback t) = true
ends_turn (Stay t) = true
ends_turn (Trap t c) = true
ends_turn (Fail t) = true
ends_turn s = false

abbrev pub is_take : Step → Bool
is_take (Take t m) = true
is_take s = false

abbrev pub is_checkpoint : Step → Bool
is_checkpoint (Checkpoint t) = true
is_checkpoint s = false

abbrev pub is_new : Step → Bool
is_new (New t b n v) = true
is_new s = false

abbrev pub is_send : Step → Bool
is_send (Send t u v) = true
is_send s = false

abbrev pub is_echo : Step → Bool
is_echo (Echo t m) = true
is_echo s = false

-- the kinds that make a message
abbrev pub makes_message : Step → Bool
makes_message (Send t u v) = true
makes_message (Echo t m) = true
makes_message (Repeat m) = true
makes_message s = false

-- the kinds that neither begin nor end a turn and belong to none
abbrev pub leaves_turns : Step → Bool
leaves_turns (Drop t m) = true
leaves_turns (Void t m) = true
leaves_turns (Lose m) = true
leaves_turns (Echo t m) = true
leaves_turns (Heed t m) = true
leaves_turns (Repeat m) = true
leaves_turns s = false
