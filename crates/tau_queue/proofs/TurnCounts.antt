-- How many turns are open after a step.
use Rattle.std.proofs.Common.{◌≡◌, ℕ, ◌+◌, ◌≤◌, Option, Some, None, List, [], ◌∷◌, length, take, arith, length-append}
use Rattle.std.proofs.Math.Seq.{take-append_seam, take-length}
use Rattle.tau_mailbox.proofs.Lists.{length-filter-le}
use Rattle.tau_mailbox.specs.MailState.{is_not}
use Rattle.tau_rules.specs.declared.answers.Acted.{Acted}
use Rattle.tau_rules.specs.declared.answers.Acted.TheVariants.{Reply, TurnOver, Redo}
use Rattle.tau_rules.specs.declared.answers.Delivered.{Delivered}
use Rattle.tau_rules.specs.declared.answers.Delivered.TheVariants.{Began, Dropped, Fell, Voided, Echoed, Heeded}
use Rattle.tau_queue.specs.Inner.Index.{turns_received, turns_ended, turns_acted}

pub fewer_ended : (turns : List ℕ) (turn : Option ℕ) → length (turns_ended turns turn) ≤ length turns
fewer_ended turns None = omega arith
fewer_ended turns (Some place) = length-filter-le (is_not place) turns

pub fewer_acted : (place : ℕ) (turns : List ℕ) (a : Acted) → length (turns_acted place turns a) ≤ length turns
fewer_acted place turns (Reply r) = omega arith
fewer_acted place turns TurnOver = length-filter-le (is_not place) turns
fewer_acted place turns (Redo job) = omega arith

pub front_received : (place : ℕ) (turns : List ℕ) (d : Delivered) → take (length turns) (turns_received place turns d) ≡ turns
front_received place turns (Began job) = take-append_seam turns (place ∷ [])
front_received place turns Dropped = take-length turns
front_received place turns Fell = take-length turns
front_received place turns Voided = take-length turns
front_received place turns Echoed = take-length turns
front_received place turns Heeded = take-length turns

pub one_received : (place : ℕ) (turns : List ℕ) (d : Delivered) → length (turns_received place turns d) ≤ length turns + 1
one_received place turns (Began job) = omega (arith, length-append turns (place ∷ []))
one_received place turns Dropped = omega arith
one_received place turns Fell = omega arith
one_received place turns Voided = omega arith
one_received place turns Echoed = omega arith
one_received place turns Heeded = omega arith
