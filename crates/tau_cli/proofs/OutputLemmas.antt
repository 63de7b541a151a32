-- What a command with one text comes to.
use Rattle.std.proofs.Common.{◌≡◌, ◌⊎◌, inl, inr, ℕ, ◌<◌, ◌≤◌, List, length, Option, Some, None, Result, Ok, Err, IsTrue, refl, sym, ap, ◌∙◌, subst, arith}
use Rattle.tau_command.specs.declared.commands.TextCommand.{TextCommand}
use Rattle.tau_command.specs.declared.commands.TextCommand.TheVariants.{Why, Draw, Storm}
use Rattle.tau_command.specs.declared.storms.Question.TheVariants.{Outcomes, Claim, Show}
use Rattle.tau_output.specs.declared.outputs.Output.{Output}
use Rattle.tau_output.specs.declared.refusals.Refusal.{Refusal}
use Rattle.tau_output.specs.declared.refusals.Refusal.TheVariants as refusals
use Rattle.tau_output.specs.Faults.{input_limit, reads_input, IsInputFault}
use Rattle.tau_output.specs.declared.refusals.Wanted.{Wanted}
use Rattle.tau_output.specs.declared.refusals.Wanted.TheVariants as wants
use Rattle.tau_output.specs.Asking.{wanted_by}
use Rattle.tau_cli.specs.declared.statuses.Status.{Status}
use Rattle.tau_cli.specs.declared.statuses.Status.TheVariants.{Input, ReadFault, NoMemory, Journal, DiskFault, Place, NoClaim, NoOutcome}
use Rattle.tau_cli.specs.Status.{of_refusal, of_wanted, IsRefusal, IsResult, TellsOfDisk}
use Rattle.tau_cli.specs.Output.{AreLeft, IsEndOf, IsTooLong, IsUnasked, Stops, IsUnlessUnread}

-- what was left, where it is told
pub left_told : (left : Option (List ℕ)) (bytes all : List ℕ) → AreLeft left bytes → left ≡ Some all → bytes ≡ all
left_told None bytes all h e = cc
left_told (Some xs) bytes all h e = let same : xs ≡ all = cc in h ∙ same

-- bytes that were left aren't too many where they are few
pub not_too_long : (left : Option (List ℕ)) (bytes : List ℕ) → left ≡ Some bytes → length bytes ≤ input_limit → IsTooLong left → ⊥
not_too_long left bytes told few long =
    let longer : input_limit < length bytes = subst (λ b. input_limit < length b) (left_told left long.bytes bytes long.are_left told) long.many in
    omega (arith, longer, few)

-- that a call refuses to tell why, or wants memory
abbrev pub Refuses : Result Output Refusal → Wanted → Type 0
Refuses r wanted = (r ≡ Err (refusals.Lacking wanted)) ⊎ (r ≡ Err refusals.NoMemory)

-- nothing is written then
pub never_told : (o : Output) (wanted : Wanted) → Refuses (Ok o) wanted → ⊥
never_told o wanted (inl e) = cc
never_told o wanted (inr e) = cc

-- and the status says so
pub wanted_told : (e : Refusal) (s : Status) (wanted : Wanted) → s ≡ of_refusal e → Refuses (Err e) wanted → IsUnlessUnread s (of_wanted wanted)
wanted_told e s wanted is (inl h) =
    let same : e ≡ refusals.Lacking wanted = cc in
    inl (is ∙ ap of_refusal same)
wanted_told e s wanted is (inr h) =
    let same : e ≡ refusals.NoMemory = cc in
    inr (inr (is ∙ ap of_refusal same))

-- such a status is a refusal
wanted_refuses : (wanted : Wanted) → IsRefusal (of_wanted wanted)
wanted_refuses (wants.Step place) = tt
wanted_refuses wants.Behaviour = tt
wanted_refuses wants.Outcome = tt

pub wanted_no_result : (wanted : Wanted) → ¬ IsResult (of_wanted wanted)
wanted_no_result (wants.Step place) h = h
wanted_no_result wants.Behaviour h = h
wanted_no_result wants.Outcome h = h

pub wanted_other : (wanted : Wanted) (s : Status) → ¬ IsRefusal s → of_wanted wanted ≡ s → ⊥
wanted_other wanted s none e = none (subst IsRefusal e (wanted_refuses wanted))

-- what stops a command with such a status is that it asks in vain
pub stops_lacking : (s : Status) (command : TextCommand) (left : Option (List ℕ)) (R : Type 0) (wanted : Wanted) → Stops command left R s → s ≡ of_wanted wanted → IsUnasked command left wanted
stops_lacking s command left R (wants.Step place) h e = subst (Stops command left R) e h
stops_lacking s command left R wants.Behaviour h e = subst (Stops command left R) e h
stops_lacking s command left R wants.Outcome h e = subst (Stops command left R) e h

-- a command that wants something may end so, and reads an input
step_end : (command : TextCommand) (place : ℕ) → wanted_by command ≡ Some (wants.Step place) → IsEndOf command (Place place)
step_end (Why k) place e = let same : k ≡ place = cc in inr (ap Place (sym same))
step_end (Draw from to None) place e = absurd (cc)
step_end (Draw from to (Some k)) place e = let same : k ≡ place = cc in inr (place, ap Some same, refl)
step_end (Storm workers numbers Outcomes) place e = absurd (cc)
step_end (Storm workers numbers (Claim name)) place e = absurd (cc)
step_end (Storm workers numbers (Show outcome)) place e = absurd (cc)
step_end command place e = absurd (cc)

claim_end : (command : TextCommand) → wanted_by command ≡ Some wants.Behaviour → IsEndOf command NoClaim
claim_end (Why k) e = absurd (cc)
claim_end (Draw from to None) e = absurd (cc)
claim_end (Draw from to (Some k)) e = absurd (cc)
claim_end (Storm workers numbers Outcomes) e = absurd (cc)
claim_end (Storm workers numbers (Claim name)) e = inr (inr refl)
claim_end (Storm workers numbers (Show outcome)) e = absurd (cc)
claim_end command e = absurd (cc)

outcome_end : (command : TextCommand) → wanted_by command ≡ Some wants.Outcome → IsEndOf command NoOutcome
outcome_end (Why k) e = absurd (cc)
outcome_end (Draw from to None) e = absurd (cc)
outcome_end (Draw from to (Some k)) e = absurd (cc)
outcome_end (Storm workers numbers Outcomes) e = absurd (cc)
outcome_end (Storm workers numbers (Claim name)) e = absurd (cc)
outcome_end (Storm workers numbers (Show outcome)) e = inr refl
outcome_end command e = absurd (cc)

pub asked_reads : (command : TextCommand) (wanted : Wanted) → wanted_by command ≡ Some wanted → IsTrue (reads_input command)
asked_reads (Why k) wanted e = refl
asked_reads (Draw from to ask) wanted e = refl
asked_reads (Storm workers numbers question) wanted e = refl
asked_reads command wanted e = absurd (cc)

-- with no fault anywhere, only want of memory is left
pub stops_without_fault : (s : Status) (command : TextCommand) (left : Option (List ℕ)) (R : Type 0) (bytes : List ℕ) → Stops command left R s → left ≡ Some bytes
    → ((a b : ℕ) → ¬ IsInputFault command bytes a b) → ¬ R → IsEndOf command s ⊎ (s ≡ NoMemory)
stops_without_fault (Input a b) command left R bytes h l f r = absurd (f a b (subst (λ x. IsInputFault command x a b) (left_told left h.bytes bytes h.are_left l) h.has_fault))
stops_without_fault ReadFault command left R bytes h l f r = absurd (r h.1)
stops_without_fault (Place place) command left R bytes h l f r = inl (step_end command place h.in_vain.wants)
stops_without_fault NoClaim command left R bytes h l f r = inl (claim_end command h.in_vain.wants)
stops_without_fault NoOutcome command left R bytes h l f r = inl (outcome_end command h.in_vain.wants)
stops_without_fault NoMemory command left R bytes h l f r = inr refl
stops_without_fault s command left R bytes h l f r = absurd h

-- nothing that stops a command with one text tells of a disk, or comes where the text was written
pub stops_no_disk : (s : Status) (command : TextCommand) (left : Option (List ℕ)) (R : Type 0) → Stops command left R s → ¬ TellsOfDisk s
stops_no_disk (Journal fault at) command left R h t = h
stops_no_disk DiskFault command left R h t = h
stops_no_disk s command left R h t = absurd t

pub stops_no_result : (s : Status) (command : TextCommand) (left : Option (List ℕ)) (R : Type 0) → Stops command left R s → ¬ IsResult s
stops_no_result (Input a b) command left R h t = t
stops_no_result ReadFault command left R h t = t
stops_no_result (Place place) command left R h t = t
stops_no_result NoClaim command left R h t = t
stops_no_result NoOutcome command left R h t = t
stops_no_result NoMemory command left R h t = t
stops_no_result s command left R h t = absurd h
