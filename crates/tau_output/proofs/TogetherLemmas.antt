-- What `run` writes where it starts several workers.
use Rattle.std.proofs.Common.{◌≡◌, ◌⊎◌, inl, inr, ◌∙◌, ℕ, ◌≤◌, List, length, Result, Ok, Err, IfOk, IfErr, ap, subst, arith}
use Rattle.tau_command.specs.declared.commands.TextCommand.{TextCommand}
use Rattle.tau_command.specs.declared.commands.TextCommand.TheVariants.{Run as RunCommand}
use Rattle.tau_text.specs.declared.errors.InputError.{InputError}
use Rattle.tau_text.specs.Errors.{TellsInputFault}
use Rattle.tau_text.specs.Faults.{IsProgramFault}
use Rattle.tau_text.proofs.FaultLemmas.{program_unique}
use Rattle.tau_output.specs.declared.outputs.End.{End}
use Rattle.tau_output.specs.declared.outputs.Output.{Output}
use Rattle.tau_output.specs.declared.refusals.Refusal.{Refusal}
use Rattle.tau_output.specs.declared.refusals.Refusal.TheVariants.{Fault, NoMemory}
use Rattle.tau_output.specs.Refusals.{of_input_error}
use Rattle.tau_output.specs.Faults.{input_limit, IsInputFault, too_long, within}
use Rattle.tau_output.specs.Asking.{AsksInVain}
use Rattle.tau_output.specs.Runs.{RunsAs}
use Rattle.tau_output.specs.Inner.Ends.{refused_by}
use Rattle.tau_output.proofs.LawLemmas.{told_once, tells_within, tells_no_lack}

-- several workers write nothing for an input with a fault
clean_together : (workers jobs seed steps : ℕ) (bytes : List ℕ) (end : End) (text : List ℕ) → length bytes ≤ input_limit → RunsAs steps bytes end text → (a b : ℕ)
    → ¬ IsInputFault (RunCommand workers jobs seed steps) bytes a b
clean_together workers jobs seed steps bytes end text few runs a b (too_long reads l p q) = omega arith
clean_together workers jobs seed steps bytes end text few runs a b (within l f) = (program_unique bytes).not_both runs.program a b runs.spelled f

told_together : (workers jobs seed steps : ℕ) (bytes : List ℕ) (r : Result Output InputError) → length bytes ≤ input_limit → IfOk r (λ o. RunsAs steps bytes o.end o.text.items)
    → IfErr r (TellsInputFault (IsProgramFault bytes)) → (a b : ℕ) → IsInputFault (RunCommand workers jobs seed steps) bytes a b → (refused_by r ≡ Err (Fault a b)) ⊎ (refused_by r ≡ Err NoMemory)
told_together workers jobs seed steps bytes (Ok o) few runs t a b f = absurd (clean_together workers jobs seed steps bytes o.end o.text.items few runs a b f)
told_together workers jobs seed steps bytes (Err e) few runs t a b f =
    let kind = RunCommand workers jobs seed steps in
    elim (told_once kind bytes (of_input_error e) a b (tells_within kind bytes e few t) (tells_no_lack (AsksInVain kind bytes) e) f) [ inl same ↦ inl (ap Err same) | inr same ↦ inr (ap Err same) ]

-- and an answer for such an input tells the fault, or want of memory
pub together_told : (command : TextCommand) (workers jobs seed steps : ℕ) (bytes : List ℕ) (r : Result Output InputError) (found : Result Output Refusal) → command ≡ RunCommand workers jobs seed steps → found ≡ refused_by r
    → length bytes ≤ input_limit → IfOk r (λ o. RunsAs steps bytes o.end o.text.items) → IfErr r (TellsInputFault (IsProgramFault bytes)) → (a b : ℕ) → IsInputFault command bytes a b
    → (found ≡ Err (Fault a b)) ⊎ (found ≡ Err NoMemory)
together_told command workers jobs seed steps bytes r found same is few runs t a b f =
    elim (told_together workers jobs seed steps bytes r few runs t a b (subst (λ x. IsInputFault x bytes a b) same f)) [ inl told ↦ inl (is ∙ told) | inr told ↦ inr (is ∙ told) ]
