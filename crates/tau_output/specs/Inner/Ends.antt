-- How commands end, by what they found.
use Rattle.std.specs.Prelude.{ℕ, Bool, true, false, List, Result, Ok, Err, codes, if◌then◌else◌}
use Rattle.tau_explain.specs.declared.answers.Why.{Why}
use Rattle.tau_explain.specs.declared.answers.Why.TheVariants as answers
use Rattle.tau_check.specs.declared.checking.Legality.{Legality}
use Rattle.tau_check.specs.declared.checking.Legality.TheVariants as checks
use Rattle.tau_past.specs.declared.findings.Audit.{Audit}
use Rattle.tau_past.specs.declared.findings.Audit.TheVariants as audits
use Rattle.tau_text.specs.declared.errors.InputError.{InputError}
use Rattle.tau_output.specs.declared.outputs.End.{End}
use Rattle.tau_output.specs.declared.outputs.End.TheVariants.{Done, Stopped, Bad, Broken}
use Rattle.tau_output.specs.declared.outputs.Output.{Output}
use Rattle.tau_output.specs.declared.refusals.Refusal.{Refusal}
use Rattle.tau_output.specs.Refusals.{of_input_error}
use Rattle.tau_output.specs.Checks.{bad_line}
use Rattle.tau_output.specs.Audits.{broken_line}

-- a run, by whether it is complete
abbrev pub end_of_run : Bool → End
end_of_run true = Done
end_of_run false = Stopped

-- a check
abbrev pub end_of_check : Legality → End
end_of_check (checks.Legal complete) = Done
end_of_check (checks.Bad place) = Bad place

abbrev pub line_of_check : Legality → List ℕ
line_of_check (checks.Legal complete) = if complete then codes "legal complete\n" else codes "legal open\n"
line_of_check (checks.Bad place) = bad_line place

-- an audit
abbrev pub end_of_audit : Audit → End
end_of_audit audits.Safe = Done
end_of_audit (audits.Broken checkpoint point fall) = Broken checkpoint point fall

abbrev pub line_of_audit : List (List ℕ) → Audit → List ℕ
line_of_audit names audits.Safe = codes "safe\n"
line_of_audit names (audits.Broken checkpoint point fall) = broken_line names checkpoint point fall

-- the same output, or the refusal for the error
abbrev pub refused_by : Result Output InputError → Result Output Refusal
refused_by (Ok output) = Ok output
refused_by (Err error) = Err (of_input_error error)

-- the answer of `why` where no decision stands at the place
abbrev pub is_not_asked : Why → Bool
is_not_asked answers.NotAsked = true
is_not_asked answer = false
