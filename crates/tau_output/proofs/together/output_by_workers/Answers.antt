use Rattle.std.proofs.Common.{◌≡◌, ◌⊎◌, ◌∙◌, Err, sym, IfOk, IfErr, subst}
use Rattle.tau_command.specs.declared.commands.TextCommand.{TextCommand}
use Rattle.tau_command.specs.declared.commands.TextCommand.TheVariants.{Storm}
use Rattle.tau_output.specs.declared.refusals.Refusal.TheVariants.{Lacking, NoMemory}
use Rattle.tau_output.specs.declared.refusals.Wanted.{Wanted}
use Rattle.tau_output.specs.Refusals.{TellsLacking}
use Rattle.tau_output.specs.Asking.{AsksInVain}
use Rattle.tau_output.specs.Writing.{WritesSerially}
use Rattle.tau_output.proofs.LawLemmas.{refusal_told, serially_written}
use Rattle.tau_output.proofs.TogetherLemmas.{together_told}
use Rattle.tau_output.proofs.together.output_by_workers.Goals.{in_default-via-in-Run+else-workers-gt1, in_default-via-in-Storm+else-workers-gt0, in_default-via-in_default}
use Rattle.tau_output.proofs.together.output_by_workers.Goals as goal

pub returns-in-Run-clause-faulty : goal.returns-in-Run-clause-faulty
returns-in-Run-clause-faulty g c =
    together_told c.args.command c.in-Run.workers c.in-Run.jobs c.in-Run.seed c.in-Run.steps c.args.bytes.now c.write_workers_run.result c.refused_by.result c.in-Run.is c.refused_by.ensures c.requires.bytes
    c.write_workers_run.ensures.output c.write_workers_run.ensures.fault

pub returns-in_default-clause-output : goal.returns-in_default-clause-output
returns-in_default-clause-output g c =
    let Told : TextCommand → Type 0 = λ x. IfOk c.output_of.result (λ o. WritesSerially x c.args.bytes.now o.end o.text.items) in
    serially_written c.args.command c.args.bytes.now c.output_of.result (elim c.in_default.branch [
      | in_default-via-in-Run+else-workers-gt1 w ↦ subst Told (w.command-is ∙ sym w.in-Run.is) c.output_of.ensures.output
      | in_default-via-in-Storm+else-workers-gt0 w ↦ subst Told (w.command-is ∙ sym w.in-Storm.is) c.output_of.ensures.output
      | in_default-via-in_default w ↦ subst Told w.command-is c.output_of.ensures.output
    ])

pub returns-in_default-clause-in_vain : goal.returns-in_default-clause-in_vain
returns-in_default-clause-in_vain g c =
    let Told : TextCommand → Type 0 = λ x. (wanted : Wanted) → AsksInVain x c.args.bytes.now wanted → (c.output_of.result ≡ Err (Lacking wanted)) ⊎ (c.output_of.result ≡ Err NoMemory) in
    elim c.in_default.branch [
      | in_default-via-in-Run+else-workers-gt1 w ↦ subst Told (w.command-is ∙ sym w.in-Run.is) c.output_of.ensures.in_vain
      | in_default-via-in-Storm+else-workers-gt0 w ↦ subst Told (w.command-is ∙ sym w.in-Storm.is) c.output_of.ensures.in_vain
      | in_default-via-in_default w ↦ subst Told w.command-is c.output_of.ensures.in_vain
    ]

pub returns-in-Storm-clause-faulty : goal.returns-in-Storm-clause-faulty
returns-in-Storm-clause-faulty g c =
    (refusal_told c.args.command (Storm c.in-Storm.workers c.in-Storm.numbers c.in-Storm.question) c.args.bytes.now c.storm_by_workers-output.result c.in-Storm.is c.requires.bytes c.storm_by_workers-output.ensures.output c.storm_by_workers-output.ensures.fault (c.storm_by_workers-output.ensures.lacking c.in-Storm.workers)).gives.faulty

pub returns-in-Storm-clause-in_vain : goal.returns-in-Storm-clause-in_vain
returns-in-Storm-clause-in_vain g c =
    (refusal_told c.args.command (Storm c.in-Storm.workers c.in-Storm.numbers c.in-Storm.question) c.args.bytes.now c.storm_by_workers-output.result c.in-Storm.is c.requires.bytes c.storm_by_workers-output.ensures.output c.storm_by_workers-output.ensures.fault (c.storm_by_workers-output.ensures.lacking c.in-Storm.workers)).gives.in_vain

pub returns-in-Storm-clause-lacking : goal.returns-in-Storm-clause-lacking
returns-in-Storm-clause-lacking g c =
    subst (λ (k : TextCommand). IfErr c.storm_by_workers-output.result (TellsLacking (AsksInVain k c.args.bytes.now))) (sym c.in-Storm.is) (c.storm_by_workers-output.ensures.lacking c.in-Storm.workers)
