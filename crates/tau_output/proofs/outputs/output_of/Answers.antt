use Rattle.std.proofs.Common.{sym, subst, IfErr}
use Rattle.tau_command.specs.declared.commands.TextCommand.{TextCommand}
use Rattle.tau_output.specs.Refusals.{TellsLacking}
use Rattle.tau_output.specs.Asking.{AsksInVain}
use Rattle.tau_command.specs.declared.commands.TextCommand.TheVariants.{Run, Check, Audit, Report, Print, Migrate, Why, Cut, Draw, Storm}
use Rattle.tau_output.proofs.LawLemmas.{answer_told, refusal_told}
use Rattle.tau_output.proofs.outputs.output_of.Goals as goal

pub returns-in-Run-clause-faulty : goal.returns-in-Run-clause-faulty
returns-in-Run-clause-faulty c =
    (answer_told c.args.command (Run c.in-Run.workers c.in-Run.jobs c.in-Run.seed c.in-Run.steps) c.args.bytes.now c.write_serial_run.result c.refused_by.result c.in-Run.is c.refused_by.ensures c.requires.bytes
    c.write_serial_run.ensures.output c.write_serial_run.ensures.fault).gives.faulty

pub returns-in-Check-clause-faulty : goal.returns-in-Check-clause-faulty
returns-in-Check-clause-faulty c =
    (answer_told c.args.command Check c.args.bytes.now c.check_run.result c.refused_by-in-Check.result c.in-Check.is c.refused_by-in-Check.ensures c.requires.bytes c.check_run.ensures.output c.check_run.ensures.fault).gives.faulty

pub returns-in-Audit-clause-faulty : goal.returns-in-Audit-clause-faulty
returns-in-Audit-clause-faulty c =
    (answer_told c.args.command Audit c.args.bytes.now c.audit_run.result c.refused_by-in-Audit.result c.in-Audit.is c.refused_by-in-Audit.ensures c.requires.bytes c.audit_run.ensures.output c.audit_run.ensures.fault).gives.faulty

pub returns-in-Report-clause-faulty : goal.returns-in-Report-clause-faulty
returns-in-Report-clause-faulty c =
    (answer_told c.args.command Report c.args.bytes.now c.report_run.result c.refused_by-in-Report.result c.in-Report.is c.refused_by-in-Report.ensures c.requires.bytes c.report_run.ensures.output c.report_run.ensures.fault).gives.faulty

pub returns-in-Print-clause-faulty : goal.returns-in-Print-clause-faulty
returns-in-Print-clause-faulty c =
    (answer_told c.args.command Print c.args.bytes.now c.print_program.result c.refused_by-in-Print.result c.in-Print.is c.refused_by-in-Print.ensures c.requires.bytes c.print_program.ensures.output c.print_program.ensures.fault).gives.faulty

pub returns-in-Cut-clause-faulty : goal.returns-in-Cut-clause-faulty
returns-in-Cut-clause-faulty c =
    (answer_told c.args.command Cut c.args.bytes.now c.cut_run.result c.refused_by-in-Cut.result c.in-Cut.is c.refused_by-in-Cut.ensures c.requires.bytes c.cut_run.ensures.output c.cut_run.ensures.fault).gives.faulty

pub returns-in-Migrate-clause-faulty : goal.returns-in-Migrate-clause-faulty
returns-in-Migrate-clause-faulty c =
    (answer_told c.args.command Migrate c.args.bytes.now c.migrate_run.result c.refused_by-in-Migrate.result c.in-Migrate.is c.refused_by-in-Migrate.ensures c.requires.bytes c.migrate_run.ensures.output c.migrate_run.ensures.fault).gives.faulty

pub returns-in-Why-clause-faulty : goal.returns-in-Why-clause-faulty
returns-in-Why-clause-faulty c =
    (refusal_told c.args.command (Why c.in-Why.place) c.args.bytes.now c.explain_run.result c.in-Why.is c.requires.bytes c.explain_run.ensures.output c.explain_run.ensures.fault c.explain_run.ensures.lacking).gives.faulty

pub returns-in-Why-clause-in_vain : goal.returns-in-Why-clause-in_vain
returns-in-Why-clause-in_vain c =
    (refusal_told c.args.command (Why c.in-Why.place) c.args.bytes.now c.explain_run.result c.in-Why.is c.requires.bytes c.explain_run.ensures.output c.explain_run.ensures.fault c.explain_run.ensures.lacking).gives.in_vain

pub returns-in-Draw-clause-faulty : goal.returns-in-Draw-clause-faulty
returns-in-Draw-clause-faulty c =
    (refusal_told c.args.command (Draw c.in-Draw.from c.in-Draw.to c.in-Draw.ask) c.args.bytes.now c.draw_run.result c.in-Draw.is c.requires.bytes c.draw_run.ensures.output c.draw_run.ensures.fault c.draw_run.ensures.lacking).gives.faulty

pub returns-in-Draw-clause-in_vain : goal.returns-in-Draw-clause-in_vain
returns-in-Draw-clause-in_vain c =
    (refusal_told c.args.command (Draw c.in-Draw.from c.in-Draw.to c.in-Draw.ask) c.args.bytes.now c.draw_run.result c.in-Draw.is c.requires.bytes c.draw_run.ensures.output c.draw_run.ensures.fault c.draw_run.ensures.lacking).gives.in_vain

pub returns-in-Storm-clause-faulty : goal.returns-in-Storm-clause-faulty
returns-in-Storm-clause-faulty c =
    (refusal_told c.args.command (Storm c.in-Storm.workers c.in-Storm.numbers c.in-Storm.question) c.args.bytes.now c.storm_program.result c.in-Storm.is c.requires.bytes c.storm_program.ensures.output c.storm_program.ensures.fault (c.storm_program.ensures.lacking c.in-Storm.workers)).gives.faulty

pub returns-in-Storm-clause-in_vain : goal.returns-in-Storm-clause-in_vain
returns-in-Storm-clause-in_vain c =
    (refusal_told c.args.command (Storm c.in-Storm.workers c.in-Storm.numbers c.in-Storm.question) c.args.bytes.now c.storm_program.result c.in-Storm.is c.requires.bytes c.storm_program.ensures.output c.storm_program.ensures.fault (c.storm_program.ensures.lacking c.in-Storm.workers)).gives.in_vain

pub returns-in-Storm-clause-lacking : goal.returns-in-Storm-clause-lacking
returns-in-Storm-clause-lacking c =
    subst (λ (k : TextCommand). IfErr c.storm_program.result (TellsLacking (AsksInVain k c.args.bytes.now))) (sym c.in-Storm.is) (c.storm_program.ensures.lacking c.in-Storm.workers)
