use Rattle.std.proofs.Common.{List, ℕ, subst}
use Rattle.tau_forms.specs.Printed as program_forms
use Rattle.tau_text.specs.Inner.Written.{AddsForms}
use Rattle.tau_text.proofs.Writing.{all_written}
use Rattle.tau_text.proofs.forms.run_text.Goals as goal

pub returns : goal.returns
returns c =
    let P = c.args.program.now in
    let program = subst (λ (old : List ℕ). AddsForms (program_forms.printed P) old c.add_program.new.text.items) c.new-text.ensures.items c.in_ok-add_program.ensures.forms in
    let written =
    all_written P c.args.trace.now.run c.add_program.new.text.items c.add_mark.new.text.items c.add_steps.new.text.items c.add_mark-2.new.text.items c.add_report.new.text.items
    program c.in_ok-add_program.ensures.read_back c.in_ok-add_mark.ensures c.in_ok-add_steps.ensures c.in_ok-add_mark-2.ensures c.in_ok-add_report.ensures in
    record { text = written.0; read_back = written.1 }
