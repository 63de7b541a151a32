use Rattle.tau_output.proofs.RunLemmas.{runs_as}
use Rattle.tau_output.proofs.SpellingLemmas.{program_spelled}
use Rattle.tau_output.proofs.running.write_run.Goals as goal

pub returns-clause-run : goal.returns-clause-run
returns-clause-run c = λ limit bytes spelled ends.
    rw c.end_of.ensures
    (runs_as limit c.args.program.now c.args.trace.now.run c.args.is_complete bytes c.in_ok-run_text.field-0.items spelled c.requires.sound ends c.in_ok-run_text.ensures.text c.in_ok-run_text.ensures.read_back)

pub returns-clause-program : goal.returns-clause-program
returns-clause-program c = program_spelled c.args.program.now c.args.trace.now.run c.in_ok-run_text.field-0.items c.in_ok-run_text.ensures.read_back
