use Rattle.std.proofs.lemmas.Result.{IfOk-weaker}
use Rattle.tau_output.proofs.RunLemmas.{runs_serially}
use Rattle.tau_output.proofs.running.write_serial.Goals as goal

pub returns : goal.returns
returns c =
    let made = c.in_ok-made in
    IfOk-weaker c.write_run.result _ _
    (λ o told bytes spelled.
    let runs = told c.args.steps bytes spelled made.ensures.ends in
    runs_serially c.args.jobs c.args.seed c.args.steps c.args.program.now made.made.trace.run o.end bytes o.text.items made.ensures.serial runs.0 runs.1 runs.2)
    c.write_run.ensures.run
