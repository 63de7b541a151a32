use Rattle.tau_cli.proofs.process.run_words.Goals as goal

pub returns : goal.returns
returns g c = record { status = c.call_tau-status.result; is_number = c.exit_code.ensures; ends = c.call_tau-status.ensures }
