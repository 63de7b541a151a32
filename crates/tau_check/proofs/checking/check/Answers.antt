use Rattle.tau_check.proofs.checking.check.Goals as goal

pub returns : goal.returns
returns c = c.legality_of.ensures c.args.program.now c.args.trace.now.run c.in_ok-checker.ensures
