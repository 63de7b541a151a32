use Rattle.std.proofs.Common.{◌≡◌, sym, subst}
use Rattle.tau_trace.specs.Run.{len}
use Rattle.tau_script.proofs.Passing.{current}
use Rattle.tau_script.proofs.search.due.Goals as goal

pub returns-clause-cursor : goal.returns-clause-cursor
returns-clause-cursor c = λ is. current c.args.script.now c.args.trace.now.run (len c.args.trace.now.run) c.args.cursor.now c.pass_over.new.cursor is c.pass_over.ensures.passes
