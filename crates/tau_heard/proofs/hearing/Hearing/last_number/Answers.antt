use Rattle.std.proofs.Common.{arith}
use Rattle.tau_trace.specs.Run.{len}
use Rattle.tau_heard.proofs.Decisions.{few_numbers}
use Rattle.tau_heard.proofs.hearing.Hearing.last_number.Goals as goal

pub overflow_cast-result : goal.overflow_cast-result
overflow_cast-result c =
    omega (arith, c.count_of_last.ensures, few_numbers c.args.trace.now.run (len c.args.trace.now.run) c.args.self.now.logs.items c.args.who c.requires.knows.logs_are, c.len-steps.ensures.well_formed.few_steps)
