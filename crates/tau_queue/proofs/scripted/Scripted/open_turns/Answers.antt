use Rattle.std.proofs.Common.{subst, arith}
use Rattle.tau_trace.specs.Known.{WellFormed}
use Rattle.tau_queue.proofs.OpenLemmas.{few_turns}
use Rattle.tau_queue.proofs.scripted.Scripted.open_turns.Goals as goal

pub overflow_cast-result : goal.overflow_cast-result
overflow_cast-result g c =
    let s = c.self.inside in
    let well : WellFormed s.legal.system.run = subst WellFormed c.trace-trace.ensures.run c.trace-trace.ensures.well_formed in
    omega (arith, few_turns s.legal.system.run s.index.turns.items c.self.invariant.turns_are, well.few_steps, s.index.turns.ok.0, c.len.ensures)
