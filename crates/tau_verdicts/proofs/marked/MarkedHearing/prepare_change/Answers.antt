use Rattle.tau_verdicts.specs.Doomed.{flag_of}
use Rattle.tau_verdicts.proofs.Lasting.{free_leads}
use Rattle.tau_verdicts.proofs.marked.MarkedHearing.prepare_change.Goals as goal

pub returns-clause-ok : goal.returns-clause-ok
returns-clause-ok c = record {
  hearing = c.in_ok-change.ensures.ok;
  noted = c.in_ok-leaves.ensures.ok;
  free = free_leads c.args.trace.now.run c.args.step.now c.in_ok-leaves.leaves (flag_of c.note_step.new.self.free.items) c.note_step.ensures.knows.2 c.in_ok-leaves.ensures.leaves;
}
