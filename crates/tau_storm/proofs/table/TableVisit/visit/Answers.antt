use Rattle.std.proofs.Common.{sym, subst}
use Rattle.std.proofs.lemmas.Result.{on_ok_weaker}
use Rattle.tau_storm.specs.Tables.{Tally, IsTable}
use Rattle.tau_storm.proofs.Visiting.{visited}
use Rattle.tau_storm.proofs.table.TableVisit.visit.Goals as goal

pub returns : goal.returns
returns c = on_ok_weaker c.note.result
    (λ notes e program_is seed_is faults_are run_is ends table.
    visited c.args.program.now c.args.ran.now.trace.run c.requires.ends.0 c.args.seed c.args.faults c.len-steps.result c.args.ran.now.is_complete c.in_ok-lines.lines c.into_vec.result.items
    c.self.inside.rows.entries c.note.new.rows.entries c.self.inside.totals c.in_ok-self-inside.field-0 c.requires.ends.1 c.in_ok-lines.ensures c.into_vec.ensures c.len-steps.ensures.len c.in_ok-self-inside.ensures notes e program_is seed_is faults_are run_is ends
    (subst (λ (t : Tally). IsTable ends t) (sym c.self.view_is) table))
    c.note.ensures
