use Rattle.std.proofs.Common.{sym, subst}
use Rattle.std.proofs.lemmas.Result.{on_ok_weaker}
use Rattle.tau_storm.specs.Inner.Counting.{outcomes_of}
use Rattle.tau_storm.specs.Tables.{Tally, IsTable}
use Rattle.tau_storm.proofs.Tables.{table_joined}
use Rattle.tau_storm.proofs.table.Table.append.Goals as goal

pub returns : goal.returns
returns c =
    on_ok_weaker c.add_told.result
    (λ joins ends more table are totals.
    table_joined ends more (outcomes_of c.self.inside.rows.entries) (outcomes_of c.add_told.new.rows.entries) c.args.later.outcomes c.self.inside.totals c.args.later.totals c.in_ok-self-inside.field-0 (joins ends more) c.in_ok-self-inside.ensures
    (subst (λ (t : Tally). IsTable ends t) (sym c.self.view_is) table) are totals)
    c.add_told.ensures
