use Rattle.tau_storm.proofs.Tables.{no_table}
use Rattle.tau_storm.proofs.table.Table.new.Goals as goal

pub returns : goal.returns
returns c = no_table c.new.result.entries c.none.result c.new.ensures.empty c.none.ensures
