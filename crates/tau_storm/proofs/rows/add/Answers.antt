use Rattle.std.proofs.Common.{sym}
use Rattle.std.proofs.lemmas.Result.{on_ok_weaker}
use Rattle.tau_value.proofs.NameLemmas.{none_from_test}
use Rattle.tau_storm.proofs.RowLemmas.{found, absent}
use Rattle.tau_storm.proofs.rows.add.Goals as goal

pub returns-in-Some : goal.returns-in-Some
returns-in-Some c =
    on_ok_weaker c.add_at.result
    (found c.args.lines.items c.as_slice.result.now c.in-Some.place c.args.row c.args.rows.now.entries c.add_at.new.rows.entries c.as_slice.ensures.value c.in-Some.ensures.index)
    c.add_at.ensures

pub returns-in_ok-insert-in-None : goal.returns-in_ok-insert-in-None
returns-in_ok-insert-in-None c =
    absent c.args.rows.now c.args.lines c.as_slice.result.now c.args.row c.insert.new.self.entries c.as_slice.ensures.value (none_from_test _ (sym c.in-None.ensures.found)) c.in_ok-insert-in-None.ensures.entries
