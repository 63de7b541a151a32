use Rattle.std.proofs.Common.{map, sym, subst}
use Rattle.tau_sexpr.specs.Form.{tree_of}
use Rattle.tau_sexpr.specs.Tree.{inside}
use Rattle.tau_steps.specs.Inner.Reading.{TellsRow}
use Rattle.tau_steps.proofs.rows.read_row.Goals as goal

pub returns-in-Send : goal.returns-in-Send
returns-in-Send c = subst (λ k. TellsRow c.args.place k (inside (map tree_of c.args.items.now)) c.send.result) (sym c.in-Send.is) c.send.ensures

pub returns-in-New : goal.returns-in-New
returns-in-New c = subst (λ k. TellsRow c.args.place k (inside (map tree_of c.args.items.now)) c.new.result) (sym c.in-New.is) c.new.ensures

pub returns-in-Echo : goal.returns-in-Echo
returns-in-Echo c = subst (λ k. TellsRow c.args.place k (inside (map tree_of c.args.items.now)) c.echo.result) (sym c.in-Echo.is) c.echo.ensures
