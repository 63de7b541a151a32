use Rattle.std.proofs.Common.{sym}
use Rattle.tau_layout.proofs.Seen.{columns_seen}
use Rattle.tau_layout.proofs.layout.Layout.columns.Goals as goal

pub returns-clause-columns : goal.returns-clause-columns
returns-clause-columns c = columns_seen c.args.self.now c.self.inside.window c.self.inside.grid c.self.inside.columns.items c.self.inside.ranks.items c.self.inside.nodes c.self.inside.longest c.self.invariant (sym c.self.view_is) c.deref.result.now c.deref.ensures.value
