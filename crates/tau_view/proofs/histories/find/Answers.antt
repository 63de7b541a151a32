use Rattle.std.proofs.Common.{arith}
use Rattle.tau_view.proofs.Entries.{below_read, above_read}
use Rattle.tau_view.proofs.histories.find.Goals as goal

pub search-preserved-in-Less : goal.search-preserved-in-Less
search-preserved-in-Less c = record {
  order = omega arith;
  within = c.search.invariant.within;
  below = below_read c.args.entries.now _ c.index-entries-middle.result (omega arith) c.args.who c.requires c.in-Less.ensures;
  above = c.search.invariant.above;
}

pub search-preserved : goal.search-preserved
search-preserved c = record {
  order = omega arith;
  within = omega arith;
  below = c.search.invariant.below;
  above = above_read c.args.entries.now _ c.index-entries-middle.result (omega arith) c.args.who c.requires c.in-Greater.ensures;
}
