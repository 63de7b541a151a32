use Rattle.tau_points.proofs.SortedLists.{OnOk-found, IfErr-place}
use Rattle.tau_points.proofs.sorted.find.Goals as goal

pub returns-clause-found : goal.returns-clause-found
returns-clause-found g c = OnOk-found g.met.T.Exact.exact c.args.item.now c.args.items.now c.binary_search.result c.binary_search.ensures.bound c.binary_search.ensures.position

pub returns-clause-place : goal.returns-clause-place
returns-clause-place g c = IfErr-place g.met.T.Ord.total c.args.item.now c.args.items.now c.requires c.binary_search.result c.binary_search.ensures.position
