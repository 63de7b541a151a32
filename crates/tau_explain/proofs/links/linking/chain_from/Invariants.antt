use Rattle.std.proofs.Common.{◌≡◌, Some}
use Rattle.std.specs.HashMap.{get}
use Rattle.tau_past.specs.Tables.{same_point}
use Rattle.tau_explain.specs.Links.Inner.Linking.{GoesTo, AreNexts}
use Rattle.tau_explain.proofs.links.linking.chain_from.Given as goal

abbrev pub invariant-loop-left : goal.invariant-loop-left
invariant-loop-left l =
    GoesTo l.levels.index.now l.levels.marks.now (get same_point l.levels.far) l.fn.first l.chain.items l.last × (get same_point l.levels.far l.last ≡ Some l.left)
    × AreNexts l.levels.index.now l.levels.marks.now (get same_point l.levels.far) (get same_point l.nexts)
