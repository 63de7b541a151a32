use Rattle.std.specs.HashMap.{get}
use Rattle.tau_past.specs.Tables.{same_point}
use Rattle.tau_explain.specs.Links.Inner.Linking.{AreNexts, AreDown}
use Rattle.tau_explain.proofs.links.routes.chains_down.Given as goal

abbrev pub invariant-loop-point : goal.invariant-loop-point
invariant-loop-point l =
    AreNexts l.levels.index.now l.levels.marks.now (get same_point l.levels.far) (get same_point l.nexts)
    × AreDown l.levels.index.now l.levels.marks.now (get same_point l.levels.far) l.from l.point-index l.chains.items
