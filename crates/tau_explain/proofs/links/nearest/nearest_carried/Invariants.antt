use Rattle.std.specs.HashMap.{get}
use Rattle.tau_past.specs.Tables.{Lists, same_point}
use Rattle.tau_explain.specs.Links.Inner.Linking.{TellsNearest}
use Rattle.tau_explain.proofs.links.nearest.nearest_carried.Given as goal

abbrev pub invariant-loop-place : goal.invariant-loop-place
invariant-loop-place l = Lists l.place (TellsNearest l.index (get same_point l.far)) l.nearest.items
