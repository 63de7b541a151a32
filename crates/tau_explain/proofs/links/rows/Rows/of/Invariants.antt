use Rattle.std.specs.HashMap.{get}
use Rattle.tau_past.specs.Tables.{same_point}
use Rattle.tau_explain.specs.Links.Inner.Rows.{HasRows}
use Rattle.tau_explain.proofs.links.rows.Rows.of.Given as goal

abbrev pub invariant-loop-place : goal.invariant-loop-place
invariant-loop-place l = HasRows l.index l.place (get same_point l.rows.last_touching) l.rows.earlier_touching.items l.rows.last_resting.items l.rows.earlier_resting.items
