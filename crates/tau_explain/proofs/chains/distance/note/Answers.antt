use Rattle.std.proofs.Common.{rules}
use Rattle.std.specs.HashMap.{get}
use Rattle.tau_explain.specs.Chains.Inner.Distances.{same_point}
use Rattle.tau_explain.proofs.Noting.{notes_fresh}
use Rattle.tau_explain.proofs.chains.distance.note.Goals as goal

pub returns-in_ok-push : goal.returns-in_ok-push
returns-in_ok-push c = notes_fresh _ _ (get same_point c.args.far.now) (get same_point c.insert.new.self) _ _ (search rules) c.in_ok-insert.ensures.updates.0 c.in_ok-push.ensures.items
