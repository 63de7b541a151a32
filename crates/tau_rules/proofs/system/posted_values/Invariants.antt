use Rattle.std.proofs.Common.{take}
use Rattle.tau_rules.specs.Records.{HasPosts}
use Rattle.tau_rules.proofs.system.posted_values.Given as goal

abbrev pub invariant-loop-post : goal.invariant-loop-post
invariant-loop-post l = HasPosts (take l.post-index l.posts) l.values.items
