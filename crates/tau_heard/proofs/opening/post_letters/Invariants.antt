use Rattle.tau_heard.specs.Opened.{ArePosts}
use Rattle.tau_heard.proofs.opening.post_letters.Given as goal

abbrev pub invariant-loop-post : goal.invariant-loop-post
invariant-loop-post l = ArePosts l.letters.items l._post
