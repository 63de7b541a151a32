use Rattle.tau_tree.proofs.FieldLemmas.{same_posts}
use Rattle.tau_tree.proofs.posts.Post.same.Goals as goal

pub returns-then-self-other : goal.returns-then-self-other
returns-then-self-other c = same_posts _ _ _ c.if-self-other.true c.same.ensures
