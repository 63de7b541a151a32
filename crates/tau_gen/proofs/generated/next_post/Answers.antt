use Rattle.std.proofs.Common.{arith}
use Rattle.std.proofs.lemmas.Int.{to_z-of_z}
use Rattle.tau_gen.proofs.WordLemmas.{post_drawn, after_post}
use Rattle.tau_gen.proofs.generated.next_post.Goals as goal

pub returns-clause-post : goal.returns-clause-post
returns-clause-post c = λ number place at.
    post_drawn number place _ _ _ _ _ _ at c.next_u32-receiver.ensures c.next_u32-message.ensures (grind (arith, to_z-of_z))

pub returns-clause-words : goal.returns-clause-words
returns-clause-words c = λ number place at.
    after_post number place _ _ _ _ _ at c.next_u32-receiver.ensures c.next_u32-message.ensures
