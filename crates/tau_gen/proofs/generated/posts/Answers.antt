use Rattle.std.proofs.Common.{[], ◌∷◌, ◌++◌, sym, ◌∙◌, arith}
use Rattle.std.proofs.lemmas.List.FromFn.{map-range_with_len_more}
use Rattle.tau_gen.specs.Generated.{post_at}
use Rattle.tau_gen.proofs.generated.posts.Goals as goal

pub loop-place-preserved : goal.loop-place-preserved
loop-place-preserved c =
    let n = c.loop-place._place in
    let before = c.loop-place.invariant in
    record {
      words = λ number at. c.next_post-post.ensures.words number n (before.words number at);
      posts = λ number at.
          c.in_ok-add.ensures.ok ∙ (λ i. before.posts number at i ++ c.next_post-post.ensures.post number n (before.words number at) i ∷ []) ∙ sym (map-range_with_len_more (post_at number) 0 n n (omega arith));
    }
