use Rattle.std.proofs.Common.{◌≡◌, ℕ, ◌*◌, map}
use Rattle.std.specs.List.{range_with_len}
use Rattle.tau_gen.specs.Generated.{after, post_at}
use Rattle.tau_gen.proofs.generated.posts.Given as goal

abbrev pub invariant-loop-place : goal.invariant-loop-place
invariant-loop-place l = record {
  words : (number : ℕ) → l.fn.words ≡ after number 0 → l.words ≡ after number (2 * l._place);
  posts : (number : ℕ) → l.fn.words ≡ after number 0 → l.posts ≡ map (post_at number) (range_with_len 0 l._place);
}
