-- Words drawn one after another.
use Rattle.std.proofs.Common.{◌≡◌, ℕ, suc, ◌+◌, ◌*◌, ◌%◌, ℤ, pos, [], ◌∷◌, refl, ap, ◌∙◌, arith}
use Rattle.rand_core.specs.Pcg32Seed.{pcg32_seed}
use Rattle.rand_pcg.specs.Lcg.{Lcg}
use Rattle.rand_pcg.specs.Pcg.{pcg32, pcg32_of_seed}
use Rattle.tau_value.specs.declared.shared.Value.TheVariants.{Int}
use Rattle.tau_tree.specs.declared.entries.Failure.TheVariants.{Fail, Lose}
use Rattle.tau_gen.specs.Generated.{after, word, post_at, script_of}

-- no word has been drawn from a generator that is new
pub after_none : (number : ℕ) → pcg32_of_seed (pcg32_seed 16 number) ≡ after number 0
unfolding after
after_none number = refl

-- the word that is drawn after k words is word k
pub word_drawn : (number k : ℕ) (before now : Lcg) (w : ℕ) → before ≡ after number k → (w, now) ≡ pcg32 before → w ≡ word number k
unfolding word
word_drawn number k before now w at drawn =
    ap (λ (p : ℕ × Lcg). p.0) drawn ∙ ap (λ (g : Lcg). (pcg32 g).0) at

-- the generator that is left then has given a word more
after_one : (number k : ℕ) (before now : Lcg) (w : ℕ) → before ≡ after number k → (w, now) ≡ pcg32 before → now ≡ after number (suc k)
unfolding after
after_one number k before now w at drawn =
    ap (λ (p : ℕ × Lcg). p.1) drawn ∙ ap (λ (g : Lcg). (pcg32 g).1) at

-- one more word has been drawn then
pub after_drawn : (number k n : ℕ) (before now : Lcg) (w : ℕ) → n ≡ k + 1 → before ≡ after number k → (w, now) ≡ pcg32 before → now ≡ after number n
after_drawn number k n before now w one at drawn =
    let more : suc k ≡ n = omega arith in
    after_one number k before now w at drawn ∙ ap (after number) more

-- two words in a row make a post
pub post_drawn : (number place : ℕ) (before between now : Lcg) (a b : ℕ) (z : ℤ) → before ≡ after number (2 * place) → (a, between) ≡ pcg32 before → (b, now) ≡ pcg32 between → z ≡ pos (b % 48) → record { to = a % 16; value = Int z } ≡ post_at number place
post_drawn number place before between now a b z at first second is =
    let one : a ≡ word number (2 * place) = word_drawn number (2 * place) before between a at first in
    let on : between ≡ after number (2 * place + 1) = after_drawn number (2 * place) (2 * place + 1) before between a (omega arith) at first in
    let two : b ≡ word number (2 * place + 1) = word_drawn number (2 * place + 1) between now b on second in
    let message : z ≡ pos (word number (2 * place + 1) % 48) = is ∙ ap (λ w. pos (w % 48)) two in
    λ i. record { to = one i % 16; value = Int (message i) }

-- and leave two words more
pub after_post : (number place : ℕ) (before between now : Lcg) (a b : ℕ) → before ≡ after number (2 * place) → (a, between) ≡ pcg32 before → (b, now) ≡ pcg32 between → now ≡ after number (2 * (place + 1))
after_post number place before between now a b at first second =
    after_drawn number (2 * place + 1) (2 * (place + 1)) between now b (omega arith) (after_drawn number (2 * place) (2 * place + 1) before between a (omega arith) at first) second

-- two words after those of the posts make the script
pub script_drawn : (number : ℕ) (before between now : Lcg) (a b : ℕ) → before ≡ after number 64 → (a, between) ≡ pcg32 before → (b, now) ≡ pcg32 between → record { at = 50; failure = Lose 32 } ∷ record { at = 200; failure = Fail (a % 4) } ∷ record { at = 400; failure = Fail (b % 4) } ∷ [] ≡ script_of number
script_drawn number before between now a b at first second =
    let one : a ≡ word number 64 = word_drawn number 64 before between a at first in
    let on : between ≡ after number 65 = after_drawn number 64 65 before between a (omega arith) at first in
    let two : b ≡ word number 65 = word_drawn number 65 between now b on second in
    λ i.
    record { at = 50; failure = Lose 32 }
    ∷ record { at = 200; failure = Fail (one i % 4) }
    ∷ record { at = 400; failure = Fail (two i % 4) }
    ∷ []
