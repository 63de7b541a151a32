-- Each generated program is sound.
use Rattle.std.proofs.Common.{◌≡◌, ◌≢◌, ℕ, zero, suc, ◌+◌, ◌<◌, ◌≤◌, [], ◌∷◌, length, refl, sym, subst, arith}
use Rattle.std.specs.Prelude.{codes}
use Rattle.std.specs.List.{All, AllPairs, range_with_len}
use Rattle.std.proofs.lemmas.List.Elements.{All-map}
use Rattle.std.proofs.lemmas.List.FromFn.{length-map-range_with_len}
use Rattle.tau_value.specs.Names.{IsName}
use Rattle.tau_value.specs.Sizes.{IsInBounds, NamesBelow, levels_of}
use Rattle.tau_value.specs.Value.{val_of}
use Rattle.tau_tree.specs.declared.entries.Entry.{Entry}
use Rattle.tau_tree.specs.declared.posts.Post.{Post}
use Rattle.tau_tree.specs.declared.starts.Start.{Start}
use Rattle.tau_tree.specs.Parts.{depth_of, IsBoundIn, Throughout, HasNames, NamesStart, NamesBehaviour, HasArity, HasItem, HasTwoNames, HasShortText}
use Rattle.tau_tree.specs.Sound.{Sound, IsSoundFailure}
use Rattle.tau_tree.proofs.SoundLemmas.{KeepsEach, each_from_rules}
use Rattle.tau_gen.specs.Hop.{hop_body}
use Rattle.tau_gen.specs.Generated.{start_at, post_at, script_of, starts, posts_of, generated}
use Rattle.tau_gen.proofs.HopLemmas.{hop_keeps, hop_bound, hop_shallow}
use Rattle.tau_gen.proofs.StartLemmas.{starts_names, names_named, names_distinct}

-- what holds of the one item
only : {X : Type 0} → (P : X → Type 0) (x : X) → P x → All P (x ∷ [])
only P x h zero d lt = h
only P x h (suc k) d lt = absurd (omega arith)

-- there are 16 starts
pub starts_length : length starts ≡ 16
unfolding starts
starts_length = length-map-range_with_len start_at 0 16

-- there are 32 posts
pub posts_length : (number : ℕ) → length (posts_of number) ≡ 32
unfolding posts_of
posts_length number = length-map-range_with_len (post_at number) 0 32

-- what holds of each start, whatever its number
of_starts : (P : Start → Type 0) → ((i : ℕ) → P (start_at i)) → All P starts
unfolding starts
of_starts P h = All-map P start_at (range_with_len 0 16) (λ k d lt. h _)

-- what holds of each post, whatever its number
of_posts : (P : Post → Type 0) (number : ℕ) → ((i : ℕ) → P (post_at number i)) → All P (posts_of number)
unfolding posts_of
of_posts P number h = All-map P (post_at number) (range_with_len 0 32) (λ k d lt. h _)

-- the nodes that fail are below 4
failing : (number : ℕ) → All (λ (e : Entry). IsSoundFailure 4 1 e.failure) (script_of number)
failing number zero d lt = tt
failing number (suc zero) d lt = omega arith
failing number (suc (suc zero)) d lt = omega arith
failing number (suc (suc (suc k))) d lt = absurd (omega arith)

-- the rules for the body, one by one
each : KeepsEach 16 1 hop_body
each = each_from_rules 16 1 hop_body hop_keeps

-- its 16 starts, as the rules count them
in_starts : (P : ℕ → Type 0) → P 16 → P (length starts)
in_starts P h = subst P (sym starts_length) h

pub generated_sound : (number : ℕ) → Sound (generated number)
generated_sound number = record {
  some_version = omega arith;
  versions_limit = omega arith;
  some_nodes = omega arith;
  nodes_limit = omega arith;
  behaviours_limit = omega arith;
  starts_limit = omega (arith, starts_length);
  posts_limit = omega (arith, posts_length number);
  entries_limit = omega arith;
  behaviours_named = only IsName (codes "hop") refl;
  behaviours_distinct = λ i j d below lt e. omega arith;
  starts_named = subst (All IsName) (sym starts_names) names_named;
  starts_distinct = subst (AllPairs (λ v w. v ≢ w)) (sym starts_names) names_distinct;
  start_behaviours = of_starts (λ s. s.behaviour < 1) (λ i. omega arith);
  start_nodes = of_starts (λ s. s.node < 4) (λ i. omega arith);
  state_names = of_starts (λ s. NamesBelow (length starts) (val_of s.state)) (λ i. tt);
  receivers = of_posts (λ q. q.to < length starts) number (λ i. omega (arith, starts_length));
  post_names = of_posts (λ q. NamesBelow (length starts) (val_of q.value)) number (λ i. tt);
  sound_failures = failing number;
  states_bounded = of_starts (λ s. IsInBounds (val_of s.state)) (λ i. (omega arith, omega arith));
  posts_bounded = of_posts (λ q. IsInBounds (val_of q.value)) number (λ i. (omega arith, omega arith));
  texts_bounded = only (Throughout HasShortText) hop_body each.short_text;
  variables_bound = only (IsBoundIn []) hop_body hop_bound;
  variables_named = only (Throughout HasNames) hop_body each.names;
  body_starts = only (Throughout (NamesStart (length starts))) hop_body (in_starts (λ n. Throughout (NamesStart n) hop_body) each.start);
  body_behaviours = only (Throughout (NamesBehaviour 1)) hop_body each.behaviour;
  arities = only (Throughout HasArity) hop_body each.arity;
  sequences = only (Throughout HasItem) hop_body each.item;
  folds = only (Throughout HasTwoNames) hop_body each.two_names;
  bodies_depth = only (λ c. 1 + depth_of c ≤ 200) hop_body hop_shallow;
  states_depth = of_starts (λ s. 1 + levels_of (val_of s.state) ≤ 200) (λ i. omega arith);
  posts_depth = of_posts (λ q. 1 + levels_of (val_of q.value) ≤ 200) number (λ i. omega arith);
}
