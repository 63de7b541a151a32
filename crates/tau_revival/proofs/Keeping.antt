-- A revived program is sound.
use Rattle.std.proofs.Common.{◌≡◌, ℕ, zero, suc, ◌+◌, ◌≤◌, List, [], ◌∷◌, ◌++◌, length, take, drop, All, ap, arith, length-append, take-append-drop}
use Rattle.std.proofs.lemmas.List.Elements.{All-append, All-cons, All-nil, All-take, All-drop}
use Rattle.tau_value.specs.declared.limits.TheConstants.{ENTRY_LIMIT}
use Rattle.tau_tree.specs.declared.entries.Entry.{Entry}
use Rattle.tau_tree.specs.declared.entries.Failure.TheVariants as failures
use Rattle.tau_tree.specs.declared.programs.Program.{Program}
use Rattle.tau_tree.specs.Sound.{Sound, IsSoundFailure}
use Rattle.tau_revival.specs.Revival.{block_place, failing_nodes, revived}
use Rattle.tau_revival.proofs.Revival.{length-failing_nodes}

failing_below : (n m nodes v : ℕ) → m ≤ nodes → All (λ e. IsSoundFailure nodes v e.failure) (failing_nodes n m)
failing_below n zero nodes v le = All-nil (λ e. IsSoundFailure nodes v e.failure)
failing_below n (suc m) nodes v le =
    All-append (λ e. IsSoundFailure nodes v e.failure) (failing_nodes n m) (record { at = n; failure = failures.Fail m } ∷ []) (failing_below n m nodes v (omega arith))
    (All-cons (λ e. IsSoundFailure nodes v e.failure) (record { at = n; failure = failures.Fail m }) [] (omega (arith, le)) (All-nil (λ e. IsSoundFailure nodes v e.failure)))

length-revived : (S : List Entry) (nodes n e : ℕ) → length (revived S nodes n e) ≡ length S + nodes
length-revived S nodes n e =
    let x = block_place S n e in
    let whole = ap length (take-append-drop x S) in
    omega (arith, whole, length-append (take x S) (drop x S), length-append (take x S) (failing_nodes n nodes ++ drop x S), length-append (failing_nodes n nodes) (drop x S), length-failing_nodes n nodes)

below_revived : (S : List Entry) (nodes v n e : ℕ) → All (λ e. IsSoundFailure nodes v e.failure) S → All (λ e. IsSoundFailure nodes v e.failure) (revived S nodes n e)
below_revived S nodes v n e all =
    let x = block_place S n e in
    All-append (λ e. IsSoundFailure nodes v e.failure) (take x S) (failing_nodes n nodes ++ drop x S) (All-take (λ e. IsSoundFailure nodes v e.failure) x S all)
    (All-append (λ e. IsSoundFailure nodes v e.failure) (failing_nodes n nodes) (drop x S) (failing_below n nodes nodes v (omega arith)) (All-drop (λ e. IsSoundFailure nodes v e.failure) x S all))

pub sound_revived : (P : Program) (n e : ℕ) → Sound P → length P.script + P.nodes ≤ ENTRY_LIMIT → Sound (record P { script = revived P.script P.nodes n e })
sound_revived P n e s few = record {
  some_version = s.some_version;
  versions_limit = s.versions_limit;
  some_nodes = s.some_nodes;
  nodes_limit = s.nodes_limit;
  behaviours_limit = s.behaviours_limit;
  starts_limit = s.starts_limit;
  posts_limit = s.posts_limit;
  entries_limit = omega (arith, few, length-revived P.script P.nodes n e);
  behaviours_named = s.behaviours_named;
  behaviours_distinct = s.behaviours_distinct;
  starts_named = s.starts_named;
  starts_distinct = s.starts_distinct;
  start_behaviours = s.start_behaviours;
  start_nodes = s.start_nodes;
  state_names = s.state_names;
  receivers = s.receivers;
  post_names = s.post_names;
  sound_failures = below_revived P.script P.nodes P.version n e s.sound_failures;
  states_bounded = s.states_bounded;
  posts_bounded = s.posts_bounded;
  texts_bounded = s.texts_bounded;
  variables_bound = s.variables_bound;
  variables_named = s.variables_named;
  body_starts = s.body_starts;
  body_behaviours = s.body_behaviours;
  arities = s.arities;
  sequences = s.sequences;
  folds = s.folds;
  bodies_depth = s.bodies_depth;
  states_depth = s.states_depth;
  posts_depth = s.posts_depth;
}
