-- A program with one more entry in its script.
use Rattle.std.proofs.Common.{◌≡◌, ℕ, ◌+◌, ◌<◌, List, ◌∷◌, length, take, drop, ap, arith, length-append, take-append-drop}
use Rattle.std.proofs.lemmas.List.Elements.{All-append, All-cons, All-take, All-drop}
use Rattle.tau_value.specs.declared.limits.TheConstants.{ENTRY_LIMIT}
use Rattle.tau_tree.specs.declared.entries.Entry.{Entry}
use Rattle.tau_tree.specs.declared.entries.Failure.{Failure}
use Rattle.tau_tree.specs.declared.entries.Failure.TheVariants.{Fail, Lose, Repeat}
use Rattle.tau_tree.specs.declared.programs.Program.{Program}
use Rattle.tau_tree.specs.Sound.{Sound, IsSoundFailure}
use Rattle.tau_faults.specs.declared.setting.FaultCounts.{FaultCounts}
use Rattle.tau_faults.specs.Faults.{inserted, with_entry, left_of, fewer}
use Rattle.tau_faults.specs.Inner.Walking.{sum_of}

length_placed : (S : List Entry) (c : ℕ) (e : Entry) → length (inserted S c e) ≡ length S + 1
length_placed S c e =
    let whole = ap length (take-append-drop c S) in
    omega (arith, whole, length-append (take c S) (drop c S), length-append (take c S) (e ∷ drop c S))

pub sound_placed : (P : Program) (c : ℕ) (e : Entry) → Sound P → length P.script < ENTRY_LIMIT → IsSoundFailure P.nodes P.version e.failure → Sound (with_entry P c e)
sound_placed P c e s few is = record {
  some_version = s.some_version;
  versions_limit = s.versions_limit;
  some_nodes = s.some_nodes;
  nodes_limit = s.nodes_limit;
  behaviours_limit = s.behaviours_limit;
  starts_limit = s.starts_limit;
  posts_limit = s.posts_limit;
  behaviours_named = s.behaviours_named;
  behaviours_distinct = s.behaviours_distinct;
  starts_named = s.starts_named;
  starts_distinct = s.starts_distinct;
  start_behaviours = s.start_behaviours;
  start_nodes = s.start_nodes;
  state_names = s.state_names;
  receivers = s.receivers;
  post_names = s.post_names;
  states_bounded = s.states_bounded;
  posts_bounded = s.posts_bounded;
  texts_bounded = s.texts_bounded;
  variables_bound = s.variables_bound;
  variables_named = s.variables_named;
  body_starts = s.body_starts;
  body_behaviours = s.body_behaviours;
  arities = s.arities;
  sequences = s.sequences;
  folds = s.folds;
  bodies_depth = s.bodies_depth;
  states_depth = s.states_depth;
  posts_depth = s.posts_depth;
  entries_limit = omega (arith, few, length_placed P.script c e);
  sound_failures =
      All-append (λ (x : Entry). IsSoundFailure P.nodes P.version x.failure) (take c P.script) (e ∷ drop c P.script) (All-take (λ (x : Entry). IsSoundFailure P.nodes P.version x.failure) c P.script s.sound_failures)
      (All-cons (λ (x : Entry). IsSoundFailure P.nodes P.version x.failure) e (drop c P.script) is (All-drop (λ (x : Entry). IsSoundFailure P.nodes P.version x.failure) c P.script s.sound_failures));
}

pub sum_fewer : (left : FaultCounts) (f : Failure) → 0 < left_of left f → sum_of (fewer left f) + 1 ≡ sum_of left
sum_fewer left (Fail n) l = omega (arith, l)
sum_fewer left (Lose m) l = omega (arith, l)
sum_fewer left (Repeat m) l = omega (arith, l)

pub none_left : (left : FaultCounts) (f : Failure) → sum_of left ≡ 0 → ¬ (0 < left_of left f)
none_left left (Fail n) z l = omega (arith, z, l)
none_left left (Lose m) z l = omega (arith, z, l)
none_left left (Repeat m) z l = omega (arith, z, l)
