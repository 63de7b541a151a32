-- A sound program has a sound opening.
use Rattle.std.proofs.Common.{◌≡◌, ◌<◌, ◌≤◌, ℕ, List, length, map, arith, subst, sym}
use Rattle.std.specs.Prelude.{All}
use Rattle.std.proofs.lemmas.List.{length-map}
use Rattle.std.proofs.lemmas.List.Elements.{All-map}
use Rattle.tau_tree.specs.declared.programs.Program.{Program}
use Rattle.tau_tree.specs.Sound.{Sound, start_names, behaviour_names, start_names-are, behaviour_names-are}
use Rattle.tau_trace.specs.Known.{IsSound}
use Rattle.tau_script.specs.Openings.{program_opening}

pub sound_opening : (p : Program) → Sound p → IsSound (program_opening p)
sound_opening p s = record {
  names = start_names-are p s;
  behaviours = behaviour_names-are p s;
  few_names = simp length-map s.starts_limit;
  few_behaviours = simp length-map s.behaviours_limit;
  few_targets = simp length-map s.posts_limit;
  some_nodes = omega (arith, s.some_nodes);
  few_nodes = s.nodes_limit;
  a_home_each = simp length-map;
  homes = All-map (λ n. n < p.nodes) (λ s. s.node) p.starts s.start_nodes;
  targets = subst (λ n. All (λ t. t < n) (map (λ q. q.to) p.posts)) (sym (length-map p.starts (λ s. s.name))) (All-map (λ t. t < length p.starts) (λ q. q.to) p.posts s.receivers);
  some_version = s.some_version;
  few_versions = s.versions_limit;
}
