-- The opening of a program.
use Rattle.std.specs.Prelude.{map}
use Rattle.tau_tree.specs.declared.programs.Program.{Program}
use Rattle.tau_tree.specs.Sound.{start_names, behaviour_names}
use Rattle.tau_trace.specs.declared.opening.Opening.{Opening}

-- the names of its starts and behaviours, how many nodes it has, the node of each start, the receiver of each post, and its
-- version
abbrev pub program_opening : Program → Opening
program_opening p = record {
  names = start_names p;
  behaviours = behaviour_names p;
  nodes = p.nodes;
  homes = map (λ s. s.node) p.starts;
  targets = map (λ q. q.to) p.posts;
  version = p.version;
}
