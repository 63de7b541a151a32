use Rattle.std.proofs.Common.{◌≡◌, ◌++◌, ◌-◌, ◌≤◌, List, length}
use Rattle.tau_sexpr.specs.Tree.{Tree}
use Rattle.tau_sexpr.specs.Spelling.{IsSpelling}
use Rattle.tau_sexpr.specs.Rest.{forms_from, behind}
use Rattle.tau_forms.specs.Readings.{HasTaken}
use Rattle.tau_text.proofs.programs.add_rest.Given as goal

abbrev pub invariant-loop-at : goal.invariant-loop-at
invariant-loop-at l = record {
  high : l.at ≤ length l.bytes;
  more : List Tree;
  read : forms_from l.bytes l.start ≡ behind more (forms_from l.bytes l.at);
  taken : (ts front : List Tree) → IsSpelling l.bytes ts → forms_from l.bytes 0 ≡ behind front (forms_from l.bytes l.start) → HasTaken ts front l.initial.builder → HasTaken ts (front ++ more) l.builder;
}

abbrev pub decreases-loop-at : goal.decreases-loop-at
decreases-loop-at l = length l.bytes - l.at
