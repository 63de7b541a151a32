use Rattle.std.proofs.Common.{◌≡◌, ◌++◌, List}
use Rattle.tau_sexpr.specs.Tree.{Tree}
use Rattle.tau_forms.specs.Readings.{HasTaken}
use Rattle.tau_text.specs.Inner.Surveyed.{joined}
use Rattle.tau_text.proofs.programs.add_pieces.Given as goal

abbrev pub invariant-loop-forms : goal.invariant-loop-forms
invariant-loop-forms l = record {
  done : List (List Tree);
  is : done ++ l.forms-iterator.rest.items ≡ l.fn.pieces.items;
  taken : (ts before after : List Tree) → ts ≡ before ++ (joined l.fn.pieces.items ++ after) → HasTaken ts before l.initial.builder → HasTaken ts (before ++ joined done) l.builder;
}
