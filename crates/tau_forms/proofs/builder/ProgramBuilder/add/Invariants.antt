use Rattle.std.proofs.Common.{◌≡◌, List, ◌++◌, map, take}
use Rattle.tau_sexpr.specs.Form.{tree_of}
use Rattle.tau_sexpr.specs.Tree.{Tree}
use Rattle.tau_forms.specs.Readings.{HasTaken}
use Rattle.tau_forms.proofs.builder.ProgramBuilder.add.Given as goal

abbrev pub invariant-loop-form : goal.invariant-loop-form
invariant-loop-form l =
    (ts before after : List Tree) → ts ≡ before ++ (map tree_of l.forms ++ after) → HasTaken ts before l.initial.self → HasTaken ts (before ++ map tree_of (take l.form-index l.forms)) l.self
