use Rattle.std.proofs.Common.{List, ◌++◌, map, take}
use Rattle.tau_sexpr.specs.Form.{tree_of}
use Rattle.tau_sexpr.specs.Tree.{Tree}
use Rattle.tau_forms.specs.Readings.{IsOutline}
use Rattle.tau_forms.proofs.outline.Outline.add.Given as goal

abbrev pub invariant-loop-form : goal.invariant-loop-form
invariant-loop-form l = (before : List Tree) → IsOutline before l.initial.self → IsOutline (before ++ map tree_of (take l.form-index l.forms)) l.self
