use Rattle.std.proofs.Common.{◌≡◌, ◌++◌, map, take}
use Rattle.std.specs.List.{All}
use Rattle.tau_sexpr.specs.Form.{tree_of}
use Rattle.tau_sexpr.specs.Printing.{printed, HasBytes}
use Rattle.tau_sexpr.proofs.printer.put_lines.Given as goal

abbrev pub invariant-loop-form : goal.invariant-loop-form
invariant-loop-form l = record {
  text : l.out.items ≡ l.initial.out.items ++ printed (map tree_of (take l.form-index l.items));
  bytes : All HasBytes (map tree_of (take l.form-index l.items));
}
