use Rattle.std.proofs.Common.{◌≡◌, ◌++◌, map, take, All}
use Rattle.tau_sexpr.specs.Printing.{printed, HasBytes}
use Rattle.tau_value.specs.Value.{val_of}
use Rattle.tau_value.specs.Written.{NumbersFit}
use Rattle.tau_forms.specs.Printed.{start_form}
use Rattle.tau_forms.proofs.printing.put_starts.Given as goal

abbrev pub invariant-loop-start : goal.invariant-loop-start
invariant-loop-start l = record {
  text : l.out.items ≡ l.initial.out.items ++ printed (map (start_form l.tables.behaviours l.tables.starts) (take l.start-index l.starts));
  bytes : All (λ s. HasBytes (start_form l.tables.behaviours l.tables.starts s)) (take l.start-index l.starts);
  states : All (λ s. NumbersFit (val_of s.state)) (take l.start-index l.starts);
}
