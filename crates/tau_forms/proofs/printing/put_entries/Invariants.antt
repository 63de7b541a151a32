use Rattle.std.proofs.Common.{◌≡◌, ◌++◌, map, take, All}
use Rattle.tau_sexpr.specs.Printing.{printed, HasBytes}
use Rattle.tau_forms.specs.Inner.Fitting.{HasFittingNumbers}
use Rattle.tau_forms.specs.Printed.{entry_form}
use Rattle.tau_forms.proofs.printing.put_entries.Given as goal

abbrev pub invariant-loop-entry : goal.invariant-loop-entry
invariant-loop-entry l = record {
  text : l.out.items ≡ l.initial.out.items ++ printed (map entry_form (take l.entry-index l.entries));
  bytes : All (λ e. HasBytes (entry_form e)) (take l.entry-index l.entries);
  numbers : All HasFittingNumbers (take l.entry-index l.entries);
}
