use Rattle.std.proofs.Common.{◌≡◌, ◌++◌, map, take, All}
use Rattle.tau_sexpr.specs.Printing.{printed, HasBytes}
use Rattle.tau_tree.specs.Parts.{Throughout}
use Rattle.tau_forms.specs.Inner.Fitting.{HasFittingInteger}
use Rattle.tau_forms.specs.Printed.{behaviour_form}
use Rattle.tau_forms.proofs.printing.put_behaviours.Given as goal

abbrev pub invariant-loop-behaviour : goal.invariant-loop-behaviour
invariant-loop-behaviour l = record {
  text : l.out.items ≡ l.initial.out.items ++ printed (map (behaviour_form l.tables.behaviours l.tables.starts) (take l.behaviour-index l.behaviours));
  bytes : All (λ b. HasBytes (behaviour_form l.tables.behaviours l.tables.starts b)) (take l.behaviour-index l.behaviours);
  integers : All (λ b. Throughout HasFittingInteger b.body) (take l.behaviour-index l.behaviours);
}
