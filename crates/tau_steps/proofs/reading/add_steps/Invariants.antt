use Rattle.std.proofs.Common.{◌+◌, ◌++◌, List, length, map}
use Rattle.tau_sexpr.specs.Form.{tree_of}
use Rattle.tau_sexpr.specs.Tree.{Tree}
use Rattle.tau_trace.specs.declared.opening.Opening.{Opening}
use Rattle.tau_steps.specs.Meaning.{MeansSteps}
use Rattle.tau_steps.proofs.LoopLemmas.{IsReadTo}
use Rattle.tau_steps.proofs.reading.add_steps.Given as goal

-- the forms so far mean the steps so far, behind those that the trace had
abbrev pub invariant-loop-form : goal.invariant-loop-form
invariant-loop-form l =
    (o : Opening) (before : List Tree) → MeansSteps o before l.initial.trace.run → IsReadTo o (before ++ map tree_of l.forms) (length before + l.form-index) l.trace.run
