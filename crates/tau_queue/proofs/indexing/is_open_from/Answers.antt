use Rattle.std.proofs.Common.{◌≡◌, ◌∙◌, Some, ap, sym}
use Rattle.tau_trace.specs.declared.step.Step.TheVariants.{Take}
use Rattle.tau_trace.specs.Run.{Run, step_at}
use Rattle.tau_queue.proofs.ScanLemmas.{open_told, open_tells}
use Rattle.tau_queue.proofs.indexing.is_open_from.Goals as goal

pub returns-in-Some-Take : goal.returns-in-Some-Take
returns-in-Some-Take c =
    let T : Run = c.args.trace.now.run in
    let takes : step_at T c.args.place ≡ Some (Take c.in-Some-Take.who c.in-Some-Take.field-0-1) = sym c.in-Some-Take.ensures ∙ ap Some c.in-Some-Take.field-0-is in (
      λ e. open_told T c.in-Some-Take.who c.in-Some-Take.field-0-1 c.args.place takes c.open_turn.result c.open_turn.ensures (sym c.eq.ensures ∙ e),
      λ f. c.eq.ensures ∙ open_tells T c.in-Some-Take.who c.in-Some-Take.field-0-1 c.args.place takes c.open_turn.result c.open_turn.ensures f,
    )
