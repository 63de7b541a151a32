use Rattle.std.proofs.Common.{sym, ◌∙◌}
use Rattle.tau_run_journal.proofs.StepTexts.{text_told}
use Rattle.tau_run_journal.proofs.texts.is_last_text.Goals as goal

pub returns : goal.returns
returns c T s last =
    text_told T s c.put_last_text.new.text.items c.args.bytes.now c.same_bytes.result (c.in_ok-put_last_text.ensures T s last)
    (λ e. sym c.deref.ensures.value ∙ c.same_bytes.ensures.0 e) (λ e. c.same_bytes.ensures.1 (c.deref.ensures.value ∙ e))
