use Rattle.std.proofs.Common.{sym, ◌∙◌}
use Rattle.std.proofs.lemmas.Bool.{false≢true}
use Rattle.tau_run_journal.proofs.Unique.{text_is, text_isnt}
use Rattle.tau_run_journal.proofs.reading.program_of_text.Goals as goal

pub returns-then-same_bytes : goal.returns-then-same_bytes
returns-then-same_bytes c =
    text_is c.in-Ok.program c.args.bytes.now c.in_ok-text-in-Ok.text.items c.in-Ok.ensures.sound c.in-Ok.ensures.program c.in_ok-text-in-Ok.ensures.text (sym c.deref.ensures.value ∙ c.same_bytes.ensures.0 c.if-same_bytes.true)

pub returns-else-same_bytes : goal.returns-else-same_bytes
returns-else-same_bytes c =
    text_isnt c.in-Ok.program c.args.bytes.now c.in_ok-text-in-Ok.text.items c.in-Ok.ensures.program c.in_ok-text-in-Ok.ensures.text (λ e. false≢true (sym c.if-same_bytes.false ∙ c.same_bytes.ensures.1 (c.deref.ensures.value ∙ e)))

pub returns-in-Err-Fault : goal.returns-in-Err-Fault
returns-in-Err-Fault c = λ Q text.
    let none = c.in-Err-Fault.ensures.read Q text.read_back in
    let is = c.in-Err-Fault.field-0-is in
    cc (none, is)
