use Rattle.std.proofs.Common.{◌∙◌, ap, List, ℕ}
use Rattle.tau_book.specs.Hands.{Held}
use Rattle.tau_book.specs.Offers.{jobs_with, store_without}
use Rattle.tau_book.proofs.Choices.{is_idle}
use Rattle.tau_book.proofs.choosing.idle.Goals as goal

pub returns-clause-idle : goal.returns-clause-idle
returns-clause-idle g c = λ limit below.
    let h : Held = c.args.hand.now in
    let store = c.args.store.now.items in
    is_idle c.args.scripted.now limit store h c.requires.can.turns_are c.requires.can.messages_are c.requires.can.none_due below c.tidy.new.store.items c.tidy.new.hand c.open_turns.result
    c.turns.ensures.fitting c.requires.incomplete c.requires.no_job c.requires.no_message c.open_turns.ensures
    (c.tidy.ensures.store ∙ ap (λ (turns : List ℕ). store_without turns h store) c.turns.ensures.value)
    (c.tidy.ensures.hand ∙ ap (λ (turns : List ℕ). record h { jobs = jobs_with turns h store }) c.turns.ensures.value)
