use Rattle.std.proofs.Common.{◌∙◌, ap, List, ℕ}
use Rattle.tau_book.specs.Hands.{Held}
use Rattle.tau_book.specs.Offers.{jobs_with, store_without}
use Rattle.tau_book.proofs.Choices.{is_handed_out}
use Rattle.tau_book.proofs.choosing.hand_out.Goals as goal

pub returns-clause-job : goal.returns-clause-job
returns-clause-job g c = λ limit below.
    let h : Held = c.args.hand.now in
    let store = c.args.store.now.items in
    is_handed_out c.args.scripted.now limit store h c.requires.can.turns_are c.requires.can.messages_are c.requires.can.none_due below
    c.tidy.new.store.items c.tidy.new.hand c.hand_out.new.self c.hand_out.result c.args.number c.args.generator c.requires.drawn c.requires.generator
    (c.tidy.ensures.store ∙ ap (λ (turns : List ℕ). store_without turns h store) c.turns.ensures.value)
    (c.tidy.ensures.hand ∙ ap (λ (turns : List ℕ). record h { jobs = jobs_with turns h store }) c.turns.ensures.value)
    c.hand_out.ensures.job c.hand_out.ensures.generator c.hand_out.ensures.size
