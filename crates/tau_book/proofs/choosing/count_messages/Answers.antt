use Rattle.std.proofs.Common.{◌∙◌, sym, arith}
use Rattle.tau_book.proofs.Choices.{none_of}
use Rattle.tau_book.proofs.choosing.count_messages.Goals as goal

pub returns-then-jobs-size-clause-none : goal.returns-then-jobs-size-clause-none
returns-then-jobs-size-clause-none g c = λ e none. none_of c.args.scripted.now.messages (sym c.deliverable.ensures ∙ none)

pub returns-else-jobs-size-clause-none : goal.returns-else-jobs-size-clause-none
returns-else-jobs-size-clause-none g c = λ e none. absurd (omega (arith, e, c.if-jobs-size.false, c.size.ensures.some))
