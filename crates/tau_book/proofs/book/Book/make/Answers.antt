use Rattle.std.proofs.Common.{◌∙◌, ap}
use Rattle.tau_book.specs.Hands.{joined}
use Rattle.tau_book.specs.Tolds.{goes_on}
use Rattle.tau_book.proofs.book.Book.make.Goals as goal

pub returns-in-Ok-Reply-clause-ok : goal.returns-in-Ok-Reply-clause-ok
returns-in-Ok-Reply-clause-ok g c = goes_on (rw c.in-Ok-Reply.field-0-is at c.in-Ok-Reply.ensures.ok) (c.keep.ensures ∙ ap (joined c.args.hand.now) c.resume.ensures)
