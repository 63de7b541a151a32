use Rattle.std.proofs.Common.{◌↔◌, ℕ, IsTrue, nat_lt, subst, sym}
use Rattle.tau_queue.specs.Flight.{IsDeliverable}
use Rattle.tau_book.specs.Books.{Booked}
use Rattle.tau_book.proofs.Choices.{some_deliverable}
use Rattle.tau_book.proofs.book.Book.has_deliverable.Goals as goal

pub returns : goal.returns
returns g c =
    let s = c.self.inside in
    subst (λ (b : Booked). IsTrue (nat_lt 0 c.deliverable.result) ↔ ((m : ℕ) × IsDeliverable b.system.run m)) c.self.view_is
    (subst (λ (n : ℕ). IsTrue (nat_lt 0 n) ↔ ((m : ℕ) × IsDeliverable s.scripted.system.run m)) (sym c.deliverable.ensures)
    (some_deliverable s.scripted.system.run s.scripted.messages c.system-system.ensures.messages))
