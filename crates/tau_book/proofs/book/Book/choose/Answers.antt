use Rattle.std.proofs.Common.{◌≡◌, ◌∙◌, ◌<◌, List, ℕ, subst, sym}
use Rattle.std.specs.Prelude.{IfOk}
use Rattle.std.proofs.lemmas.Result.{on_err_weaker}
use Rattle.tau_trace.specs.Run.{len}
use Rattle.tau_eval.specs.Turn.{TurnSoFar}
use Rattle.tau_queue.specs.ScriptedRun.{ScriptedRun}
use Rattle.tau_book.specs.Hands.{Held}
use Rattle.tau_book.specs.Books.{Booked, booked}
use Rattle.tau_book.specs.Nexts.{IsNext}
use Rattle.tau_book.proofs.book.Book.choose.Goals as goal

-- where nothing under a book is different, the book is the same
same_book : (s t : ScriptedRun) (limit : ℕ) (store kept : List TurnSoFar) (h k : Held) → (t ≡ s) × (kept ≡ store) × (k ≡ h) → booked t limit kept ≡ booked s limit store
same_book s t limit store kept h k e = λ i. booked (e.0 i) limit (e.1 i)

same_hand : (s t : ScriptedRun) (store kept : List TurnSoFar) (h k : Held) → (t ≡ s) × (kept ≡ store) × (k ≡ h) → k ≡ h
same_hand s t store kept h k e = e.2

pub returns-clause-ok : goal.returns-clause-ok
returns-clause-ok g c =
    let s = c.self.inside in
    let below : len s.scripted.system.run < s.limit = subst (λ (b : Booked). len b.system.run < b.limit) (sym c.self.view_is) c.requires.goes_on.below in
    subst (λ (b : Booked). IfOk c.choose.result (IsNext b (booked c.choose.new.scripted s.limit c.choose.new.store.items) c.args.hand.now c.choose.new.hand)) c.self.view_is
    (c.choose.ensures.ok s.limit below)

pub returns-clause-book_on_err : goal.returns-clause-book_on_err
returns-clause-book_on_err g c =
    let s = c.self.inside in
    on_err_weaker c.choose.result (λ e. same_book s.scripted c.choose.new.scripted s.limit s.store.items c.choose.new.store.items c.args.hand.now c.choose.new.hand e ∙ c.self.view_is)
    c.choose.ensures.err

pub returns-clause-hand_on_err : goal.returns-clause-hand_on_err
returns-clause-hand_on_err g c =
    let s = c.self.inside in
    on_err_weaker c.choose.result (same_hand s.scripted c.choose.new.scripted s.store.items c.choose.new.store.items c.args.hand.now c.choose.new.hand) c.choose.ensures.err
