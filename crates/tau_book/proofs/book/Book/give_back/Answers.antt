use Rattle.std.proofs.Common.{List, subst, sym}
use Rattle.tau_eval.specs.Turn.{TurnSoFar}
use Rattle.tau_book.specs.Books.{AreOfDifferentTurns}
use Rattle.tau_book.specs.Inner.Returns.{AreOfTurns}
use Rattle.tau_book.proofs.StoreLemmas.{differ_open, open_of_turns}
use Rattle.tau_book.proofs.book.Book.give_back.Goals as goal

pub give_to-requires-clause-differ : goal.give_to-requires-clause-differ
give_to-requires-clause-differ g c =
    let store : List TurnSoFar = c.self.inside.store.items in
    subst AreOfDifferentTurns (sym c.keep_open.ensures.jobs) (differ_open c.turns-turns.result.now store c.self.invariant.one_each)

pub give_to-requires-clause-open : goal.give_to-requires-clause-open
give_to-requires-clause-open g c =
    let store : List TurnSoFar = c.self.inside.store.items in
    subst (AreOfTurns c.turns-turns.result.now) (sym c.keep_open.ensures.jobs) (open_of_turns c.turns-turns.result.now store)
