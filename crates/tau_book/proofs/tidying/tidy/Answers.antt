use Rattle.std.proofs.Common.{List, sym, subst}
use Rattle.tau_eval.specs.Turn.{TurnSoFar}
use Rattle.tau_book.specs.Books.{AreOfDifferentTurns}
use Rattle.tau_book.specs.Offers.{earliest}
use Rattle.tau_book.proofs.StoreLemmas.{differ_open, differ_without}
use Rattle.tau_book.proofs.tidying.tidy.Goals as goal

pub take_up-requires-clause-differ : goal.take_up-requires-clause-differ
take_up-requires-clause-differ c = subst AreOfDifferentTurns (sym c.keep_open.ensures.jobs) (differ_open c.args.turns.now c.args.store.now.items c.requires)

pub returns-then-room-gt0-clause-differ : goal.returns-then-room-gt0-clause-differ
returns-then-room-gt0-clause-differ c =
    let kept : List TurnSoFar = c.keep_open.new.jobs.items in
    subst AreOfDifferentTurns (sym c.take_up.ensures.store)
    (differ_without (earliest kept) kept (subst AreOfDifferentTurns (sym c.keep_open.ensures.jobs) (differ_open c.args.turns.now c.args.store.now.items c.requires)))

pub returns-else-room-gt0-clause-differ : goal.returns-else-room-gt0-clause-differ
returns-else-room-gt0-clause-differ c = subst AreOfDifferentTurns (sym c.keep_open.ensures.jobs) (differ_open c.args.turns.now c.args.store.now.items c.requires)
