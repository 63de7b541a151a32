use Rattle.std.proofs.Common.{subst, sym}
use Rattle.tau_book.specs.Inner.Returns.{AreOfTurns}
use Rattle.tau_book.proofs.StoreLemmas.{open_of_turns}
use Rattle.tau_book.proofs.hand.Hand.give_to.Goals as goal

pub give_all-requires-clause-given : goal.give_all-requires-clause-given
give_all-requires-clause-given c = subst (AreOfTurns c.args.turns.now) (sym c.keep_open.ensures.jobs) (open_of_turns c.args.turns.now c.self.inside.jobs.items)
