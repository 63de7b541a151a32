use Rattle.tau_book.proofs.AdoptLemmas.{taker_open, taker_there}
use Rattle.tau_book.proofs.adopting.actor_of.Goals as goal

pub returns : goal.returns
returns c = taker_open c.args.trace.now.run c.in-Some.who c.args.place c.requires c.in-Some.ensures

pub unreachable-requires : goal.unreachable-requires
unreachable-requires c = taker_there c.args.trace.now.run c.args.place c.requires c.in-None.ensures
