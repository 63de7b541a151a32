use Rattle.std.proofs.Common.{sym}
use Rattle.tau_verdicts.specs.Doomed.{flag_of, takers_of}
use Rattle.tau_verdicts.proofs.Lists.{none_added, one_added}
use Rattle.tau_verdicts.proofs.noting.note_present.Goals as goal

pub returns-then-flag-clause-added : goal.returns-then-flag-clause-added
returns-then-flag-clause-added c = none_added (flag_of c.args.doomed.now) c.args.taker (takers_of c.args.takers.now.items)

pub returns-in_err-add_taker-clause-added : goal.returns-in_err-add_taker-clause-added
returns-in_err-add_taker-clause-added c =
    one_added (flag_of c.args.doomed.now) c.args.taker (takers_of c.args.takers.now.items) (takers_of c.add_taker.new.takers.items) c.args.who (sym c.if-flag.ensures) c.add_taker.ensures.others c.add_taker.ensures.kept c.add_taker.ensures.only

pub returns-clause-added : goal.returns-clause-added
returns-clause-added c =
    one_added (flag_of c.args.doomed.now) c.args.taker (takers_of c.args.takers.now.items) (takers_of c.add_taker.new.takers.items) c.args.who (sym c.if-flag.ensures) c.add_taker.ensures.others c.add_taker.ensures.kept c.add_taker.ensures.only
