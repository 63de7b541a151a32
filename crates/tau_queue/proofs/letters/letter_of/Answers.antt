use Rattle.std.proofs.Common.{◌≡◌, ◌<◌, true, false, subst}
use Rattle.std.specs.Option.{IsSome}
use Rattle.tau_trace.specs.Run.{Run, len}
use Rattle.tau_trace.specs.Numbering.{born}
use Rattle.tau_rules.proofs.DeliverLemmas.{receiver_exists}
use Rattle.tau_queue.proofs.Homes.{home_below}
use Rattle.tau_queue.proofs.letters.letter_of.Goals as goal

pub unreachable-requires : goal.unreachable-requires
unreachable-requires c = absurd (c.in_default.ensures c.requires.received.0 c.requires.received.1)

pub unreachable-requires-in_default-home : goal.unreachable-requires-in_default-home
unreachable-requires-in_default-home c =
    let T : Run = c.args.trace.now.run in
    let exists : c.in-Some.who < born T (len T) = receiver_exists T c.len-len.ensures.well_formed c.args.message c.in-Some.who c.requires.exists c.in-Some.ensures in
    let some : false ≡ true = subst IsSome c.in_default-home.is (c.home.ensures.exists.1 exists) in
    cc

pub returns-clause-node : goal.returns-clause-node
returns-clause-node c = home_below c.args.trace.now.run c.len-len.ensures.well_formed c.in-Some.who c.in-Some-home.node c.in-Some-home.ensures.home
