use Rattle.std.proofs.Common.{◌≡◌, refl, arith}
use Rattle.tau_trace.specs.Run.{Run, len}
use Rattle.tau_trace.specs.Numbering.{born}
use Rattle.tau_trace.specs.Turns.{HasOpenTurn}
use Rattle.tau_queue.proofs.ScanLemmas.{none_below, all_in_turn}
use Rattle.tau_queue.proofs.indexing.open_turns.Goals as goal

pub loop-who-init : goal.loop-who-init
loop-who-init c =
    let T : Run = c.args.trace.now.run in
    record { nodes = refl; letters = refl; busy = none_below (λ t. HasOpenTurn T t (len T)) c.args.mailboxes.now.busy c.requires }

pub returns-clause-busy : goal.returns-clause-busy
returns-clause-busy c =
    let T : Run = c.args.trace.now.run in
    let whole : c.loop-who.who ≡ born T (len T) = omega (arith, c.loop-who.auto.who-end, c.loop-who-test.false, c.born-count.ensures) in
    all_in_turn T c.len-len.ensures.well_formed c.loop-who.who c.loop-who.mailboxes.busy whole c.loop-who.invariant.busy
