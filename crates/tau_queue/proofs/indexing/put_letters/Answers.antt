use Rattle.std.proofs.Common.{◌≡◌, refl, arith}
use Rattle.tau_trace.specs.Run.{Run, len}
use Rattle.tau_trace.specs.Numbering.{sent}
use Rattle.tau_queue.proofs.ScanLemmas.{no_letters_below, all_letters}
use Rattle.tau_queue.proofs.indexing.put_letters.Goals as goal

pub loop-message-init : goal.loop-message-init
loop-message-init c = record { nodes = refl; letters = no_letters_below c.args.trace.now.run c.args.mailboxes.now.letters c.requires.none; busy = refl }

pub returns-clause-letters : goal.returns-clause-letters
returns-clause-letters c =
    let T : Run = c.args.trace.now.run in
    let whole : c.loop-message.message ≡ sent T (len T) = omega (arith, c.loop-message.auto.message-end, c.loop-message-test.false, c.sent-count.ensures) in
    all_letters T c.loop-message.message c.loop-message.mailboxes.letters whole c.loop-message.invariant.letters
