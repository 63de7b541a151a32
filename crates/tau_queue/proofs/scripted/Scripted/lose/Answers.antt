use Rattle.std.proofs.Common.{filter, ap, subst}
use Rattle.tau_mailbox.specs.Letters.{is_other}
use Rattle.tau_trace.specs.Known.{WellFormed}
use Rattle.tau_rules.specs.System.{Core}
use Rattle.tau_queue.proofs.Steps.{after_lose, of_lists}
use Rattle.tau_queue.proofs.scripted.Scripted.lose.Goals as goal

pub invariant_of-self-2 : goal.invariant_of-self-2
invariant_of-self-2 g c =
    let s = c.self.inside in
    let old : Core = s.legal.system in
    let new : Core = c.make_due.new.self.system in
    let well : WellFormed old.run = subst WellFormed c.trace-trace.ensures.run c.trace-trace.ensures.well_formed in
    of_lists new.run s.index.mailboxes.nodes c.remove.new.self.mailboxes.nodes (filter (is_other c.args.message) s.index.mailboxes.letters) c.remove.new.self.mailboxes.letters s.index.mailboxes.busy c.remove.new.self.mailboxes.busy
    s.index.turns.items c.remove.new.self.turns.items c.remove.ensures.nodes c.remove.ensures.letters c.remove.ensures.busy (ap (λ t. t.items) c.remove.ensures.turns)
    (after_lose old new s.index.mailboxes.nodes s.index.mailboxes.letters s.index.mailboxes.busy s.index.turns.items c.self.invariant well c.make_due.ensures.well_formed c.make_due.ensures.legal
    c.args.message c.in_ok-make_due.ensures.ok)
