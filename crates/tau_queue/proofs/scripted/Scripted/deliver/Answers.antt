use Rattle.std.proofs.Common.{◌≡◌, ◌∙◌, ◌+◌, ◌<◌, ◌≤◌, ℕ, Some, List, length, take, sym, ap, subst}
use Rattle.std.specs.Prelude.{slice_get, IfSome}
use Rattle.tau_mailbox.specs.declared.letter.Letter.{Letter}
use Rattle.tau_mailbox.specs.Letters.{AllBelow}
use Rattle.tau_mailbox.specs.MailState.{is_busy, room}
use Rattle.tau_trace.specs.Run.{Run, len}
use Rattle.tau_trace.specs.Known.{WellFormed}
use Rattle.tau_trace.specs.Numbering.{sent}
use Rattle.tau_rules.specs.System.{Core}
use Rattle.tau_rules.specs.Answers.{IsDelivered}
use Rattle.tau_queue.specs.ScriptedRun.{ScriptedRun}
use Rattle.tau_queue.specs.Inner.Index.{IsNoticeLetter, letters_received, busy_received, turns_received}
use Rattle.tau_queue.proofs.DeliverableLemmas.{letter_waits, receiver_free, receiver_idle, message_is, not_busy}
use Rattle.tau_queue.proofs.FlightLemmas.{notice_last}
use Rattle.tau_queue.proofs.Steps.{after_receipt, of_lists}
use Rattle.tau_queue.proofs.TurnCounts.{front_received, one_received}
use Rattle.tau_queue.proofs.scripted.Scripted.deliver.Goals as goal

pub notice_of-notice-requires : goal.notice_of-notice-requires
notice_of-notice-requires g c =
    let s = c.self.inside in
    let waits = letter_waits s.legal.system.run s.index.mailboxes.letters s.index.mailboxes.busy c.self.invariant.letters_are c.self.invariant.busy_are c.args.number c.in-Some.letter (sym c.deliverable.ensures ∙ c.in-Some.is) in
    subst (λ (T : Run). c.in-Some.letter.message < sent T (len T)) (sym c.trace.ensures.run) waits.in_flight.exists

pub make_receipt-requires-clause-waits : goal.make_receipt-requires-clause-waits
make_receipt-requires-clause-waits g c =
    let s = c.self.inside in
    letter_waits s.legal.system.run s.index.mailboxes.letters s.index.mailboxes.busy c.self.invariant.letters_are c.self.invariant.busy_are c.args.number c.in-Some.letter (sym c.deliverable.ensures ∙ c.in-Some.is)

pub make_receipt-requires-clause-idle : goal.make_receipt-requires-clause-idle
make_receipt-requires-clause-idle g c =
    let s = c.self.inside in
    receiver_idle s.legal.system.run s.index.mailboxes.letters s.index.mailboxes.busy c.self.invariant.letters_are c.self.invariant.busy_are c.args.number c.in-Some.letter (sym c.deliverable.ensures ∙ c.in-Some.is)

pub receive-requires-clause-idle : goal.receive-requires-clause-idle
receive-requires-clause-idle g c =
    let s = c.self.inside in
    ap (λ (busy : List ℕ). is_busy busy c.in-Some.letter.who) (c.in_ok-reserve_turn.ensures.same.busy ∙ c.in_ok-reserve_for.ensures.same.busy)
    ∙ not_busy s.index.mailboxes.busy c.in-Some.letter.who
    (receiver_free s.legal.system.run s.index.mailboxes.letters s.index.mailboxes.busy c.self.invariant.letters_are c.self.invariant.busy_are c.args.number c.in-Some.letter (sym c.deliverable.ensures ∙ c.in-Some.is))

pub receive-requires-clause-node : goal.receive-requires-clause-node
receive-requires-clause-node g c =
    let nodes : c.reserve_turn.new.self.mailboxes.nodes ≡ c.trace.result.now.run.opening.nodes =
    c.in_ok-reserve_turn.ensures.same.nodes ∙ c.in_ok-reserve_for.ensures.same.nodes ∙ c.self.invariant.nodes_are ∙ sym (ap (λ (T : Run). T.opening.nodes) c.trace.ensures.run) in
    subst (λ (n : ℕ). IfSome c.notice_of-notice.result (λ l. l.node < n)) (sym nodes) c.notice_of-notice.ensures.node

pub receive-requires-clause-last : goal.receive-requires-clause-last
receive-requires-clause-last g c =
    let s = c.self.inside in
    let l : Letter = c.in-Some.letter in
    let tells : IsNoticeLetter s.legal.system.run l.who l.message c.notice_of-notice.result = subst (λ (T : Run). IsNoticeLetter T l.who l.message c.notice_of-notice.result) c.trace.ensures.run c.notice_of-notice.ensures.tells in
    let same : c.reserve_turn.new.self.mailboxes.letters ≡ s.index.mailboxes.letters = c.in_ok-reserve_turn.ensures.same.letters ∙ c.in_ok-reserve_for.ensures.same.letters in
    subst (λ (ls : List Letter). IfSome c.notice_of-notice.result (λ x. AllBelow x.message ls)) (sym same)
    (notice_last s.legal.system.run l.who l.message c.notice_of-notice.result s.index.mailboxes.letters tells c.self.invariant.letters_are)

pub receive-requires-clause-room : goal.receive-requires-clause-room
receive-requires-clause-room g c =
    subst (λ (rooms : List ℕ). IfSome c.notice_of-notice.result (λ l. 1 ≤ room rooms l.who)) (sym c.in_ok-reserve_turn.ensures.rooms) c.in_ok-reserve_for.ensures.ok

pub invariant_of-self-2 : goal.invariant_of-self-2
invariant_of-self-2 g c =
    let s = c.self.inside in
    let old : Core = s.legal.system in
    let new : Core = c.make_receipt.new.system.system in
    let l : Letter = c.in-Some.letter in
    let at = sym c.deliverable.ensures ∙ c.in-Some.is in
    let well : WellFormed old.run = subst WellFormed c.trace.ensures.run c.trace.ensures.well_formed in
    let place : c.len-place.result ≡ len old.run = c.len-place.ensures.len ∙ ap len c.trace-2.ensures.run in
    let notice = c.notice_of-notice.result in
    let tells : IsNoticeLetter old.run l.who l.message notice = subst (λ (T : Run). IsNoticeLetter T l.who l.message notice) c.trace.ensures.run c.notice_of-notice.ensures.tells in
    let delivered = c.in_ok-delivered.delivered in
    of_lists new.run s.index.mailboxes.nodes c.receive.new.self.mailboxes.nodes (letters_received l.message notice s.index.mailboxes.letters delivered) c.receive.new.self.mailboxes.letters (busy_received l.who s.index.mailboxes.busy delivered) c.receive.new.self.mailboxes.busy
    (turns_received (len old.run) s.index.turns.items delivered) c.receive.new.self.turns.items
    (c.receive.ensures.nodes ∙ c.in_ok-reserve_turn.ensures.same.nodes ∙ c.in_ok-reserve_for.ensures.same.nodes)
    (c.receive.ensures.letters ∙ ap (λ (ls : List Letter). letters_received l.message notice ls delivered) (c.in_ok-reserve_turn.ensures.same.letters ∙ c.in_ok-reserve_for.ensures.same.letters))
    (c.receive.ensures.busy ∙ ap (λ (bs : List ℕ). busy_received l.who bs delivered) (c.in_ok-reserve_turn.ensures.same.busy ∙ c.in_ok-reserve_for.ensures.same.busy))
    (c.receive.ensures.turns ∙ (λ i. turns_received (place i) ((c.in_ok-reserve_turn.ensures.same.turns ∙ c.in_ok-reserve_for.ensures.same.turns) i) delivered))
    (after_receipt old new s.index.mailboxes.nodes s.index.mailboxes.letters s.index.mailboxes.busy s.index.turns.items c.self.invariant well c.make_receipt.ensures.well_formed c.make_receipt.ensures.legal
    l (letter_waits s.legal.system.run s.index.mailboxes.letters s.index.mailboxes.busy c.self.invariant.letters_are c.self.invariant.busy_are c.args.number l at)
    (receiver_idle s.legal.system.run s.index.mailboxes.letters s.index.mailboxes.busy c.self.invariant.letters_are c.self.invariant.busy_are c.args.number l at)
    notice tells delivered c.in_ok-delivered.ensures.ok)

pub returns-clause-ok : goal.returns-clause-ok
returns-clause-ok g c m e =
    let s = c.self.inside in
    let l : Letter = c.in-Some.letter in
    let at = sym c.deliverable.ensures ∙ c.in-Some.is in
    let here = subst (λ (r : ScriptedRun). slice_get r.messages c.args.number ≡ Some m) (sym c.self.view_is) e in
    let same : l.message ≡ m = message_is s.legal.system.run s.index.mailboxes.letters s.index.mailboxes.busy c.self.invariant.letters_are c.self.invariant.busy_are c.args.number l at m here in
    subst (λ (r : ScriptedRun). IsDelivered r.system c.make_receipt.new.system.system m c.in_ok-delivered.delivered) c.self.view_is
    (subst (λ (n : ℕ). IsDelivered s.legal.system c.make_receipt.new.system.system n c.in_ok-delivered.delivered) same c.in_ok-delivered.ensures.ok)

pub returns-clause-turns : goal.returns-clause-turns
returns-clause-turns g c =
    let s = c.self.inside in
    let delivered = c.in_ok-delivered.delivered in
    let is = c.receive.ensures.turns ∙ ap (λ (ts : List ℕ). turns_received c.len-place.result ts delivered) (c.in_ok-reserve_turn.ensures.same.turns ∙ c.in_ok-reserve_for.ensures.same.turns) in
    subst (λ (r : ScriptedRun). take (length r.turns) c.receive.new.self.turns.items ≡ r.turns) c.self.view_is
    (ap (take (length s.index.turns.items)) is ∙ front_received c.len-place.result s.index.turns.items delivered)

pub returns-clause-one : goal.returns-clause-one
returns-clause-one g c =
    let s = c.self.inside in
    let delivered = c.in_ok-delivered.delivered in
    let is = c.receive.ensures.turns ∙ ap (λ (ts : List ℕ). turns_received c.len-place.result ts delivered) (c.in_ok-reserve_turn.ensures.same.turns ∙ c.in_ok-reserve_for.ensures.same.turns) in
    let one : length c.receive.new.self.turns.items ≤ length s.index.turns.items + 1 = subst (λ (ts : List ℕ). length ts ≤ length s.index.turns.items + 1) (sym is) (one_received c.len-place.result s.index.turns.items delivered) in
    subst (λ (r : ScriptedRun). length c.receive.new.self.turns.items ≤ length r.turns + 1) c.self.view_is one
