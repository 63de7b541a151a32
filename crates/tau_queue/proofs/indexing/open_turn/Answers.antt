use Rattle.std.proofs.Common.{◌≡◌, ◌∙◌, ◌+◌, ◌∷◌, ◌++◌, ℕ, List, [], sym, ap, subst}
use Rattle.tau_mailbox.specs.MailState.{is_busy}
use Rattle.tau_trace.specs.Run.{Run, len}
use Rattle.tau_trace.specs.Turns.{HasOpenTurn}
use Rattle.tau_queue.specs.Inner.Scans.{AreInTurnBelow}
use Rattle.tau_queue.proofs.DeliverableLemmas.{not_busy}
use Rattle.tau_queue.proofs.ScanLemmas.{one_found, one_passed, not_yet, in_turn, in_no_turn}
use Rattle.tau_queue.proofs.indexing.open_turn.Goals as goal

pub returns-then-is_none-clause-busy : goal.returns-then-is_none-clause-busy
returns-then-is_none-clause-busy c =
    let T : Run = c.args.trace.now.run in
    one_passed (λ t. HasOpenTurn T t (len T)) c.args.who c.args.mailboxes.now.busy c.requires (in_no_turn T c.args.who c.open_turn.result c.is_none.result c.open_turn.ensures c.is_none.ensures c.if-is_none.true)

pub open-requires-clause-idle : goal.open-requires-clause-idle
open-requires-clause-idle c =
    let T : Run = c.args.trace.now.run in
    ap (λ (busy : List ℕ). is_busy busy c.args.who) c.reserve_open.ensures.busy
    ∙ not_busy c.args.mailboxes.now.busy c.args.who (not_yet (λ t. HasOpenTurn T t (len T)) c.args.who c.args.mailboxes.now.busy c.requires)

pub returns-clause-busy : goal.returns-clause-busy
returns-clause-busy c =
    let T : Run = c.args.trace.now.run in
    let busy : List ℕ = c.args.mailboxes.now.busy in
    let is : c.open.new.self.busy ≡ busy ++ c.args.who ∷ [] = c.open.ensures.busy ∙ ap (λ (ts : List ℕ). ts ++ c.args.who ∷ []) c.reserve_open.ensures.busy in
    subst (AreInTurnBelow T (c.args.who + 1)) (sym is)
    (one_found (λ t. HasOpenTurn T t (len T)) c.args.who busy c.requires (in_turn T c.args.who c.open_turn.result c.is_none.result c.open_turn.ensures c.is_none.ensures c.if-is_none.false))
