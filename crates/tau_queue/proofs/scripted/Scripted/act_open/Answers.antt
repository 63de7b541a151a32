use Rattle.std.proofs.Common.{◌≡◌, ◌∙◌, ◌<◌, ◌≤◌, ℕ, List, length, sym, ap, subst}
use Rattle.tau_mailbox.specs.declared.letter.Letter.{Letter}
use Rattle.tau_mailbox.specs.Letters.{AllBelow}
use Rattle.tau_trace.specs.Run.{Run, len}
use Rattle.tau_trace.specs.Known.{WellFormed}
use Rattle.tau_trace.specs.Numbering.{sent}
use Rattle.tau_eval.specs.Turn as jobs
use Rattle.tau_rules.specs.System.{Core}
use Rattle.tau_rules.specs.declared.answers.Acted.{Acted}
use Rattle.tau_rules.specs.Answers.{IsActed, acted_by}
use Rattle.tau_queue.specs.ScriptedRun.{ScriptedRun}
use Rattle.tau_queue.specs.Inner.Index.{IsNodeOf, letters_acted, busy_acted, turns_acted}
use Rattle.tau_queue.proofs.FlightLemmas.{letters_below}
use Rattle.tau_queue.proofs.Steps.{after_act, of_lists}
use Rattle.tau_queue.proofs.TurnCounts.{fewer_acted}
use Rattle.tau_queue.proofs.scripted.Scripted.act_open.Goals as goal

pub act_open-requires-2-clause-last : goal.act_open-requires-2-clause-last
act_open-requires-2-clause-last g c =
    let s = c.self.inside in
    let message : c.sent-message.result ≡ sent s.legal.system.run (len s.legal.system.run) = c.sent-message.ensures ∙ ap (λ (T : Run). sent T (len T)) c.trace.ensures.run in
    subst (λ (n : ℕ). AllBelow n c.reserve_letter.new.self.mailboxes.letters) (sym message)
    (subst (λ (ls : List Letter). AllBelow (sent s.legal.system.run (len s.legal.system.run)) ls) (sym c.in_ok-reserve_letter.ensures.same.letters) (letters_below s.legal.system.run s.index.mailboxes.letters c.self.invariant.letters_are))

pub act_open-requires-2-clause-node : goal.act_open-requires-2-clause-node
act_open-requires-2-clause-node g c =
    let s = c.self.inside in
    let below : c.node_of-node.result < s.legal.system.run.opening.nodes = subst (λ (T : Run). c.node_of-node.result < T.opening.nodes) c.trace-2.ensures.run c.node_of-node.ensures.below in
    subst (λ (n : ℕ). c.node_of-node.result < n) (sym (c.in_ok-reserve_letter.ensures.same.nodes ∙ c.self.invariant.nodes_are)) below

pub invariant_of-self-2 : goal.invariant_of-self-2
invariant_of-self-2 g c =
    let s = c.self.inside in
    let old : Core = s.legal.system in
    let new : Core = c.act_open.new.self.system in
    let job : jobs.TurnSoFar = c.args.pending.now in
    let effect = c.effect-effect.result.now in
    let acted : Acted = acted_by c.in_ok-reply.reply in
    let well : WellFormed old.run = subst WellFormed c.trace.ensures.run c.trace.ensures.well_formed in
    let message : c.sent-message.result ≡ sent old.run (len old.run) = c.sent-message.ensures ∙ ap (λ (T : Run). sent T (len T)) c.trace.ensures.run in
    of_lists new.run s.index.mailboxes.nodes c.act_open-2.new.self.mailboxes.nodes (letters_acted (sent old.run (len old.run)) c.node_of-node.result s.index.mailboxes.letters effect acted) c.act_open-2.new.self.mailboxes.letters (busy_acted job.who s.index.mailboxes.busy acted) c.act_open-2.new.self.mailboxes.busy
    (turns_acted job.place s.index.turns.items acted) c.act_open-2.new.self.turns.items
    (c.act_open-2.ensures.nodes ∙ c.in_ok-reserve_letter.ensures.same.nodes)
    (c.act_open-2.ensures.letters ∙ (λ i. letters_acted (message i) c.node_of-node.result (c.in_ok-reserve_letter.ensures.same.letters i) effect acted))
    (c.act_open-2.ensures.busy ∙ ap (λ (bs : List ℕ). busy_acted job.who bs acted) c.in_ok-reserve_letter.ensures.same.busy)
    (c.act_open-2.ensures.turns ∙ ap (λ (ts : List ℕ). turns_acted job.place ts acted) c.in_ok-reserve_letter.ensures.same.turns)
    (after_act old new s.index.mailboxes.nodes s.index.mailboxes.letters s.index.mailboxes.busy s.index.turns.items c.self.invariant well c.act_open.ensures.well_formed c.act_open.ensures.legal
    job effect c.effect-effect.ensures c.node_of-node.result (subst (λ (T : Run). IsNodeOf T effect c.node_of-node.result) c.trace-2.ensures.run c.node_of-node.ensures.node) acted c.in_ok-reply.ensures.ok)

pub returns-clause-ok : goal.returns-clause-ok
returns-clause-ok g c = subst (λ (r : ScriptedRun). IsActed r.system c.act_open.new.self.system c.args.pending.now (acted_by c.in_ok-reply.reply)) c.self.view_is c.in_ok-reply.ensures.ok

pub returns-clause-turns : goal.returns-clause-turns
returns-clause-turns g c =
    let s = c.self.inside in
    let job : jobs.TurnSoFar = c.args.pending.now in
    let acted : Acted = acted_by c.in_ok-reply.reply in
    let is = c.act_open-2.ensures.turns ∙ ap (λ (ts : List ℕ). turns_acted job.place ts acted) c.in_ok-reserve_letter.ensures.same.turns in
    let fewer : length c.act_open-2.new.self.turns.items ≤ length s.index.turns.items = subst (λ (ts : List ℕ). length ts ≤ length s.index.turns.items) (sym is) (fewer_acted job.place s.index.turns.items acted) in
    subst (λ (r : ScriptedRun). length c.act_open-2.new.self.turns.items ≤ length r.turns) c.self.view_is fewer
