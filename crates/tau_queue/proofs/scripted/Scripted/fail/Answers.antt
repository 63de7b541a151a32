use Rattle.std.proofs.Common.{◌≤◌, ℕ, List, length, sym, subst}
use Rattle.tau_trace.specs.Run.{Run, len}
use Rattle.tau_trace.specs.Known.{WellFormed}
use Rattle.tau_trace.specs.Turns.{IsOpenTurn}
use Rattle.tau_rules.specs.System.{Core}
use Rattle.tau_queue.specs.ScriptedRun.{ScriptedRun}
use Rattle.tau_queue.specs.Inner.Index.{busy_ended, turns_ended}
use Rattle.tau_queue.proofs.Steps.{after_fail, of_lists}
use Rattle.tau_queue.proofs.TurnCounts.{fewer_ended}
use Rattle.tau_queue.proofs.scripted.Scripted.fail.Goals as goal

pub invariant_of-self-2 : goal.invariant_of-self-2
invariant_of-self-2 g c =
    let s = c.self.inside in
    let old : Core = s.legal.system in
    let new : Core = c.make_due.new.self.system in
    let well : WellFormed old.run = subst WellFormed c.trace.ensures.run c.trace.ensures.well_formed in
    let turn : IsOpenTurn old.run c.args.who (len old.run) c.open_turn-turn.result = subst (λ (T : Run). IsOpenTurn T c.args.who (len T) c.open_turn-turn.result) c.trace.ensures.run c.open_turn-turn.ensures in
    of_lists new.run s.index.mailboxes.nodes c.end.new.self.mailboxes.nodes s.index.mailboxes.letters c.end.new.self.mailboxes.letters (busy_ended c.args.who s.index.mailboxes.busy c.open_turn-turn.result) c.end.new.self.mailboxes.busy
    (turns_ended s.index.turns.items c.open_turn-turn.result) c.end.new.self.turns.items c.end.ensures.nodes c.end.ensures.letters c.end.ensures.busy c.end.ensures.turns
    (after_fail old new s.index.mailboxes.nodes s.index.mailboxes.letters s.index.mailboxes.busy s.index.turns.items c.self.invariant well c.make_due.ensures.well_formed c.make_due.ensures.legal
    c.args.who c.open_turn-turn.result c.in_ok-make_due.ensures.ok turn)

pub returns-clause-turns : goal.returns-clause-turns
returns-clause-turns g c =
    let s = c.self.inside in
    let fewer : length c.end.new.self.turns.items ≤ length s.index.turns.items = subst (λ (ts : List ℕ). length ts ≤ length s.index.turns.items) (sym c.end.ensures.turns) (fewer_ended s.index.turns.items c.open_turn-turn.result) in
    subst (λ (r : ScriptedRun). length c.end.new.self.turns.items ≤ length r.turns) c.self.view_is fewer
