use Rattle.std.proofs.Common.{ℕ, List, sym, subst, arith}
use Rattle.std.proofs.lemmas.List.{take_more, take_all}
use Rattle.tau_layout.specs.Inner.Marking.{AddsLanes, no_numbers, next_number}
use Rattle.tau_layout.proofs.lanes.add_node.Goals as goal

pub loop-who-init : goal.loop-who-init
loop-who-init c = no_numbers

pub loop-who-preserved : goal.loop-who-preserved
loop-who-preserved c =
    let T = c.args.trace.now.run in
    let all = c.args.all.now in
    let k = c.loop-who.who-index in
    subst (λ (ts : List ℕ). AddsLanes T c.args.node ts c.args.lanes.now.items c.add_lane.new.lanes.items) (sym (take_more all k 0 (omega (arith, c.loop-who-test.true))))
    (next_number c.loop-who.invariant c.in_ok-add_lane.ensures)

pub returns : goal.returns
returns c =
    let T = c.args.trace.now.run in
    subst (λ (ts : List ℕ). AddsLanes T c.args.node ts c.args.lanes.now.items c.loop-who.lanes.items) (take_all c.loop-who.who-index c.args.all.now (omega arith)) c.loop-who.invariant
