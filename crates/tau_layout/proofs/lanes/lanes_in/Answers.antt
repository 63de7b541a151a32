use Rattle.std.proofs.Common.{◌≡◌, ◌≤◌, ◌^◌, ℕ, List, Bool, length, sym, ap, subst, arith, add-one}
use Rattle.std.proofs.Math.Nat.{mul-le-mul}
use Rattle.tau_layout.specs.Inner.Marking.{AddsLanes, AddsNodes, AreMarked, no_nodes, next_node}
use Rattle.tau_layout.proofs.LaneLemmas.{lanes_are, nodes_few}
use Rattle.tau_layout.proofs.Existing.{home_below, lane_known}
use Rattle.tau_layout.proofs.lanes.lanes_in.Goals as goal

pub loop-node-init : goal.loop-node-init
loop-node-init c = subst (AddsNodes c.args.trace.now.run c.in_ok-all.all.items 0) (sym c.new-lanes.ensures.items) no_nodes

pub loop-node-preserved : goal.loop-node-preserved
loop-node-preserved c = rw add-one (next_node c.loop-node.invariant
    (subst (λ (ts : List ℕ). AddsLanes c.args.trace.now.run c.loop-node.node ts c.loop-node.lanes.items c.add_node.new.lanes.items) c.deref-in-loop-node.ensures.value c.in_ok-add_node.ensures))

pub returns-clause-lanes : goal.returns-clause-lanes
returns-clause-lanes c =
    let T = c.args.trace.now.run in
    let well = c.requires.well_formed in
    let all = c.in_ok-all.all.items in
    let end : c.loop-node.node ≡ T.opening.nodes = omega (arith, c.loop-node.auto.node-end, c.loop-node-test.false, ap (λ o. o.nodes) c.opening.ensures.value) in
    let marked : AreMarked c.in_ok-marks.marks.items (length c.in_ok-marks.marks.items) all = subst (λ (m : List Bool). AreMarked m (length m) all) c.deref.ensures.value c.in_ok-all.ensures in
    lanes_are T c.args.window c.in_ok-marks.marks.items all T.opening.nodes c.loop-node.lanes.items (home_below T well) (lane_known T well c.args.window) c.in_ok-marks.ensures.marks marked
    (subst (λ (n : ℕ). AddsNodes T all n c.loop-node.lanes.items) end c.loop-node.invariant)

pub returns-clause-few : goal.returns-clause-few
returns-clause-few c =
    let T = c.args.trace.now.run in
    let all = c.in_ok-all.all.items in
    let few = nodes_few T all c.loop-node.node c.loop-node.lanes.items c.loop-node.invariant in
    let below : c.loop-node.node ≤ 64 = omega (arith, c.loop-node.auto.node-end, c.opening.ensures.sound.few_nodes) in
    let short : length all ≤ 2 ^ 32 = omega (arith, c.in_ok-all.ensures.few, c.deref.ensures.len, c.in_ok-marks.ensures.few, ap length c.deref.ensures.value) in
    omega (arith, few, mul-le-mul below short)
