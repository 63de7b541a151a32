use Rattle.std.proofs.Common.{List, get_or, take, sym, subst, arith}
use Rattle.std.proofs.lemmas.List.{take_more}
use Rattle.tau_layout.specs.declared.lanes.Lane.{Lane}
use Rattle.tau_layout.specs.Inner.Marking.{IsNodesMarked}
use Rattle.tau_layout.proofs.GroupLemmas.{nodes_next}
use Rattle.tau_layout.proofs.groups.nodes_marked.Goals as goal

pub loop-lane-preserved : goal.loop-lane-preserved
loop-lane-preserved c =
    let xs = c.args.lanes.now in
    let k = c.loop-lane.lane-index in
    let d : Lane = record { node = 0; who = 0 } in
    subst (λ (ls : List Lane). IsNodesMarked ls c.args.nodes c.mark_node.new.marks.items) (sym (take_more xs k d (omega (arith, c.loop-lane-test.true))))
    (nodes_next (take k xs) (get_or xs k d) c.args.nodes c.loop-lane.marks.items c.mark_node.new.marks.items c.loop-lane.invariant c.mark_node.ensures)
