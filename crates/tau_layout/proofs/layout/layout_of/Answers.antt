use Rattle.std.proofs.Common.{◌≡◌, ◌<◌, ◌∙◌, ℕ, List, Some, All, length, sym, ap, subst, arith}
use Rattle.std.specs.Prelude.{slice_get}
use Rattle.tau_trace.specs.declared.opening.Opening.{Opening}
use Rattle.tau_trace.specs.Run.{len}
use Rattle.tau_svg.specs.declared.shapes.window.Window.{Window}
use Rattle.tau_svg.specs.Shapes.Windows.{count, window_of}
use Rattle.tau_svg.specs.Shapes.Grids.{grid_of}
use Rattle.tau_layout.specs.declared.lanes.Lane.{Lane}
use Rattle.tau_layout.specs.Lanes.{AreLanes, nodes_below, longest_name}
use Rattle.tau_layout.specs.Inner.Marking.{IsNodesMarked, marked_below}
use Rattle.tau_layout.specs.Inner.Laying.{AreColumns, AreRanks, lanes_of}
use Rattle.tau_layout.proofs.ColumnLemmas.{marked_are, columns_lanes}
use Rattle.tau_layout.proofs.Seen.{lanes_home, lanes_known, laid_out}
use Rattle.tau_layout.proofs.layout.layout_of.Goals as goal

pub columns_of-requires-clause-nodes : goal.columns_of-requires-clause-nodes
columns_of-requires-clause-nodes c =
    let T = c.args.trace.now.run in
    let lanes = c.in_ok-lanes.lanes.items in
    let home = lanes_home T c.window_of-window.result lanes c.len.ensures.well_formed c.in_ok-lanes.ensures.lanes in
    subst (λ (ls : List Lane). All (λ (l : Lane). l.node < c.opening.result.now.nodes) ls) (sym c.deref-4.ensures.value)
    (subst (λ (o : Opening). All (λ (l : Lane). l.node < o.nodes) lanes) (sym c.opening.ensures.value) home)

pub invariant_of-result : goal.invariant_of-result
invariant_of-result c =
    let T = c.args.trace.now.run in
    let v = c.window_of-window.result in
    let g = c.grid_of-grid.result in
    let lanes = c.in_ok-lanes.lanes.items in
    let columns = c.in_ok-columns.columns.items in
    let ranks = c.in_ok-ranks.ranks.items in
    let rows = c.count.ensures in
    let size = c.len-2.ensures in
    let measured = c.grid_of-grid.ensures in
    let grid_is : g ≡ grid_of (count v) (length lanes) c.marked_below-with_lane.result c.longest_name-longest.result = cc in
    let columns_are : AreColumns g lanes (length lanes) columns = subst (λ (ls : List Lane). AreColumns g ls (length ls) columns) c.deref-4.ensures.value c.in_ok-columns.ensures in
    let ranks_are : AreRanks lanes (length lanes) ranks = subst (λ (ls : List Lane). AreRanks ls (length ls) ranks) c.deref-6.ensures.value c.in_ok-ranks.ensures.ranks in
    let known : (rank : ℕ) (l : Lane) → slice_get lanes rank ≡ Some l → l.who < length ranks = λ rank l e. omega (arith, lanes_known T v lanes c.len.ensures.well_formed c.in_ok-lanes.ensures.lanes rank l e, c.in_ok-ranks.ensures.count, c.born.ensures) in
    laid_out v g lanes columns ranks c.marked_below-with_lane.result c.longest_name-longest.result c.window_of-window.ensures.ordered c.window_of-window.ensures.few c.in_ok-lanes.ensures.few
    (omega (arith, c.marked_below-with_lane.ensures.most, c.opening.ensures.sound.few_nodes))
    c.longest_name-longest.ensures.most grid_is columns_are ranks_are known

pub returns : goal.returns
returns c =
    let T = c.args.trace.now.run in
    let g = c.grid_of-grid.result in
    let lanes = c.in_ok-lanes.lanes.items in
    let columns = c.in_ok-columns.columns.items in
    let columns_are : AreColumns g lanes (length lanes) columns = subst (λ (ls : List Lane). AreColumns g ls (length ls) columns) c.deref-4.ensures.value c.in_ok-columns.ensures in
    let is = columns_lanes g lanes columns columns_are in
    let marked : IsNodesMarked lanes c.opening.result.now.nodes c.in_ok-marks.marks.items = subst (λ (ls : List Lane). IsNodesMarked ls c.opening.result.now.nodes c.in_ok-marks.marks.items) c.deref.ensures.value c.in_ok-marks.ensures in
    let nodes = marked_are lanes c.opening.result.now.nodes c.opening.result.now.nodes c.in_ok-marks.marks.items marked (omega arith) in
    let counted = c.marked_below-with_lane.ensures.count in
    let these = c.deref-2.ensures.value in
    let here = c.opening.ensures.value in
    let there = c.opening-2.ensures.value in
    let named = c.longest_name-longest.ensures.longest in
    let those = c.deref-3.ensures.value in
    let window : c.window_of-window.result ≡ window_of (len T) c.args.from c.args.to = c.window_of-window.ensures.window ∙ ap (λ n. window_of n c.args.from c.args.to) c.len.ensures.len in
    record {
      window_is = window;
      lanes_are = subst (λ (v : Window). AreLanes T v (lanes_of columns)) window (subst (AreLanes T c.window_of-window.result) (sym is) c.in_ok-lanes.ensures.lanes);
      nodes_is = counted ∙ ap (λ m. marked_below m c.opening.result.now.nodes) these ∙ nodes ∙ ap (λ (o : Opening). nodes_below lanes o.nodes) here ∙ ap (λ ls. nodes_below ls T.opening.nodes) (sym is);
      longest_is = named ∙ ap (λ (o : Opening). longest_name o.names c.deref-3.result.now) there ∙ ap (longest_name T.opening.names) (those ∙ sym is);
    }
