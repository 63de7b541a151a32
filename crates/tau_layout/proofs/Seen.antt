-- What a layout keeps, seen as its plan.
use Rattle.std.proofs.Common.{◌≡◌, ◌<◌, ◌≤◌, ◌^◌, ℕ, zero, suc, List, [], ◌∷◌, Option, Some, All, get_or, length, refl, sym, ap, ◌∙◌, subst, arith}
use Rattle.std.specs.Prelude.{slice_get, Contains}
use Rattle.std.proofs.lemmas.List.Elements.{Contains-get_or}
use Rattle.std.proofs.lemmas.Option.{slice_get_within}
use Rattle.std.proofs.lemmas.List.{length-map}
use Rattle.tau_layout.specs.declared.columns.Column.{Column}
use Rattle.tau_layout.specs.declared.lanes.Lane.{Lane}
use Rattle.tau_svg.specs.declared.shapes.grid.Grid.{Grid}
use Rattle.tau_svg.specs.declared.shapes.window.Window.{Window}
use Rattle.tau_svg.specs.Shapes.Windows.{count}
use Rattle.tau_svg.specs.Shapes.Grids.{grid_of, x_of}
use Rattle.tau_layout.specs.Lanes.{AreLanes, nodes_below}
use Rattle.tau_layout.specs.Plans.{Plan, grid}
use Rattle.tau_layout.specs.Inner.Laying.{lane_of, lanes_of, AreColumns, AreRanks, IsLaidOut, IsColumnOf}
use Rattle.tau_layout.proofs.ColumnLemmas.{columns_lanes}
use Rattle.tau_layout.proofs.Existing.{home_below, lane_known}
use Rattle.tau_trace.specs.Run.{Run, len}
use Rattle.tau_trace.specs.Numbering.{born}
use Rattle.tau_trace.specs.Known.{WellFormed}
use Rattle.tau_trace.proofs.Lists.{same_some}

abbrev pub seen : Window → List Column → ℕ → ℕ → Plan
seen v columns nodes longest = record { window = v; lanes = lanes_of columns; nodes = nodes; longest = longest }

pub grid_seen : (v : Window) (g : Grid) (columns : List Column) (ranks : List (Option ℕ)) (nodes longest : ℕ) → IsLaidOut v g columns ranks nodes longest → g ≡ grid (seen v columns nodes longest)
grid_seen v g columns ranks nodes longest i = i.grid_is ∙ ap (λ n. grid_of (count v) n nodes longest) (sym (length-map columns lane_of))

pub columns_seen : (plan : Plan) (v : Window) (g : Grid) (columns : List Column) (ranks : List (Option ℕ)) (nodes longest : ℕ) → IsLaidOut v g columns ranks nodes longest → plan ≡ seen v columns nodes longest → (list : List Column) → list ≡ columns → IsColumnOf plan list
columns_seen plan v g columns ranks nodes longest i e list f =
    subst (λ (p : Plan). IsColumnOf p list) (sym e) (subst (IsColumnOf (seen v columns nodes longest)) (sym f) (λ rank c at.
    let a = i.columns_are.each rank c at in
    (a.1 ∙ ap (λ h. x_of h rank (nodes_below (lanes_of columns) c.node)) (grid_seen v g columns ranks nodes longest i), a.2, a.3)))

-- the lanes of a run stand at nodes that are there, and are those of transactors that exist
pub lanes_home : (T : Run) (v : Window) (lanes : List Lane) → WellFormed T → AreLanes T v lanes → All (λ l. l.node < T.opening.nodes) lanes
lanes_home T v lanes w a = λ k d lt. let l = get_or lanes k d in home_below T w l.who l.node (a.only l (Contains-get_or lanes k d lt)).1

get_or_is : (ls : List Lane) (k : ℕ) (l : Lane) → slice_get ls k ≡ Some l → get_or ls k l ≡ l
get_or_is [] k l e = refl
get_or_is (x ∷ xs) zero l e = same_some e
get_or_is (x ∷ xs) (suc k) l e = get_or_is xs k l e

pub lanes_known : (T : Run) (v : Window) (lanes : List Lane) → WellFormed T → AreLanes T v lanes → (rank : ℕ) (l : Lane) → slice_get lanes rank ≡ Some l → l.who < born T (len T)
lanes_known T v lanes w a rank l e = lane_known T w v l.who (a.only l (listed lanes rank l e)).0 where
  listed : (ls : List Lane) (k : ℕ) (l : Lane) → slice_get ls k ≡ Some l → Contains ls l
  listed ls k l e = (k, slice_get_within ls k l e, get_or_is ls k l e)

pub laid_out : (v : Window) (g : Grid) (lanes : List Lane) (columns : List Column) (ranks : List (Option ℕ)) (nodes longest : ℕ) → v.from ≤ v.to → count v ≤ 2000 → length lanes < 2 ^ 40 → nodes ≤ 64 → longest ≤ 12 → g ≡ grid_of (count v) (length lanes) nodes longest → AreColumns g lanes (length lanes) columns → AreRanks lanes (length lanes) ranks → ((rank : ℕ) (l : Lane) → slice_get lanes rank ≡ Some l → l.who < length ranks) → IsLaidOut v g columns ranks nodes longest
laid_out v g lanes columns ranks nodes longest ordered rows few few_nodes short e a r known =
    let is : lanes ≡ lanes_of columns = sym (columns_lanes g lanes columns a) in
    let same : length lanes ≡ length columns = sym a.count_is in
    record {
      window = ordered;
      rows = rows;
      few = omega (arith, few, same);
      few_nodes = few_nodes;
      short = short;
      grid_is = e ∙ ap (λ n. grid_of (count v) n nodes longest) same;
      columns_are = subst (λ (n : ℕ). AreColumns g (lanes_of columns) n columns) same (subst (λ (ls : List Lane). AreColumns g ls (length lanes) columns) is a);
      ranks_are = subst (λ (n : ℕ). AreRanks (lanes_of columns) n ranks) same (subst (λ (ls : List Lane). AreRanks ls (length lanes) ranks) is r);
      known = subst (λ (ls : List Lane). (rank : ℕ) (l : Lane) → slice_get ls rank ≡ Some l → l.who < length ranks) is known;
    }
