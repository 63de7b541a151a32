-- A run has one plan for a window.
use Rattle.std.proofs.Common.{◌≡◌, ⊎_elim, List, sym, ap, ◌∙◌, arith}
use Rattle.tau_svg.specs.declared.shapes.window.Window.{Window}
use Rattle.tau_trace.specs.Run.{Run}
use Rattle.tau_layout.specs.declared.lanes.Lane.{Lane}
use Rattle.tau_layout.specs.Lanes.{ComesBefore, AreLanes, nodes_below, longest_name}
use Rattle.tau_layout.specs.Plans.{Plan, IsPlan}
use Rattle.tau_picture.proofs.Ordered.{same_ordered}

pub comes_once : (l m : Lane) → ComesBefore l m → ¬ ComesBefore m l
comes_once l m p q = ⊎_elim
    (λ a. ⊎_elim (λ b. omega (arith, a, b)) (λ b. omega (arith, a, b.0)) q)
    (λ a. ⊎_elim (λ b. omega (arith, a.0, b)) (λ b. omega (arith, a.1, b.1)) q)
    p

lanes_once : (T : Run) (v : Window) (ls ms : List Lane) → AreLanes T v ls → AreLanes T v ms → ls ≡ ms
lanes_once T v ls ms a b = same_ordered ComesBefore comes_once ls ms a.ascending b.ascending (λ l. (
  λ c. let is = a.only l c in b.all l.who l.node is.0 is.1,
  λ c. let is = b.only l c in a.all l.who l.node is.0 is.1,
))

plan_of : (p q : Plan) → p.window ≡ q.window → p.lanes ≡ q.lanes → p.nodes ≡ q.nodes → p.longest ≡ q.longest → p ≡ q
plan_of p q a b c d = λ i. record { window = a i; lanes = b i; nodes = c i; longest = d i }

pub plan_once : (T : Run) (v : Window) (p q : Plan) → IsPlan T v p → IsPlan T v q → p ≡ q
plan_once T v p q a b =
    let lanes : p.lanes ≡ q.lanes = lanes_once T v p.lanes q.lanes a.lanes_are b.lanes_are in
    plan_of p q (a.window_is ∙ sym b.window_is) lanes
    (a.nodes_is ∙ ap (λ ls. nodes_below ls T.opening.nodes) lanes ∙ sym b.nodes_is)
    (a.longest_is ∙ ap (longest_name T.opening.names) lanes ∙ sym b.longest_is)
