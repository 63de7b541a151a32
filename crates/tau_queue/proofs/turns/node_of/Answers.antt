use Rattle.std.proofs.Common.{◌≡◌, ◌<◌, ℕ, true, false, Option, Some, None, ap, sym, ◌∙◌, subst, arith}
use Rattle.std.specs.Prelude.{◌↔◌, IfSome, unwrap_or}
use Rattle.std.specs.Option.{IsSome}
use Rattle.tau_eval.specs.declared.effects.Effect.{Effect}
use Rattle.tau_trace.specs.Run.{Run, len}
use Rattle.tau_trace.specs.Known.{WellFormed}
use Rattle.tau_trace.specs.Numbering.{born, IsHome}
use Rattle.tau_trace.proofs.Lists.{same_some}
use Rattle.tau_queue.specs.Inner.Index.{receiver_of, IsNodeOf}
use Rattle.tau_queue.proofs.Homes.{home_below}
use Rattle.tau_queue.proofs.turns.node_of.Goals as goal

-- the node of the receiver, where there is such a transactor
node : (T : Run) (e : Effect) (to : ℕ) (o : Option ℕ) (r : ℕ) → receiver_of e ≡ Some to → (IsSome o ↔ (to < born T (len T))) → IfSome o (IsHome T to) → r ≡ unwrap_or o 0 → IsNodeOf T e r
node T e to (Some n) r sends exists home is u same lt = subst (λ x. IsHome T x r) (same_some (sym sends ∙ same)) (subst (IsHome T to) (sym is) home)
node T e to None r sends exists home is u same lt =
    let there : false ≡ true = exists.1 (subst (λ x. x < born T (len T)) (sym (same_some (sym sends ∙ same))) lt) in
    absurd (cc)

below : (T : Run) → WellFormed T → (to : ℕ) (o : Option ℕ) (r : ℕ) → IfSome o (IsHome T to) → r ≡ unwrap_or o 0 → r < T.opening.nodes
below T w to (Some n) r home is = omega (arith, is, home_below T w to n home)
below T w to None r home is = omega (arith, is, w.opening.some_nodes)

pub returns-in-Send-clause-node : goal.returns-in-Send-clause-node
returns-in-Send-clause-node c = node c.args.trace.now.run c.args.effect.now _ c.home.result c.unwrap_or.result (ap receiver_of c.in-Send.is) c.home.ensures.exists c.home.ensures.home c.unwrap_or.ensures

pub returns-in-Send-clause-below : goal.returns-in-Send-clause-below
returns-in-Send-clause-below c = below c.args.trace.now.run c.len-len.ensures.well_formed _ c.home.result c.unwrap_or.result c.home.ensures.home c.unwrap_or.ensures
