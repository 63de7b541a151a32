use Rattle.std.proofs.Common.{◌≡◌, ℕ, [], ◌∷◌, ◌++◌, subst, arith, rules}
use Rattle.tau_tree.specs.declared.entries.Failure.TheVariants.{Fail}
use Rattle.tau_faults.specs.Faults.{fails}
use Rattle.tau_faults.specs.Inner.Here.{AreThoseBefore}
use Rattle.tau_faults.proofs.faults.add_fails.Goals as goal
use Rattle.tau_faults.proofs.faults.add_fails.Goals.{then-has_living+in_ok-push, else-has_living}
use Rattle.tau_faults.proofs.HereLemmas.{with_one, without_node, nodes_done}

pub loop-node-preserved : goal.loop-node-preserved
loop-node-preserved c = λ before.
    let left = c.args.left in
    let P = c.args.program.now in
    let T = c.args.so_far.now.run in
    let n = c.loop-node.node in
    let so = c.loop-node.invariant before in
    elim c.if-has_living.branch [
      | then-has_living+in_ok-push w ↦
          let lives = c.has_living.ensures.0 w.if-has_living.true in
          let pushed : w.push.new.self.items ≡ c.loop-node.faults.items ++ Fail n ∷ [] = search rules in
          rw (w.faults-is, pushed) (with_one left P T (Fail n) c.loop-node.faults.items (omega arith) (fails c.loop-node-test.true lives.1) so)
      | else-has_living w ↦
          rw w.faults-is (without_node left P T n c.loop-node.faults.items (λ h. absurd (search rules)) so)
    ]

pub returns : goal.returns
returns c = λ before.
    let ends : c.loop-node.node ≡ c.args.program.now.nodes = omega arith in
    nodes_done c.args.left c.args.program.now c.args.so_far.now.run c.loop-node.faults.items
    (subst (λ (n : ℕ). AreThoseBefore c.args.left c.args.program.now c.args.so_far.now.run 0 n c.loop-node.faults.items) ends (c.loop-node.invariant before))
