use Rattle.std.proofs.Common.{◌≡◌, ℕ, [], ◌∷◌, ◌++◌, subst, arith, rules}
use Rattle.tau_tree.specs.declared.entries.Failure.TheVariants.{Lose}
use Rattle.tau_trace.specs.Run.{len}
use Rattle.tau_trace.specs.Numbering.{sent}
use Rattle.tau_faults.specs.Faults.{loses}
use Rattle.tau_faults.specs.Inner.Here.{AreThoseBefore}
use Rattle.tau_faults.proofs.faults.add_losses.Goals as goal
use Rattle.tau_faults.proofs.faults.add_losses.Goals.{then-is_in_flight+in_ok-push, else-is_in_flight}
use Rattle.tau_faults.proofs.HereLemmas.{with_one, without_message, messages_done}

pub loop-message-preserved : goal.loop-message-preserved
loop-message-preserved c = λ before.
    let left = c.args.left in
    let P = c.args.program.now in
    let T = c.args.so_far.now.run in
    let m = c.loop-message.message in
    let so = c.loop-message.invariant before in
    elim c.if-is_in_flight.branch [
      | then-is_in_flight+in_ok-push w ↦
          let flies = c.is_in_flight.ensures.0 w.if-is_in_flight.true in
          let pushed : w.push.new.self.items ≡ c.loop-message.faults.items ++ Lose m ∷ [] = search rules in
          rw (w.faults-is, pushed) (with_one left P T (Lose m) c.loop-message.faults.items (omega arith) (loses flies) so)
      | else-is_in_flight w ↦
          rw w.faults-is (without_message left P T 1 m c.loop-message.faults.items (omega arith) (λ h. absurd (search rules)) so)
    ]

pub returns : goal.returns
returns c = λ before.
    let T = c.args.so_far.now.run in
    let ends : c.loop-message.message ≡ sent T (len T) = omega arith in
    messages_done c.args.left c.args.program.now T 1 2 c.loop-message.faults.items (omega arith) (omega arith)
    (subst (λ (n : ℕ). AreThoseBefore c.args.left c.args.program.now T 1 n c.loop-message.faults.items) ends (c.loop-message.invariant before))
