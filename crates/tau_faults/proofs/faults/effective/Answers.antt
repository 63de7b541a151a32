use Rattle.std.proofs.Common.{List, sym, subst}
use Rattle.tau_tree.specs.declared.entries.Failure.{Failure}
use Rattle.tau_faults.specs.Inner.Here.{AreThoseBefore}
use Rattle.tau_faults.proofs.faults.effective.Goals as goal
use Rattle.tau_faults.proofs.HereLemmas.{none_first, all_done}

pub returns : goal.returns
returns c =
    let left = c.args.left in
    let P = c.args.program.now in
    let T = c.args.so_far.now.run in
    let first = subst (λ (fs : List Failure). AreThoseBefore left P T 0 0 fs) (sym c.new-faults.ensures.items) (none_first left P T) in
    all_done left P T c.add_repeats.new.faults.items (c.in_ok-add_repeats.ensures (c.in_ok-add_losses.ensures (c.in_ok-add_fails.ensures first)))
