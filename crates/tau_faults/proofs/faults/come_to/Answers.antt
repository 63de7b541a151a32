use Rattle.std.proofs.Common.{◌≡◌, ◌%◌, rules}
use Rattle.std.proofs.lemmas.Result.{MatchResult-weaker}
use Rattle.tau_trace.specs.Run.{len}
use Rattle.tau_faults.proofs.faults.come_to.Goals as goal
use Rattle.tau_faults.proofs.HereLemmas.{can_be_placed, listed}

pub returns-clause-faults : goal.returns-clause-faults
returns-clause-faults c =
    let left = c.args.left in
    let P = c.args.program.now in
    let T = c.args.so_far.now.run in
    let multiple : len T % c.args.every ≡ 0 = search rules in
    MatchResult-weaker c.effective.result c.effective.ensures
    (λ v e leads from. listed left P T c.args.every c.pass_due.new.cursor v.items (c.pass_due.ensures.none leads (search rules)) multiple c.requires.room e) (λ d h. h)

pub returns-clause-placed : goal.returns-clause-placed
returns-clause-placed c = MatchResult-weaker c.effective.result c.effective.ensures (λ v e. can_be_placed c.args.left c.args.program.now c.args.so_far.now.run v.items e) (λ d h. h)
