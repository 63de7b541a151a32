use Rattle.std.proofs.Common.{◌≡◌, ◌<◌, length, arith, sym, ◌∙◌}
use Rattle.tau_value.proofs.ValueLemmas.{same_at}
use Rattle.tau_eval.proofs.job.are_same.Goals as goal

pub returns-then-not-same : goal.returns-then-not-same
returns-then-not-same c = (
  λ h. cc,
  λ h. let in_one : c.loop-k.k < length c.args.one.now = omega arith in
      let in_two : c.loop-k.k < length c.args.two.now = omega arith in
      sym c.if-not-same.true ∙ c.same.ensures.1 (same_at c.args.one.now c.args.two.now c.loop-k.k c.index-one-k.result c.index-two-k.result h in_one in_two c.index-one-k.is c.index-two-k.is),
)
