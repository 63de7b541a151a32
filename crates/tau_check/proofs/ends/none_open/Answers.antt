use Rattle.std.proofs.Common.{◌∙◌, sym, refl, arith}
use Rattle.tau_check.proofs.EndLemmas.{one_more_idle, all_idle}
use Rattle.tau_check.proofs.ends.none_open.Goals as goal

pub loop-who-preserved : goal.loop-who-preserved
loop-who-preserved c = one_more_idle c.args.trace.now.run c.loop-who.who c.open_turn.result c.open_turn.ensures (sym c.is_some.ensures ∙ c.if-is_some.false) c.loop-who.invariant

pub returns : goal.returns
returns c = (
  λ h. all_idle c.args.trace.now.run c.requires (λ t place m lt u. c.loop-who.invariant t place m (omega (arith, lt, c.born-count.ensures, c.loop-who-test.false)) u),
  λ none. refl,
)
