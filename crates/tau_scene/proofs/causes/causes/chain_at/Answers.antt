use Rattle.std.proofs.Common.{◌∙◌, List, None, sym, subst, arith}
use Rattle.tau_cut.specs.declared.cut.Marked.{Marked}
use Rattle.tau_scene.specs.Causes.Inner.Cuts.{IsChainAt}
use Rattle.tau_scene.proofs.Causing.{none_more, none_all}
use Rattle.tau_scene.proofs.causes.causes.chain_at.Goals as goal

pub loop-mark-preserved : goal.loop-mark-preserved
loop-mark-preserved c = none_more c.items-mark-items.result.now c.args.place c.loop-mark.mark-index c.mark-item.result (omega (arith, c.loop-mark-test.true)) c.mark-item.is (sym c.in_ok-chain.ensures ∙ c.in_default.is) c.loop-mark.invariant

pub returns : goal.returns
returns c = subst (λ (l : List Marked). IsChainAt l c.args.place None) c.items-mark-items.ensures (none_all c.items-mark-items.result.now c.args.place c.loop-mark.mark-index (omega (arith, c.loop-mark-test.false)) c.loop-mark.invariant)
