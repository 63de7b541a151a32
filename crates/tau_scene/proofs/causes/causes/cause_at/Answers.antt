use Rattle.std.proofs.Common.{inl, subst}
use Rattle.std.proofs.lemmas.Result.{IfOk-weaker}
use Rattle.tau_explain.specs.declared.answers.Why.{Why}
use Rattle.tau_explain.specs.Decisions.{IsWhy}
use Rattle.tau_scene.proofs.Causing.{cause_by_cut}
use Rattle.tau_scene.proofs.causes.causes.cause_at.Goals as goal

pub returns-in-Chain : goal.returns-in-Chain
returns-in-Chain c = inl (subst (λ (w : Why). IsWhy c.args.trace.now.run c.args.place w) c.in-Chain.is (subst (λ k. IsWhy c.args.trace.now.run k c.in_ok-chain.field-0) c.from.ensures c.in_ok-chain.ensures.answer))

pub returns : goal.returns
returns c = IfOk-weaker c.chain_at.result _ _ (λ o told. cause_by_cut c.args.trace.now.run c.args.cut.now c.args.place c.in_ok-chain.field-0 o (subst (λ k. IsWhy c.args.trace.now.run k c.in_ok-chain.field-0) c.from.ensures c.in_ok-chain.ensures.answer) c.in_default.not-Chain told) c.chain_at.ensures
