use Rattle.std.proofs.Common.{◌≡◌, ap, sym, subst}
use Rattle.tau_eval.specs.Eff as eff
use Rattle.tau_eval.specs.Eff.{Eff}
use Rattle.tau_eval.specs.Effect.{eff_of}
use Rattle.tau_legal.specs.Choices.{asks_freedom, IsChoiceOf}
use Rattle.tau_legal.proofs.choices.chosen.Goals as goal

pub returns-in-Ask : goal.returns-in-Ask
returns-in-Ask c =
    let same : eff_of c.args.effect.now ≡ eff.ask = ap eff_of c.in-Ask.is in
    let free = c.requires.freedom (ap asks_freedom same) in
    subst (λ (e : Eff). IsChoiceOf c.args.trace.now.run c.args.states.now.records c.args.who e c.choice_of_ask.result) (sym same)
    (c.choice_of_ask.ensures c.args.trace.now.run c.args.states.now.records free)

pub returns-in-Checkpoint : goal.returns-in-Checkpoint
returns-in-Checkpoint c =
    let same : eff_of c.args.effect.now ≡ eff.checkpoint = ap eff_of c.in-Checkpoint.is in
    let free = c.requires.freedom (ap asks_freedom same) in
    subst (λ (e : Eff). IsChoiceOf c.args.trace.now.run c.args.states.now.records c.args.who e c.choice_of_checkpoint.result) (sym same)
    (c.choice_of_checkpoint.ensures c.args.trace.now.run c.args.states.now.records free)
