use Rattle.std.proofs.Common.{sym, ◌∙◌, subst, List, Some}
use Rattle.std.specs.HashMap.{get}
use Rattle.tau_explain.specs.declared.chains.chained.Chained.{Chained}
use Rattle.tau_past.specs.Tables.{same_point}
use Rattle.tau_explain.specs.Links.Inner.Linking.{IsDownFrom}
use Rattle.tau_explain.proofs.links.routes.chain_down.Goals as goal

pub chain_from-requires-clause-at : goal.chain_from-requires-clause-at
chain_from-requires-clause-at c = sym (c.copied.ensures ∙ c.get.ensures.value) ∙ c.in-Some.is

pub returns-in_ok-items-in-Some-clause-chain : goal.returns-in_ok-items-in-Some-clause-chain
returns-in_ok-items-in-Some-clause-chain c =
    let l = c.args.levels.now in
    subst (λ (cs : List Chained). IsDownFrom l.index.now l.marks.now (get same_point l.far) c.args.point (Some cs)) (sym c.from_vec.ensures)
    ((c.in-Some.distance, sym (c.copied.ensures ∙ c.get.ensures.value) ∙ c.in-Some.is), c.in_ok-items-in-Some.ensures.chain)

pub returns-in-None-clause-chain : goal.returns-in-None-clause-chain
returns-in-None-clause-chain c = sym (c.copied.ensures ∙ c.get.ensures.value) ∙ c.in-None.is
