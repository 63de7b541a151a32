use Rattle.std.proofs.Common.{subst, List, Bool}
use Rattle.std.specs.Prelude.{Contains}
use Rattle.std.proofs.lemmas.Result.{IfOk-weaker}
use Rattle.tau_explain.specs.Links.Inner.Linking.{AreFirstChains}
use Rattle.tau_explain.proofs.SourceLemmas.{chains_told}
use Rattle.tau_explain.proofs.links.routes.shortest_chains.Goals as goal

pub returns : goal.returns
returns c =
    let T = c.args.index.now in
    let from = c.args.from.now in
    let to = c.args.to.now in
    IfOk-weaker c.chains_among.result _ _
    (λ v first. chains_told T c.in_ok-marks.marks.items to c.in_ok-marks.ensures.marked c.requires.to from v.items c.requires.from (subst (λ (m : List Bool). AreFirstChains T m from (Contains to) v.items) c.deref.ensures.value first))
    c.chains_among.ensures
