use Rattle.std.proofs.Common.{subst, List, Bool, length}
use Rattle.std.specs.Prelude.{Contains}
use Rattle.std.specs.HashMap.{get}
use Rattle.std.proofs.lemmas.Result.{IfOk-weaker}
use Rattle.tau_trace.specs.Run.{Run}
use Rattle.tau_past.specs.Tables.{same_point}
use Rattle.tau_explain.specs.Links.Inner.Linking.{AreDown}
use Rattle.tau_explain.proofs.SourceLemmas.{first_chains}
use Rattle.tau_explain.proofs.links.routes.chains_among.Goals as goal

pub returns : goal.returns
returns c =
    let T = c.args.index.now in
    let marks = c.args.marks.now in
    let from = c.args.from.now in
    let levels = c.in_ok-levels.levels in
    let far = get same_point levels.far in
    let e = c.in_ok-levels.ensures in
    IfOk-weaker c.chains_down.result _ _
    (λ v down. first_chains T marks far (Contains c.args.to.now) e.far from v.items
    (subst (λ (r : Run). AreDown r marks far from (length from) v.items) e.index (subst (λ (m : List Bool). AreDown levels.index.now m far from (length from) v.items) e.marks down)))
    c.chains_down.ensures
