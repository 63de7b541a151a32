use Rattle.std.proofs.Common.{◌↔◌, IsTrue, [], ◌∷◌, ◌++◌, Option, List, ap, ◌∙◌}
use Rattle.std.specs.Prelude.{Contains}
use Rattle.std.specs.Option.{option_map_or}
use Rattle.std.proofs.lemmas.Result.{IfOk-weaker}
use Rattle.tau_points.specs.declared.point.Point.{Point}
use Rattle.tau_versions.specs.Search.Searching.{Finds, is_fallen}
use Rattle.tau_heard.proofs.Decisions.{found_first, found_next}
use Rattle.tau_heard.proofs.deciding.finds_fallen_root.Goals as goal

pub returns-then-branch : goal.returns-then-branch
returns-then-branch g c =
    let more : List Point = option_map_or (λ p. p ∷ []) c.parts-one.result.1 [] in
    found_first is_fallen c.args.logs.now (g.V.HeardVersions.numbers c.args.heard.now) c.parts-one.result.0.now more c.args.roots.now c.parts-one.ensures c.in_ok-finds_fallen.field-0 c.if-branch.true c.in_ok-finds_fallen.ensures.found

pub returns-in-Some : goal.returns-in-Some
returns-in-Some g c =
    let F : Option Point → List Point = λ o. c.parts-one.result.0.now ++ option_map_or (λ p. p ∷ []) o [] in
    let next = found_next is_fallen c.args.logs.now (g.V.HeardVersions.numbers c.args.heard.now) c.parts-one.result.0.now (c.in-Some.one ∷ []) c.args.roots.now (c.parts-one.ensures ∙ ap F c.in-Some.is) c.in_ok-finds_fallen.field-0 in
    IfOk-weaker c.finds_fallen-in-Some.result (λ b. IsTrue b ↔ Finds is_fallen c.args.logs.now (g.V.HeardVersions.numbers c.args.heard.now) (Contains (c.in-Some.one ∷ []))) (λ b. IsTrue b ↔ Finds is_fallen c.args.logs.now (g.V.HeardVersions.numbers c.args.heard.now) (Contains c.args.roots.now))
    (λ b y. next b c.if-branch.false c.in_ok-finds_fallen.ensures.found y) c.finds_fallen-in-Some.ensures.found
