use Rattle.std.proofs.Common.{◌↔◌, All, List, Option, length, sym, subst}
use Rattle.std.specs.Prelude.{Contains}
use Rattle.std.proofs.lemmas.Result.{IfOk-weaker}
use Rattle.tau_points.specs.declared.point.Point.{Point}
use Rattle.tau_points.specs.Members.{SameMembers}
use Rattle.tau_explain.specs.declared.chains.chained.Chained.{Chained}
use Rattle.tau_trace.specs.Points.{IsOpeningPoint}
use Rattle.tau_explain.specs.Links.Links.{AreChainsFrom}
use Rattle.tau_scene.specs.Causes.Inner.Resting.{HasChainAt}
use Rattle.tau_scene.proofs.Pasts.{no_opening_fallen, resting_told}
use Rattle.tau_scene.proofs.causes.resting.resting_among.Goals as goal

pub shortest_chains-requires-clause-to : goal.shortest_chains-requires-clause-to
shortest_chains-requires-clause-to c = subst (λ (l : List Point). All (λ q. ¬ IsOpeningPoint c.args.index.now q) l) (sym c.points.ensures.points) (no_opening_fallen c.args.index.now c.args.fallen.now c.requires.fallen)

pub returns : goal.returns
returns c =
    let T = c.args.index.now in
    let points = c.args.points.now in
    let chains = c.in_ok-chains.chains.items in
    let are : AreChainsFrom T points (Contains c.args.fallen.now) chains = subst (λ (l : List Point). AreChainsFrom T points (Contains l) chains) c.points.ensures.points c.in_ok-chains.ensures in
    let picked : (q : Point) → Contains c.in_ok-resting.resting.items q ↔ HasChainAt points chains (length points) q = subst (λ (l : List (Option (List Chained))). (q : Point) → Contains c.in_ok-resting.resting.items q ↔ HasChainAt points l (length points) q) c.deref.ensures.value c.in_ok-resting.ensures in
    IfOk-weaker c.from_slice.result _ _ (λ set same. resting_told T c.args.fallen.now c.requires.fallen points chains are c.in_ok-resting.resting.items set picked (subst (λ (l : List Point). SameMembers l set) c.deref-2.ensures.value same)) c.from_slice.ensures.members
