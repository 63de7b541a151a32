use Rattle.std.proofs.Common.{◌↔◌, All, List, sym, subst}
use Rattle.std.specs.Prelude.{Contains}
use Rattle.tau_points.specs.declared.point.Point.{Point}
use Rattle.tau_trace.specs.Run.{Run}
use Rattle.tau_past.specs.Safety.{RolledBack}
use Rattle.tau_explain.specs.Links.Links.{IsMade}
use Rattle.tau_scene.specs.Causes.Looks.{RestsOnFallen}
use Rattle.tau_scene.proofs.SourceLemmas.{carried_made, carries_told}
use Rattle.tau_scene.proofs.causes.grounds.carries_fallen.Goals as goal

pub resting_among-requires-clause-made : goal.resting_among-requires-clause-made
resting_among-requires-clause-made c = subst (λ (R : Run). All (IsMade R) c.points.result.now) (sym c.requires.index) (subst (λ (l : List Point). All (IsMade c.args.trace.now.run) l) (sym c.points.ensures.points) (carried_made c.args.trace.now.run c.args.place c.in_ok-carries.carries c.in_ok-carries.ensures.members))

pub resting_among-requires-clause-fallen : goal.resting_among-requires-clause-fallen
resting_among-requires-clause-fallen c = subst (λ (R : Run). (q : Point) → Contains c.args.fallen.now q ↔ RolledBack R q) (sym c.requires.index) c.requires.fallen

pub returns : goal.returns
returns c =
    let T = c.args.trace.now.run in
    let told = subst (λ (R : Run). (q : Point) → Contains c.in_ok-resting.resting q ↔ (Contains c.in_ok-carries.carries q × RestsOnFallen R q)) c.requires.index (subst (λ (l : List Point). (q : Point) → Contains c.in_ok-resting.resting q ↔ (Contains l q × RestsOnFallen c.args.index.now q)) c.points.ensures.points c.in_ok-resting.ensures) in
    carries_told T c.args.place c.in_ok-carries.carries c.in_ok-resting.resting c.is_empty.result c.in_ok-carries.ensures.members told c.is_empty.ensures
