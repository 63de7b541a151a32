use Rattle.std.proofs.Common.{subst, List, Bool}
use Rattle.std.specs.Prelude.{Contains}
use Rattle.std.specs.HashMap.{get}
use Rattle.tau_trace.specs.Run.{Run}
use Rattle.tau_explain.specs.Chains.Inner.Distances.{IsFar}
use Rattle.tau_past.specs.Tables.{same_point}
use Rattle.tau_explain.specs.Links.Inner.Dependents.{IsLinked}
use Rattle.tau_explain.proofs.links.routes.levels_to.Goals as goal

pub returns-clause-levels : goal.returns-clause-levels
returns-clause-levels c =
    let T = c.args.index.now in
    let far = get same_point c.in_ok-far.far in
    let d = c.in_ok-dependents.ensures in
    let f : IsFar (IsLinked T c.args.marks.now) (Contains c.args.to.now) far = subst (λ (r : Run). IsFar (IsLinked r c.args.marks.now) (Contains c.args.to.now) far) d.index (subst (λ (m : List Bool). IsFar (IsLinked c.in_ok-dependents.dependents.index.now m) (Contains c.args.to.now) far) d.marks c.in_ok-far.ensures) in
    record { count = c.requires.marks; nearest_told = c.in_ok-nearest.ensures; closed = c.requires.checkpoints; levels = record { on = f.on; near = f.near } }

pub returns-clause-far : goal.returns-clause-far
returns-clause-far c =
    let far = get same_point c.in_ok-far.far in
    let d = c.in_ok-dependents.ensures in
    subst (λ (r : Run). IsFar (IsLinked r c.args.marks.now) (Contains c.args.to.now) far) d.index (subst (λ (m : List Bool). IsFar (IsLinked c.in_ok-dependents.dependents.index.now m) (Contains c.args.to.now) far) d.marks c.in_ok-far.ensures)
