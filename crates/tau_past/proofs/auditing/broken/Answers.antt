use Rattle.std.proofs.Common.{subst, sym, ◌↔◌, List}
use Rattle.std.specs.Prelude.{Contains}
use Rattle.tau_points.specs.declared.point.Point.{Point}
use Rattle.tau_past.specs.Pasts.{Past}
use Rattle.tau_past.proofs.Breaches.{least_exists, fall_exists, is_broken}
use Rattle.tau_past.proofs.auditing.broken.Goals as goal

pub unreachable-requires : goal.unreachable-requires
unreachable-requires c =
    let T = c.args.index.now in
    let all = subst (λ (l : List Point). (q : Point) → Contains l q ↔ Past T c.args.breach.point q) (sym c.points.ensures.points) c.in_ok-past.ensures.members in
    least_exists T c.args.breach c.points.result.now c.requires all c.in_default.ensures

pub unreachable-requires-in_default-first_fall : goal.unreachable-requires-in_default-first_fall
unreachable-requires-in_default-first_fall c = fall_exists c.args.index.now c.in-Some.point c.in-Some.ensures.1 c.in_default-first_fall.ensures

pub returns : goal.returns
returns c =
    let T = c.args.index.now in
    let all = subst (λ (l : List Point). (q : Point) → Contains l q ↔ Past T c.args.breach.point q) (sym c.points.ensures.points) c.in_ok-past.ensures.members in
    is_broken T c.args.breach c.points.result.now c.in-Some.point c.in-Some-first_fall.fall c.requires all c.in-Some.ensures c.in-Some-first_fall.ensures
