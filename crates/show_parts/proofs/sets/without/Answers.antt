use Rattle.std.proofs.Common.{rules, not, ◌==◌}
use Rattle.std.proofs.lemmas.Fn.{always_returns_same}
use Rattle.tau_points.specs.declared.point.Point.{Point}
use Rattle.show_parts.proofs.sets.without.Goals as goal

pub returns : goal.returns
returns c = c.retain.ensures.kept (λ (p : Point). not (p.who == c.args.who)) (always_returns_same _ _ _ (λ a r f k. search rules))
