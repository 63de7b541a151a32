use Rattle.std.proofs.Common.{ℕ, sym, subst}
use Rattle.tau_layout.specs.Paths.Spots.{IsSpotX}
use Rattle.tau_layout.proofs.paths.spots.spot_at.Goals as goal

pub returns-clause-spot : goal.returns-clause-spot
returns-clause-spot c = λ s e. (
  subst (λ (x : ℕ). IsSpotX c.args.trace.now.run c.args.layout.now s c.args.place x) (sym c.in_row.ensures.x) (c.spot_x-x.ensures.x s e),
  c.in_row.ensures.y,
)
