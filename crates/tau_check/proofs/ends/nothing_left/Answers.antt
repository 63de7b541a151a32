use Rattle.std.proofs.Common.{◌≡◌, ◌∙◌, sym, true, false}
use Rattle.tau_check.proofs.ends.nothing_left.Goals as goal

pub returns-then-not-none_open : goal.returns-then-not-none_open
returns-then-not-none_open c = (
  λ h. absurd (cc),
  λ left. let both : false ≡ true = sym c.if-not-none_open.true ∙ c.none_open.ensures.1 left.no_turn in absurd (cc),
)

pub returns : goal.returns
returns c = (
  λ h. record { no_turn = c.none_open.ensures.0 c.if-not-none_open.false; none_in_flight = c.none_in_flight.ensures.0 h },
  λ left. c.none_in_flight.ensures.1 left.none_in_flight,
)
