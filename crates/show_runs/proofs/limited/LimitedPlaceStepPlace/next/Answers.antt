use Rattle.tau_book.proofs.HandsLeft.{all_left}
use Rattle.show_runs.proofs.limited.LimitedPlaceStepPlace.next.Goals as goal

pub returns-then-self-eq0-clause-hand_on_err : goal.returns-then-self-eq0-clause-hand_on_err
returns-then-self-eq0-clause-hand_on_err g c = all_left (λ _. Unit {0}) c.args.hand.now
