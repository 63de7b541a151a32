use Rattle.tau_heard.proofs.Bounds.{copies_hear_alike}
use Rattle.tau_heard.proofs.Turns.{copies_carry_alike}
use Rattle.tau_heard.proofs.laws.copies_are_alike.Goals as goal

pub returns-clause-heard : goal.returns-clause-heard
returns-clause-heard c = copies_hear_alike

pub returns-clause-carried : goal.returns-clause-carried
returns-clause-carried c = copies_carry_alike
