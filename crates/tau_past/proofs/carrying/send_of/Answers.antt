use Rattle.std.proofs.Common.{ℕ, Option, sym, subst}
use Rattle.tau_past.specs.Tables.{IsSendPlaceOf}
use Rattle.tau_past.proofs.Turning.{send_told}
use Rattle.tau_past.proofs.carrying.send_of.Goals as goal

pub returns-in-Some : goal.returns-in-Some
returns-in-Some c =
    let T = c.args.trace.now.run in
    let P : Option ℕ → Type 0 = IsSendPlaceOf T c.args.message in
    subst P (sym c.send_at.ensures) (send_told T c.args.message c.in-Some.place c.in-Some.ensures)

pub returns-in-None : goal.returns-in-None
returns-in-None c = λ j by o s. c.in-None.ensures j by o
