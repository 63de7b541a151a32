use Rattle.std.proofs.Common.{◌≡◌, ◌∙◌, ℕ, Option, Some, None, sym, subst}
use Rattle.tau_trace.specs.Numbering.{IsSender}
use Rattle.tau_trace.proofs.Once.{origin_acts}
use Rattle.tau_trace.proofs.trace.Trace.sender.Goals as goal

pub returns-in-Some : goal.returns-in-Some
returns-in-Some c =
    let T = c.args.self.now.run in
    let from = c.in-Some.ensures in
    let acts : c.actor_at.result ≡ Some from.0 = c.actor_at.ensures ∙ origin_acts T c.in-Some.place from.0 c.args.message from.1 in
    let P : Option ℕ → Type 0 = IsSender T c.args.message in
    subst P (sym acts) (record { place = c.in-Some.place; origin = from.1 })

pub returns-in-None : goal.returns-in-None
returns-in-None c = λ u s. c.in-None.ensures s.place u s.origin
