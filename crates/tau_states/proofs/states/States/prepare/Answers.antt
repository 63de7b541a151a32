use Rattle.std.specs.Prelude.{◌≡◌}
use Rattle.std.proofs.lemmas.Result.{IfOk-weaker}
use Rattle.tau_states.specs.Effects.{changed, records_after}
use Rattle.tau_states.specs.Table.{Advances}
use Rattle.tau_states.proofs.Tables.{advances}
use Rattle.tau_states.proofs.states.States.prepare.Goals as goal

pub returns : goal.returns
returns c =
    let rs = c.args.self.now.records in
    let s = c.args.step.now in
    IfOk-weaker c.change_of.result (λ x. changed x rs ≡ records_after s rs) (λ x. Advances s rs (changed x rs)) (λ x e. advances s rs (changed x rs) e) c.change_of.ensures
