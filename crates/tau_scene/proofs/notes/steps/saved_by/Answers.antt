use Rattle.std.proofs.Common.{◌≡◌, ◌∙◌, subst}
use Rattle.std.specs.Option.{option_copied}
use Rattle.tau_states.specs.Answers.{IsSavedAfter}
use Rattle.tau_trace.proofs.Lists.{same_some}
use Rattle.tau_scene.proofs.notes.steps.saved_by.Goals as goal

pub returns-in-Some : goal.returns-in-Some
returns-in-Some c T opening h t e =
    let same : c.in-Some.who ≡ t = same_some (c.in-Some.ensures ∙ e) in
    subst (λ u. IsSavedAfter T opening u (option_copied c.saved_of.result)) same (c.saved_of.ensures T opening h)
