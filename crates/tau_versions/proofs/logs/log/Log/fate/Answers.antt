use Rattle.std.proofs.Common.{◌≡◌, ℕ, List, subst, sym, ap, ◌∙◌}
use Rattle.tau_history.specs.Closed.{IsFront}
use Rattle.tau_trace.specs.Histories.{history}
use Rattle.tau_trace.proofs.Lists.{same_some}
use Rattle.tau_versions.specs.declared.logs.version.Version.{Version}
use Rattle.tau_versions.specs.Logs.Versions.{IsVersionOf}
use Rattle.tau_versions.proofs.Telling.{says_at}
use Rattle.tau_versions.proofs.logs.log.Log.fate.Goals as goal

pub returns-in-Some-clause-right : goal.returns-in-Some-clause-right
returns-in-Some-clause-right c = λ T u n a v x le latest.
    let says = says_at T u n a c.args.number c.args.self.now v x le latest in
    let same : v ≡ c.in-Some.version = same_some (sym latest.stands ∙ sym c.version.ensures ∙ c.in-Some.is) in
    let F : Version → Type 0 = λ w. IsVersionOf w (history T u a) in
    let G : List ℕ → Type 0 = IsFront (history T u a).closed in
    c.fate_in.ensures.right (history T u a) (subst F same says.tells) (subst G (sym (ap (λ s. s.closed) c.self.view_is) ∙ sym c.deref.ensures.value) says.front)

pub returns-in-None-clause-right : goal.returns-in-None-clause-right
returns-in-None-clause-right c = λ T u n a v x le latest. absurd (let impossible = sym c.in-None.is ∙ c.version.ensures ∙ latest.stands in cc)
