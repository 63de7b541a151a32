use Rattle.std.proofs.Common.{◌↔◌, List, sym, subst}
use Rattle.std.specs.Prelude.{Contains}
use Rattle.std.proofs.lemmas.Result.{IfOk-weaker}
use Rattle.tau_points.specs.declared.point.Point.{Point}
use Rattle.tau_points.proofs.Membership.{Contains-none}
use Rattle.tau_past.specs.Carried.{SentWith}
use Rattle.tau_past.specs.Tables.{IsSendPlaceOf}
use Rattle.tau_explain.proofs.CauseLemmas.{sent_told}
use Rattle.tau_explain.proofs.causes.sent_points.Goals as goal

pub returns-in-Some-clause-members : goal.returns-in-Some-clause-members
returns-in-Some-clause-members c =
    let T = c.args.trace.now.run in
    let send = subst (IsSendPlaceOf T c.args.message) c.in-Some.is c.send_of.ensures in
    IfOk-weaker c.carried.result _ _ (λ set told. sent_told T c.args.message c.in-Some.place send.0.0 set send.0.1 send.1 told) c.carried.ensures.members

pub returns-in-None-clause-members : goal.returns-in-None-clause-members
returns-in-None-clause-members c =
    let T = c.args.trace.now.run in
    let none = subst (IsSendPlaceOf T c.args.message) c.in-None.is c.send_of.ensures in
    let F : List Point → Type 0 = λ l. (q : Point) → Contains l q ↔ SentWith T c.args.message q in
    subst F (sym c.new.ensures) (λ q. (λ h. absurd (Contains-none q h), λ s. absurd (none s.place s.by s.origin s.send)))
