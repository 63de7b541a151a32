use Rattle.std.proofs.Common.{refl, sym, subst}
use Rattle.std.specs.Prelude.{IsTrue}
use Rattle.std.proofs.lemmas.Result.{IfOk-weaker}
use Rattle.tau_legal.proofs.Absence.{clash}
use Rattle.tau_storm.specs.Claims.{Holds}
use Rattle.tau_storm.proofs.StormLemmas.{trial_holds, trial_breaks}
use Rattle.tau_storm.proofs.trials.TrialVisit.visit.Goals as goal

pub returns-then-branch : goal.returns-then-branch
returns-then-branch c = λ e p s f r behaviour ends is.
    trial_holds behaviour ends e c.args.self.now _ refl (c.in_ok-visit.ensures e p s f r) is refl ((c.in_ok-holds.ensures e p r).0 (subst IsTrue (sym c.if-branch.true) refl))

pub returns : goal.returns
returns c = IfOk-weaker c.visit-2.result _ _
    (λ u shows e p s f r behaviour ends is.
    trial_breaks behaviour ends e c.args.self.now _ refl (c.in_ok-visit.ensures e p s f r) is (shows e p s f r) (λ (h : Holds c.args.self.now.behaviour e). clash c.in_ok-holds.field-0 ((c.in_ok-holds.ensures e p r).1 h) c.if-branch.false))
    c.visit-2.ensures
