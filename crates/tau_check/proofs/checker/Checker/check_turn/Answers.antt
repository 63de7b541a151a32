use Rattle.std.proofs.Common.{◌≡◌, ◌∙◌, ℕ, Some, ap, sym, subst}
use Rattle.tau_eval.specs.Turn as jobs
use Rattle.tau_rules.specs.System.{Core}
use Rattle.tau_rules.specs.Answers.{IsOpenJob}
use Rattle.tau_check.specs.Inner.Jobs.{HasOtherJobs}
use Rattle.tau_check.proofs.EndLemmas.{not_in_turn, in_turn}
use Rattle.tau_check.proofs.TurnSteps.{idle_illegal, kept_job, others_left}
use Rattle.tau_check.proofs.checker.Checker.check_turn.Goals as goal

pub returns-then-is_none : goal.returns-then-is_none
returns-then-is_none c =
    let old : Core = c.args.self.now.legal.system in
    idle_illegal old.program old.run c.args.step.now c.args.who (not_in_turn old.run c.args.who c.open_turn.result c.is_none.result c.open_turn.ensures c.is_none.ensures c.if-is_none.true) c.requires.turn

pub take_job-requires : goal.take_job-requires
take_job-requires c =
    let old : Core = c.args.self.now.legal.system in
    let u = in_turn old.run c.args.who c.open_turn.result c.is_none.result c.open_turn.ensures c.is_none.ensures c.if-is_none.false in
    let h = c.requires.has_jobs c.args.who u.0 u.1 u.2 in
    (h.job, h.kept)

pub check_effect-requires : goal.check_effect-requires
check_effect-requires c =
    let old : Core = c.args.self.now.legal.system in
    let u = in_turn old.run c.args.who c.open_turn.result c.is_none.result c.open_turn.ensures c.is_none.ensures c.if-is_none.false in
    let job : jobs.TurnSoFar = c.take_job.result in
    let kept = kept_job old.program old.run c.args.self.now.jobs.items c.args.who job (c.requires.has_jobs c.args.who u.0 u.1 u.2) c.take_job.ensures.job in
    let same : c.in-Ok.pending ≡ job = c.in-Ok.ensures.ok in
    let who : c.in-Ok.pending.who ≡ c.args.who = ap (λ (x : jobs.TurnSoFar). x.who) same ∙ kept.0 in
    record {
      asked = c.requires.asked;
      follows = c.requires.follows;
      turn = c.requires.turn ∙ ap Some (sym who);
      is_open = subst (IsOpenJob old.program old.run) (sym same) kept.1;
      others = subst (λ (t : ℕ). HasOtherJobs old.program old.run t c.take_job.new.jobs.items) (sym who) (others_left old.program old.run c.args.self.now.jobs.items c.take_job.new.jobs.items c.args.who c.requires.has_jobs c.take_job.ensures.others);
    }
