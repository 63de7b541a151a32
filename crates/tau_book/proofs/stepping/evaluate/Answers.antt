use Rattle.std.proofs.Common.{sym, subst}
use Rattle.std.proofs.lemmas.Result.{on_ok_weaker}
use Rattle.tau_eval.specs.Turn.{TurnSoFar}
use Rattle.tau_rules.specs.Answers.{IsOpenJob}
use Rattle.tau_book.specs.Tolds.{IsTurnStep}
use Rattle.tau_book.proofs.AllJobs.{jobs_made, turn_made}
use Rattle.tau_book.proofs.Works.{works_made}
use Rattle.tau_book.proofs.stepping.evaluate.Goals as goal

pub act_open-requires-clause-is_open : goal.act_open-requires-clause-is_open
act_open-requires-clause-is_open g c = subst (λ (j : TurnSoFar). IsOpenJob c.args.book.now.system.program c.args.book.now.system.run j) (sym c.in_ok-pending.ensures) c.requires.handed_out.is_open

pub returns-clause-jobs : goal.returns-clause-jobs
returns-clause-jobs g c = on_ok_weaker c.act_open.result
    (λ made. jobs_made c.args.book.now c.act_open.new.self c.args.hand.now c.act_open.new.hand c.args.job c.act_open.ensures.was_book c.act_open.ensures.is_book c.requires.handed_out
    (subst (λ (j : TurnSoFar). IsTurnStep c.args.book.now c.act_open.new.self c.args.hand.now c.act_open.new.hand j) c.in_ok-pending.ensures made))
    c.act_open.ensures.ok

pub returns-clause-works : goal.returns-clause-works
returns-clause-works g c = on_ok_weaker c.act_open.result
    (λ made seed start x. works_made seed start c.args.book.now c.act_open.new.self c.args.hand.now c.act_open.new.hand c.args.job c.requires.handed_out x
    (subst (λ (j : TurnSoFar). IsTurnStep c.args.book.now c.act_open.new.self c.args.hand.now c.act_open.new.hand j) c.in_ok-pending.ensures made))
    c.act_open.ensures.ok

pub returns-clause-stepped : goal.returns-clause-stepped
returns-clause-stepped g c = on_ok_weaker c.act_open.result
    (λ made. let a = turn_made c.args.book.now c.act_open.new.self c.args.hand.now c.act_open.new.hand c.in_ok-pending.pending made in (a.0, a.1.appended))
    c.act_open.ensures.ok
