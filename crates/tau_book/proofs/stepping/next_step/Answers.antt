use Rattle.std.proofs.Common.{⊎_elim, subst}
use Rattle.tau_book.specs.Nexts.{IsNext}
use Rattle.tau_book.proofs.AllJobs.{jobs_due, jobs_received, handed_out, not_idle}
use Rattle.tau_book.proofs.Works.{works_due, works_received, works_handed_out}
use Rattle.tau_book.proofs.stepping.next_step.Goals as goal

pub evaluate-requires-clause-handed_out : goal.evaluate-requires-clause-handed_out
evaluate-requires-clause-handed_out g c =
    let handed = subst (λ a. IsNext c.args.book.now c.next.new.self c.args.hand.now c.next.new.hand a) c.in-Work.is c.in_ok-job.ensures.ok in
    handed_out c.args.book.now c.next.new.self c.args.hand.now c.next.new.hand c.next.ensures.was_book c.next.ensures.is_book c.requires c.in-Work.job handed

pub unreachable-requires : goal.unreachable-requires
unreachable-requires g c =
    let idle = subst (λ a. IsNext c.args.book.now c.next.new.self c.args.hand.now c.next.new.hand a) c.in-Idle.is c.in_ok-job.ensures.ok in
    not_idle c.args.book.now c.next.new.self c.args.hand.now c.next.new.hand c.next.ensures.was_book c.next.ensures.is_book c.requires c.in-Idle.out idle

pub returns-in_ok-evaluate-in-Work-clause-works : goal.returns-in_ok-evaluate-in-Work-clause-works
returns-in_ok-evaluate-in-Work-clause-works g c = λ seed start w.
    let handed = subst (λ a. IsNext c.args.book.now c.next.new.self c.args.hand.now c.next.new.hand a) c.in-Work.is c.in_ok-job.ensures.ok in
    c.in_ok-evaluate-in-Work.ensures.works seed start (works_handed_out seed start c.args.book.now c.next.new.self c.args.hand.now c.next.new.hand c.next.ensures.was_book c.next.ensures.is_book c.requires w c.in-Work.job handed)

pub returns-in-Stepped-clause-jobs : goal.returns-in-Stepped-clause-jobs
returns-in-Stepped-clause-jobs g c =
    let next = subst (λ a. IsNext c.args.book.now c.next.new.self c.args.hand.now c.next.new.hand a) c.in-Stepped.is c.in_ok-job.ensures.ok in
    ⊎_elim
    (λ d. jobs_due c.args.book.now c.next.new.self c.args.hand.now c.next.new.hand c.next.ensures.was_book c.next.ensures.is_book c.requires d)
    (λ d. jobs_received c.args.book.now c.next.new.self c.args.hand.now c.next.new.hand c.next.ensures.was_book c.next.ensures.is_book c.requires d)
    next

pub returns-in-Stepped-clause-works : goal.returns-in-Stepped-clause-works
returns-in-Stepped-clause-works g c = λ seed start w.
    let next = subst (λ a. IsNext c.args.book.now c.next.new.self c.args.hand.now c.next.new.hand a) c.in-Stepped.is c.in_ok-job.ensures.ok in
    ⊎_elim
    (λ d. works_due seed start c.args.book.now c.next.new.self c.args.hand.now c.next.new.hand c.next.ensures.was_book c.next.ensures.is_book c.requires w d)
    (λ d. works_received seed start c.args.book.now c.next.new.self c.args.hand.now c.next.new.hand c.next.ensures.was_book c.next.ensures.is_book c.requires w d)
    next
