use Rattle.std.proofs.Common.{inl, inr, ⊎_elim, arith}
use Rattle.tau_book.proofs.Works.{after_then}
use Rattle.tau_book.proofs.stepping.make_rest.Goals as goal

pub returns-clause-over : goal.returns-clause-over
returns-clause-over c = ⊎_elim (λ whole. inl whole) (λ long. inr (omega (arith, long, c.system-system.ensures.book.limited))) c.in_ok-make_steps.ensures.over

pub returns-clause-after : goal.returns-clause-after
returns-clause-after c seed start w =
    after_then c.args.book.now c.make_steps.new.book c.in_ok-make_steps.ensures.grows c.system-system.ensures.book (returns-clause-over c) seed start c.args.hand.now.size c.make_steps.new.hand c.in_ok-make_steps.ensures.size
    (c.in_ok-make_steps.ensures.works seed start w)
