use Rattle.std.proofs.Common.{refl, arith}
use Rattle.tau_book.proofs.Onward.{goes_nowhere}
use Rattle.tau_book.proofs.stepping.make_steps.Goals as goal

pub loop-init : goal.loop-init
loop-init c = record { all = c.requires; works = λ seed start w. w; grows = goes_nowhere c.args.book.now; size = refl; steps = omega arith }
