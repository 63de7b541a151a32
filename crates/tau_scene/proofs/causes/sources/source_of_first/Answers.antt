use Rattle.std.proofs.Common.{arith}
use Rattle.tau_scene.proofs.SourceLemmas.{later_rests_not, unborn_rests_not, born_source}
use Rattle.tau_scene.proofs.causes.sources.source_of_first.Goals as goal

pub returns-then-point-gt0 : goal.returns-then-point-gt0
returns-then-point-gt0 c = later_rests_not c.args.index.now c.args.point c.requires.idle c.requires.interval (omega (arith, c.if-point-gt0.true))

pub returns-in-Some : goal.returns-in-Some
returns-in-Some c = born_source c.args.index.now c.args.point c.requires.idle c.in-Some.place c.requires.interval (omega (arith, c.if-point-gt0.false)) c.in-Some.ensures

pub returns-in-None : goal.returns-in-None
returns-in-None c = unborn_rests_not c.args.index.now c.args.point c.requires.idle c.requires.interval c.in-None.ensures
