use Rattle.tau_scene.proofs.SourceLemmas.{unclosed_rests_not, opened_rests_not, closed_source}
use Rattle.tau_scene.proofs.causes.sources.source_of_later.Goals as goal

pub returns-in_default : goal.returns-in_default
returns-in_default c = unclosed_rests_not c.args.index.now c.args.point c.requires.idle c.requires.interval c.in_default.ensures

pub returns-then-is_opening : goal.returns-then-is_opening
returns-then-is_opening c = opened_rests_not c.args.index.now c.args.point c.requires.idle c.in-Some.closing c.requires.interval c.in-Some.ensures ((c.is_opening.ensures c.args.index.now c.requires.starts).0 c.if-is_opening.true)

pub returns : goal.returns
returns c = closed_source c.args.index.now c.args.point c.requires.idle c.in-Some.closing c.requires.interval c.in-Some.ensures (λ o. let t = (c.is_opening.ensures c.args.index.now c.requires.starts).1 o in let f = c.if-is_opening.false in cc)
