use Rattle.tau_explain.proofs.RowLemmas.{below_less}
use Rattle.tau_explain.proofs.LinkLemmas.{taken_on, taken_end, taken_within, last_below}
use Rattle.tau_explain.proofs.links.linking.taking_link.Goals as goal

pub loop-next-smaller : goal.loop-next-smaller
loop-next-smaller c =
    let l = c.args.levels.now in
    let within = taken_within l.index.now l.marks.now l.nearest.items c.args.point.now c.args.distance c.in-Some.place c.loop-next.least c.loop-next.next c.in-Some.is c.loop-next.invariant in
    below_less c.earlier_at-next.result c.loop-next.next c.in-Some.place c.in-Some.is (last_below _ c.in-Some.place c.earlier_at-next.result (c.earlier_at-next.ensures c.args.point.now within.1))

pub loop-next-preserved : goal.loop-next-preserved
loop-next-preserved c =
    let l = c.args.levels.now in
    taken_on l.index.now l.marks.now l.nearest.items c.args.point.now c.args.distance c.in-Some.place c.loop-next.least c.link_at.result c.lesser-least.result c.loop-next.next c.earlier_at-next.result c.in-Some.is c.earlier_at-next.ensures c.link_at.ensures c.lesser-least.ensures.either c.lesser-least.ensures.first c.lesser-least.ensures.second c.loop-next.invariant

pub returns : goal.returns
returns c = let l = c.args.levels.now in taken_end l.index.now l.marks.now l.nearest.items c.args.point.now c.args.distance c.loop-next.least c.loop-next.next c.in_default.is c.loop-next.invariant
