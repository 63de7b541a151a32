use Rattle.tau_explain.proofs.RowLemmas.{row_within, row_read, below_less, walks_on, walks_end}
use Rattle.std.proofs.Common.{None}
use Rattle.tau_explain.proofs.links.rows.push_row.Goals as goal

pub bounds-earlier-place : goal.bounds-earlier-place
bounds-earlier-place c = row_within c.args.earlier.now c.requires.0 c.args.into.now.items c.loop-next.into.items c.loop-next.next c.in-Some.place c.in-Some.is (c.loop-next.invariant c.requires.0 c.requires.1)

pub loop-next-smaller : goal.loop-next-smaller
loop-next-smaller c =
    let read = row_read c.args.earlier.now c.requires.0 c.args.into.now.items c.loop-next.into.items c.loop-next.next c.in-Some.place None c.in-Some.is (c.loop-next.invariant c.requires.0 c.requires.1) in
    below_less _ c.loop-next.next c.in-Some.place c.in-Some.is read.1

pub loop-next-preserved : goal.loop-next-preserved
loop-next-preserved c = λ places row.
    let walks = c.loop-next.invariant places row in
    let read = row_read c.args.earlier.now places c.args.into.now.items c.loop-next.into.items c.loop-next.next c.in-Some.place None c.in-Some.is walks in
    walks_on c.args.earlier.now places c.args.into.now.items c.loop-next.into.items c.push.new.self.items c.loop-next.next _ c.in-Some.place c.in-Some.is c.in_ok-push.ensures.items read.0 walks

pub returns : goal.returns
returns c = λ places row. walks_end c.args.earlier.now places c.args.into.now.items c.loop-next.into.items c.loop-next.next c.in_default.is (c.loop-next.invariant places row)
