use Rattle.std.proofs.Common.{◌≡◌, arith}
use Rattle.tau_trace.specs.Run.{Run, len}
use Rattle.tau_queue.specs.OpenTurns.{IsOpenFrom}
use Rattle.tau_queue.proofs.ScanLemmas.{none_below, all_open}
use Rattle.tau_queue.proofs.indexing.put_places.Goals as goal

pub loop-place-init : goal.loop-place-init
loop-place-init c = none_below (IsOpenFrom c.args.trace.now.run) c.args.turns.now.items c.requires

pub returns : goal.returns
returns c =
    let T : Run = c.args.trace.now.run in
    let whole : c.loop-place.place ≡ len T = omega (arith, c.loop-place.auto.place-end, c.loop-place-test.false, c.len-count.ensures.len) in
    all_open T c.loop-place.place c.loop-place.turns.items whole c.loop-place.invariant
