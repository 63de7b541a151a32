use Rattle.std.proofs.Common.{arith}
use Rattle.tau_trace.specs.Run.{len}
use Rattle.tau_rules.proofs.ActLemmas.{turn_ended, still_open, IsUnbounded}
use Rattle.tau_rules.proofs.turns.turn_end.Goals as goal

pub returns-then-bounds_turn_of : goal.returns-then-bounds_turn_of
returns-then-bounds_turn_of c =
    turn_ended c.args.trace.now.run c.args.who c.args.turn c.loop-place.place c.requires.takes c.loop-place.invariant.0 (c.bounds_turn_of.ensures.0 c.if-bounds_turn_of.true) c.loop-place.invariant.1

pub unreachable-requires : goal.unreachable-requires
unreachable-requires c =
    let T = c.args.trace.now.run in
    let rest : IsUnbounded T c.args.who c.args.turn (len T) = λ j after before. c.loop-place.invariant.1 j after (omega (arith, before, c.len-length.ensures.len, c.loop-place-test.false)) in
    let opened = still_open T c.args.who c.args.turn c.requires.takes rest in
    c.requires.closed c.args.who opened.0 opened.1
