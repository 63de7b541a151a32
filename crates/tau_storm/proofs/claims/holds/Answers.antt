use Rattle.std.proofs.Common.{arith}
use Rattle.tau_value.specs.Value.{val_of}
use Rattle.tau_storm.proofs.ClaimLemmas.{out_of_bounds, not_there, claimed, told_true, told_false}
use Rattle.tau_storm.proofs.claims.holds.Goals as goal

pub returns-then-not-in_bounds : goal.returns-then-not-in_bounds
returns-then-not-in_bounds c = out_of_bounds c.args.program.now c.args.trace.now.run c.args.behaviour (val_of c.in_ok-message.message) c.in_ok-message.ensures (told_false c.in_bounds.result c.in_bounds.ensures c.if-not-in_bounds.true)

pub returns-then-behaviour-len : goal.returns-then-behaviour-len
returns-then-behaviour-len c = not_there c.args.program.now c.args.trace.now.run c.args.behaviour (val_of c.in_ok-message.message) c.in_ok-message.ensures (omega (arith, c.len.ensures, c.if-behaviour-len.true))

pub returns : goal.returns
returns c = claimed c.args.program.now c.args.trace.now.run c.args.behaviour (val_of c.in_ok-message.message) c.in_ok-message.ensures (told_true c.in_bounds.result c.in_bounds.ensures c.if-not-in_bounds.false) c.is_done.result c.is_done.ensures
