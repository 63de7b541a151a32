use Rattle.std.proofs.Common.{refl}
use Rattle.tau_scene.proofs.causes.grounds.Grounds.seen.Goals as goal

pub returns : goal.returns
returns c = record {
  state_is = refl;
  look_is = λ cut points g is source asked. c.look_of.ensures c.args.trace.now.run cut points g is (c.in_ok-rests.ensures c.args.sourced.state.point source asked);
}
