use Rattle.std.proofs.Common.{List, Some, None, subst}
use Rattle.tau_scene.specs.declared.looks.looks.Seen.{Seen}
use Rattle.tau_picture.specs.Inner.Showing.{IsStateOf}
use Rattle.tau_picture.proofs.Showing.{no_lane, no_middle, no_state, one_state}
use Rattle.tau_picture.proofs.chain.shown.Goals as goal

pub returns-in_default-clause-placed : goal.returns-in_default-clause-placed
returns-in_default-clause-placed c = no_lane c.args.layout.now c.args.looks.now c.args.point c.in_default.ensures

pub returns-in_default-lane_middle-clause-placed : goal.returns-in_default-lane_middle-clause-placed
returns-in_default-lane_middle-clause-placed c = no_middle c.args.layout.now c.args.looks.now c.args.point c.in_default-lane_middle.ensures.x

pub returns-in_default-state_in-clause-placed : goal.returns-in_default-state_in-clause-placed
returns-in_default-state_in-clause-placed c =
    no_state c.args.layout.now c.args.looks.now c.args.point c.in-Some.rank c.requires c.in-Some.ensures
    (subst (λ (l : List Seen). IsStateOf l c.args.point None) c.seen_at.ensures c.in_default-state_in.ensures)

pub returns-clause-placed : goal.returns-clause-placed
returns-clause-placed c =
    one_state c.args.layout.now c.args.looks.now c.args.point c.in-Some.rank c.in-Some-lane_middle.x c.in-Some-state_in.state c.requires c.in-Some.ensures c.in-Some-lane_middle.ensures.x
    (subst (λ (l : List Seen). IsStateOf l c.args.point (Some c.in-Some-state_in.state)) c.seen_at.ensures c.in-Some-state_in.ensures)
