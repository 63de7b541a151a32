use Rattle.tau_states.specs.Opening.{opening_states}
use Rattle.tau_storm.proofs.Ending.{ends_with}
use Rattle.tau_storm.proofs.lines.lines_of.Goals as goal

pub put_saved-requires : goal.put_saved-requires
put_saved-requires c = (opening_states c.args.program.now.starts, c.in_ok-end.ensures.states)

pub put_states-requires : goal.put_states-requires
put_states-requires c = c.in_ok-end.ensures.kept.are.count

pub returns : goal.returns
returns c =
    let P = c.args.program.now in
    let T = c.args.ran.now.trace.run in
    let kept = c.in_ok-end.ensures.kept in
    let saved = c.in_ok-put_saved.ensures P c.requires.sound c.in_ok-end.ensures.states in
    let put = c.in_ok-put_states.ensures P _ kept.are in
    ends_with P T c.requires.ends.0 c.args.ran.now.is_complete c.in_ok-bytes.bytes.items c.put_open.new.out.items c.put_saved.new.out.items c.put_states.new.out.items c.from_vec.result c.requires.ends.1 kept c.in_ok-bytes.ensures.items c.in_ok-put_open.ensures saved put c.from_vec.ensures
