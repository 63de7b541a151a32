use Rattle.tau_output.proofs.DrillLemmas.{drills_as}
use Rattle.tau_output.proofs.drilling.drill.Goals as goal

pub returns : goal.returns
returns c same =
    let made = c.in_ok-made in
    rw c.end_of.ensures
    (drills_as c.args.number c.args.program.now made.made.trace.run made.made.is_complete c.in_ok-lines_of.field-0.items same made.ensures.serial made.ensures.ends c.in_ok-lines_of.ensures)
