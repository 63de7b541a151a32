use Rattle.tau_output.proofs.CheckLemmas.{is_checked}
use Rattle.tau_output.proofs.checking.checked.Goals as goal

pub returns : goal.returns
returns c =
    rw (c.end_of.ensures, c.in_ok-line_of.ensures)
    (is_checked c.args.program.now c.args.trace.now.run c.in_ok-legality.legality c.len-length.ensures.well_formed c.in_ok-legality.ensures)
