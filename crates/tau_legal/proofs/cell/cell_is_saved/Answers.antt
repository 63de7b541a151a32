use Rattle.tau_legal.proofs.CellRun.{legal, complete, free, saved}
use Rattle.tau_legal.proofs.cell.cell_is_saved.Goals as goal

pub returns : goal.returns
returns c = record { legal = legal; complete = complete; free = free; saved = saved }
