use Rattle.tau_script.proofs.Passing.{object}
use Rattle.tau_script.proofs.laws.due_steps_have_objects.Goals as goal

pub returns : goal.returns
returns c = λ S T k s d. object S T k d.cursor s d.due
