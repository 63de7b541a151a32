use Rattle.std.proofs.Common.{arith}
use Rattle.tau_sexpr.specs.Form.{tree_of}
use Rattle.tau_trace.specs.Run.{len}
use Rattle.tau_trace.specs.Numbering.{born, sent}
use Rattle.tau_steps.proofs.StepLemmas.{step_known, step_in_version}
use Rattle.tau_steps.proofs.reading.add_step.Goals as goal

pub push-requires : goal.push-requires
push-requires c =
    let T = c.args.trace.now.run in
    record {
      known = step_known T.opening (born T (len T)) (sent T (len T)) (omega arith) (tree_of c.args.form.now) c.in-Ok.next c.in-Ok.ensures;
      version = step_in_version T.opening (born T (len T)) (sent T (len T)) (tree_of c.args.form.now) c.in-Ok.next c.in-Ok.ensures;
      few_steps = omega arith;
    }
