use Rattle.tau_value.specs.Value.{val_of}
use Rattle.tau_eval.proofs.MachineLemmas.{looped}
use Rattle.tau_eval.proofs.machine.Machine.each.Goals as goal

pub returns-in-Ok-bind_two-clause-goes : goal.returns-in-Ok-bind_two-clause-goes
returns-in-Ok-bind_two-clause-goes c = λ s rs. looped c.args.self.now.frames.items c.push_reserved.new.self.items s c.args.self.now.scope c.bind_two.new.self c.len-height.result c.args.list c.args.next c.args.round (val_of c.args.sum) (val_of c.in-Ok.item) c.args.self.now.count rs c.push_reserved.ensures.items c.len-height.ensures c.in-Ok-bind_two.ensures.ok c.in-Ok.ensures
