use Rattle.tau_value.specs.Value.{val_of}
use Rattle.tau_eval.specs.Meaning.{Scope}
use Rattle.tau_eval.specs.Frames.{meaning_of}
use Rattle.tau_eval.proofs.MachineLemmas.{entered}
use Rattle.tau_eval.proofs.machine.Machine.enter.Goals as goal

pub returns-in-Ok-clause-goes : goal.returns-in-Ok-clause-goes
returns-in-Ok-clause-goes c = λ s rs. entered c.args.self.now.frames.items c.push_reserved.new.self.items s (λ (env : Scope). meaning_of c.args.body.now s env c.args.self.now.count rs) c.args.self.now.scope c.bind.new.self (c.args.name.now, val_of c.args.value) c.len-height.result c.push_reserved.ensures.items c.len-height.ensures c.in-Ok.ensures.ok
