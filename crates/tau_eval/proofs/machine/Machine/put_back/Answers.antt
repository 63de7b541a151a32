use Rattle.std.proofs.Common.{sym}
use Rattle.tau_value.specs.Value.{val_of}
use Rattle.tau_eval.proofs.FrameLemmas.{popped}
use Rattle.tau_eval.proofs.machine.Machine.put_back.Goals as goal

pub returns : goal.returns
returns c = record {
  goes = λ s rs. sym (popped c.push_reserved.new.self.items c.args.self.now.frames.items c.args.frame s c.args.self.now.scope (val_of c.args.value) c.args.self.now.count rs c.push_reserved.ensures.items);
}
