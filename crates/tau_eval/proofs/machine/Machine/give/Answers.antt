use Rattle.std.proofs.Common.{ap, ◌∙◌}
use Rattle.tau_value.specs.Value.{val_of}
use Rattle.tau_eval.specs.Outcome.{effect_of}
use Rattle.tau_eval.specs.Settings.{setting_of}
use Rattle.tau_eval.proofs.FrameLemmas.{popped}
use Rattle.tau_eval.proofs.machine.Machine.give.Goals as goal

pub returns-in-Some-clause-goes : goal.returns-in-Some-clause-goes
returns-in-Some-clause-goes c = λ rs. ap effect_of (popped c.args.self.now.frames.items c.pop.new.self.items c.in-Some.frame (setting_of c.args.setting) c.args.self.now.scope (val_of c.args.value) c.args.self.now.count rs c.in-Some.ensures.items) ∙ c.meet.ensures.goes rs
