use Rattle.std.proofs.Common.{ap}
use Rattle.tau_value.specs.Value.{val_of}
use Rattle.tau_value.proofs.ValueLemmas.{val_of_inj}
use Rattle.tau_check.proofs.same.same_value.Goals as goal

pub returns : goal.returns
returns c = (λ h. val_of_inj c.args.one.now c.args.two.now (c.same.ensures.0 h), λ e. c.same.ensures.1 (ap val_of e))
