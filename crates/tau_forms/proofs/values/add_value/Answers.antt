use Rattle.std.proofs.lemmas.Result.{on_ok_weaker}
use Rattle.tau_value.specs.Value.{val_of}
use Rattle.tau_forms.proofs.ValueTexts.{is_written}
use Rattle.tau_forms.proofs.values.add_value.Goals as goal

pub returns-clause-written : goal.returns-clause-written
returns-clause-written c are = on_ok_weaker c.put_value.result (is_written c.args.names.now (val_of c.args.value.now) are) c.put_value.ensures.numbers
