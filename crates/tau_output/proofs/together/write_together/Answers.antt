use Rattle.std.proofs.lemmas.Result.{IfOk-weaker}
use Rattle.tau_output.proofs.together.write_together.Goals as goal

pub returns : goal.returns
returns g c = IfOk-weaker c.write_run.result _ _ (λ o told bytes spelled. (told c.args.settings.limit bytes spelled c.in_ok-ran.ensures.ends).0) c.write_run.ensures.run
