use Rattle.std.proofs.Common.{arith}
use Rattle.tau_forms.proofs.BuiltLemmas.{long}
use Rattle.tau_forms.proofs.build.parts_of.Goals as goal

pub returns-in-len5-up : goal.returns-in-len5-up
returns-in-len5-up c = long c.args.items.now (omega (arith, c.in-len5-up.len_at_least))
