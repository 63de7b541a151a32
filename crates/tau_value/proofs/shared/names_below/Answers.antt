use Rattle.std.proofs.Common.{arith}
use Rattle.std.proofs.lemmas.Bool.Decides.{nat_tests}
use Rattle.tau_value.specs.Sizes.{names_below-from_end, names_end-le}
use Rattle.tau_value.specs.Value.{val_of}
use Rattle.tau_value.proofs.shared.names_below.Goals as goal

pub returns : goal.returns
returns c = (
  λ h. names_below-from_end _ _ (grind (arith, nat_tests)),
  λ h. let le = names_end-le c.args.bound (val_of c.args.value.now) h in grind (arith, nat_tests),
)
