use Rattle.std.proofs.Common.{[], refl}
use Rattle.tau_storm.specs.Claims.{no_end}
use Rattle.tau_storm.proofs.trials.Trial.new.Goals as goal

pub returns : goal.returns
returns c = record { number = refl; all = c.new.ensures; broken = []; broken_are = no_end; broken_table = c.new-2.ensures }
