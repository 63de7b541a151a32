use Rattle.tau_legal.proofs.RolledBackSource.{fall_fits, drop_fits}
use Rattle.tau_legal.proofs.rolled_back_source.rolled_back_source_is_dropped.Goals as goal

pub returns : goal.returns
returns c = record { fall = fall_fits; drop = drop_fits }
