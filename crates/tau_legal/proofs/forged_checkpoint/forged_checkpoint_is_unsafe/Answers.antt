use Rattle.tau_legal.proofs.ForgedCheckpoint.{forged_broken, forged_unsafe}
use Rattle.tau_legal.proofs.forged_checkpoint.forged_checkpoint_is_unsafe.Goals as goal

pub returns : goal.returns
returns c = record { broken = forged_broken; is_unsafe = forged_unsafe }
