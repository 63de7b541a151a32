use Rattle.tau_trace.specs.declared.step.Step.TheVariants.{Hold}
use Rattle.tau_legal.proofs.VolatileSource.{hold_fits, no_checkpoint, depends_on_source, held_at}
use Rattle.tau_legal.proofs.volatile_source.volatile_source_is_held.Goals as goal

pub returns : goal.returns
returns c = record { hold = hold_fits; no_checkpoint = no_checkpoint (Hold 1) held_at; cause = depends_on_source (Hold 1) held_at }
