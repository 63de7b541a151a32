use Rattle.tau_trace.specs.declared.step.Step.TheVariants.{Checkpoint}
use Rattle.tau_legal.proofs.VolatileSource.{no_checkpoint, saved_at, saved_safe}
use Rattle.tau_legal.proofs.volatile_source.unearned_checkpoint_may_be_safe.Goals as goal

pub returns : goal.returns
returns c = record { illegal = no_checkpoint (Checkpoint 1) saved_at; safe = saved_safe }
