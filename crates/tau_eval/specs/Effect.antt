-- The plain data that an effect of the program stands for.
use Rattle.tau_value.specs.Value.{val_of}
use Rattle.tau_eval.specs.Eff.{Eff, get, set, send, new, stabilize, checkpoint, rollback, ask, done, trap}
use Rattle.tau_eval.specs.declared.effects.Effect.{Effect}
use Rattle.tau_eval.specs.declared.effects.Effect.TheVariants as effects

abbrev pub eff_of : Effect → Eff
eff_of effects.Get = get
eff_of (effects.Set v) = set (val_of v)
eff_of (effects.Send to v) = send to (val_of v)
eff_of (effects.New b n state) = new b n (val_of state)
eff_of effects.Stabilize = stabilize
eff_of effects.Checkpoint = checkpoint
eff_of effects.Rollback = rollback
eff_of effects.Ask = ask
eff_of effects.Done = done
eff_of (effects.Trap code) = trap code
