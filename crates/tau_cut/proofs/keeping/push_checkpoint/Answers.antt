use Rattle.std.proofs.Common.{refl, sym, ◌∙◌}
use Rattle.tau_cut.specs.Inner.Checkpoints.{no_checkpoint, one_checkpoint}
use Rattle.tau_cut.proofs.keeping.push_checkpoint.Goals as goal

pub returns-in_ok-push-2 : goal.returns-in_ok-push-2
returns-in_ok-push-2 c = one_checkpoint {x = c.in-Some.point} ((c.checkpoint_at.ensures c.in-Some.point).1 c.in-Some.is) c.in_ok-push.ensures.items c.in_ok-push-2.ensures.items

pub returns-in_default : goal.returns-in_default
returns-in_default c = no_checkpoint (λ p h. let e = sym c.in_default.is ∙ (c.checkpoint_at.ensures p).0 h in cc) refl refl
