use Rattle.tau_past.proofs.Breaches.{checkpoint_told}
use Rattle.tau_past.proofs.index.Index.checkpoint_at.Goals as goal

pub returns : goal.returns
returns c =
    checkpoint_told c.args.self.now c.args.place c.is_checkpoint_at.result c.made_at.result c.checked_point.result c.is_checkpoint_at.ensures c.made_at.ensures c.checked_point.ensures
