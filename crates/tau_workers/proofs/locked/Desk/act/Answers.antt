use Rattle.std.proofs.lemmas.Bool.{false≢true}
use Rattle.tau_workers.proofs.locked.Desk.act.Goals as goal

pub act-requires-clause-known : goal.act-requires-clause-known
act-requires-clause-known g c = λ was. absurd (false≢true was)
