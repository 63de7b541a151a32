use Rattle.std.proofs.Common.{subst, sym}
use Rattle.std.specs.Prelude.{◌↔◌, IsTrue}
use Rattle.tau_rules.specs.System.{Core}
use Rattle.tau_rules.specs.Answers.{IsOpenJob}
use Rattle.tau_rules.specs.KnownJobs.{WasOpenJob}
use Rattle.tau_book.proofs.book.Book.is_open_still.Goals as goal

pub is_open_still-requires : goal.is_open_still-requires
is_open_still-requires g c = record { known = subst (λ (k : Core). WasOpenJob k.program k.run c.args.pending.now) (sym c.system.ensures.system) c.requires }

pub returns : goal.returns
returns g c = subst (λ (k : Core). IsTrue c.is_open_still.result ↔ IsOpenJob k.program k.run c.args.pending.now) c.system.ensures.system c.is_open_still.ensures
