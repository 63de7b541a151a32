use Rattle.std.proofs.Common.{◌≡◌, ◌-◌, Some, length, sym, ◌∙◌, subst}
use Rattle.std.specs.Prelude.{slice_get}
use Rattle.tau_trace.proofs.Lists.{same_some}
use Rattle.tau_versions.specs.Logs.Told.{Told}
use Rattle.tau_heard.proofs.Leading.{some_version, log_there}
use Rattle.tau_heard.proofs.hearing.Hearing.last_version.Goals as goal

pub last_of-requires : goal.last_of-requires
last_of-requires c = some_version c.args.self.now c.args._trace.now.run c.args._step.now c.requires.next c.args.who c.in-Some.log.now (sym c.in-Some.ensures)

pub unreachable-requires : goal.unreachable-requires
unreachable-requires c = let both = c.in-None.ensures ∙ (log_there c.args.self.now c.args._trace.now.run c.args._step.now c.requires.next c.args.who c.requires.by).1 in cc

pub returns : goal.returns
returns c = λ l e.
    let F : Told → Type 0 = λ k. slice_get k.versions (length k.versions - 1) ≡ Some c.last_of.result in
    subst F (same_some (c.in-Some.ensures ∙ e)) c.last_of.ensures
