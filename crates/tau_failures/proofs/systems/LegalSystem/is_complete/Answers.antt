use Rattle.std.proofs.Common.{◌∙◌, sym}
use Rattle.tau_rules.specs.System.{Core}
use Rattle.tau_failures.proofs.Ends.{due_incomplete, complete_where}
use Rattle.tau_failures.proofs.systems.LegalSystem.is_complete.Goals as goal

pub returns-then-is_some : goal.returns-then-is_some
returns-then-is_some g c =
    let now : Core = c.args.self.now.system in (
      λ h. absurd (cc),
      λ whole. absurd (due_incomplete now.program now.run c.due.result c.due.ensures (sym c.is_some.ensures ∙ c.if-is_some.true) whole),
    )

pub returns : goal.returns
returns g c =
    let now : Core = c.args.self.now.system in
    complete_where now.program now.run c.due.result c.args.nothing_left c.due.ensures (sym c.is_some.ensures ∙ c.if-is_some.false) c.requires
