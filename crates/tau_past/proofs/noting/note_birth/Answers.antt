use Rattle.std.proofs.Common.{sym, ◌∙◌}
use Rattle.tau_past.proofs.NextTables.{births_next, births_same}
use Rattle.tau_past.proofs.noting.note_birth.Goals as goal

pub returns-in_ok-push : goal.returns-in_ok-push
returns-in_ok-push c =
    births_next c.args.trace.now.run c.args.place _ _ (sym c.is_new_at.ensures ∙ c.if-is_new_at.true) c.in_ok-push.ensures.items c.requires

pub returns-else-is_new_at : goal.returns-else-is_new_at
returns-else-is_new_at c =
    births_same c.args.trace.now.run c.args.place _ (sym c.is_new_at.ensures ∙ c.if-is_new_at.false) c.requires
