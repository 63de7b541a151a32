use Rattle.std.proofs.Common.{refl, sym}
use Rattle.tau_forms.proofs.RowLemmas.{names_not_two, names_two}
use Rattle.tau_forms.proofs.rows.two_names_row.Goals as goal

pub returns-then-items-ne2 : goal.returns-then-items-ne2
returns-then-items-ne2 c = sym (names_not_two c.args.tables.now c.args.items.now c.if-items-ne2.true)

pub returns : goal.returns
returns c = names_two c.args.tables.now c.args.items.now _ _ c.if-items-ne2.false refl refl
