use Rattle.std.proofs.Common.{◌^◌, [], ◌∷◌}
use Rattle.tau_sexpr.specs.Tree.{none, more}
use Rattle.tau_forms.specs.Inner.Passing.{roles_of}
use Rattle.tau_forms.specs.Roles.{first, count}
use Rattle.tau_forms.proofs.RowLemmas.{not_two, when_two}
use Rattle.tau_forms.proofs.rows.repeat_row.Goals as goal

pub returns-then-tables-ne2 : goal.returns-then-tables-ne2
returns-then-tables-ne2 c = λ t u. not_two c.args.tables.now.version (first ∷ count 0 (2 ^ 32) ∷ []) c.if-tables-ne2.true

pub returns : goal.returns
returns c = λ t u. when_two c.args.tables.now.version (roles_of c.number_row.result (more t (more u none))) (first ∷ count 0 (2 ^ 32) ∷ []) c.if-tables-ne2.false (c.number_row.ensures t u)
