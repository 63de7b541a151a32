use Rattle.std.proofs.Common.{◌^◌, refl, sym, ap, ◌∙◌, map}
use Rattle.tau_sexpr.specs.Form.{tree_of}
use Rattle.tau_sexpr.specs.Tree.{inside}
use Rattle.tau_forms.specs.declared.keywords.FailureWord.TheVariants as failures
use Rattle.tau_forms.specs.Inner.Passing.{roles_of}
use Rattle.tau_forms.proofs.RowLemmas.{count_of-inside, row_of_failure, roles_of_failure, roles_of_repeat}
use Rattle.tau_forms.proofs.rows.failure_row.Goals as goal

pub returns-then-list-ne1 : goal.returns-then-list-ne1
returns-then-list-ne1 c =
    let rest = c.in_ok-list.list.rest.now in
    sym (row_of_failure c.args.tables.now (inside (map tree_of c.args.items.now)) (inside (map tree_of rest)) c.in_ok-list.list.head.now c.in_ok-list.ensures (λ e. c.if-list-ne1.true (sym (count_of-inside rest) ∙ e)))

pub returns-in-Fail : goal.returns-in-Fail
returns-in-Fail c =
    let rest = c.in_ok-list.list.rest.now in
    roles_of_failure c.args.tables.now (inside (map tree_of c.args.items.now)) (inside (map tree_of rest)) c.in_ok-list.list.head.now failures.Fail (roles_of c.number_row.result (inside (map tree_of c.args.items.now))) c.args.tables.now.nodes c.in_ok-list.ensures (count_of-inside rest ∙ c.if-list-ne1.false) c.in-Fail.ensures (λ t. refl) (λ t u e. ap (roles_of c.number_row.result) e ∙ c.number_row.ensures t u)

pub returns-in-Lose : goal.returns-in-Lose
returns-in-Lose c =
    let rest = c.in_ok-list.list.rest.now in
    roles_of_failure c.args.tables.now (inside (map tree_of c.args.items.now)) (inside (map tree_of rest)) c.in_ok-list.list.head.now failures.Lose (roles_of c.number_row-in-Lose.result (inside (map tree_of c.args.items.now))) (2 ^ 32) c.in_ok-list.ensures (count_of-inside rest ∙ c.if-list-ne1.false) c.in-Lose.ensures (λ t. refl) (λ t u e. ap (roles_of c.number_row-in-Lose.result) e ∙ c.number_row-in-Lose.ensures t u)

pub returns-in-Repeat : goal.returns-in-Repeat
returns-in-Repeat c =
    let rest = c.in_ok-list.list.rest.now in
    roles_of_repeat c.args.tables.now (inside (map tree_of c.args.items.now)) (inside (map tree_of rest)) c.in_ok-list.list.head.now failures.Repeat c.repeat_row.result c.in_ok-list.ensures (count_of-inside rest ∙ c.if-list-ne1.false) c.in-Repeat.ensures refl c.repeat_row.ensures
