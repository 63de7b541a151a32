use Rattle.std.proofs.Common.{false, sym, ap, ◌∙◌, map}
use Rattle.tau_sexpr.specs.Form.{tree_of}
use Rattle.tau_sexpr.specs.Tree.{inside}
use Rattle.tau_forms.specs.Roles.{has_items}
use Rattle.tau_forms.proofs.RowLemmas.{count_of-inside, row_of_expression}
use Rattle.tau_forms.proofs.checking.parts_of.Goals as goal

pub returns-then-not-has_items : goal.returns-then-not-has_items
returns-then-not-has_items c =
    let rest = c.in_ok-list.list.rest.now in
    λ tb scope. row_of_expression tb scope (inside (map tree_of c.args.items.now)) (inside (map tree_of rest)) c.in_ok-list.list.head.now c.keyword_of-keyword.result false c.in_ok-list.ensures c.keyword_of-keyword.ensures (ap (has_items c.keyword_of-keyword.result) (count_of-inside rest) ∙ sym c.has_items.ensures ∙ c.if-not-has_items.true)

pub returns : goal.returns
returns c =
    let rest = c.in_ok-list.list.rest.now in
    (c.in_ok-list.list.head.now, c.in_ok-list.ensures, c.keyword_of-keyword.ensures, ap (has_items c.keyword_of-keyword.result) (count_of-inside rest) ∙ sym c.has_items.ensures ∙ c.if-not-has_items.false)
