use Rattle.std.proofs.Common.{◌≡◌, true, Some, map, sym, ap, ◌∙◌}
use Rattle.tau_sexpr.specs.Form.{tree_of}
use Rattle.tau_sexpr.specs.Tree.{list, inside, word}
use Rattle.tau_forms.specs.Inner.Passing.{has_top_items, roles_of}
use Rattle.tau_forms.specs.Roles.{count_of, top_first, top_items, with_first}
use Rattle.tau_forms.specs.Inner.Wanted.{role_of}
use Rattle.tau_forms.proofs.RowLemmas.{count_of-inside}
use Rattle.tau_forms.proofs.TopLemmas.{row_of_top, row_of_top_none, first_is_mark, first_is_version, first_is_word}
use Rattle.tau_forms.proofs.tops.top_row.Goals as goal
use Rattle.tau_forms.proofs.tops.top_row.Goals.{in-Nodes, in-Version, in_default}

pub returns-then-not-has_top_items : goal.returns-then-not-has_top_items
returns-then-not-has_top_items c =
    let rest = c.in_ok-list.list.rest.now in
    λ before h z. row_of_top_none c.args.tables.now before (inside (map tree_of c.args.items.now)) (inside (map tree_of rest)) c.in_ok-list.list.head.now c.sort_of-sort.result _ c.in_ok-list.ensures c.sort_of-sort.ensures (count_of-inside rest) (sym c.has_top_items.ensures ∙ c.if-not-has_top_items.true)

pub returns : goal.returns
returns c =
    let tb = c.args.tables.now in
    let rest = c.in_ok-list.list.rest.now in
    let ts = inside (map tree_of c.args.items.now) in
    let us = inside (map tree_of rest) in
    let head = c.in_ok-list.list.head.now in
    let sort = c.sort_of-sort.result in
    let w = c.row_of_sort.result in
    let items : has_top_items sort (count_of us) ≡ true = ap (has_top_items sort) (count_of-inside rest) ∙ sym c.has_top_items.ensures ∙ c.if-not-has_top_items.false in
    λ before h z.
    let first_is : role_of c.match-sort.first ≡ top_first before (list ts) =
    elim c.match-sort.branch [
      | in-Nodes v ↦ ap role_of v.first-is ∙ v.first_of_nodes-first.ensures before h ∙ first_is_mark before ts us head sort c.in_ok-list.ensures c.sort_of-sort.ensures v.in-Nodes.is
      | in-Version v ↦ ap role_of v.first-is ∙ v.first_of_version-first.ensures before h ∙ first_is_version before ts us head sort c.in_ok-list.ensures c.sort_of-sort.ensures v.in-Version.is
      | in_default v ↦ ap role_of v.first-is ∙ first_is_word before ts us head sort c.in_ok-list.ensures c.sort_of-sort.ensures v.in_default.not-Nodes v.in_default.not-Version
    ] in
    ap (λ q. Some (roles_of w q)) c.in_ok-list.ensures ∙ c.row_of_sort.ensures before (word head) us h z items ∙ ap (λ r. with_first r (top_items tb before sort us)) first_is ∙ sym (row_of_top tb before ts us head sort c.in_ok-list.ensures c.sort_of-sort.ensures)
