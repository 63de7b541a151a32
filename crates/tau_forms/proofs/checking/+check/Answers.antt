use Rattle.std.proofs.Common.{◌≡◌, ◌<◌, length, map, refl, sym, ap, ◌∙◌, arith, true, ◌++◌, ◌∷◌, ◌+◌, Some, option_map}
use Rattle.std.proofs.lemmas.Result.{err_from_is_err_and}
use Rattle.tau_sexpr.specs.Form.{tree_of}
use Rattle.tau_sexpr.specs.Tree.{inside, word}
use Rattle.tau_forms.specs.Inner.Passing.{roles_of, bound_by}
use Rattle.tau_forms.specs.Roles.{expression, first, parts_of, words_of}
use Rattle.tau_forms.specs.Inner.Scopes.{names_of}
use Rattle.tau_forms.specs.Inner.Wanted.{role_of}
use Rattle.tau_forms.proofs.PassLemmas.{word_passes, text_passes, no_row_tells}
use Rattle.tau_forms.proofs.RowLemmas.{not_value, row_of_expression}
use Rattle.tau_forms.proofs.LoopLemmas.{reached_more, reached_tells, reached_end, list_tells, list_clean}
use Rattle.tau_forms.proofs.checking.+check.Goals as goal

pub check-returns-in-Value : goal.check-returns-in-Value
check-returns-in-Value t c = rw c.in-Value.is (c.check_value.ensures c.args.tables.now refl)

pub check-returns-in-Word : goal.check-returns-in-Word
check-returns-in-Word t c =
    rw c.in-Word.is (word_passes c.args.tables.now (role_of c.args.wanted) c.in-Word.word c.fault_of_word.result c.args.node.now c.pass.new.node c.pass.result (not_value c.args.wanted c.in_default.not-Value) c.fault_of_word.ensures c.pass.ensures)

pub check-returns-in-Text : goal.check-returns-in-Text
check-returns-in-Text t c =
    rw c.in-Text.is (text_passes c.args.tables.now (role_of c.args.wanted) c.in-Text.text c.fault_of_text.result c.args.node.now c.pass-in-Text.new.node c.pass-in-Text.result (not_value c.args.wanted c.in_default.not-Value) c.fault_of_text.ensures c.pass-in-Text.ensures)

pub check_expression-returns-in_default : goal.check_expression-returns-in_default
check_expression-returns-in_default t c =
    let scope = names_of c.args.scope.now in
    no_row_tells c.args.tables.now (expression scope) (inside (map tree_of c.args.items.now)) c.args.node.now (λ e. cc) (c.in_default.ensures c.args.tables.now scope)

pub check_expression-returns : goal.check_expression-returns
check_expression-returns t c =
    let tb = c.args.tables.now in
    let scope = names_of c.args.scope.now in
    let ts = inside (map tree_of c.args.items.now) in
    let us = inside (map tree_of c.in-Some.parts.items.now) in
    let p = c.in-Some.ensures in
    let k = c.in-Some.parts.keyword in
    let bound : scope ++ words_of (inside (map tree_of c.names_bound.result.now)) ≡ scope ++ bound_by k us = ap (λ ws. scope ++ ws) c.names_bound.ensures in
    let roles : roles_of c.expression_row-row.result ts ≡ first ∷ parts_of tb scope k us = ap (roles_of c.expression_row-row.result) p.1 ∙ c.expression_row-row.ensures (word p.0) us p.3 bound in
    c.check_items.ensures (expression scope) (λ e. cc) (ap Some roles ∙ sym (row_of_expression tb scope ts us p.0 k true p.1 p.2 p.3))

pub check_items-returns-in_default : goal.check_items-returns-in_default
check_items-returns-in_default t c =
    let ts = inside (map tree_of c.args.items.now) in
    λ r other is. no_row_tells c.args.tables.now r ts c.args.node.now other (sym is ∙ ap (option_map (λ w. roles_of w ts)) c.in_default.is)

pub check_items-returns-in_err-check : goal.check_items-returns-in_err-check
check_items-returns-in_err-check t c =
    let p = err_from_is_err_and c.from_residual.result c.from_residual.ensures.1 in
    let ts = inside (map tree_of c.args.items.now) in
    let lt : c.loop-k.k < length c.args.items.now = omega arith in
    λ r other is. rw (p.1, p.2) (list_tells c.args.tables.now r ts (roles_of c.in-Some.row ts) c.args.node.now _ other (sym is ∙ ap (option_map (λ w. roles_of w ts)) c.in-Some.is) (reached_tells c.args.tables.now c.in-Some.row c.args.items.now (c.args.node.now + 1) c.loop-k.k c.loop-k.node c.index-items-k.result (role_of c.at.result) _ lt c.index-items-k.is c.at.ensures c.loop-k.invariant c.in_err-check.ensures))

pub check_items-loop-k-preserved : goal.check_items-loop-k-preserved
check_items-loop-k-preserved t c =
    let lt : c.loop-k.k < length c.args.items.now = omega arith in
    reached_more c.args.tables.now c.in-Some.row c.args.items.now (c.args.node.now + 1) c.loop-k.k c.loop-k.node c.check.new.node c.index-items-k.result (role_of c.at.result) lt c.index-items-k.is c.at.ensures c.loop-k.invariant c.in_ok-check.ensures.0 c.in_ok-check.ensures.1

pub check_items-returns : goal.check_items-returns
check_items-returns t c =
    let ts = inside (map tree_of c.args.items.now) in
    let e = reached_end c.args.tables.now c.in-Some.row c.args.items.now (c.args.node.now + 1) c.loop-k.k c.loop-k.node (omega arith) c.loop-k.invariant in
    λ r other is. (list_clean c.args.tables.now r ts (roles_of c.in-Some.row ts) other (sym is ∙ ap (option_map (λ w. roles_of w ts)) c.in-Some.is) e.0, omega (arith, e.1))
