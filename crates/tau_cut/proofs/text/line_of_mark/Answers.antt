use Rattle.std.proofs.Common.{◌≡◌, ◌∙◌, ◌++◌, ◌∷◌, [], List, ap, sym, subst, arith, All}
use Rattle.std.proofs.lemmas.Result.{IfOk-weaker}
use Rattle.std.proofs.lemmas.List.Elements.{All-nil, All-cons}
use Rattle.tau_sexpr.specs.Form.{tree_of}
use Rattle.tau_sexpr.specs.Printing.{printed}
use Rattle.tau_sexpr.specs.Tree.{Tree, depths, HasWords}
use Rattle.tau_cut.specs.Texts.{mark_form}
use Rattle.tau_cut.proofs.text.line_of_mark.Goals as goal

pub print_forms-requires-clause-depth : goal.print_forms-requires-clause-depth
print_forms-requires-clause-depth c =
    let t = tree_of c.in_ok-form_of_mark.field-0 in
    let is : c.add.new.self ≡ t ∷ [] = c.in_ok-add.ensures.ok ∙ ap (λ (l : List Tree). l ++ t ∷ []) c.new-forms.ensures in
    omega (arith, ap depths is, c.in_ok-form_of_mark.ensures.depth)

pub print_forms-requires-clause-words : goal.print_forms-requires-clause-words
print_forms-requires-clause-words c =
    let t = tree_of c.in_ok-form_of_mark.field-0 in
    let is : c.add.new.self ≡ t ∷ [] = c.in_ok-add.ensures.ok ∙ ap (λ (l : List Tree). l ++ t ∷ []) c.new-forms.ensures in
    subst (λ (l : List Tree). All HasWords l) (sym is) (All-cons HasWords t [] c.in_ok-form_of_mark.ensures.words (All-nil HasWords))

pub returns : goal.returns
returns c =
    let t = tree_of c.in_ok-form_of_mark.field-0 in
    let is : c.add.new.self ≡ mark_form c.args.opening.now c.args.mark.now ∷ [] = c.in_ok-add.ensures.ok ∙ ap (λ (l : List Tree). l ++ t ∷ []) c.new-forms.ensures ∙ ap (λ u. u ∷ []) c.in_ok-form_of_mark.ensures.form in
    IfOk-weaker c.print_forms.result _ _ (λ v e. e ∙ ap printed is) c.print_forms.ensures.text
