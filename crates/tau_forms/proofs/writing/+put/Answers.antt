use Rattle.std.proofs.Common.{◌≡◌, ◌<◌, ◌++◌, ◌∙◌, length, map, take, arith, ap, subst, append_assoc}
use Rattle.std.proofs.lemmas.List.{map_more, map-append, take_all}
use Rattle.std.proofs.lemmas.Result.{on_ok_weaker}
use Rattle.tau_sexpr.specs.Printing.{print_rest, AllHaveBytes}
use Rattle.tau_sexpr.specs.Tree as tree
use Rattle.tau_tree.specs.Code.{inside}
use Rattle.tau_tree.specs.Expr.{code_of, codes_of}
use Rattle.tau_tree.specs.Parts.{Throughout, AllThroughout}
use Rattle.tau_tree.specs.Inner.Size.{size_of_all, size-at}
use Rattle.tau_tree.proofs.EachLemmas.{each_throughout, each-push}
use Rattle.tau_forms.specs.Inner.Fitting.{HasFittingInteger}
use Rattle.tau_forms.specs.Printed.{code_form}
use Rattle.tau_forms.proofs.LineTexts.{rest-more, bytes-more}
use Rattle.tau_forms.proofs.PrintedLemmas.{list_text, list_bytes}
use Rattle.tau_forms.proofs.ValueTexts.{on_ok}
use Rattle.tau_forms.proofs.writing.+put.Goals as goal

pub put_all-add_expression-requires : goal.put_all-add_expression-requires
put_all-add_expression-requires t c =
    let es = c.items-item-items.result.now in
    let k = c.loop-item.item-index in
    let lt : k < length es = omega arith in
    let smaller = size-at es k c.item-item.result lt c.item-item.is in
    let all = ap (λ cs. size_of_all (inside cs)) c.items-item-items.ensures in
    (omega (arith, smaller, all), tt)

pub put_all-loop-item-preserved : goal.put_all-loop-item-preserved
put_all-loop-item-preserved t c =
    let es = c.items-item-items.result.now in
    let k = c.loop-item.item-index in
    let lt : k < length es = omega arith in
    let form = code_form c.args.tables.now.behaviours c.args.tables.now.starts in
    let cs = map code_of (take k es) in
    let e = code_of c.item-item.result in
    let more = map_more code_of es k c.item-item.result lt in
    record {
      text = rw (c.in_ok-add_expression.ensures.text, c.loop-item.invariant.text, more, ← c.item-item.is, map-append, rest-more) (simp append_assoc);
      bytes = rw (more, ← c.item-item.is, map-append) (bytes-more (map form cs) (form e) c.loop-item.invariant.bytes c.in_ok-add_expression.ensures.bytes);
      integers = rw (more, ← c.item-item.is) (each-push (Throughout HasFittingInteger) (AllThroughout HasFittingInteger) (each_throughout HasFittingInteger) cs e c.loop-item.invariant.integers c.in_ok-add_expression.ensures.integers);
    }

pub put_all-returns-clause-text : goal.put_all-returns-clause-text
put_all-returns-clause-text t c =
    let bs = c.args.tables.now.behaviours in
    let ss = c.args.tables.now.starts in
    let es = c.items-item-items.result.now in
    let all : map code_of (take c.loop-item.item-index es) ≡ codes_of c.args.items.now = ap (map code_of) (take_all c.loop-item.item-index es (omega arith)) ∙ c.items-item-items.ensures in
    let items = subst (λ cs. c.loop-item.out.items ≡ c.begin.new.out.items ++ print_rest (tree.inside (map (code_form bs ss) cs))) all c.loop-item.invariant.text in
    on_ok_weaker c.end.result (list_text bs ss (codes_of c.args.items.now) c.args.head.now c.args.out.now.items c.begin.new.out.items c.loop-item.out.items c.end.new.out.items c.in_ok-begin.ensures.text items) c.end.ensures

pub put_all-returns-clause-bytes : goal.put_all-returns-clause-bytes
put_all-returns-clause-bytes t c =
    let bs = c.args.tables.now.behaviours in
    let ss = c.args.tables.now.starts in
    let es = c.items-item-items.result.now in
    let all : map code_of (take c.loop-item.item-index es) ≡ codes_of c.args.items.now = ap (map code_of) (take_all c.loop-item.item-index es (omega arith)) ∙ c.items-item-items.ensures in
    let items = subst (λ cs. AllHaveBytes (tree.inside (map (code_form bs ss) cs))) all c.loop-item.invariant.bytes in
    on_ok c.end.result (c.in_ok-begin.ensures.bytes, list_bytes bs ss (codes_of c.args.items.now) items)
