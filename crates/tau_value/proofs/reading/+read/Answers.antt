use Rattle.std.proofs.Common.{◌<◌, ◌∙◌, ap, length, map, take, arith, refl}
use Rattle.std.proofs.lemmas.List.{map_more}
use Rattle.std.proofs.lemmas.Result.{err_from_is_err_and}
use Rattle.tau_sexpr.specs.Form.{tree_of}
use Rattle.tau_sexpr.specs.Tree.{inside}
use Rattle.tau_value.specs.Inner.Reading.{scan, scan_all}
use Rattle.tau_value.proofs.ReadingLemmas.{size-at, size-push, counted_all-push, scan_all-push, scan-no_row, tells-later, tells-item}
use Rattle.tau_value.proofs.reading.+read.Goals as goal

pub read-returns-in_err-values-in-List-head_of : goal.read-returns-in_err-values-in-List-head_of
read-returns-in_err-values-in-List-head_of t c =
    let p = err_from_is_err_and c.from_residual-in_err-values-in-List-head_of.result c.from_residual-in_err-values-in-List-head_of.ensures.1 in
    let rest = scan_all c.args.names.now c.args.bound (inside (map tree_of c.in-List-head_of.rest.now)) in
    rw (p.1, p.2, c.in-List.is, c.in-List-head_of.ensures) (tells-later rest c.args.node.now 2 c.saturating_add-in-List-head_of.result _ c.saturating_add-in-List-head_of.ensures c.in_err-values-in-List-head_of.ensures)

pub read-returns-in-Word : goal.read-returns-in-Word
read-returns-in-Word t c = rw c.in-Word.is (c.read_word.ensures c.args.names.now c.args.bound)

pub read-returns-in-Other : goal.read-returns-in-Other
read-returns-in-Other t c =
    let at_fault = scan-no_row c.args.names.now c.args.bound (inside c.in-List.items) c.in-Other.ensures in
    (0, ap (λ f. scan c.args.names.now c.args.bound (tree_of f)) c.in-List.is ∙ at_fault, omega arith)

pub read_all-loop-item-init : goal.read_all-loop-item-init
read_all-loop-item-init t c = record { clean = refl; told = rw c.new-values.ensures refl; passed = omega arith }

pub read_all-read-requires : goal.read_all-read-requires
read_all-read-requires t c =
    let fs = c.args.items.now in
    let k = c.loop-item.item-index in
    let lt : k < length fs = omega arith in
    (omega (arith, size-at fs k c.item-item.result lt c.item-item.is), (c.requires.names, omega arith))

pub read_all-returns-in_err-value : goal.read_all-returns-in_err-value
read_all-returns-in_err-value t c =
    let p = err_from_is_err_and c.from_residual.result c.from_residual.ensures.1 in
    let fs = c.args.items.now in
    let k = c.loop-item.item-index in
    let lt : k < length fs = omega arith in
    rw (p.1, p.2) (tells-item c.args.names.now c.args.bound fs k c.item-item.result c.args.node.now c.loop-item.node _ c.loop-item.invariant.clean lt c.item-item.is c.loop-item.invariant.passed c.in_err-value.ensures)

pub read_all-loop-item-preserved : goal.read_all-loop-item-preserved
read_all-loop-item-preserved t c =
    let fs = c.args.items.now in
    let k = c.loop-item.item-index in
    let lt : k < length fs = omega arith in
    let more = map_more tree_of fs k c.item-item.result lt in
    let before = map tree_of (take k fs) in
    let item = tree_of c.item-item.result in
    record {
      clean = rw (more, ← c.item-item.is) (scan_all-push c.args.names.now c.args.bound before item c.loop-item.invariant.clean c.in_ok-value.ensures.0);
      told = rw (more, ← c.item-item.is, c.in_default.ensures.ok) (counted_all-push c.args.names.now c.args.bound before c.loop-item.values item _ c.loop-item.invariant.told c.in_ok-value.ensures.1);
      passed = rw (more, size-push, ← c.item-item.is) (omega (arith, c.in_ok-value.ensures.2));
    }
