use Rattle.std.proofs.Common.{◌<◌, length, map, take, arith}
use Rattle.std.proofs.lemmas.List.{map_more}
use Rattle.tau_sexpr.specs.Form.{tree_of}
use Rattle.tau_tree.specs.Expr.{codes_of}
use Rattle.tau_tree.proofs.ExprLemmas.{code_of-Get, code_of-Stabilize, code_of-Checkpoint, code_of-Rollback, code_of-Dependent}
use Rattle.tau_value.proofs.ReadingLemmas.{size-at}
use Rattle.tau_forms.proofs.BuiltLemmas.{codes_in-push, alone_get, alone_stabilize, alone_checkpoint, alone_rollback, alone_dependent}
use Rattle.tau_forms.proofs.build.+build.Goals as goal

pub build_all-build_expression-requires : goal.build_all-build_expression-requires
build_all-build_expression-requires t c =
    let fs = c.args.items.now in
    let k = c.loop-item.item-index in
    let lt : k < length fs = omega arith in
    (omega (arith, size-at fs k c.item-item.result lt c.item-item.is), tt)

pub build_all-loop-item-preserved : goal.build_all-loop-item-preserved
build_all-loop-item-preserved t c =
    let fs = c.args.items.now in
    let k = c.loop-item.item-index in
    let lt : k < length fs = omega arith in
    let more = map_more tree_of fs k c.item-item.result lt in
    let before = map tree_of (take k fs) in
    rw (more, ← c.item-item.is, c.in_ok-add.ensures.ok) (codes_in-push c.args.tables.now before (tree_of c.item-item.result) (codes_of c.loop-item.exprs) _ c.loop-item.invariant c.in_ok-expr.ensures)

pub build_expression-returns-in-Some : goal.build_expression-returns-in-Some
build_expression-returns-in-Some t c =
    rw (c.in-List.is, c.in-Some.ensures, ← c.keyword_of.ensures) c.build_list.ensures

pub build_list-returns-in-Get : goal.build_list-returns-in-Get
build_list-returns-in-Get t c =
    rw (c.in-Get.is, c.if_alone.ensures, code_of-Get) (alone_get c.args.tables.now c.args.items.now)

pub build_list-returns-in-Stabilize : goal.build_list-returns-in-Stabilize
build_list-returns-in-Stabilize t c =
    rw (c.in-Stabilize.is, c.if_alone-in-Stabilize.ensures, code_of-Stabilize) (alone_stabilize c.args.tables.now c.args.items.now)

pub build_list-returns-in-Checkpoint : goal.build_list-returns-in-Checkpoint
build_list-returns-in-Checkpoint t c =
    rw (c.in-Checkpoint.is, c.if_alone-in-Checkpoint.ensures, code_of-Checkpoint) (alone_checkpoint c.args.tables.now c.args.items.now)

pub build_list-returns-in-Rollback : goal.build_list-returns-in-Rollback
build_list-returns-in-Rollback t c =
    rw (c.in-Rollback.is, c.if_alone-in-Rollback.ensures, code_of-Rollback) (alone_rollback c.args.tables.now c.args.items.now)

pub build_list-returns-in-Dependent : goal.build_list-returns-in-Dependent
build_list-returns-in-Dependent t c =
    rw (c.in-Dependent.is, c.if_alone-in-Dependent.ensures, code_of-Dependent) (alone_dependent c.args.tables.now c.args.items.now)
