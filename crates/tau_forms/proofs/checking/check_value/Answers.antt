use Rattle.std.proofs.Common.{refl, arith}
use Rattle.tau_sexpr.specs.Form.{tree_of}
use Rattle.tau_value.specs.Meaning as values
use Rattle.tau_forms.proofs.PassLemmas.{value_clean_at, value_first_at, value_within}
use Rattle.tau_forms.proofs.checking.check_value.Goals as goal

pub overflow_add-result : goal.overflow_add-result
overflow_add-result c =
    let told = rw c.in-Err-Shape.field-0-is at c.in-Err-Shape.ensures.fault in
    omega (arith, value_within c.args.starts.now c.len.result (tree_of c.args.form.now) c.in-Err-Shape.within values.shape told)

pub overflow_add-result-in-Err-Unknown : goal.overflow_add-result-in-Err-Unknown
overflow_add-result-in-Err-Unknown c =
    let told = rw c.in-Err-Unknown.field-0-is at c.in-Err-Unknown.ensures.fault in
    omega (arith, value_within c.args.starts.now c.len.result (tree_of c.args.form.now) c.in-Err-Unknown.within values.unknown told)

pub returns-in-Ok : goal.returns-in-Ok
returns-in-Ok c = λ tb e. (value_clean_at tb c.args.starts.now c.len.result (tree_of c.args.form.now) e c.len.ensures c.in-Ok.ensures.value.faultless, omega arith)

pub returns-in-Err-Shape : goal.returns-in-Err-Shape
returns-in-Err-Shape c =
    let told = rw c.in-Err-Shape.field-0-is at c.in-Err-Shape.ensures.fault in
    λ tb e. (c.in-Err-Shape.within, refl, value_first_at tb c.args.starts.now c.len.result (tree_of c.args.form.now) c.in-Err-Shape.within values.shape e c.len.ensures told)

pub returns-in-Err-Unknown : goal.returns-in-Err-Unknown
returns-in-Err-Unknown c =
    let told = rw c.in-Err-Unknown.field-0-is at c.in-Err-Unknown.ensures.fault in
    λ tb e. (c.in-Err-Unknown.within, refl, value_first_at tb c.args.starts.now c.len.result (tree_of c.args.form.now) c.in-Err-Unknown.within values.unknown e c.len.ensures told)
