use Rattle.std.proofs.Common.{◌≡◌, ℤ, w64, to_z, of_z, arith, sym, ap, ◌∙◌}
use Rattle.std.proofs.lemmas.Int.{ints, to_z-of_z}
use Rattle.tau_value.specs.Val.{Val, int}
use Rattle.tau_value.specs.Value.{val_of}
use Rattle.tau_tree.specs.Expr.{code_of}
use Rattle.tau_eval.specs.Answered.{answer_of}
use Rattle.tau_eval.specs.Immediates.{Reads, FinishesWith}
use Rattle.tau_eval.specs.Operations.{of_two}
use Rattle.tau_eval.specs.Settings.{setting_of}
use Rattle.tau_eval.specs.declared.operations.Answer.{Answer}
use Rattle.tau_eval.proofs.ImmediateLemmas.{took, some_each, finishes_with}
use Rattle.tau_eval.proofs.immediates.operation_with.Goals as goal

pub returns : goal.returns
returns c =
    let left : val_of c.args.left.now ≡ int c.in_ok-one.one = took c.integer_in.result c.in_ok-one.one (λ (z : ℤ). val_of c.args.left.now ≡ int z) c.in_ok-one.was c.integer_in.ensures in
    let right : Reads (code_of c.args.right.now) (setting_of c.args.setting) c.args.scope.now (int c.in_ok-two.two) = took c.integer_at.result c.in_ok-two.two (λ (z : ℤ). Reads (code_of c.args.right.now) (setting_of c.args.setting) c.args.scope.now (int z)) c.in_ok-two.was c.integer_at.ensures in
    let one : to_z w64 (of_z w64 c.in_ok-one.one) ≡ c.in_ok-one.one = grind (arith, ints, to_z-of_z) in
    let two : to_z w64 (of_z w64 c.in_ok-two.two) ≡ c.in_ok-two.two = grind (arith, ints, to_z-of_z) in
    let passed : of_two c.args.prim (int (to_z w64 (of_z w64 c.in_ok-one.one))) (int (to_z w64 (of_z w64 c.in_ok-two.two))) ≡ of_two c.args.prim (int c.in_ok-one.one) (int c.in_ok-two.two) = ap (λ (x : ℤ). of_two c.args.prim (int x) (int (to_z w64 (of_z w64 c.in_ok-two.two)))) one ∙ ap (λ (y : ℤ). of_two c.args.prim (int c.in_ok-one.one) (int y)) two in
    some_each c.of_two_integers.result (λ (a : Answer). answer_of a ≡ of_two c.args.prim (int (to_z w64 (of_z w64 c.in_ok-one.one))) (int (to_z w64 (of_z w64 c.in_ok-two.two)))) (λ (a : Answer). FinishesWith c.args.prim (val_of c.args.left.now) (code_of c.args.right.now) (setting_of c.args.setting) c.args.scope.now (answer_of a)) (λ a is. finishes_with c.args.prim (code_of c.args.right.now) (setting_of c.args.setting) c.args.scope.now (val_of c.args.left.now) (int c.in_ok-two.two) (answer_of a) right (is ∙ passed ∙ ap (λ (u : Val). of_two c.args.prim u (int c.in_ok-two.two)) (sym left))) c.of_two_integers.ensures
