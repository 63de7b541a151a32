use Rattle.std.proofs.Common.{◌≡◌, ℤ, w64, to_z, of_z, arith, sym, ap, ◌∙◌, subst}
use Rattle.std.proofs.lemmas.Int.{ints, to_z-of_z}
use Rattle.tau_value.specs.Val.{int}
use Rattle.tau_tree.specs.Code.{Code, Codes, apply, none, more, inside}
use Rattle.tau_tree.specs.Expr.{code_of, codes_of}
use Rattle.tau_tree.proofs.ExprLemmas.{code_of-Apply}
use Rattle.tau_eval.specs.Answered.{answer_of}
use Rattle.tau_eval.specs.Immediates.{Reads, Finishes}
use Rattle.tau_eval.specs.Operations.{of_two}
use Rattle.tau_eval.specs.Settings.{setting_of}
use Rattle.tau_eval.specs.declared.operations.Answer.{Answer}
use Rattle.tau_eval.proofs.ImmediateLemmas.{took, some_each, finishes_two}
use Rattle.tau_eval.proofs.immediates.operation_at.Goals as goal

pub returns : goal.returns
returns c =
    let applied : code_of c.args.expr.now ≡ apply c.in-Apply.prim (inside (codes_of c.in-Apply.args)) = ap code_of c.in-Apply.is ∙ code_of-Apply c.in-Apply.prim c.in-Apply.args in
    let parts : inside (codes_of c.in-Apply.args) ≡ more (code_of c.in-Two.left.now) (more (code_of c.in-Two.right.now) none) = c.in-Two.ensures in
    let left : Reads (code_of c.in-Two.left.now) (setting_of c.args.setting) c.args.scope.now (int c.in_ok-one.one) = took c.integer_at.result c.in_ok-one.one (λ (z : ℤ). Reads (code_of c.in-Two.left.now) (setting_of c.args.setting) c.args.scope.now (int z)) c.in_ok-one.was c.integer_at.ensures in
    let right : Reads (code_of c.in-Two.right.now) (setting_of c.args.setting) c.args.scope.now (int c.in_ok-two.two) = took c.integer_at-2.result c.in_ok-two.two (λ (z : ℤ). Reads (code_of c.in-Two.right.now) (setting_of c.args.setting) c.args.scope.now (int z)) c.in_ok-two.was c.integer_at-2.ensures in
    let code : apply c.in-Apply.prim (more (code_of c.in-Two.left.now) (more (code_of c.in-Two.right.now) none)) ≡ code_of c.args.expr.now = sym (applied ∙ ap (apply c.in-Apply.prim) parts) in
    let one : to_z w64 (of_z w64 c.in_ok-one.one) ≡ c.in_ok-one.one = grind (arith, ints, to_z-of_z) in
    let two : to_z w64 (of_z w64 c.in_ok-two.two) ≡ c.in_ok-two.two = grind (arith, ints, to_z-of_z) in
    let passed : of_two c.in-Apply.prim (int (to_z w64 (of_z w64 c.in_ok-one.one))) (int (to_z w64 (of_z w64 c.in_ok-two.two))) ≡ of_two c.in-Apply.prim (int c.in_ok-one.one) (int c.in_ok-two.two) = ap (λ (x : ℤ). of_two c.in-Apply.prim (int x) (int (to_z w64 (of_z w64 c.in_ok-two.two)))) one ∙ ap (λ (y : ℤ). of_two c.in-Apply.prim (int c.in_ok-one.one) (int y)) two in
    some_each c.of_two_integers.result (λ (a : Answer). answer_of a ≡ of_two c.in-Apply.prim (int (to_z w64 (of_z w64 c.in_ok-one.one))) (int (to_z w64 (of_z w64 c.in_ok-two.two)))) (λ (a : Answer). Finishes (code_of c.args.expr.now) (setting_of c.args.setting) c.args.scope.now 3 (answer_of a)) (λ a is. subst (λ (x : Code). Finishes x (setting_of c.args.setting) c.args.scope.now 3 (answer_of a)) code (finishes_two c.in-Apply.prim (code_of c.in-Two.left.now) (code_of c.in-Two.right.now) (setting_of c.args.setting) c.args.scope.now (int c.in_ok-one.one) (int c.in_ok-two.two) (answer_of a) left right (is ∙ passed))) c.of_two_integers.ensures
