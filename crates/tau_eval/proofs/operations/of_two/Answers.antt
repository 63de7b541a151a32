use Rattle.std.proofs.Common.{◌≡◌, Bool, Ok, refl, ap, ◌∙◌}
use Rattle.tau_value.specs.Val.{Val, truth}
use Rattle.tau_value.specs.Value.{val_of}
use Rattle.tau_tree.specs.declared.expressions.Operation.{Operation}
use Rattle.tau_tree.specs.declared.expressions.Operation.TheVariants as prims
use Rattle.tau_eval.specs.Operations.{Answer, of_two}
use Rattle.tau_eval.specs.Same.{same_values}
use Rattle.tau_eval.proofs.SameLemmas.{same_values_is}
use Rattle.tau_eval.proofs.operations.of_two.Goals as goal

abbrev answered : Bool → Answer
answered b = Ok (truth b)

same_is : (p : Operation) (v w : Val) → p ≡ prims.Same → answered (same_values v w) ≡ of_two p v w
same_is p v w e = rw e refl

pub returns-in-Same-clause-ok : goal.returns-in-Same-clause-ok
returns-in-Same-clause-ok c =
    ap answered (same_values_is c.same.result (val_of c.args.one) (val_of c.args.two) c.same.ensures) ∙ same_is c.args.prim (val_of c.args.one) (val_of c.args.two) c.in-Same.is
