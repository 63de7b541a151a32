-- The plain data that the answer of an operation stands for.
use Rattle.std.specs.Prelude.{ℤ, Option, Some, None, Ok, Err}
use Rattle.tau_value.specs.Val.{int}
use Rattle.tau_value.specs.Value.{val_of}
use Rattle.tau_eval.specs.Operations as operations
use Rattle.tau_eval.specs.declared.operations.Answer.{Answer}
use Rattle.tau_eval.specs.declared.operations.Answer.TheVariants as answers

abbrev pub answer_of : Answer → operations.Answer
answer_of (answers.Value v) = Ok (val_of v)
answer_of (answers.Trap code) = Err code

-- the integer that a checked operation gave, or trap 2
abbrev pub found_or_two : Option ℤ → operations.Answer
found_or_two (Some z) = Ok (int z)
found_or_two None = Err 2
