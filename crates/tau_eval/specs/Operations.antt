-- Operations on values: the value that each gives, or the trap.
use Rattle.std.specs.Prelude.{ℕ, zero, suc, ◌<◌, ℤ, pos, negsuc, ◌+ℤ◌, ◌-ℤ◌, ◌*ℤ◌, int_lt, int_div, int_rem, Bool, not, ◌&&◌, nat_le, is_some, if◌then◌else◌, List, [], ◌∷◌, ◌++◌, length, slice_get, Option, Some, None, Result, Ok, Err}
use Rattle.tau_value.specs.Val.{Val, Vals, unit, truth, int, text, name, list, none, inside, items_of}
use Rattle.tau_value.specs.Numbers.{in_i64}
use Rattle.tau_value.specs.Sizes.{parts_of, levels_of}
use Rattle.tau_tree.specs.declared.expressions.Operation.{Operation}
use Rattle.tau_tree.specs.declared.expressions.Operation.TheVariants as prims
use Rattle.tau_eval.specs.Same.{same_values}

-- a value, or the code of a trap
abbrev pub Answer : Type 0
Answer = Result Val ℕ

-- the value, where this integer fits 64 bits; trap 2 where it doesn't
abbrev pub where_fits : ℤ → Val → Answer
where_fits z v = if is_some (in_i64 z) then Ok v else Err 2

-- the integer, where it fits 64 bits; trap 2 where it doesn't
abbrev pub integer : ℤ → Answer
integer z = where_fits z (int z)

-- the value, where it is in bounds; trap 5 where it isn't
abbrev pub bounded : Val → Answer
bounded v = if nat_le (parts_of v) 65536 && nat_le (levels_of v) 64 then Ok v else Err 5

-- the quotient, rounded toward zero; trap 3 by zero
abbrev pub quotient : ℤ → ℤ → Answer
quotient x (pos zero) = Err 3
quotient x y = integer (int_div x y)

-- the remainder, with the dividend's sign; trap 3 by zero, and trap 2 where the quotient doesn't fit
abbrev pub remainder : ℤ → ℤ → Answer
remainder x (pos zero) = Err 3
remainder x y = where_fits (int_div x y) (int (int_rem x y))

-- the value where there is one; trap 4 where there is none
abbrev pub found : Option Val → Answer
found (Some v) = Ok v
found None = Err 4

-- the item at an integer, counted from 0; trap 4 where there is none
abbrev pub item_at : List Val → ℤ → Answer
item_at vs (pos k) = found (slice_get vs k)
item_at vs (negsuc k) = Err 4

-- an operation on one value; trap 1 where its kind is wrong
abbrev pub of_one : Operation → Val → Answer
of_one prims.Not (truth b) = Ok (truth (not b))
of_one prims.Len (list vs) = integer (pos (length (items_of vs)))
of_one prims.Len (text t) = integer (pos (length t))
of_one p v = Err 1

-- an operation on two integers
abbrev pub of_integers : Operation → ℤ → ℤ → Answer
of_integers prims.Add x y = integer (x +ℤ y)
of_integers prims.Sub x y = integer (x -ℤ y)
of_integers prims.Mul x y = integer (x *ℤ y)
of_integers prims.Div x y = quotient x y
of_integers prims.Rem x y = remainder x y
of_integers prims.Less x y = Ok (truth (int_lt x y))
of_integers p x y = Err 1

-- the item of a list at an integer
abbrev pub item : Val → Val → Answer
item (list vs) (int z) = item_at (items_of vs) z
item v w = Err 1

-- the list with one value more, which comes last
abbrev pub pushed : Val → Val → Answer
pushed (list vs) w = bounded (list (inside (items_of vs ++ w ∷ [])))
pushed v w = Err 1

-- two texts or two lists, joined
abbrev pub joined : Val → Val → Answer
joined (text s) (text t) = bounded (text (s ++ t))
joined (list vs) (list ws) = bounded (list (inside (items_of vs ++ items_of ws)))
joined v w = Err 1

-- an operation on two integers as one on values
abbrev pub integers : Operation → Val → Val → Answer
integers p (int x) (int y) = of_integers p x y
integers p v w = Err 1

-- an operation on two values; trap 1 where a kind is wrong
abbrev pub of_two : Operation → Val → Val → Answer
of_two prims.Same v w = Ok (truth (same_values v w))
of_two prims.Item v w = item v w
of_two prims.Push v w = pushed v w
of_two prims.Cat v w = joined v w
of_two p v w = integers p v w
