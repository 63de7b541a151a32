-- The body of `hop`, the one behaviour of a generated program.
use Rattle.std.specs.Prelude.{ℤ, pos, List, [], ◌∷◌, map}
use Rattle.std.specs.List.{range_with_len}
use Rattle.tau_tree.specs.Code.{Code, unit, int, msg, start, list, if_else, seq, apply, get, set, send, stabilize, checkpoint, rollback, inside}
use Rattle.tau_tree.specs.declared.expressions.Operation.{Operation}
use Rattle.tau_tree.specs.declared.expressions.Operation.TheVariants as prims

-- an operation on two expressions
abbrev pub of_two : Operation → Code → Code → Code
of_two p a b = apply p (inside (a ∷ b ∷ []))

-- expressions one after the other
abbrev pub in_turn : List Code → Code
in_turn cs = seq (inside cs)

-- (if (= (% msg k) 0) c unit)
abbrev pub at_multiples : ℤ → Code → Code
at_multiples k c = if_else (of_two prims.Same (of_two prims.Rem msg (int k)) (int (pos 0))) c unit

-- (list (name t0) .. (name t15)), in order
unfoldable pub all_starts : Code
all_starts = list (inside (map start (range_with_len 0 16)))

-- (send (at L (% (* msg 5) 16)) (- msg 1)), where L is the list of all starts
abbrev pub pass_on : Code
pass_on =
    send (of_two prims.Item all_starts (of_two prims.Rem (of_two prims.Mul msg (int (pos 5))) (int (pos 16)))) (of_two prims.Sub msg (int (pos 1)))

-- (seq (stabilize) (checkpoint))
abbrev pub last_hop : Code
last_hop = in_turn (stabilize ∷ checkpoint ∷ [])

-- (seq (if (= (% msg 3) 0) (set (+ (get) msg)) unit)
--      (if (= (% msg 5) 0) (stabilize) unit)
--      (if (= (% msg 11) 0) (rollback) unit)
--      (send (at L (% (* msg 5) 16)) (- msg 1)))
unfoldable pub other_hop : Code
other_hop =
    in_turn (at_multiples (pos 3) (set (of_two prims.Add get msg)) ∷ at_multiples (pos 5) stabilize ∷ at_multiples (pos 11) rollback ∷ pass_on ∷ [])

-- (if (< msg 1) LAST OTHER)
unfoldable pub hop_body : Code
hop_body = if_else (of_two prims.Less msg (int (pos 1))) last_hop other_hop
