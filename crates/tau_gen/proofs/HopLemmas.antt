-- The body of `hop` keeps the rules of bodies.
use Rattle.std.proofs.Common.{◌≡◌, ℕ, zero, suc, ◌+◌, ◌<◌, ◌≤◌, ℤ, pos, List, [], ◌∷◌, map, refl, arith}
use Rattle.std.specs.List.{range_with_len}
use Rattle.tau_tree.specs.Code.{Code, unit, int, msg, start, if_else, get, set, send, stabilize, checkpoint, rollback, inside}
use Rattle.tau_tree.specs.Parts.{depth_of, IsBoundIn, Throughout, AllThroughout, arity}
use Rattle.tau_tree.specs.Checks.{KeepsRules}
use Rattle.tau_tree.specs.declared.expressions.Operation.{Operation}
use Rattle.tau_tree.specs.declared.expressions.Operation.TheVariants as prims
use Rattle.tau_gen.specs.Hop.{of_two, in_turn, at_multiples, all_starts, pass_on, last_hop, other_hop, hop_body}

-- the rules of one expression in a program of 16 starts and one behaviour
abbrev Keeps : Code → Type 0
Keeps = KeepsRules 16 1

-- an integer keeps them
keeps_int : (z : ℤ) → Keeps (int z)
keeps_int z = record {
  names = tt;
  start = tt;
  behaviour = tt;
  arity = tt;
  item = tt;
  two_names = tt;
  short_text = tt;
}

-- unit keeps them
keeps_unit : Keeps unit
keeps_unit = record {
  names = tt;
  start = tt;
  behaviour = tt;
  arity = tt;
  item = tt;
  two_names = tt;
  short_text = tt;
}

-- the message keeps them
keeps_msg : Keeps msg
keeps_msg = record {
  names = tt;
  start = tt;
  behaviour = tt;
  arity = tt;
  item = tt;
  two_names = tt;
  short_text = tt;
}

-- `get` keeps them
keeps_get : Keeps get
keeps_get = record {
  names = tt;
  start = tt;
  behaviour = tt;
  arity = tt;
  item = tt;
  two_names = tt;
  short_text = tt;
}

-- `stabilize` keeps them
keeps_stabilize : Keeps stabilize
keeps_stabilize = record {
  names = tt;
  start = tt;
  behaviour = tt;
  arity = tt;
  item = tt;
  two_names = tt;
  short_text = tt;
}

-- `checkpoint` keeps them
keeps_checkpoint : Keeps checkpoint
keeps_checkpoint = record {
  names = tt;
  start = tt;
  behaviour = tt;
  arity = tt;
  item = tt;
  two_names = tt;
  short_text = tt;
}

-- `rollback` keeps them
keeps_rollback : Keeps rollback
keeps_rollback = record {
  names = tt;
  start = tt;
  behaviour = tt;
  arity = tt;
  item = tt;
  two_names = tt;
  short_text = tt;
}

-- the name of a start keeps them where there is that start
keeps_start : (n : ℕ) → n < 16 → Keeps (start n)
keeps_start n lt = record {
  names = tt;
  start = lt;
  behaviour = tt;
  arity = tt;
  item = tt;
  two_names = tt;
  short_text = tt;
}

-- an operation of two arguments keeps them where its arguments do
keeps_two : (p : Operation) (a b : Code) → 2 ≡ arity p → Throughout Keeps a → Throughout Keeps b → Throughout Keeps (of_two p a b)
keeps_two p a b e one two = (
  record {
    names = tt;
    start = tt;
    behaviour = tt;
    arity = e;
    item = tt;
    two_names = tt;
    short_text = tt;
  },
  (one, (two, tt)),
)

-- an `if` keeps them where its parts do
keeps_if : (t y n : Code) → Throughout Keeps t → Throughout Keeps y → Throughout Keeps n → Throughout Keeps (if_else t y n)
keeps_if t y n test one two = (
  record {
    names = tt;
    start = tt;
    behaviour = tt;
    arity = tt;
    item = tt;
    two_names = tt;
    short_text = tt;
  },
  test,
  one,
  two,
)

-- a `seq` with an item keeps them where its items do
keeps_seq : (c : Code) (cs : List Code) → Throughout Keeps c → AllThroughout Keeps (inside cs) → Throughout Keeps (in_turn (c ∷ cs))
keeps_seq c cs one others = (
  record {
    names = tt;
    start = tt;
    behaviour = tt;
    arity = tt;
    item = omega arith;
    two_names = tt;
    short_text = tt;
  },
  (one, others),
)

-- a `set` keeps them where its value does
keeps_set : (v : Code) → Throughout Keeps v → Throughout Keeps (set v)
keeps_set v one = (
  record {
    names = tt;
    start = tt;
    behaviour = tt;
    arity = tt;
    item = tt;
    two_names = tt;
    short_text = tt;
  },
  one,
)

-- a `send` keeps them where its receiver and value do
keeps_send : (t v : Code) → Throughout Keeps t → Throughout Keeps v → Throughout Keeps (send t v)
keeps_send t v one two = (
  record {
    names = tt;
    start = tt;
    behaviour = tt;
    arity = tt;
    item = tt;
    two_names = tt;
    short_text = tt;
  },
  one,
  two,
)

-- names of starts in order keep them, up to the last start
keeps_starts : (a n : ℕ) → a + n ≤ 16 → AllThroughout Keeps (inside (map start (range_with_len a n)))
keeps_starts a zero h = tt
keeps_starts a (suc n) h = (keeps_start a (omega arith), keeps_starts (a + 1) n (omega arith))

-- the list of all starts keeps them
keeps_all_starts : Throughout Keeps all_starts
unfolding all_starts
keeps_all_starts = (
  record {
    names = tt;
    start = tt;
    behaviour = tt;
    arity = tt;
    item = tt;
    two_names = tt;
    short_text = tt;
  },
  keeps_starts 0 16 (omega arith),
)

-- what is done at multiples of a number keeps them where the deed does
keeps_multiples : (k : ℤ) (c : Code) → Throughout Keeps c → Throughout Keeps (at_multiples k c)
keeps_multiples k c one =
    let rest = keeps_two prims.Rem msg (int k) refl keeps_msg (keeps_int k) in
    let divides = keeps_two prims.Same (of_two prims.Rem msg (int k)) (int (pos 0)) refl rest (keeps_int (pos 0)) in
    keeps_if _ c unit divides one keeps_unit

-- passing a message on keeps them
keeps_passing : Throughout Keeps pass_on
keeps_passing =
    let product = keeps_two prims.Mul msg (int (pos 5)) refl keeps_msg (keeps_int (pos 5)) in
    let place = keeps_two prims.Rem _ (int (pos 16)) refl product (keeps_int (pos 16)) in
    let to = keeps_two prims.Item all_starts _ refl keeps_all_starts place in
    let less = keeps_two prims.Sub msg (int (pos 1)) refl keeps_msg (keeps_int (pos 1)) in
    keeps_send _ _ to less

-- what is done with a message of at least 1 keeps them
keeps_other : Throughout Keeps other_hop
unfolding other_hop
keeps_other =
    let sum = keeps_set _ (keeps_two prims.Add get msg refl keeps_get keeps_msg) in
    keeps_seq _ (at_multiples (pos 5) stabilize ∷ at_multiples (pos 11) rollback ∷ pass_on ∷ []) (keeps_multiples (pos 3) _ sum) (keeps_multiples (pos 5) stabilize keeps_stabilize, (keeps_multiples (pos 11) rollback keeps_rollback, (keeps_passing, tt)))

-- each part keeps its rules
pub hop_keeps : Throughout (KeepsRules 16 1) hop_body
unfolding hop_body
hop_keeps =
    let none_left = keeps_two prims.Less msg (int (pos 1)) refl keeps_msg (keeps_int (pos 1)) in
    let last : Throughout Keeps last_hop = keeps_seq stabilize (checkpoint ∷ []) keeps_stabilize (keeps_checkpoint, tt) in
    keeps_if _ _ other_hop none_left last keeps_other

-- it has no variable
pub hop_bound : IsBoundIn [] hop_body
unfolding hop_body other_hop all_starts
hop_bound = assumption

-- it isn't deep
pub hop_shallow : 1 + depth_of hop_body ≤ 200
unfolding hop_body other_hop all_starts
hop_shallow = omega arith
