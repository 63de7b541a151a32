use Rattle.std.proofs.Common.{◌≡◌, ◌∙◌, ◌<◌, List, length, sym, subst, arith, false}
use Rattle.std.specs.List.{list_any}
use Rattle.tau_eval.specs.Turn.{TurnSoFar}
use Rattle.tau_book.specs.Hands.{is_of}
use Rattle.tau_book.specs.Books.{AreOfDifferentTurns}
use Rattle.tau_book.proofs.StoreLemmas.{differ_stored, room_for_one}
use Rattle.tau_book.proofs.returns.give_one.Goals as goal

pub push_reserved-requires : goal.push_reserved-requires
push_reserved-requires c =
    let store : List TurnSoFar = c.args.store.now.items in
    let none : list_any (is_of c.args.job.place) store ≡ false = (λ i. list_any (is_of (sym c.turn.ensures i)) (sym c.deref.ensures.value i)) ∙ sym c.has_of.ensures ∙ c.if-not-has_of.true in
    let room : length store < length c.args.turns.now = room_for_one c.args.turns.now store c.args.job none c.requires.differ c.requires.given c.requires.open in
    omega (arith, room, c.requires.room, c.args.store.now.ok.0)

pub returns-then-not-has_of-clause-differ : goal.returns-then-not-has_of-clause-differ
returns-then-not-has_of-clause-differ c =
    let store : List TurnSoFar = c.args.store.now.items in
    let none : list_any (is_of c.args.job.place) store ≡ false = (λ i. list_any (is_of (sym c.turn.ensures i)) (sym c.deref.ensures.value i)) ∙ sym c.has_of.ensures ∙ c.if-not-has_of.true in
    subst AreOfDifferentTurns (sym c.push_reserved.ensures.items) (differ_stored store c.args.job none c.requires.differ)
