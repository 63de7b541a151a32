use Rattle.std.proofs.Common.{arith, ℕ, length, subst, ◌≡◌, ◌<◌, ◌↔◌}
use Rattle.std.specs.Prelude.{Contains}
use Rattle.tau_explain.specs.Inner.Hearing.{IsMarked}
use Rattle.tau_explain.proofs.HearingLemmas.{ascending_of, pairs_push, members_push, members_pass, marked_read, unmarked_read}
use Rattle.tau_explain.proofs.hearing.marked_places.Goals as goal
use Rattle.tau_explain.proofs.hearing.marked_places.Goals.{then-marks-place+in_ok-push, else-marks-place}

pub loop-place-preserved : goal.loop-place-preserved
loop-place-preserved c =
    let marks = c.args.marks.now in
    let n = c.loop-place.place in
    let lt : n < length marks = omega (arith, c.loop-place-test.true, c.requires) in
    elim c.if-marks-place.branch [
      | then-marks-place+in_ok-push w ↦
          rw w.places-is (rw w.in_ok-push.ensures.items (
            pairs_push marks n c.loop-place.places.items c.loop-place.invariant.1 c.loop-place.invariant.0,
            members_push marks n c.loop-place.places.items c.loop-place.invariant.1 (marked_read marks n _ lt w.if-marks-place.true),
          ))
      | else-marks-place w ↦
          rw w.places-is (c.loop-place.invariant.0, members_pass marks n c.loop-place.places.items c.loop-place.invariant.1 (unmarked_read marks n _ lt w.if-marks-place.false))
    ]

pub returns-clause-ascending : goal.returns-clause-ascending
returns-clause-ascending c = ascending_of c.loop-place.places.items c.loop-place.invariant.0

pub returns-clause-members : goal.returns-clause-members
returns-clause-members c =
    let is : c.loop-place.place ≡ c.args.bound = omega (arith, c.loop-place-test.false, c.loop-place.auto.place-end) in
    subst (λ n. (j : ℕ) → Contains c.loop-place.places.items j ↔ ((j < n) × IsMarked c.args.marks.now j)) is c.loop-place.invariant.1
