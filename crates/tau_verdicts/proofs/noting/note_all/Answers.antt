use Rattle.std.proofs.Common.{List, get_or, subst, arith}
use Rattle.std.proofs.lemmas.List.{take_all}
use Rattle.tau_points.specs.declared.point.Point.{Point}
use Rattle.tau_verdicts.specs.Doomed.{flag_of, takers_of}
use Rattle.tau_verdicts.specs.Noting.{IsListed, AreListed}
use Rattle.tau_verdicts.proofs.Lists.{none_added, added_then, next_all, listed_later, nothing_in, when_true}
use Rattle.tau_verdicts.proofs.noting.note_all.Goals as goal

pub loop-point-init : goal.loop-point-init
loop-point-init c = record {
  added = none_added (flag_of c.args.doomed.now) c.args.taker (takers_of c.args.takers.now.items);
  listed = λ q k. nothing_in (IsListed c.args.logs.now (takers_of c.args.takers.now.items) c.args.taker) q k;
}

pub loop-point-preserved : goal.loop-point-preserved
loop-point-preserved c =
    let d : Point = record { who = 0; interval = 0; incarnation = 0 } in
    let K = takers_of c.loop-point.takers.items in
    let M = takers_of c.note.new.takers.items in record {
      added = added_then (flag_of c.args.doomed.now) c.args.taker (takers_of c.args.takers.now.items) K M c.loop-point.invariant.added c.note.ensures.added;
      listed = next_all (IsListed c.args.logs.now M c.args.taker) c.args.points.now c.loop-point.point-index d c.loop-point-test.true
          (when_true c.in_ok-note.field-0 (IsListed c.args.logs.now M c.args.taker (get_or c.args.points.now c.loop-point.point-index d)) c.if-not-branch.false c.in_ok-note.ensures.listed)
          (λ q k. listed_later c.args.logs.now c.args.taker q K M c.note.ensures.added.kept (c.loop-point.invariant.listed q k));
    }

pub returns-in_err-note-clause-added : goal.returns-in_err-note-clause-added
returns-in_err-note-clause-added c =
    added_then (flag_of c.args.doomed.now) c.args.taker (takers_of c.args.takers.now.items) (takers_of c.loop-point.takers.items) (takers_of c.note.new.takers.items) c.loop-point.invariant.added c.note.ensures.added

pub returns : goal.returns
returns c =
    let F : List Point → Type 0 = λ ps. AreListed c.args.logs.now (takers_of c.loop-point.takers.items) c.args.taker ps in
    record { added = c.loop-point.invariant.added; listed = subst F (take_all c.loop-point.point-index c.args.points.now (omega (arith, c.loop-point-test.false))) c.loop-point.invariant.listed }

pub returns-then-not-branch-clause-added : goal.returns-then-not-branch-clause-added
returns-then-not-branch-clause-added c =
    added_then (flag_of c.args.doomed.now) c.args.taker (takers_of c.args.takers.now.items) (takers_of c.loop-point.takers.items) (takers_of c.note.new.takers.items) c.loop-point.invariant.added c.note.ensures.added
