use Rattle.std.proofs.Common.{arith, sym, inl, inr}
use Rattle.tau_points.proofs.SortedLists.{merge_start, merge_at_less, merge_at_equal, merge_at_greater, merge_done}
use Rattle.tau_points.proofs.sorted.merged.Goals as goal
use Rattle.tau_points.proofs.sorted.merged.Goals.{then-merge-test+else-j-theirs, else-merge-test}

pub merge-init : goal.merge-init
merge-init g c = record {
  ours = omega arith;
  theirs = omega arith;
  state = merge_start g.met.T.Ord.total _ _ _ c.in_ok-all.ensures.items c.requires.ours c.requires.theirs;
}

pub merge-preserved-in-Less : goal.merge-preserved-in-Less
merge-preserved-in-Less g c = record {
  ours = omega arith;
  theirs = omega arith;
  state = merge_at_less g.met.T.Ord.total _ _ _ _ _ _ _ _ (record { first_in = c.merge-test.true; second_in = c.if-j-theirs.true; first_is = c.index-ours-i.is; second_is = c.index-theirs-j.is })
      c.merge.invariant.state (sym c.in-Less.ensures) c.in_ok-push-in-Less.ensures.items;
}

pub merge-preserved-in-Equal : goal.merge-preserved-in-Equal
merge-preserved-in-Equal g c = record {
  ours = omega arith;
  theirs = omega arith;
  state = merge_at_equal g.met.T.Ord.total _ _ _ _ _ _ _ _ (record { first_in = c.merge-test.true; second_in = c.if-j-theirs.true; first_is = c.index-ours-i.is; second_is = c.index-theirs-j.is })
      c.merge.invariant.state (g.met.T.Exact.exact _ _ (sym c.in-Equal.ensures)) c.in_ok-push-in-Equal.ensures.items;
}

pub merge-preserved : goal.merge-preserved
merge-preserved g c = record {
  ours = omega arith;
  theirs = omega arith;
  state = merge_at_greater g.met.T.Ord.total _ _ _ _ _ _ _ _ (record { first_in = c.merge-test.true; second_in = c.if-j-theirs.true; first_is = c.index-ours-i.is; second_is = c.index-theirs-j.is })
      c.merge.invariant.state (sym c.in-Greater.ensures) c.in_ok-push-in-Greater.ensures.items;
}

pub returns-clause-members : goal.returns-clause-members
returns-clause-members g c =
    (merge_done g.met.T.Ord.total _ _ _ _ _ _ _ c.merge.invariant.state
    (elim c.merge-test.branch [ then-merge-test+else-j-theirs w ↦ inr w.if-j-theirs.false | else-merge-test w ↦ inl w.merge-test.false ])
    c.in_ok-extend_from_slice.ensures.items c.in_ok-extend_from_slice-2.ensures.items).1
