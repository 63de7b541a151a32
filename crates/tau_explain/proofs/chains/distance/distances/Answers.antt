use Rattle.std.proofs.Common.{rules, refl, subst, ◌<◌, [], List, length}
use Rattle.std.specs.HashMap.{get}
use Rattle.tau_points.specs.declared.point.Point.{Point}
use Rattle.tau_explain.specs.Chains.Inner.Distances.{same_point}
use Rattle.tau_explain.specs.Chains.Inner.Searching.{Notes}
use Rattle.tau_explain.proofs.Levels.{searches_start, searches_next, searches_end, far_same, iff_trans, small_distance, told_at}
use Rattle.tau_explain.proofs.chains.distance.distances.Goals as goal

pub loop-at-init : goal.loop-at-init
loop-at-init g c = (
  c.requires.ready,
  c.in_ok-note_all.ensures.taken,
  λ p r. (λ l. l, λ l. l),
  searches_start _ _ c.args.points.now (get same_point c.new-far.result) (get same_point c.note_all.new.far) c.new-queue.result.items _ c.requires.fresh (λ p. rw c.new-far.ensures.empty refl) c.new-queue.ensures.items
      (subst (λ (ps : List Point). Notes 0 ps [] (get same_point c.new-far.result) (get same_point c.note_all.new.far) c.new-queue.result.items c.note_all.new.queue.items) c.in_ok-into.ensures.items c.in_ok-note_all.ensures.noted),
)

pub distance_of-distance-requires : goal.distance_of-distance-requires
distance_of-distance-requires g c = told_at _ _ _ _ _ _ _ (search rules) (search rules) c.loop-at.invariant.3

pub overflow_add-distance : goal.overflow_add-distance
overflow_add-distance g c = let lt : c.loop-at.at < length c.loop-at.queue.items = search rules in
    let small = small_distance _ _ _ _ _ _ _ _ lt c.index.ensures c.distance_of-distance.ensures c.loop-at.invariant.3 in search rules

pub loop-at-preserved : goal.loop-at-preserved
loop-at-preserved g c = (
  c.in_ok-push_incoming.ensures.ready,
  c.in_ok-note_all-2.ensures.taken,
  iff_trans _ _ _ c.loop-at.invariant.2 c.in_ok-push_incoming.ensures.pushed.same,
  searches_next _ _ _ _ _ _ _ _ _ _ _ _ _ _ (search rules) c.index.ensures c.distance_of-distance.ensures c.loop-at.invariant.1 c.in_ok-push_incoming.ensures.pushed c.loop-at.invariant.3 c.in_ok-note_all-2.ensures.noted,
)

pub returns : goal.returns
returns g c = far_same _ _ _ _ c.loop-at.invariant.2 (searches_end _ _ _ _ _ _ (search rules) c.loop-at.invariant.3)
