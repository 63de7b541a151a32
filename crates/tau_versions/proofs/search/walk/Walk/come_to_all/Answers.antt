use Rattle.std.proofs.Common.{get_or}
use Rattle.tau_past.specs.Pasts.{Is}
use Rattle.tau_versions.specs.Search.Walks.{Comes}
use Rattle.tau_versions.specs.Search.Wanting.{test_of}
use Rattle.tau_versions.proofs.Meeting.{when_false, comes_next}
use Rattle.tau_versions.proofs.search.walk.Walk.come_to_all.Goals as goal

pub loop-point-preserved : goal.loop-point-preserved
loop-point-preserved g c =
    comes_next (test_of c.args.wanted) c.args.logs.now (g.V.HeardVersions.numbers c.args.heard.now) c.args.points.now c.loop-point.point-index (record { who = 0; interval = 0; incarnation = 0 })
    c.args.self.now.met.items c.loop-point.self.met.items c.come_to.new.self.met.items c.args.self.now.left.items c.loop-point.self.left.items c.come_to.new.self.left.items
    c.loop-point-test.true c.loop-point.invariant (when_false c.in_ok-come_to.field-0 (Comes (test_of c.args.wanted) c.args.logs.now (g.V.HeardVersions.numbers c.args.heard.now) (Is (get_or c.args.points.now c.loop-point.point-index (record { who = 0; interval = 0; incarnation = 0 }))) c.loop-point.self.met.items c.come_to.new.self.met.items c.loop-point.self.left.items c.come_to.new.self.left.items) c.if-branch.false c.in_ok-come_to.ensures.passed)
