use Rattle.std.proofs.Common.{refl, rules}
use Rattle.std.specs.Prelude.{Contains}
use Rattle.std.proofs.lemmas.List.{nil_from_length}
use Rattle.tau_versions.specs.Search.Walks.{Comes, HasWanted}
use Rattle.tau_versions.specs.Search.Wanting.{test_of}
use Rattle.tau_versions.proofs.Meeting.{when_true, when_false, begins_finds, walks_start, walks_on, walks_finds, walks_end, nothing_found}
use Rattle.tau_versions.proofs.search.walk.Walk.finds.Goals as goal

pub returns-then-branch-clause-found : goal.returns-then-branch-clause-found
returns-then-branch-clause-found g c =
    (λ e. begins_finds (test_of c.args.wanted) c.args.logs.now (g.V.HeardVersions.numbers c.args.heard.now) c.args.from.now (when_true c.in_ok-come_to_all.field-0 (HasWanted (test_of c.args.wanted) c.args.logs.now (g.V.HeardVersions.numbers c.args.heard.now) (Contains c.args.from.now)) c.if-branch.true c.in_ok-come_to_all.ensures.wanted), λ f. refl)

pub walk-init : goal.walk-init
walk-init g c =
    walks_start (test_of c.args.wanted) c.args.logs.now (g.V.HeardVersions.numbers c.args.heard.now) c.args.from.now c.args.self.now.met.items c.come_to_all.new.self.met.items c.clear.new.self.items c.come_to_all.new.self.left.items
    c.clear.ensures.items c.requires (when_false c.in_ok-come_to_all.field-0 (Comes (test_of c.args.wanted) c.args.logs.now (g.V.HeardVersions.numbers c.args.heard.now) (Contains c.args.from.now) c.args.self.now.met.items c.come_to_all.new.self.met.items c.clear.new.self.items c.come_to_all.new.self.left.items) c.if-branch.false c.in_ok-come_to_all.ensures.passed)

pub returns-then-branch-2-clause-found : goal.returns-then-branch-2-clause-found
returns-then-branch-2-clause-found g c = (
  λ e. walks_finds (test_of c.args.wanted) c.args.logs.now (g.V.HeardVersions.numbers c.args.heard.now) c.args.from.now c.walk.self.met.items c.come_to_all-in-Some.new.self.met.items c.walk.self.left.items c.pop.new.self.items c.come_to_all-in-Some.new.self.left.items c.in-Some.who c.in-Some.ensures.items c.walk.invariant
      c.takes_of-takes.result.now c.takes_of-takes.ensures (when_true c.in_ok-come_to_all-2.field-0 (HasWanted (test_of c.args.wanted) c.args.logs.now (g.V.HeardVersions.numbers c.args.heard.now) (Contains c.takes_of-takes.result.now)) c.if-branch-2.true c.in_ok-come_to_all-2.ensures.wanted),
  λ f. refl,
)

pub walk-preserved : goal.walk-preserved
walk-preserved g c =
    walks_on (test_of c.args.wanted) c.args.logs.now (g.V.HeardVersions.numbers c.args.heard.now) c.args.from.now c.walk.self.met.items c.come_to_all-in-Some.new.self.met.items c.walk.self.left.items c.pop.new.self.items c.come_to_all-in-Some.new.self.left.items c.in-Some.who c.in-Some.ensures.items c.walk.invariant
    c.takes_of-takes.result.now c.takes_of-takes.ensures
    (when_false c.in_ok-come_to_all-2.field-0 (Comes (test_of c.args.wanted) c.args.logs.now (g.V.HeardVersions.numbers c.args.heard.now) (Contains c.takes_of-takes.result.now) c.walk.self.met.items c.come_to_all-in-Some.new.self.met.items c.pop.new.self.items c.come_to_all-in-Some.new.self.left.items) c.if-branch-2.false c.in_ok-come_to_all-2.ensures.passed)

pub returns-clause-found : goal.returns-clause-found
returns-clause-found g c =
    (λ e. cc, λ f. absurd (nothing_found (test_of c.args.wanted) c.args.logs.now (g.V.HeardVersions.numbers c.args.heard.now) c.args.from.now c.walk.self.met.items c.walk.self.left.items (nil_from_length c.walk.self.left.items (search (rules, c.in_default.ensures))) c.walk.invariant f))

pub returns-clause-passed : goal.returns-clause-passed
returns-clause-passed g c =
    walks_end (test_of c.args.wanted) c.args.logs.now (g.V.HeardVersions.numbers c.args.heard.now) c.args.from.now c.walk.self.met.items c.walk.self.left.items (nil_from_length c.walk.self.left.items (search (rules, c.in_default.ensures))) c.walk.invariant
