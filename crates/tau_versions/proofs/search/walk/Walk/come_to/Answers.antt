use Rattle.std.proofs.Common.{◌∙◌, sym, ap}
use Rattle.tau_versions.specs.Search.Searching.{goes_on}
use Rattle.tau_versions.specs.Search.Wanting.{test_of}
use Rattle.tau_versions.proofs.Meeting.{comes_met}
use Rattle.tau_versions.proofs.search.walk.Walk.come_to.Goals as goal

pub returns-in_ok-meet-clause-passed : goal.returns-in_ok-meet-clause-passed
returns-in_ok-meet-clause-passed g c =
    comes_met (test_of c.args.wanted) c.args.logs.now (g.V.HeardVersions.numbers c.args.heard.now) c.args.point.now c.args.self.now.met.items c.meet.new.self.met.items c.args.self.now.left.items c.meet.new.self.left.items
    (ap (test_of c.args.wanted) (sym c.fate_of-fate.ensures) ∙ sym c.is.ensures ∙ c.if-is.false)
    (ap goes_on (sym c.fate_of-fate.ensures) ∙ sym c.goes_on.ensures ∙ c.if-goes_on.true)
    c.in_ok-meet.ensures
