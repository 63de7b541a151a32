use Rattle.std.proofs.Common.{◌≡◌, IsTrue}
use Rattle.tau_view.specs.Held.{same_point}
use Rattle.tau_view.proofs.Sets.{same_of}
use Rattle.tau_view.proofs.Operations.{new_edge}
use Rattle.tau_view.proofs.facts.add_edge.Goals as goal

pub returns : goal.returns
returns c =
    let differ = c.if-eq.ensures in
    new_edge c.args.from c.args.root c.args.edges.now c.insert.new.self
    (λ e. let same : IsTrue (same_point c.args.root c.args.from) = same_of c.args.root c.args.from e in cc) c.in_ok-insert.ensures.members
