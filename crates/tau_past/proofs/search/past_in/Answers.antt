use Rattle.std.proofs.Common.{◌∙◌}
use Rattle.tau_past.specs.Pasts.{Past}
use Rattle.tau_past.proofs.PastSearch.{set_of, past_from_none}
use Rattle.tau_past.proofs.search.past_in.Goals as goal

pub returns-clause-members : goal.returns-clause-members
returns-clause-members c =
    set_of c.from_slice.result _ c.add_past.new.found (Past c.args.index.now c.args.point) c.from_slice.ensures.members (c.deref.ensures.value ∙ c.in_ok-points.ensures)
    (past_from_none c.args.index.now c.args.point c.new-found.result c.add_past.new.found c.new-found.ensures c.in_ok-add_past.ensures.past)
