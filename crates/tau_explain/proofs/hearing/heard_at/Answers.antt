use Rattle.tau_explain.proofs.HearingLemmas.{heard_members}
use Rattle.tau_explain.proofs.hearing.heard_at.Goals as goal

pub returns-clause-members : goal.returns-clause-members
returns-clause-members c =
    heard_members c.args.trace.now.run c.args.place c.in_ok-known.ensures.well_formed c.requires c.in_ok-known.known.items c.deref.result.now c.in_ok-marked_places.field-0.items c.from_vec.result c.from_vec.ensures c.deref.ensures.value c.in_ok-marked_places.ensures.members c.in_ok-known.ensures.marked
