use Rattle.tau_views.proofs.JudgementLaws.{views_are_settled, message_views_are_settled, merged_views_are_settled}
use Rattle.tau_views.proofs.laws.views_are_settled.Goals as goal

pub returns-clause-own : goal.returns-clause-own
returns-clause-own c = views_are_settled

pub returns-clause-message : goal.returns-clause-message
returns-clause-message c = message_views_are_settled

pub returns-clause-merged : goal.returns-clause-merged
returns-clause-merged c = merged_views_are_settled
