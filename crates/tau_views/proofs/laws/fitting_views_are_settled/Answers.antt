use Rattle.tau_legal.proofs.SafetyLemmas.{keeps_rules}
use Rattle.tau_views.proofs.JudgementLaws.{views_are_settled, message_views_are_settled, merged_views_are_settled}
use Rattle.tau_views.proofs.laws.fitting_views_are_settled.Goals as goal

pub returns-clause-own : goal.returns-clause-own
returns-clause-own c P T t k x w f = views_are_settled T t k x w (keeps_rules P T f)

pub returns-clause-message : goal.returns-clause-message
returns-clause-message c P T k m y w f = message_views_are_settled T k m y w (keeps_rules P T f)

pub returns-clause-merged : goal.returns-clause-merged
returns-clause-merged c P T t k m x y w f = merged_views_are_settled T t k m x y w (keeps_rules P T f)
