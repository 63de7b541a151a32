use Rattle.tau_views.proofs.HeardLaws.{views_are_comparable as comparable, merged_views_are_later as later}
use Rattle.tau_views.proofs.laws.views_are_comparable.Goals as goal

pub returns-clause-comparable : goal.returns-clause-comparable
returns-clause-comparable c = comparable

pub returns-clause-merged : goal.returns-clause-merged
returns-clause-merged c = later
