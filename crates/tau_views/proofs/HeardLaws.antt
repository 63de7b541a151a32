-- The laws of the views of what was heard, by name.
use Rattle.tau_view.specs.Held.{Held}
use Rattle.tau_view.specs.Rules.{merged}
use Rattle.std.proofs.Common.{ℕ, ◌<◌, Some}
use Rattle.tau_trace.specs.Run.{Run}
use Rattle.tau_trace.specs.Numbering.{born, sent}
use Rattle.tau_trace.specs.Known.{WellFormed}
use Rattle.tau_past.specs.Carried.{Pending}
use Rattle.tau_past.specs.Heard.{HeardTogether}
use Rattle.tau_views.specs.Views.{IsView, IsViewOf, IsMessageView}
use Rattle.tau_views.specs.Laws.{ViewsStepByStep, StartsOpenAlone, PostsHaveHeardNothing, ViewsHaveTheOwnHistory, ViewsLackTheUnborn, ViewsAreComparable, MergedViewsAreLater, ViewsAreLocal}
use Rattle.tau_views.proofs.ViewSteps as steps
use Rattle.tau_views.proofs.Openings as openings
use Rattle.tau_views.proofs.Comparisons as comparisons
use Rattle.tau_views.proofs.Locality as locality

pub views_step_by_step : ViewsStepByStep
views_step_by_step = steps.views_step_by_step

pub starts_open_alone : StartsOpenAlone
starts_open_alone = openings.starts_open_alone

pub posts_have_heard_nothing : PostsHaveHeardNothing
posts_have_heard_nothing = openings.posts_have_heard_nothing

pub views_have_the_own_history : ViewsHaveTheOwnHistory
views_have_the_own_history = comparisons.views_have_the_own_history

pub views_lack_the_unborn : ViewsLackTheUnborn
views_lack_the_unborn = comparisons.views_lack_the_unborn

pub views_are_comparable : ViewsAreComparable
views_are_comparable = comparisons.views_are_comparable

pub merged_views_are_later : MergedViewsAreLater
merged_views_are_later = comparisons.merged_views_are_later

pub views_are_local : ViewsAreLocal
views_are_local = locality.views_are_local

-- the merged view is the view of what the transactor and the message have heard together
pub merged_is_together : (T : Run) (t k m : ℕ) (x y : Held) → WellFormed T → t < born T k → m < sent T k → IsViewOf T t k x → IsMessageView T m y → IsView T (HeardTogether T t k m) (Some t) (Pending T t k) (merged x y)
merged_is_together = comparisons.merged_is_together
