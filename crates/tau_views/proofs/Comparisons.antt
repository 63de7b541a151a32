-- The histories of a view beside those of a transactor and of other views.
use Rattle.std.proofs.Common.{◌≡◌, ℕ, suc, ◌<◌, Option, Some, None, refl, sym, subst, arith}
use Rattle.tau_history.specs.Timeline.{Timeline}
use Rattle.tau_history.specs.Order.{AreComparable}
use Rattle.tau_view.specs.Held.{Held}
use Rattle.tau_view.specs.Rules.{merged}
use Rattle.tau_view.proofs.Later.{right_precedes}
use Rattle.tau_trace.specs.Run.{Run}
use Rattle.tau_trace.specs.Numbering.{born, sent}
use Rattle.tau_trace.specs.Histories.{history}
use Rattle.tau_trace.specs.Known.{WellFormed}
use Rattle.tau_trace.proofs.Agreement.{born-grows}
use Rattle.tau_trace.proofs.Lists.{same_some}
use Rattle.tau_trace.proofs.Once.{new-rises}
use Rattle.tau_past.specs.Carried.{Pending, SentWith}
use Rattle.tau_past.specs.Heard.{Heard, HeardBy, HeardTogether}
use Rattle.tau_past.proofs.BoundLemmas.{has_bounds}
use Rattle.tau_past.proofs.Known.{acts_known, heard_before}
use Rattle.tau_views.specs.Views.{IsPresent, is_owner, by_step, by_birth, IsKnownHistory, IsView, IsViewOf, IsMessageView}
use Rattle.tau_views.specs.Laws.{ViewsHaveTheOwnHistory, ViewsLackTheUnborn, ViewsAreComparable, MergedViewsAreLater}
use Rattle.tau_views.proofs.Facts.{told_of, told_own}
use Rattle.tau_views.proofs.Unions.{comparable_at, view_union}

-- the view of a transactor has its own history as it is at the place
pub views_have_the_own_history : ViewsHaveTheOwnHistory
views_have_the_own_history T t k x w there v =
    let bounds = has_bounds T k w in
    told_own T (Heard T t k) t k (x.history t) (bounds.own t there)
    (told_of T (Heard T t k) (Some t) t (x.history t) (v.history t) (bounds.transactor t t there))

-- of who doesn't exist yet nothing was heard
unborn_absent : (T : Run) (t k : ℕ) → WellFormed T → t < born T k → ¬ IsPresent T (Heard T t k) (Some t) (born T k)
unborn_absent T t k w there (is_owner e) = omega (arith, there, same_some e)
unborn_absent T t k w there (by_step {j = j} h a) =
    let before = heard_before T t k j w there h in
    omega (arith, acts_known T (born T k) j w a, born-grows T j k (omega (arith, before)))
unborn_absent T t k w there (by_birth {j = j} {by = by} h n) =
    let before = heard_before T t k j w there h in
    omega (arith, n.made, new-rises T j by (born T k) n, born-grows T (suc j) k (omega (arith, before)))

-- a view has no history of who doesn't exist yet
pub views_lack_the_unborn : ViewsLackTheUnborn
views_lack_the_unborn T t k x w there v = by (x.history (born T k)) refl where
  by : (o : Option Timeline) → x.history (born T k) ≡ o → x.history (born T k) ≡ None
  by None e = e
  by (Some h) e = absurd (unborn_absent T t k w there ((v.history (born T k) h).0 e).present)

-- two histories of one transactor, each known in some set of places
known_comparable : (T : Run) (H G : ℕ → Type 0) (owner other : Option ℕ) (u : ℕ) (h k : Timeline) → IsKnownHistory T H owner u h → IsKnownHistory T G other u k → AreComparable h k
known_comparable T H G owner other u h k a b =
    subst (λ z. AreComparable z k) (sym a.is) (subst (AreComparable (history T u a.bound)) (sym b.is) (comparable_at T u a.bound b.bound))

-- the histories of a transactor's view and a message's are comparable
pub views_are_comparable : ViewsAreComparable
views_are_comparable T t k m x y w there exists v vm u g h e f =
    known_comparable T (Heard T t k) (HeardBy T m) (Some t) None u g h ((v.history u g).0 e) ((vm.history u h).0 f)

-- and the message's precede those of the merged view
pub merged_views_are_later : MergedViewsAreLater
merged_views_are_later T t k m x y w there exists v vm =
    right_precedes x.history y.history (views_are_comparable T t k m x y w there exists v vm)

-- the merged view is the view of what the transactor and the message have heard together
pub merged_is_together : (T : Run) (t k m : ℕ) (x y : Held) → WellFormed T → t < born T k → m < sent T k → IsViewOf T t k x → IsMessageView T m y → IsView T (HeardTogether T t k m) (Some t) (Pending T t k) (merged x y)
merged_is_together T t k m x y w there exists v vm =
    let bounds = has_bounds T k w in
    view_union T (Heard T t k) (HeardBy T m) (Some t) (Pending T t k) (SentWith T m) x y (λ u. bounds.transactor t u there) (λ u. bounds.message m u exists) v vm
