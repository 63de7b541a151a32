-- Steps that touch.
use Rattle.std.proofs.Common.{◌≡◌, ℕ, suc, IsTrue, Some, None, refl, sym, ap, ◌∙◌, subst}
use Rattle.std.specs.Prelude.{slice_get}
use Rattle.tau_history.specs.Timeline.{Timeline, moved, stabilize}
use Rattle.tau_points.specs.declared.point.Point.{Point}
use Rattle.tau_view.specs.Held.{Held}
use Rattle.tau_view.specs.Rules.{noted, touched, depended}
use Rattle.tau_view.specs.Trim.{EdgeTest, RootTest}
use Rattle.tau_trace.specs.declared.step.Step.{Step}
use Rattle.tau_trace.specs.declared.step.Step.TheVariants.{Get, Set, Skip, Stabilize, Ask}
use Rattle.tau_trace.specs.Steps.{actor, removed_by, is_new, makes_message}
use Rattle.tau_trace.specs.Run.{Run, len, appended}
use Rattle.tau_trace.specs.Histories.{history}
use Rattle.tau_trace.specs.Points.{point_at}
use Rattle.tau_trace.proofs.Agreement.{agree_appended}
use Rattle.tau_past.specs.Carried.{touches, is_set}
use Rattle.tau_past.proofs.Agreement.{point-same}
use Rattle.tau_rules.proofs.AppendedRuns.{here, does_here}
use Rattle.tau_views.specs.Views.{IsViewOf}
use Rattle.tau_views.specs.Laws.{only_touches}
use Rattle.tau_views.specs.declared.views.Views.{Views}
use Rattle.tau_views.specs.declared.views.ViewChange.{ViewChange}
use Rattle.tau_views.specs.Kept.{held_of}
use Rattle.tau_views.specs.Inner.Trims.{IsAfter}
use Rattle.tau_views.specs.Inner.Next.{IsNext, AreNext}
use Rattle.tau_views.proofs.Appended.{after_step}
use Rattle.tau_views.proofs.Next.{IsPlain, own_change, actor_exists, turn_then, history_then, next_own}

plain_touch : (s : Step) → IsTrue (only_touches s) → IsPlain s
plain_touch (Get t) k = record { new = refl; send = refl; removed = refl }
plain_touch (Skip t) k = record { new = refl; send = refl; removed = refl }
plain_touch (Ask t a) k = record { new = refl; send = refl; removed = refl }
plain_touch s k = absurd (cc)

touch_touches : (s : Step) → IsTrue (only_touches s) → IsTrue (touches s)
touch_touches (Get t) k = refl
touch_touches (Skip t) k = refl
touch_touches (Ask t a) k = refl
touch_touches s k = absurd (cc)

plain_set : (s : Step) → IsTrue (is_set s) → IsPlain s
plain_set (Set t x) k = record { new = refl; send = refl; removed = refl }
plain_set s k = absurd (cc)

set_touches : (s : Step) → IsTrue (is_set s) → IsTrue (touches s)
set_touches (Set t x) k = refl
set_touches s k = absurd (cc)

module _ {de : EdgeTest} {dr : RootTest} {V : Type 0} {held : V → Held} {v : Views V} {T : Run} {s : Step} (next : IsNext de dr held v T s) (t : ℕ) (h : Held) (a : V) (c : ViewChange V) (p : Point)
    (e : slice_get (held_of held v.own.items) t ≡ Some h) (at : p ≡ point_at T t (len T)) (is : c ≡ own_change t a None) (by : actor s ≡ Some t) where
  at_then : p ≡ point_at (appended T s) t (len T)
  at_then = at ∙ point-same t (len T) (agree_appended T s)

  -- a Get, a Skip or an Ask
  pub by_touch : IsTrue (only_touches s) → IsAfter de dr (touched p) h (held a) → AreNext de dr held v T s c
  by_touch kind after =
      let x = next.views.each t h e in
      let plain = plain_touch s kind in
      let step = after_step T s next.well_formed next.follows t x.whole (actor_exists next t by) x.is_whole in
      let turn = turn_then next t (next.ready.touching t by (touch_touches s kind)) in
      let P : Point → Type 0 = λ q. IsViewOf (appended T s) t (suc (len T)) (touched q x.whole) in
      next_own next t a None (touched p x.whole) c is by plain.new plain.send (sym plain.removed) (after x.whole x.is)
      (subst P (sym at_then) (step.touching (does_here T s only_touches t by kind) turn))

  -- a Set
  pub by_set : IsTrue (is_set s) → IsAfter de dr (λ x. touched p (depended p x)) h (held a) → AreNext de dr held v T s c
  by_set kind after =
      let x = next.views.each t h e in
      let plain = plain_set s kind in
      let step = after_step T s next.well_formed next.follows t x.whole (actor_exists next t by) x.is_whole in
      let turn = turn_then next t (next.ready.touching t by (set_touches s kind)) in
      let P : Point → Type 0 = λ q. IsViewOf (appended T s) t (suc (len T)) (touched q (depended q x.whole)) in
      next_own next t a None (touched p (depended p x.whole)) c is by plain.new plain.send (sym plain.removed) (after x.whole x.is)
      (subst P (sym at_then) (step.set (does_here T s is_set t by kind) turn))

  -- a Stabilize
  pub by_stabilize : (k : Timeline) → s ≡ Stabilize t → k ≡ moved stabilize (history T t (len T)) → IsAfter de dr (λ x. touched p (noted t k x)) h (held a) → AreNext de dr held v T s c
  by_stabilize k kind moves after =
      let x = next.views.each t h e in
      let step = after_step T s next.well_formed next.follows t x.whole (actor_exists next t by) x.is_whole in
      let turn = turn_then next t (next.ready.touching t by (ap touches kind)) in
      let moves_then : k ≡ moved stabilize (history (appended T s) t (len T)) = moves ∙ ap (moved stabilize) (sym (history_then next t)) in
      let P : Point → Type 0 = λ q. IsViewOf (appended T s) t (suc (len T)) (touched q (noted t k x.whole)) in
      let Q : Timeline → Type 0 = λ j. IsViewOf (appended T s) t (suc (len T)) (touched (point_at (appended T s) t (len T)) (noted t j x.whole)) in
      next_own next t a None (touched p (noted t k x.whole)) c is by (ap is_new kind) (ap makes_message kind) (sym (ap removed_by kind)) (after x.whole x.is)
      (subst P (sym at_then) (subst Q (sym moves_then) (step.stabilize (here T s ∙ ap Some kind) turn)))
