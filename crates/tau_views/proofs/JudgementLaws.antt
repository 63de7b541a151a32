-- The laws of decisions on views.
use Rattle.std.proofs.Common.{◌↔◌, ℕ, Some, ◌<◌}
use Rattle.tau_view.specs.Held.{Held, only}
use Rattle.tau_view.specs.Rules.{merged}
use Rattle.tau_view.specs.Past.{SomeFallen, SomeNotFirm}
use Rattle.tau_view.specs.Trim.{EdgeTest, RootTest, trim, DropsSettledEdges, DropsClosedRoots, DropsForGood}
use Rattle.tau_view.specs.declared.fate.verdict.Verdict.TheVariants.{Take, Drop, Fall}
use Rattle.tau_view.specs.declared.fate.freedom.Freedom.TheVariants.{Free, Bound}
use Rattle.tau_trace.specs.Run.{Run}
use Rattle.tau_trace.specs.Numbering.{born}
use Rattle.tau_trace.specs.Points.{point_at}
use Rattle.tau_trace.specs.Known.{WellFormed}
use Rattle.tau_past.specs.Carried.{Pending, SentWith}
use Rattle.tau_past.specs.Heard.{HeardTogether}
use Rattle.tau_past.specs.Pasts.{Is}
use Rattle.tau_past.specs.Decisions.{FallsBy, DropsBy, fall, drop, take}
use Rattle.tau_past.specs.Safety.{KeepsRules}
use Rattle.tau_views.specs.Views.{IsView, IsViewOf}
use Rattle.tau_views.proofs.HeardLaws.{merged_views_are_later, merged_is_together}
use Rattle.tau_views.specs.DecisionLaws.{AreViewsOf, FallsAlike, DropsAlike, FreeAlike, ViewsAreSettled, MessageViewsAreSettled, MergedViewsAreSettled, VerdictsAgree, FreedomAgrees}
use Rattle.tau_views.proofs.Decisions.{one_point, only_reached, some_fallen, all_firm}
use Rattle.tau_views.proofs.Heard.{own_view, own_point, message_view, together_view, together_point, sent_reached}
use Rattle.tau_views.proofs.Settled.{settled}
use Rattle.tau_views.proofs.TrimmedDecisions.{own_fallen, roots_fallen, own_not_firm}

-- on t's view, t is free exactly where it is by what it has heard
pub free_alike : FreeAlike
free_alike T t k x w rules exists view =
    all_firm (own_view T t k w exists x view) w rules (only (point_at T t k)) (Is (point_at T t k)) (one_point (point_at T t k))
    (only_reached x (point_at T t k) (own_point T t k w exists x view))

-- the view of what t has heard is settled
pub views_are_settled : ViewsAreSettled
views_are_settled T t k x w rules exists view = settled (own_view T t k w exists x view) w rules

-- and so is that of what a message has heard
pub message_views_are_settled : MessageViewsAreSettled
message_views_are_settled T k m y w rules there view = settled (message_view T k w m there y view) w rules

-- the merged view is that of what t and message m have heard
pub merge : (T : Run) (t k m : ℕ) (x y : Held) → WellFormed T → AreViewsOf T t k m x y → IsView T (HeardTogether T t k m) (Some t) (Pending T t k) (merged x y)
merge T t k m x y w are = merged_is_together T t k m x y w are.exists are.sent are.own are.message

-- on it t falls exactly where it does by what was heard
pub falls_alike : FallsAlike
falls_alike T t k m x y w are =
    let v = merged x y in
    let p = point_at T t k in
    let view = merge T t k m x y w are in
    some_fallen (together_view T t k w are.exists m are.sent v view) (only p) (Is p) (one_point p)
    (only_reached v p (together_point T t k w are.exists m are.sent v view))

-- and the message is dropped exactly where it is by what was heard
pub drops_alike : DropsAlike
drops_alike T t k m x y w are =
    let v = merged x y in
    let view = merge T t k m x y w are in
    some_fallen (together_view T t k w are.exists m are.sent v view) y.root (SentWith T m) are.message.root
    (sent_reached T t k w are.exists m are.sent v view)

-- and it is settled
pub merged_views_are_settled : MergedViewsAreSettled
merged_views_are_settled T t k m x y w rules are = settled (together_view T t k w are.exists m are.sent (merged x y) (merge T t k m x y w are)) w rules

module _ (drops_edge : EdgeTest) (drops_root : RootTest) (settled_edges : DropsSettledEdges drops_edge) (closed_roots : DropsClosedRoots drops_edge drops_root) (for_good : DropsForGood drops_edge drops_root) where
  -- trimming keeps whether a point of the own past isn't firm
  not_firm : (T : Run) (t k : ℕ) (x : Held) → WellFormed T → KeepsRules T → t < born T k → IsViewOf T t k x → SomeNotFirm (trim drops_edge drops_root x) (only (point_at T t k)) ↔ SomeNotFirm x (only (point_at T t k))
  not_firm T t k x w rules exists view = own_not_firm drops_edge drops_root settled_edges closed_roots x (point_at T t k) (views_are_settled T t k x w rules exists view)

  -- so freedom on a trimmed view is that by what was heard
  pub freedom_agrees : FreedomAgrees drops_edge drops_root
  freedom_agrees T t k x Free w rules exists view none = (free_alike T t k x w rules exists view).0 (λ s. none ((not_firm T t k x w rules exists view).1 s))
  freedom_agrees T t k x (Bound q) w rules exists view found = λ free. (free_alike T t k x w rules exists view).1 free ((not_firm T t k x w rules exists view).0 (q, found.holds))

  -- on trimmed views too t falls, and the message is dropped, exactly where it is so by what was heard
  own_falls : (T : Run) (t k m : ℕ) (x y : Held) → WellFormed T → KeepsRules T → AreViewsOf T t k m x y → SomeFallen (trim drops_edge drops_root (merged x y)) (only (point_at T t k)) ↔ FallsBy T t k m
  own_falls T t k m x y w rules are =
      let is_settled = merged_views_are_settled T t k m x y w rules are in
      let trimmed = own_fallen drops_edge drops_root settled_edges closed_roots (merged x y) (point_at T t k) is_settled in
      let alike = falls_alike T t k m x y w are in
      (λ s. alike.0 (trimmed.0 s), λ h. trimmed.1 (alike.1 h))

  roots_drop : (T : Run) (t k m : ℕ) (x y : Held) → WellFormed T → KeepsRules T → AreViewsOf T t k m x y → SomeFallen (trim drops_edge drops_root (merged x y)) (trim drops_edge drops_root y).root ↔ DropsBy T t k m
  roots_drop T t k m x y w rules are =
      let is_settled = merged_views_are_settled T t k m x y w rules are in
      let trimmed = roots_fallen drops_edge drops_root settled_edges closed_roots (merged x y) y is_settled (merged_views_are_later T t k m x y w are.exists are.sent are.own are.message) in
      let alike = drops_alike T t k m x y w are in
      (λ s. alike.0 (trimmed.0 s), λ h. trimmed.1 (alike.1 h))

  -- so the verdict on trimmed views is that by what was heard
  pub verdicts_agree : VerdictsAgree drops_edge drops_root
  verdicts_agree T t k m x y (Fall p) w rules are found = fall ((own_falls T t k m x y w rules are).0 (p, found.holds))
  verdicts_agree T t k m x y (Drop p) w rules are found =
      drop (λ h. found.0 ((own_falls T t k m x y w rules are).1 h)) ((roots_drop T t k m x y w rules are).0 (p, found.1.holds))
  verdicts_agree T t k m x y Take w rules are found =
      take (λ h. found.0 ((own_falls T t k m x y w rules are).1 h)) (λ h. found.1 ((roots_drop T t k m x y w rules are).1 h))
