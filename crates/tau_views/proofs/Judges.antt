-- What trimmed views decide.
use Rattle.std.proofs.Common.{◌≡◌, ℕ, ◌<◌, List, Option, Some, sym, subst}
use Rattle.std.specs.Prelude.{slice_get}
use Rattle.tau_points.specs.declared.point.Point.{Point}
use Rattle.tau_view.specs.Held.{Held}
use Rattle.tau_view.specs.Rules.{merged}
use Rattle.tau_view.specs.Past.{Settled}
use Rattle.tau_view.specs.Trim.{EdgeTest, RootTest, trim, DropsSettledEdges, DropsClosedRoots, DropsForGood}
use Rattle.tau_view.proofs.Settled.{settled_under_trim}
use Rattle.tau_view.specs.declared.fate.verdict.Verdict.{Verdict}
use Rattle.tau_view.specs.declared.fate.freedom.Freedom.{Freedom}
use Rattle.tau_view.specs.Fate.Decisions.{IsVerdict, IsFreedom}
use Rattle.tau_trace.specs.Run.{Run, len}
use Rattle.tau_trace.specs.Numbering.{born, sent}
use Rattle.tau_trace.specs.Points.{point_at}
use Rattle.tau_trace.specs.Known.{WellFormed}
use Rattle.tau_past.specs.Decisions.{Verdict as VerdictAt}
use Rattle.tau_past.specs.Safety.{KeepsRules}
use Rattle.tau_views.specs.DecisionLaws.{judged, AreViewsOf, IsFreedomOf}
use Rattle.tau_views.specs.NamedPoints.{NamesKnownFallen}
use Rattle.tau_views.specs.Kept.{AreViews}
use Rattle.tau_views.specs.Inner.Trims.{IsAfterBoth}
use Rattle.tau_views.proofs.JudgementLaws.{views_are_settled, merged_views_are_settled, verdicts_agree, freedom_agrees}
use Rattle.tau_views.proofs.NamedPoints.{verdicts_name_fallen}

module _ (de : EdgeTest) (dr : RootTest) (T : Run) (own : List Held) (letters : List (Option Held)) (views : AreViews de dr T own letters) (w : WellFormed T) (rules : KeepsRules T) (t : ℕ) (h : Held) (exists : t < born T (len T)) (e : slice_get own t ≡ Some h) where
  pub own_settled : Settled h
  own_settled =
      let x = views.each t h e in
      subst Settled (sym x.is) (settled_under_trim de dr x.whole (views_are_settled T t (len T) x.whole w rules exists x.is_whole))

  pub freedom_is : DropsSettledEdges de → DropsClosedRoots de dr → DropsForGood de dr → (p : Point) (f : Freedom) → p ≡ point_at T t (len T) → IsFreedom h p f → IsFreedomOf T t (len T) f
  freedom_is settled closed good p f at free =
      let x = views.each t h e in
      freedom_agrees de dr settled closed good T t (len T) x.whole f w rules exists x.is_whole
      (subst (λ q. IsFreedom (trim de dr x.whole) q f) at (subst (λ y. IsFreedom y p f) x.is free))

  module _ (m : ℕ) (l mid : Held) (sent_before : m < sent T (len T)) (f : slice_get letters m ≡ Some (Some l)) (both : IsAfterBoth de dr merged h l mid) where
    pub merged_settled : Settled mid
    merged_settled =
        let x = views.each t h e in
        let y = views.letter m l f in
        let of : AreViewsOf T t (len T) m x.whole y.whole = record { exists = exists; sent = sent_before; own = x.is_whole; message = y.is_whole } in
        subst Settled (sym (both x.whole y.whole x.is y.is)) (settled_under_trim de dr (merged x.whole y.whole) (merged_views_are_settled T t (len T) m x.whole y.whole w rules of))

    -- the verdict on what is held is one on the trimmed views
    on_trimmed : (p : Point) (v : Verdict) → p ≡ point_at T t (len T) → IsVerdict mid p l.root v
        → (let x = views.each t h e in let y = views.letter m l f in IsVerdict (trim de dr (merged x.whole y.whole)) (point_at T t (len T)) (trim de dr y.whole).root v)
    on_trimmed p v at is =
        let x = views.each t h e in
        let y = views.letter m l f in
        let P : Held → Type 0 = λ z. IsVerdict z p l.root v in
        let Q : Point → Type 0 = λ q. IsVerdict (trim de dr (merged x.whole y.whole)) q l.root v in
        let R : Held → Type 0 = λ z. IsVerdict (trim de dr (merged x.whole y.whole)) (point_at T t (len T)) z.root v in
        subst R y.is (subst Q at (subst P (both x.whole y.whole x.is y.is) is))

    are_views : AreViewsOf T t (len T) m (views.each t h e).whole (views.letter m l f).whole
    are_views = record { exists = exists; sent = sent_before; own = (views.each t h e).is_whole; message = (views.letter m l f).is_whole }

    pub verdict_is : DropsSettledEdges de → DropsClosedRoots de dr → DropsForGood de dr → (p : Point) (v : Verdict) → p ≡ point_at T t (len T) → IsVerdict mid p l.root v → VerdictAt T t (len T) m (judged v)
    verdict_is settled closed good p v at is =
        verdicts_agree de dr settled closed good T t (len T) m (views.each t h e).whole (views.letter m l f).whole v w rules are_views (on_trimmed p v at is)

    pub point_is : (p : Point) (v : Verdict) → p ≡ point_at T t (len T) → IsVerdict mid p l.root v → NamesKnownFallen T t (len T) m v
    point_is p v at is = verdicts_name_fallen de dr T t (len T) m (views.each t h e).whole (views.letter m l f).whole v w are_views (on_trimmed p v at is)
