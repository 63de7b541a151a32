-- The points that trimmed views name are what was heard says they are.
use Rattle.std.proofs.Common.{◌≢◌, ◌↔◌, ℕ, IsTrue, Option}
use Rattle.tau_history.specs.declared.fate.Fate.TheVariants.{Ahead}
use Rattle.tau_points.specs.declared.point.Point.{Point}
use Rattle.tau_view.specs.Held.{Held, Points, fate_in, only}
use Rattle.tau_view.specs.Rules.{merged}
use Rattle.tau_view.specs.Past.{FallenIn as FallenOn, NotFirmIn}
use Rattle.tau_view.specs.Trim.{EdgeTest, RootTest}
use Rattle.tau_view.specs.declared.fate.verdict.Verdict.TheVariants.{Take, Drop, Fall}
use Rattle.tau_view.specs.declared.fate.freedom.Freedom.TheVariants.{Free, Bound}
use Rattle.tau_view.proofs.SameKinds.{verdict_point, freedom_point}
use Rattle.tau_trace.specs.Run.{Run}
use Rattle.tau_trace.specs.Points.{point_at}
use Rattle.tau_trace.specs.Known.{WellFormed}
use Rattle.tau_past.specs.Carried.{SentWith}
use Rattle.tau_past.specs.Pasts.{Is}
use Rattle.tau_past.specs.Safety.{KeepsRules}
use Rattle.tau_views.specs.NamedPoints.{IsKnownFallen, IsNotKnownFirm, VerdictsNameFallen, FreedomNamesNotFirm}
use Rattle.tau_views.proofs.Fates.{IsViewOfClosed, fallen_known, known_firm}
use Rattle.tau_views.proofs.Pasts.{same_past}
use Rattle.tau_views.proofs.Decisions.{one_point, only_reached}
use Rattle.tau_views.proofs.Heard.{own_view, own_point, together_view, together_point, sent_reached}
use Rattle.tau_views.proofs.JudgementLaws.{merge}

module _ {T : Run} {H : ℕ → Type 0} {owner : Option ℕ} {roots : Point → Type 0} {x : Held} (known : IsViewOfClosed T H owner roots x)
    (from : Points) (P : Point → Type 0) (same : (q : Point) → IsTrue (from q) ↔ P q) (reached : (q : Point) → P q → fate_in x.history q ≢ Ahead) where
  -- a Fallen point of the known past on the view is known fallen in H
  fallen_point : (q : Point) → FallenOn x from q → IsKnownFallen T H P q
  fallen_point q f = record { in_past = (same_past known from P same reached q).forth f.in_past; fallen = fallen_known known q f.is_fallen }

  -- one that isn't firm on it is not known firm in H
  not_firm_point : WellFormed T → KeepsRules T → (q : Point) → NotFirmIn x from q → IsNotKnownFirm T H P q
  not_firm_point w rules q n =
      let past = same_past known from P same reached q in
      record {
        in_past = past.forth n.in_past;
        not_firm = λ f. (let firm = known_firm known q (past.reached n.in_past) f in let not = n.not_firm in cc);
      }

module _ (drops_edge : EdgeTest) (drops_root : RootTest) where
  pub verdicts_name_fallen : VerdictsNameFallen drops_edge drops_root
  verdicts_name_fallen T t k m x y Take w are v = tt
  verdicts_name_fallen T t k m x y (Drop p) w are v =
      let view = merge T t k m x y w are in
      fallen_point (together_view T t k w are.exists m are.sent (merged x y) view) y.root (SentWith T m) are.message.root
      (sent_reached T t k w are.exists m are.sent (merged x y) view) p
      (verdict_point drops_edge drops_root (merged x y) y (point_at T t k) (Drop p) v)
  verdicts_name_fallen T t k m x y (Fall p) w are v =
      let view = merge T t k m x y w are in
      let own = point_at T t k in
      fallen_point (together_view T t k w are.exists m are.sent (merged x y) view) (only own) (Is own) (one_point own)
      (only_reached (merged x y) own (together_point T t k w are.exists m are.sent (merged x y) view)) p
      (verdict_point drops_edge drops_root (merged x y) y own (Fall p) v)

  pub freedom_names_not_firm : FreedomNamesNotFirm drops_edge drops_root
  freedom_names_not_firm T t k x Free w rules exists view f = tt
  freedom_names_not_firm T t k x (Bound p) w rules exists view f =
      let own = point_at T t k in
      not_firm_point (own_view T t k w exists x view) (only own) (Is own) (one_point own) (only_reached x own (own_point T t k w exists x view)) w rules p
      (freedom_point drops_edge drops_root x own (Bound p) f)
