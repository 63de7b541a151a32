-- What the points are that views name (docs/definitions.md, "Verdict", "Free").
use Rattle.std.specs.Prelude.{ℕ, ◌<◌}
use Rattle.tau_points.specs.declared.point.Point.{Point}
use Rattle.tau_view.specs.Held.{Held}
use Rattle.tau_view.specs.Rules.{merged}
use Rattle.tau_view.specs.Trim.{EdgeTest, RootTest, trim}
use Rattle.tau_view.specs.declared.fate.verdict.Verdict.{Verdict}
use Rattle.tau_view.specs.declared.fate.verdict.Verdict.TheVariants.{Take, Drop, Fall}
use Rattle.tau_view.specs.declared.fate.freedom.Freedom.{Freedom}
use Rattle.tau_view.specs.declared.fate.freedom.Freedom.TheVariants as freedoms
use Rattle.tau_view.specs.Fate.Decisions.{IsVerdict, IsFreedom}
use Rattle.tau_trace.specs.Run.{Run}
use Rattle.tau_trace.specs.Numbering.{born}
use Rattle.tau_trace.specs.Points.{point_at}
use Rattle.tau_trace.specs.Known.{WellFormed}
use Rattle.tau_past.specs.Carried.{SentWith}
use Rattle.tau_past.specs.Heard.{Heard, HeardTogether}
use Rattle.tau_past.specs.Pasts.{PastIn, Is, FellIn, FirmIn}
use Rattle.tau_past.specs.Safety.{KeepsRules}
use Rattle.tau_views.specs.Views.{IsViewOf}
use Rattle.tau_views.specs.DecisionLaws.{AreViewsOf}

-- q is in the known past in H of these points, and known fallen in H
pub record IsKnownFallen (T : Run) (H : ℕ → Type 0) (P : Point → Type 0) (q : Point) : Type 0 where
  pub in_past : PastIn T H P q
  pub fallen : FellIn T H q

-- q is in the known past in H of these points, and not known firm in H
pub record IsNotKnownFirm (T : Run) (H : ℕ → Type 0) (P : Point → Type 0) (q : Point) : Type 0 where
  pub in_past : PastIn T H P q
  pub not_firm : ¬ FirmIn T H q

-- a verdict names a fallen point, by what t at place k and message m have heard: Fall one of the past of t's own point, and Drop
-- one of the past of what m carries
abbrev pub NamesKnownFallen : Run → ℕ → ℕ → ℕ → Verdict → Type 0
NamesKnownFallen T t k m Take = Unit {0}
NamesKnownFallen T t k m (Drop p) = IsKnownFallen T (HeardTogether T t k m) (SentWith T m) p
NamesKnownFallen T t k m (Fall p) = IsKnownFallen T (HeardTogether T t k m) (Is (point_at T t k)) p

-- freedom names a point that isn't firm, of the past of t's own point, by what t has heard at place k
abbrev pub NamesNotKnownFirm : Run → ℕ → ℕ → Freedom → Type 0
NamesNotKnownFirm T t k freedoms.Free = Unit {0}
NamesNotKnownFirm T t k (freedoms.Bound p) = IsNotKnownFirm T (Heard T t k) (Is (point_at T t k)) p

-- the verdict that trimmed views lead to does so
abbrev pub VerdictsNameFallen : EdgeTest → RootTest → Type 0
VerdictsNameFallen de dr =
    (T : Run) (t k m : ℕ) (x y : Held) (v : Verdict) → WellFormed T → AreViewsOf T t k m x y → IsVerdict (trim de dr (merged x y)) (point_at T t k) (trim de dr y).root v → NamesKnownFallen T t k m v

-- and so does freedom
abbrev pub FreedomNamesNotFirm : EdgeTest → RootTest → Type 0
FreedomNamesNotFirm de dr =
    (T : Run) (t k : ℕ) (x : Held) (f : Freedom) → WellFormed T → KeepsRules T → t < born T k → IsViewOf T t k x → IsFreedom (trim de dr x) (point_at T t k) f → NamesNotKnownFirm T t k f
