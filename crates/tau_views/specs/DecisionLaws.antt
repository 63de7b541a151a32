-- What views decide is what was decided by what was heard, each the contract of a function of the crate.
use Rattle.std.specs.Prelude.{◌↔◌, ℕ, ◌<◌}
use Rattle.tau_view.specs.Held.{Held, only}
use Rattle.tau_view.specs.Rules.{merged}
use Rattle.tau_view.specs.Past.{SomeFallen, SomeNotFirm, Settled}
use Rattle.tau_view.specs.Trim.{EdgeTest, RootTest, trim}
use Rattle.tau_view.specs.declared.fate.verdict.Verdict as fates
use Rattle.tau_view.specs.declared.fate.verdict.Verdict.TheVariants as verdicts
use Rattle.tau_view.specs.declared.fate.freedom.Freedom.{Freedom}
use Rattle.tau_view.specs.declared.fate.freedom.Freedom.TheVariants as freedoms
use Rattle.tau_view.specs.Fate.Decisions.{IsVerdict, IsFreedom}
use Rattle.tau_trace.specs.Run.{Run}
use Rattle.tau_trace.specs.Numbering.{born, sent}
use Rattle.tau_trace.specs.Points.{point_at}
use Rattle.tau_trace.specs.Known.{WellFormed}
use Rattle.tau_past.specs.Decisions.{Judgement, takes, drops, falls, Verdict, FallsBy, DropsBy, Free}
use Rattle.tau_past.specs.Safety.{KeepsRules}
use Rattle.tau_views.specs.Views.{IsViewOf, IsMessageView}

-- what transactor t has heard at place k and what message m has heard, as views x and y
pub record AreViewsOf (T : Run) (t k m : ℕ) (x y : Held) : Type 0 where
  pub exists : t < born T k
  pub sent : m < sent T k
  pub own : IsViewOf T t k x
  pub message : IsMessageView T m y

-- on the merged views, the known past of t's own point holds a Fallen point exactly where t falls by what was heard, and
-- that of the message's roots exactly where the message is dropped by it
abbrev pub FallsAlike : Type 0
FallsAlike = (T : Run) (t k m : ℕ) (x y : Held) → WellFormed T → AreViewsOf T t k m x y → SomeFallen (merged x y) (only (point_at T t k)) ↔ FallsBy T t k m

abbrev pub DropsAlike : Type 0
DropsAlike = (T : Run) (t k m : ℕ) (x y : Held) → WellFormed T → AreViewsOf T t k m x y → SomeFallen (merged x y) y.root ↔ DropsBy T t k m

-- where the rules are kept, t is free on its view exactly where it is free by what it has heard
abbrev pub FreeAlike : Type 0
FreeAlike = (T : Run) (t k : ℕ) (x : Held) → WellFormed T → KeepsRules T → t < born T k → IsViewOf T t k x → (¬ SomeNotFirm x (only (point_at T t k))) ↔ Free T t k

-- where the rules are kept, views of what was heard are settled: a transactor's, a message's, and the two merged
abbrev pub ViewsAreSettled : Type 0
ViewsAreSettled = (T : Run) (t k : ℕ) (x : Held) → WellFormed T → KeepsRules T → t < born T k → IsViewOf T t k x → Settled x

abbrev pub MessageViewsAreSettled : Type 0
MessageViewsAreSettled = (T : Run) (k m : ℕ) (y : Held) → WellFormed T → KeepsRules T → m < sent T k → IsMessageView T m y → Settled y

abbrev pub MergedViewsAreSettled : Type 0
MergedViewsAreSettled = (T : Run) (t k m : ℕ) (x y : Held) → WellFormed T → KeepsRules T → AreViewsOf T t k m x y → Settled (merged x y)

-- the kind of a verdict on views
abbrev pub judged : fates.Verdict → Judgement
judged verdicts.Take = takes
judged (verdicts.Drop p) = drops
judged (verdicts.Fall p) = falls

-- the verdict that trimmed views lead to is the verdict by what was heard
abbrev pub VerdictsAgree : EdgeTest → RootTest → Type 0
VerdictsAgree de dr =
    (T : Run) (t k m : ℕ) (x y : Held) (v : fates.Verdict) → WellFormed T → KeepsRules T → AreViewsOf T t k m x y
    → IsVerdict (trim de dr (merged x y)) (point_at T t k) (trim de dr y).root v → Verdict T t k m (judged v)

-- and freedom likewise
abbrev pub IsFreedomOf : Run → ℕ → ℕ → Freedom → Type 0
IsFreedomOf T t k freedoms.Free = Free T t k
IsFreedomOf T t k (freedoms.Bound p) = ¬ Free T t k

abbrev pub FreedomAgrees : EdgeTest → RootTest → Type 0
FreedomAgrees de dr =
    (T : Run) (t k : ℕ) (x : Held) (f : Freedom) → WellFormed T → KeepsRules T → t < born T k → IsViewOf T t k x
    → IsFreedom (trim de dr x) (point_at T t k) f → IsFreedomOf T t k f
