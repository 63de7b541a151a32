-- Verdicts and freedom on what views hold (docs/rules.md, "Verdict", "Free").
use Rattle.std.specs.Prelude.{◌≡◌, IsTrue}
use Rattle.tau_points.specs.declared.point.Point.{Point}
use Rattle.tau_view.specs.Held.{Held, Points, only}
use Rattle.tau_view.specs.Past.{FallenIn, NotFirmIn, SomeFallen, SomeNotFirm}
use Rattle.tau_view.specs.declared.fate.verdict.Verdict.{Verdict}
use Rattle.tau_view.specs.declared.fate.verdict.Verdict.TheVariants.{Take, Drop, Fall}
use Rattle.tau_view.specs.declared.fate.freedom.Freedom.{Freedom}
use Rattle.tau_view.specs.declared.fate.freedom.Freedom.TheVariants.{Free, Bound}
use Rattle.tau_view.specs.Fate.Least.{IsLeast}

-- Fall at the least Fallen point of the known past of the receiver's own point; otherwise Drop at that of the known
-- past of the message's roots; otherwise Take
abbrev pub IsVerdict : Held → Point → Points → Verdict → Type 0
IsVerdict facts me roots (Fall p) = IsLeast (FallenIn facts (only me)) p
IsVerdict facts me roots (Drop p) = (¬ SomeFallen facts (only me)) × IsLeast (FallenIn facts roots) p
IsVerdict facts me roots Take = (¬ SomeFallen facts (only me)) × (¬ SomeFallen facts roots)

-- Free where each point of the known past of the own point is firm; otherwise Bound at the least one that isn't
abbrev pub IsFreedom : Held → Point → Freedom → Type 0
IsFreedom facts me Free = ¬ SomeNotFirm facts (only me)
IsFreedom facts me (Bound p) = IsLeast (NotFirmIn facts (only me)) p
