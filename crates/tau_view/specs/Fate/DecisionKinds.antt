-- Kinds of verdicts and of freedom, whatever the point that they name.
use Rattle.std.specs.Prelude.{◌≡◌}
use Rattle.tau_points.specs.declared.point.Point.{Point}
use Rattle.tau_view.specs.Held.{Held, Points, AllPrecede, only}
use Rattle.tau_view.specs.Past.{FallenIn, NotFirmIn, Settled}
use Rattle.tau_view.specs.declared.fate.verdict.Verdict.{Verdict}
use Rattle.tau_view.specs.declared.fate.verdict.Verdict.TheVariants.{Take, Drop, Fall}
use Rattle.tau_view.specs.declared.fate.freedom.Freedom.{Freedom}
use Rattle.tau_view.specs.declared.fate.freedom.Freedom.TheVariants.{Free, Bound}
use Rattle.tau_view.specs.Fate.Decisions.{IsVerdict, IsFreedom}

-- both are Take, both Drop or both Fall
pub data SameVerdictKind : Verdict → Verdict → Type 0 where
  both_take : SameVerdictKind Take Take
  both_drop : {p q : Point} → SameVerdictKind (Drop p) (Drop q)
  both_fall : {p q : Point} → SameVerdictKind (Fall p) (Fall q)

-- both are Free or both Bound
pub data SameFreedomKind : Freedom → Freedom → Type 0 where
  both_free : SameFreedomKind Free Free
  both_bound : {p q : Point} → SameFreedomKind (Bound p) (Bound q)

-- on settled facts that know the message's histories, trimmed views lead to a verdict of the same kind
abbrev pub VerdictKindIgnoresTrim : (Held → Held) → Type 0
VerdictKindIgnoresTrim t =
    (v w : Held) (me : Point) (a b : Verdict) → Settled v → AllPrecede w.history v.history → IsVerdict v me w.root a → IsVerdict (t v) me (t w).root b
    → SameVerdictKind a b

-- and to freedom of the same kind
abbrev pub FreedomKindIgnoresTrim : (Held → Held) → Type 0
FreedomKindIgnoresTrim t = (v : Held) (me : Point) (a b : Freedom) → Settled v → IsFreedom v me a → IsFreedom (t v) me b → SameFreedomKind a b

-- the point that a verdict names is a Fallen one of the known past that decides it
abbrev pub NamesFallen : Held → Point → Points → Verdict → Type 0
NamesFallen facts me roots Take = Unit {0}
NamesFallen facts me roots (Drop p) = FallenIn facts roots p
NamesFallen facts me roots (Fall p) = FallenIn facts (only me) p

-- the point that Bound names is one of the known past that isn't firm
abbrev pub NamesNotFirm : Held → Point → Freedom → Type 0
NamesNotFirm facts me Free = Unit {0}
NamesNotFirm facts me (Bound p) = NotFirmIn facts (only me) p

-- what a verdict on trimmed views names is Fallen in the known past by the whole views too
abbrev pub VerdictPointStays : (Held → Held) → Type 0
VerdictPointStays t = (v w : Held) (me : Point) (a : Verdict) → IsVerdict (t v) me (t w).root a → NamesFallen v me w.root a

-- and what freedom on a trimmed view names isn't firm in it
abbrev pub FreedomPointStays : (Held → Held) → Type 0
FreedomPointStays t = (v : Held) (me : Point) (a : Freedom) → IsFreedom (t v) me a → NamesNotFirm v me a
