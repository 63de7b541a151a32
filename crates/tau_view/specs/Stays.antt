-- What is true of a point by trimmed facts, and by all of them.
use Rattle.std.specs.Prelude.{IsTrue}
use Rattle.tau_points.specs.declared.point.Point.{Point}
use Rattle.tau_view.specs.Held.{Held, Points}
use Rattle.tau_view.specs.Past.{FallenIn, NotFirmIn}

-- each point of the first set is in the second
abbrev pub IsPartOf : Points → Points → Type 0
IsPartOf Q P = (q : Point) → IsTrue (Q q) → IsTrue (P q)

-- a Fallen point of the known past, by trimmed facts, of a part of a set is one by all the facts of the set
abbrev pub FallenPointsStay : (Held → Held) → Type 0
FallenPointsStay t = (v : Held) (P Q : Points) (q : Point) → IsPartOf Q P → FallenIn (t v) Q q → FallenIn v P q

-- and so is one that isn't firm
abbrev pub NotFirmPointsStay : (Held → Held) → Type 0
NotFirmPointsStay t = (v : Held) (P Q : Points) (q : Point) → IsPartOf Q P → NotFirmIn (t v) Q q → NotFirmIn v P q
