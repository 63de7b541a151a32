-- Laws of every type of view.
use Rattle.std.specs.Prelude.{◌≡◌, ℕ, ◌↔◌, ◌⊎◌, IsTrue, Option, Some, None}
use Rattle.tau_history.specs.Timeline.{Timeline}
use Rattle.tau_history.specs.Order.{Precedes, AreComparable}
use Rattle.tau_history.specs.declared.fate.Fate.{Fate}
use Rattle.tau_history.specs.declared.fate.Fate.TheVariants.{Closed}
use Rattle.tau_points.specs.declared.point.Point.{Point}
use Rattle.tau_view.specs.Held.{Held, Histories, Points, fate_in, AllPrecede, AllComparable}
use Rattle.tau_view.specs.Rules.{noted, touched, depended, merged, with_roots, with_no_roots}
use Rattle.tau_view.specs.Trim.{EdgeTest, RootTest, trim}
use Rattle.tau_view.specs.Past.{SomeFallen, SomeNotFirm, Settled}

-- the history that is noted is the first of its transactor, or the one there precedes it
abbrev pub MayNote : ℕ → Timeline → Histories → Type 0
MayNote who h hs = (k : Timeline) → hs who ≡ Some k → Precedes k h

-- what the rules give, trimmed, is the same whether the views that a call is given were trimmed before or not
abbrev pub NoteIgnoresTrim : (Held → Held) → Type 0
NoteIgnoresTrim t = (u : ℕ) (h : Timeline) (v : Held) → MayNote u h v.history → t (noted u h (t v)) ≡ t (noted u h v)

abbrev pub TouchIgnoresTrim : (Held → Held) → Type 0
TouchIgnoresTrim t = (p : Point) (v : Held) → t (touched p (t v)) ≡ t (touched p v)

abbrev pub DependIgnoresTrim : (Held → Held) → Type 0
DependIgnoresTrim t = (p : Point) (v : Held) → t (depended p (t v)) ≡ t (depended p v)

abbrev pub MergeIgnoresTrim : (Held → Held) → Type 0
MergeIgnoresTrim t = (v w : Held) → AllComparable v.history w.history → t (merged (t v) (t w)) ≡ t (merged v w)

abbrev pub TakingRootsIgnoresTrim : (Held → Held) → Type 0
TakingRootsIgnoresTrim t = (v w : Held) → AllPrecede w.history v.history → t (with_roots (t w).root (t v)) ≡ t (with_roots w.root v)

abbrev pub ClearingRootsIgnoresTrim : (Held → Held) → Type 0
ClearingRootsIgnoresTrim t = (v : Held) → t (with_no_roots (t v)) ≡ t (with_no_roots v)

-- the second set is the first without some of its Closed points, or none
pub record LosesClosed (hs : Histories) (P Q : Points) : Type 0 where
  pub within : (q : Point) → IsTrue (Q q) → IsTrue (P q)
  pub lost : (q : Point) → IsTrue (P q) → IsTrue (Q q) ⊎ (fate_in hs q ≡ Closed)

-- on settled facts, trimmed edges and a set without some of its Closed points tell the same of the known past
abbrev pub FallenIgnoresTrim : (Held → Held) → Type 0
FallenIgnoresTrim t = (v : Held) (P Q : Points) → Settled v → LosesClosed v.history P Q → SomeFallen (t v) Q ↔ SomeFallen v P

abbrev pub NotFirmIgnoresTrim : (Held → Held) → Type 0
NotFirmIgnoresTrim t = (v : Held) (P Q : Points) → Settled v → LosesClosed v.history P Q → SomeNotFirm (t v) Q ↔ SomeNotFirm v P

-- settled facts stay settled
abbrev pub SettledUnderTrim : (Held → Held) → Type 0
SettledUnderTrim t = (v : Held) → Settled v → Settled (t v)
