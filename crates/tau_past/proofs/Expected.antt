-- What a reader expects of the definitions.
use Rattle.std.proofs.Common.{◌≡◌, ℕ, ◌<◌, length, arith, refl, subst}
use Rattle.tau_points.specs.declared.point.Point.{Point}
use Rattle.tau_points.proofs.Reach.{least}
use Rattle.tau_trace.specs.Run.{Run, starts}
use Rattle.tau_trace.specs.Numbering.{born}
use Rattle.tau_trace.specs.Histories.{Falls}
use Rattle.tau_trace.specs.Points.{IsOpeningPoint}
use Rattle.tau_trace.specs.Known.{WellFormed}
use Rattle.tau_trace.proofs.Once.{posts_have_no_origin}
use Rattle.tau_past.specs.Carried.{SentWith}
use Rattle.tau_past.specs.Heard.{Heard}
use Rattle.tau_past.specs.Pasts.{Past, Link, Is, Everywhere}
use Rattle.tau_past.specs.Decisions.{Judgement, takes, Verdict, fall, drop, take}
use Rattle.tau_past.proofs.Known.{heard_before}
use Rattle.tau_past.proofs.Safety.{no_link}

pub nothing_at_first : (T : Run) (t j : ℕ) → WellFormed T → t < starts T → ¬ Heard T t 0 j
nothing_at_first T t j w lt h = absurd (omega (arith, heard_before T t 0 j w there h)) where
  there : t < born T 0
  there = search arith

pub posts_carry_nothing : (T : Run) (m : ℕ) (q : Point) → m < length T.opening.targets → ¬ SentWith T m q
posts_carry_nothing T m q lt c = posts_have_no_origin T c.place c.by m lt c.origin

pub stands_alone : (T : Run) (p q : Point) → IsOpeningPoint T p → Past T p q → q ≡ p
stands_alone T p q o = least (Link T Everywhere) (Is p) (Is p) (record { starts = λ x e. e; follows = λ x y e l. absurd (no_link T p y o (subst_link x y e l)) }) q where
  subst_link : (x y : Point) → x ≡ p → Link T Everywhere x y → Link T Everywhere p y
  subst_link x y e l = subst (λ z. Link T Everywhere z y) e l

pub all_is_taken : (T : Run) (t k m : ℕ) (j : Judgement) → ((u l : ℕ) → ¬ Falls T u l) → Verdict T t k m j → j ≡ takes
all_is_taken T t k m j none (fall f) = absurd (none f.cause.who f.fallen.place f.fallen.falls)
all_is_taken T t k m j none (drop n d) = absurd (none d.cause.who d.fallen.place d.fallen.falls)
all_is_taken T t k m j none (take n d) = refl
