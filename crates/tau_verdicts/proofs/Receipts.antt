-- A receipt of which no point is doomed is a Take.
use Rattle.std.proofs.Common.{◌≡◌, inl, inr, ⊎_elim, ℕ, ◌<◌, Bool, List, Some, refl, sym, subst}
use Rattle.std.specs.Prelude.{slice_get, IsFalse}
use Rattle.tau_points.specs.declared.point.Point.{Point}
use Rattle.tau_trace.specs.Run.{Run, len}
use Rattle.tau_trace.specs.Numbering.{born, InFlight}
use Rattle.tau_trace.specs.Known.{WellFormed}
use Rattle.tau_trace.specs.Points.{point_at}
use Rattle.tau_past.specs.Carried.{SentWith}
use Rattle.tau_past.specs.Heard.{HeardBy, HeardTogether}
use Rattle.tau_past.specs.Decisions.{Verdict, takes, take}
use Rattle.tau_past.specs.Pasts.{Is}
use Rattle.tau_past.specs.Safety.{KeepsRules}
use Rattle.tau_past.proofs.Known.{heard_before, heard_by_before}
use Rattle.tau_heard.specs.declared.letter.Letter.{Letter}
use Rattle.tau_heard.specs.declared.hearing.Hearing.{Hearing}
use Rattle.tau_heard.specs.Hears.{Knows}
use Rattle.tau_verdicts.specs.Clean.{IsClean, GoesOn}
use Rattle.tau_verdicts.specs.Doomed.{AreNoted, AreDoomed}
use Rattle.tau_verdicts.specs.Noting.{IsWell, AreWell}
use Rattle.tau_verdicts.proofs.Cleanness.{none_fallen, closed_clean, covered_clean}
use Rattle.tau_verdicts.proofs.Doomed.{not_doomed_clean}
use Rattle.tau_verdicts.proofs.Telling.{closed_told, present_told}

-- a run goes on from itself
goes_on_itself : (T : Run) (n : ℕ) → WellFormed T → KeepsRules T → GoesOn T n T
goes_on_itself T n w rules = record { known = w; agree = record { opening = refl; steps = λ j lt. refl }; rules = rules }

module _ (T : Run) (h : Hearing) (knows : Knows h T) (w : WellFormed T) (rules : KeepsRules T) (D : ℕ → Bool) (K : ℕ → List Point) (noted : AreNoted T (len T) D K) where
  well_clean : (q : Point) → IsWell h.logs.items D q → IsClean T (len T) q
  well_clean q (inl e) = closed_clean T (len T) q w rules (closed_told T (len T) h.logs.items h.own.items h.letters.items h.falls knows w w.few_steps q e)
  well_clean q (inr y) =
      let here = present_told T (len T) h.logs.items h.own.items h.letters.items h.falls knows w w.few_steps q y.0 in
      subst (IsClean T (len T)) (sym here) (not_doomed_clean T (len T) D K noted w rules q.who y.1)

  -- what a message carries is clean where its roots are well
  sent_clean : (m : ℕ) (l : Letter) → InFlight T m (len T) → slice_get h.letters.items m ≡ Some (Some l) → AreWell h.logs.items D l.roots → (q : Point) → SentWith T m q → IsClean T (len T) q
  sent_clean m l flies e all q c =
      covered_clean T (len T) (HeardBy T m) l.roots (len T) q w rules (λ j k. heard_by_before T m (len T) j w flies.exists k) (λ r d. well_clean r (all r d)) ((knows.letter m l e).roots.covers q c)

  taken_at_once : (t m : ℕ) (l : Letter) → t < born T (len T) → InFlight T m (len T) → slice_get h.letters.items m ≡ Some (Some l) → IsFalse (D t) → AreWell h.logs.items D l.roots → Verdict T t (len T) m takes
  taken_at_once t m l exists flies e fine all = take
      (none_fallen T (HeardTogether T t (len T) m) (len T) (Is (point_at T t (len T))) below (λ q same. subst (IsClean T (len T)) (sym same) (not_doomed_clean T (len T) D K noted w rules t fine)))
      (none_fallen T (HeardTogether T t (len T) m) (len T) (SentWith T m) below (sent_clean m l flies e all)) where
        below : (j : ℕ) → HeardTogether T t (len T) m j → j < len T
        below j k = ⊎_elim (heard_before T t (len T) j w exists) (heard_by_before T m (len T) j w flies.exists) k

pub takes_at_once : (T : Run) (h : Hearing) → Knows h T → WellFormed T → (D : ℕ → Bool) (K : ℕ → List Point) → AreDoomed T (len T) D K → (t m : ℕ) (l : Letter) → t < born T (len T) → InFlight T m (len T)
    → slice_get h.letters.items m ≡ Some (Some l) → IsFalse (D t) → AreWell h.logs.items D l.roots → KeepsRules T → Verdict T t (len T) m takes
takes_at_once T h knows w D K are t m l exists flies e fine all rules = taken_at_once T h knows w rules D K (are T (goes_on_itself T (len T) w rules)) t m l exists flies e fine all
