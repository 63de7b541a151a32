-- Fallen and firm points of known pasts, on the view of a closed set and in the set.
use Rattle.std.proofs.Common.{◌≢◌, ◌↔◌, ℕ, Bool, true, false, IsTrue, Option, refl, sym, subst}
use Rattle.std.specs.Prelude.{IsFalse}
use Rattle.tau_history.specs.declared.fate.Fate.TheVariants.{Ahead}
use Rattle.tau_points.specs.declared.point.Point.{Point}
use Rattle.tau_view.specs.Held.{Held, Points, fate_in, is_firm, only}
use Rattle.tau_view.specs.Past.{SomeFallen, SomeNotFirm}
use Rattle.tau_view.proofs.Sets.{is_same, same_of}
use Rattle.tau_trace.specs.Run.{Run}
use Rattle.tau_trace.specs.Known.{WellFormed}
use Rattle.tau_past.specs.Pasts.{PastIn, Is, FirmIn}
use Rattle.tau_past.specs.Decisions.{HasFallen}
use Rattle.tau_past.specs.Safety.{KeepsRules}
use Rattle.tau_views.proofs.Fates.{IsViewOfClosed, fallen_known, known_fallen, firm_known, known_firm}
use Rattle.tau_views.proofs.Pasts.{same_past}

-- the set of one point, as a view and as the trace has it
pub one_point : (p q : Point) → IsTrue (only p q) ↔ Is p q
one_point p q = (is_same q p, same_of q p)

-- a point of one point's set is that point
pub only_reached : (x : Held) (p : Point) → fate_in x.history p ≢ Ahead → (q : Point) → Is p q → fate_in x.history q ≢ Ahead
only_reached x p n q e = subst (λ y. fate_in x.history y ≢ Ahead) (sym e) n

firm_or_not : (b : Bool) → (IsFalse b → ⊥) → IsTrue b
firm_or_not true n = refl
firm_or_not false n = absurd (n refl)

module _ {T : Run} {H : ℕ → Type 0} {owner : Option ℕ} {roots : Point → Type 0} {x : Held} (known : IsViewOfClosed T H owner roots x) where
  -- the known past of some points holds a Fallen point on the view exactly where it holds one in H
  pub some_fallen : (from : Points) (P : Point → Type 0) → ((q : Point) → IsTrue (from q) ↔ P q) → ((q : Point) → P q → fate_in x.history q ≢ Ahead) → SomeFallen x from ↔ HasFallen T H P
  some_fallen from P same reached = (
    λ s. record { cause = s.0; in_past = (same_past known from P same reached s.0).forth s.1.in_past; fallen = fallen_known known s.0 s.1.is_fallen },
    λ h. (h.cause, record { in_past = (same_past known from P same reached h.cause).back h.in_past; is_fallen = known_fallen known h.cause h.fallen }),
  )

  -- and holds none that isn't firm exactly where each of its points is known firm in H
  pub all_firm : WellFormed T → KeepsRules T → (from : Points) (P : Point → Type 0) → ((q : Point) → IsTrue (from q) ↔ P q) → ((q : Point) → P q → fate_in x.history q ≢ Ahead)
      → (¬ SomeNotFirm x from) ↔ ((q : Point) → PastIn T H P q → FirmIn T H q)
  all_firm w rules from P same reached = (forth, back) where
    forth : (¬ SomeNotFirm x from) → (q : Point) → PastIn T H P q → FirmIn T H q
    forth none q p =
        firm_known known w rules q (firm_or_not (is_firm (fate_in x.history q)) (λ n. none (q, record { in_past = (same_past known from P same reached q).back p; not_firm = n })))

    back : ((q : Point) → PastIn T H P q → FirmIn T H q) → ¬ SomeNotFirm x from
    back all s =
        let past = same_past known from P same reached s.0 in
        let firm = known_firm known s.0 (past.reached s.1.in_past) (all s.0 (past.forth s.1.in_past)) in
        let not = s.1.not_firm in
        cc
