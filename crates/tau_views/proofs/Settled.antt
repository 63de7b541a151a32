-- Where the rules are kept, the view of a closed set is settled.
use Rattle.std.proofs.Common.{◌≡◌, inl, inr, ⊎_elim, ℕ, IsTrue, Option, refl, sym, ◌∙◌, subst}
use Rattle.tau_history.specs.declared.fate.Fate.TheVariants.{Ahead, Closed}
use Rattle.tau_points.specs.declared.point.Point.{Point}
use Rattle.tau_points.specs.Reach.{start, next}
use Rattle.tau_view.specs.Held.{Held, fate_in, is_firm, only}
use Rattle.tau_view.specs.Past.{Settled}
use Rattle.tau_trace.specs.Run.{Run}
use Rattle.tau_trace.specs.Points.{point_at, IsOpeningPoint}
use Rattle.tau_trace.specs.Known.{WellFormed}
use Rattle.tau_past.specs.Pasts.{Is, Past, StabilizedIn, FirmIn}
use Rattle.tau_past.specs.Safety.{KeepsRules}
use Rattle.tau_past.specs.KnownLaws.{FixesPast}
use Rattle.tau_past.specs.Heard.{Heard}
use Rattle.tau_past.proofs.FixedLemmas.{fixes_past}
use Rattle.tau_past.proofs.HeardLemmas.{absorbs}
use Rattle.tau_past.proofs.Safety.{no_link, known_in_past}
use Rattle.tau_views.proofs.Fates.{IsViewOfClosed, ClosedIn, closes_acts, closed_known, known_firm}
use Rattle.tau_views.proofs.Pasts.{SamePast, same_past}
use Rattle.tau_views.proofs.Decisions.{one_point, only_reached}

-- nothing but itself is in the past of a start's opening point
alone : (T : Run) (p q : Point) → IsOpeningPoint T p → Past T p q → q ≡ p
alone T p q o (start e) = e
alone T p q o (next {x = y} r l) = absurd (no_link T y q (subst (IsOpeningPoint T) (sym (alone T p y o r)) o) l)

module _ {T : Run} {H : ℕ → Type 0} {owner : Option ℕ} {roots : Point → Type 0} {x : Held} (known : IsViewOfClosed T H owner roots x) (w : WellFormed T) (rules : KeepsRules T) where
  -- what a Checkpoint in H fixed is known firm in H
  fixed_firm : (p q : Point) → ClosedIn T H p → Past T p q → FirmIn T H q
  fixed_firm p q c past = record {
    not_fallen = λ f. fixes.kept q at_point (record { place = f.place; held = tt; falls = f.falls; at_point = f.at_point });
    settled = ⊎_elim (λ s. inl (within s)) (λ o. inr o) (fixes.settled q at_point);
  } where
    fixes : FixesPast T p.who c.place
    fixes = fixes_past T p.who c.place w rules c.closes

    at_point : Past T (point_at T p.who c.place) q
    at_point = subst (λ y. Past T y q) c.at_point past

    within : StabilizedIn T (Heard T p.who c.place) q → StabilizedIn T H q
    within s = record {
      place = s.place;
      held = absorbs T H c.place p.who known.closed c.held (closes_acts T p.who c.place c.closes) s.place s.held;
      stabilizes = s.stabilizes;
      at_point = s.at_point;
    }

  pub settled : Settled x
  settled p q closed past = ⊎_elim
      (λ o. subst (λ y. IsTrue (is_firm (fate_in x.history y))) (sym (alone T p q o whole)) (subst (λ f. IsTrue (is_firm f)) (sym closed) refl))
      (λ c. known_firm known q (here.reached past) (fixed_firm p q c whole))
      (closed_known known p closed) where
        here : SamePast known (only p) (Is p) q
        here = same_past known (only p) (Is p) (one_point p) (only_reached x p (λ a. let both : Closed ≡ Ahead = sym closed ∙ a in cc)) q

        whole : Past T p q
        whole = known_in_past T H p q (here.forth past)
