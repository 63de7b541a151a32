-- Fates at a bound are what is known.
use Rattle.std.proofs.Common.{◌≡◌, ◌⊎◌, inl, inr, ⊎_elim, ℕ, Some, refl, ap, ◌∙◌}
use Rattle.tau_history.specs.Timeline.{fall}
use Rattle.tau_history.specs.declared.fate.Fate.TheVariants.{Stable, Closed, Fallen}
use Rattle.tau_history.proofs.Table.{has_row, fate_by_row}
use Rattle.tau_points.specs.declared.point.Point.{Point}
use Rattle.tau_trace.specs.declared.step.Step.TheVariants.{Stabilize, Checkpoint}
use Rattle.tau_trace.specs.Run.{Run, ActsAt, step_at}
use Rattle.tau_trace.specs.Histories.{history, Falls, Closes}
use Rattle.tau_trace.specs.Points.{point_at, Stabilizes, MadeAt, IsOpeningPoint}
use Rattle.tau_trace.proofs.Moves.{own_move}
use Rattle.tau_trace.proofs.PointLemmas.{fates_are_steps}
use Rattle.tau_trace.proofs.Quiet.{acts}
use Rattle.tau_past.specs.Heard.{Bound}
use Rattle.tau_past.specs.Pasts.{FellIn, StabilizedIn, ClosesAt, checkpoint, opening}
use Rattle.tau_versions.specs.Logs.Takes.{ClosedIn}
use Rattle.tau_versions.specs.Logs.Known.{TellsKnown, FatesAtBoundsTellTheKnown}

falls_act : (T : Run) (t j : ℕ) → Falls T t j → ActsAt T t j
falls_act T t j e =
    let own = own_move t (history T t j).stable (step_at T j) fall (λ f. cc) e in acts T t j own.step own.stands own.by

module _ (H : ℕ → Type 0) (T : Run) (q : Point) (a : ℕ) (b : Bound T H q.who a) where
  fell : MadeAt (Falls T q.who) T q a → FellIn T H q
  fell m = record { place = m.place; held = (b.steps m.place (falls_act T q.who m.place m.holds)).1 m.before; falls = m.holds; at_point = m.at_point }

  fell_back : FellIn T H q → MadeAt (Falls T q.who) T q a
  fell_back f = record { place = f.place; before = (b.steps f.place (falls_act T q.who f.place f.falls)).0 f.held; holds = f.falls; at_point = f.at_point }

  closes : IsOpeningPoint T q ⊎ MadeAt (Closes T q.who) T q a → ClosedIn T H q
  closes s = ⊎_elim (λ o. opening refl o.interval_is o) (λ m. checkpoint ((b.steps m.place (acts T q.who m.place (Checkpoint q.who) m.holds refl)).1 m.before) m.holds m.at_point refl) s

  closes_back : (t i : ℕ) → t ≡ q.who → ClosesAt T H t i q → IsOpeningPoint T q ⊎ MadeAt (Closes T q.who) T q a
  closes_back t i same (opening e f o) = inl o
  closes_back t i same (checkpoint {j = j} h c e f) =
      let own : Closes T q.who j = c ∙ ap (λ u. Some (Checkpoint u)) same in
      inr (record { place = j; before = (b.steps j (acts T q.who j (Checkpoint q.who) own refl)).0 h; holds = own; at_point = e ∙ ap (λ u. point_at T u j) same })

  stabilized : MadeAt (Stabilizes T q.who) T q a → StabilizedIn T H q
  stabilized m = record { place = m.place; held = (b.steps m.place (acts T q.who m.place (Stabilize q.who) m.holds refl)).1 m.before; stabilizes = m.holds; at_point = m.at_point }

  tells_known : TellsKnown T H q a
  tells_known =
      let h = history T q.who a in
      let steps = fates_are_steps T q a in record {
        fallen = (λ e. fell (steps.fallen.0 (has_row h q.interval q.incarnation Fallen e)), λ f. fate_by_row h q.interval q.incarnation Fallen (steps.fallen.1 (fell_back f)));
        closed = (λ e. closes (steps.closed.0 (has_row h q.interval q.incarnation Closed e)), λ c. fate_by_row h q.interval q.incarnation Closed (steps.closed.1 (closes_back q.who q.interval refl c)));
        stable = λ e. stabilized (steps.stable (has_row h q.interval q.incarnation Stable e));
      }

pub fates_at_bounds_tell_the_known : (H : ℕ → Type 0) → FatesAtBoundsTellTheKnown H
fates_at_bounds_tell_the_known H T q a b = tells_known H T q a b
