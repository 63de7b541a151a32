-- What a record says of its transactor, one place further.
use Rattle.std.proofs.Common.{◌≡◌, ◌↔◌, inl, inr, ⊎_elim, ℕ, suc, ◌<◌, IsTrue, Bool, true, false, List, [], ◌∷◌, length-append, Some, refl, sym, ap, ◌∙◌, subst, arith, eqb-true, eq-eqb}
use Rattle.std.specs.Prelude.{◌||◌, ◌==◌}
use Rattle.tau_value.specs.declared.shared.Value.{Value}
use Rattle.tau_history.specs.Timeline.{Timeline, interval, Move, keep, stabilize, close, fall, moved}
use Rattle.tau_points.specs.declared.point.Point.{Point}
use Rattle.tau_trace.specs.declared.step.Step.{Step}
use Rattle.tau_trace.specs.declared.step.Step.TheVariants.{Set}
use Rattle.tau_trace.specs.Steps.{actor}
use Rattle.tau_trace.specs.Run.{Run, step_at, Does}
use Rattle.tau_trace.specs.Histories.{history, move_at, move_of, Falls, Closes, EndsAt, Ended}
use Rattle.tau_trace.specs.Points.{point_at}
use Rattle.tau_trace.proofs.Lists.{same_some}
use Rattle.tau_trace.proofs.Sequences.{cases_last}
use Rattle.tau_trace.proofs.Moves.{move_by-other}
use Rattle.tau_trace.proofs.Counted.{history-suc, move_at-own, move_closes}
use Rattle.tau_past.specs.Carried.{is_set}
use Rattle.tau_past.specs.States.{StateAt, SavedWith, by_set, at_checkpoint}
use Rattle.tau_states.specs.declared.state_record.StateRecord.{StateRecord}
use Rattle.tau_states.specs.Effects.{next_interval, record_closed, record_fallen, record_moved, record_after}
use Rattle.tau_states.specs.Table.{IsBase, Describes}
use Rattle.tau_states.proofs.Points.{new_point, state_on, at_base, set_by_none, set_by_other}

abbrev point_of : ℕ → Timeline → Point
point_of t h = record { who = t; interval = interval h; incarnation = h.last }

-- a step that makes t end, and no other, makes it ended at the next place
ended_on : (T : Run) (t k : ℕ) (b : Bool) → ¬ EndsAt T t k → (IsTrue b ↔ Ended T t k) → IsTrue b ↔ Ended T t (suc k)
ended_on T t k b not h = (
  λ e. let x = h.0 e in record { place = x.place; before = omega (arith, x.before); ends = x.ends },
  λ x. ⊎_elim
      (λ (e : x.place ≡ k). absurd (not (subst (EndsAt T t) e x.ends)))
      (λ l. h.1 (record { place = x.place; before = l; ends = x.ends }))
      (cases_last x.place k x.before),
)

ended_fall : (T : Run) (t k i : ℕ) (b : Bool) → Falls T t k → i ≡ interval (history T t k) → (IsTrue b ↔ Ended T t k) → IsTrue (b || (i == 0)) ↔ Ended T t (suc k)
ended_fall T t k i true f e h = (λ z. let x = h.0 refl in record { place = x.place; before = omega (arith, x.before); ends = x.ends }, λ x. refl)
ended_fall T t k i false f e h = (
  λ z. record { place = k; before = omega arith; ends = record { falls = f; at_opening = sym e ∙ eqb-true i 0 z } },
  λ x. ⊎_elim
      (λ (s : x.place ≡ k). let y = subst (EndsAt T t) s x.ends in eq-eqb i 0 (e ∙ y.at_opening))
      (λ l. absurd (let both = h.1 (record { place = x.place; before = l; ends = x.ends }) in cc))
      (cases_last x.place k x.before),
)

no_end : (T : Run) (t k : ℕ) (m : Move) → move_at T t k ≡ m → ¬ (m ≡ fall) → ¬ EndsAt T t k
no_end T t k m e not x = not (sym e ∙ x.falls)

next_is : (i : ℕ) → i < 2000000 → next_interval i ≡ suc i
next_is i l = omega arith

module _ (T : Run) (opening : List Value) (t k : ℕ) where
  -- the point stays, and no Set is made there
  state_stays : (v : Value) → history T t (suc k) ≡ history T t k → ¬ Does is_set T t k → StateAt T opening (point_at T t k) k v → StateAt T opening (point_at T t (suc k)) (suc k) v
  state_stays v same not s =
      let P : Point → Type 0 = λ p. StateAt T opening p (suc k) v in
      subst P (ap (point_of t) (sym same)) (state_on T opening (point_at T t k) k v (λ d e. not d) s)

  kept : (r : StateRecord) → move_at T t k ≡ keep → ¬ Does is_set T t k → Describes T opening t k r → Describes T opening t (suc k) r
  kept r move not h =
      let next : history T t (suc k) ≡ history T t k = history-suc T t k ∙ ap (λ m. moved m (history T t k)) move in
      record {
        interval = h.interval ∙ ap interval (sym next);
        stable = h.stable ∙ ap (λ a. a.stable) (sym next);
        ended = ended_on T t k r.ended (no_end T t k keep move (λ f. cc)) h.ended;
        state = state_stays r.state next not h.state;
        base = h.base;
      }

  stabilized : (r : StateRecord) → move_at T t k ≡ stabilize → ¬ Does is_set T t k → Describes T opening t k r → Describes T opening t (suc k) (record r { stable = true })
  stabilized r move not h =
      let next : history T t (suc k) ≡ moved stabilize (history T t k) = history-suc T t k ∙ ap (λ m. moved m (history T t k)) move in
      let P : Point → Type 0 = λ p. StateAt T opening p (suc k) r.state in
      record {
        interval = h.interval ∙ ap interval (sym next);
        stable = ap (λ a. a.stable) (sym next);
        ended = ended_on T t k r.ended (no_end T t k stabilize move (λ f. cc)) h.ended;
        state = subst P (ap (point_of t) (sym next)) (state_on T opening (point_at T t k) k r.state (λ d e. not d) h.state);
        base = h.base;
      }

  closed : (r : StateRecord) → interval (history T t k) < 2000000 → move_at T t k ≡ close → Describes T opening t k r → Describes T opening t (suc k) (record_closed r.state r)
  closed r few move h =
      let next : history T t (suc k) ≡ moved close (history T t k) = history-suc T t k ∙ ap (λ m. moved m (history T t k)) move in
      let here : Closes T t k = move_closes T t k move in
      let more : interval (history T t (suc k)) ≡ suc r.interval = omega (arith, h.interval, ap interval next, length-append (history T t k).closed ((history T t k).last ∷ [])) in
      let count : next_interval r.interval ≡ suc r.interval = next_is r.interval (omega (arith, few, h.interval)) in
      let saved : SavedWith T opening t r.interval r.state = at_checkpoint {j = k} here (sym h.interval) h.state in
      let P : ℕ → Type 0 = λ i. IsBase T opening t i r.state in
      record {
        interval = count ∙ sym more;
        stable = ap (λ a. a.stable) (sym next);
        ended = ended_on T t k r.ended (no_end T t k close move (λ f. cc)) h.ended;
        state = at_base T opening (point_at T t (suc k)) (suc k) (suc r.interval) r.state saved more (new_point T t k (inl here));
        base = subst P (sym count) saved;
      }

  fallen : (r : StateRecord) → Falls T t k → Describes T opening t k r → Describes T opening t (suc k) (record_fallen r.base r)
  fallen r move h =
      let next : history T t (suc k) ≡ moved fall (history T t k) = history-suc T t k ∙ ap (λ m. moved m (history T t k)) move in
      record {
        interval = h.interval ∙ ap interval (sym next);
        stable = ap (λ a. a.stable) (sym next);
        ended = ended_fall T t k r.interval r.ended move h.interval h.ended;
        state = at_base T opening (point_at T t (suc k)) (suc k) r.interval r.base h.base (ap interval next ∙ sym h.interval) (new_point T t k (inr move));
        base = h.base;
      }

  by_move : (r : StateRecord) (m : Move) → interval (history T t k) < 2000000 → move_at T t k ≡ m → ¬ Does is_set T t k → Describes T opening t k r → Describes T opening t (suc k) (record_moved m r)
  by_move r keep few e not h = kept r e not h
  by_move r stabilize few e not h = stabilized r e not h
  by_move r close few e not h = closed r few e h
  by_move r fall few e not h = fallen r e h

  given : (r : StateRecord) (v : Value) → step_at T k ≡ Some (Set t v) → Describes T opening t k r → Describes T opening t (suc k) (record r { state = v })
  given r v e h =
      let move : move_at T t k ≡ keep = move_at-own T t k (Set t v) e refl in
      let next : history T t (suc k) ≡ history T t k = history-suc T t k ∙ ap (λ m. moved m (history T t k)) move in
      record {
        interval = h.interval ∙ ap interval (sym next);
        stable = h.stable ∙ ap (λ a. a.stable) (sym next);
        ended = ended_on T t k r.ended (no_end T t k keep move (λ f. cc)) h.ended;
        state = by_set {j = k} e (ap (point_of t) next) (omega arith) (λ j l b. absurd (omega arith));
        base = h.base;
      }

  -- after a step that is no Set
  own_move : (r : StateRecord) (s : Step) → interval (history T t k) < 2000000 → step_at T k ≡ Some s → actor s ≡ Some t → is_set s ≡ false → Describes T opening t k r → Describes T opening t (suc k) (record_moved (move_of r.stable s) r)
  own_move r s few e by not h =
      by_move r (move_of r.stable s) few (move_at-own T t k s e by ∙ ap (λ b. move_of b s) (sym h.stable)) (set_by_none T t k s e not) h

  -- after a step of its own
  pub describes_own : (r : StateRecord) (s : Step) → interval (history T t k) < 2000000 → step_at T k ≡ Some s → actor s ≡ Some t → Describes T opening t k r → Describes T opening t (suc k) (record_after s r)
  describes_own r (Set u v) few e by h = given r v (e ∙ ap (λ x. Some (Set x v)) (same_some by)) h
  describes_own r s few e by h = own_move r s few e by refl h

  -- after a step of another
  pub describes_other : (r : StateRecord) (s : Step) → step_at T k ≡ Some s → ¬ (actor s ≡ Some t) → Describes T opening t k r → Describes T opening t (suc k) r
  describes_other r s e other h =
      kept r (move_by-other t (history T t k).stable (step_at T k) (λ u f g. other (ap actor (same_some (sym e ∙ f)) ∙ g))) (set_by_other T t k s e other) h
