-- States and saved states are the same in runs that agree, and so is what a record says.
use Rattle.std.proofs.Common.{◌≡◌, ℕ, zero, suc, ◌<◌, ◌≤◌, List, length, sym, ap, ◌∙◌, subst, arith}
use Rattle.std.proofs.lemmas.Option.{slice_get_within}
use Rattle.tau_value.specs.declared.shared.Value.{Value}
use Rattle.tau_history.specs.Timeline.{Timeline, interval}
use Rattle.tau_points.specs.declared.point.Point.{Point}
use Rattle.tau_trace.specs.Run.{Run, Agree, len}
use Rattle.tau_trace.specs.Numbering.{IsNew}
use Rattle.tau_trace.specs.Points.{point_at}
use Rattle.tau_trace.proofs.Agreement.{agree_below, born-same, history-same, does-same, same_at}
use Rattle.tau_past.specs.Carried.{is_set}
use Rattle.tau_past.specs.States.{NoSet, StateAt, SavedWith, by_set, by_new, by_save, at_opening, at_checkpoint}
use Rattle.tau_states.specs.declared.state_record.StateRecord.{StateRecord}
use Rattle.tau_states.specs.Table.{IsBase, Describes}

abbrev point_of : ℕ → Timeline → Point
point_of t h = record { who = t; interval = interval h; incarnation = h.last }

pub point_same : (T U : Run) (t k : ℕ) → Agree T U k → point_at T t k ≡ point_at U t k
point_same T U t k a = ap (point_of t) (history-same t k a)

no_set_same : (T U : Run) (q : Point) (a k : ℕ) → Agree T U k → NoSet T q a k → NoSet U q a k
no_set_same T U q a k agree none j l b d e =
    none j l b (does-same is_set q.who j (sym (agree.steps j b)) d) (e ∙ sym (point_same T U q.who j (agree_below j (omega arith) agree)))

new_same : (T U : Run) (j by u k : ℕ) (v : Value) → Agree T U k → j < k → (birth : IsNew T j by u) → birth.state ≡ v → (other : IsNew U j by u) × (other.state ≡ v)
new_same T U j by u k v agree l birth is = (
  record {
    behaviour = birth.behaviour;
    node = birth.node;
    state = birth.state;
    stands = sym (agree.steps j l) ∙ birth.stands;
    made = birth.made ∙ born-same j (agree_below j (omega arith) agree);
  },
  is,
)

-- in a run that has all steps of the first
module _ (T U : Run) (opening : List Value) (agree : Agree T U (len T)) where
  mutual
    pub state_same : (q : Point) (k : ℕ) (v : Value) → k ≤ len T → StateAt T opening q k v → StateAt U opening q k v
    state_same q k v l (by_set {j = j} e at b none) = by_set {j = j}
        (sym (agree.steps j (omega arith)) ∙ e)
        (at ∙ point_same T U q.who j (agree_below j (omega arith) agree))
        b
        (no_set_same T U q (suc j) k (agree_below k l agree) none)
    state_same q k v l (by_new {j = j} {by = by} birth is first none) =
        let other = new_same T U j by q.who (len T) v agree (slice_get_within T.steps j _ birth.stands) birth is in
        by_new {j = j} {by = by} other.0 other.1 first (no_set_same T U q 0 k (agree_below k l agree) none)
    state_same q k v l (by_save {i = i} is saved none) = by_save {i = i} is (saved_same q.who i v saved) (no_set_same T U q 0 k (agree_below k l agree) none)

    pub saved_same : (t i : ℕ) (v : Value) → SavedWith T opening t i v → SavedWith U opening t i v
    saved_same t i v (at_opening l z e) = at_opening (omega (arith, l, ap (λ o. length o.names) agree.opening)) z e
    saved_same t i v (at_checkpoint {j = j} c is state) =
        let below = slice_get_within T.steps j _ c in
        let same = point_same T U t j (agree_below j (omega arith) agree) in
        at_checkpoint {j = j}
        (sym (agree.steps j below) ∙ c)
        (ap (λ p. p.interval) (sym same) ∙ is)
        (let P : Point → Type 0 = λ p. StateAt U opening p j v in subst P same (state_same (point_at T t j) j v (omega (arith, below)) state))

  base_same : (t i : ℕ) (v : Value) → IsBase T opening t i v → IsBase U opening t i v
  base_same t zero v g =
      let other = new_same T U g.place g.by t (len T) v agree (slice_get_within T.steps g.place _ g.birth.stands) g.birth g.is in
      record { place = g.place; by = g.by; birth = other.0; is = other.1 }
  base_same t (suc i) v s = saved_same t i v s

  pub describes_same : (t : ℕ) (r : StateRecord) → Describes T opening t (len T) r → Describes U opening t (len T) r
  describes_same t r h =
      let same = same_at T U (len T) agree in
      record {
        interval = h.interval ∙ ap interval (same.history_is t);
        stable = h.stable ∙ ap (λ x. x.stable) (same.history_is t);
        ended = (λ e. (same.ended t).0 (h.ended.0 e), λ e. h.ended.1 ((same.ended t).1 e));
        state = let P : Point → Type 0 = λ p. StateAt U opening p (len T) r.state in subst P (point_same T U t (len T) agree) (state_same (point_at T t (len T)) (len T) r.state (omega arith) h.state);
        base = base_same t r.interval r.base h.base;
      }
