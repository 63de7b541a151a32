-- A transactor has one state at a point, and saved one value with an interval.
use Rattle.std.proofs.Common.{◌≡◌, ◌⊎◌, inl, inr, ⊎_elim, ℕ, suc, ◌<◌, ◌≤◌, Bool, cond, List, [], ◌∷◌, length-append, lt-ltb, Some, refl, sym, ap, ◌∙◌, subst, arith}
use Rattle.std.proofs.lemmas.Bool.{cases_order}
use Rattle.tau_value.specs.declared.shared.Value.{Value}
use Rattle.tau_history.specs.Timeline.{interval, close, moved}
use Rattle.tau_points.specs.declared.point.Point.{Point}
use Rattle.tau_trace.specs.declared.step.Step.TheVariants.{Set, New}
use Rattle.tau_trace.specs.Run.{Run, step_at, starts, Does}
use Rattle.tau_trace.specs.Histories.{history, Closes}
use Rattle.tau_trace.specs.Points.{point_at, IsUpTo}
use Rattle.tau_trace.proofs.Counted.{history-suc, closes_move, counted}
use Rattle.tau_trace.proofs.PointLemmas.{points_grow}
use Rattle.tau_trace.proofs.Lists.{same_some}
use Rattle.tau_trace.proofs.Once.{new_once}
use Rattle.tau_past.specs.Carried.{is_set}
use Rattle.tau_past.specs.States.{StateAt, SavedWith, by_set, by_new, by_save, at_opening, at_checkpoint}

-- the Set at place j, as a step of t
the_set : (T : Run) (t j : ℕ) (v : Value) → step_at T j ≡ Some (Set t v) → Does is_set T t j
the_set T t j v e = record { step = Set t v; stands = e; by = refl; passes = refl }

same_value : (t u : ℕ) (v w : Value) → Set t v ≡ Set u w → v ≡ w
same_value t u v w e = cc

same_gift : (a b c d x y : ℕ) (v w : Value) → New x a b v ≡ New y c d w → v ≡ w
same_gift a b c d x y v w e = cc

up_to_interval : (p q : Point) → IsUpTo p q → p.interval ≤ q.interval
up_to_interval p q (inl l) = omega arith
up_to_interval p q (inr e) = omega arith

-- a Checkpoint ends its interval
closes_later : (T : Run) (t j : ℕ) → Closes T t j → (point_at T t j).interval < (point_at T t (suc j)).interval
closes_later T t j c =
    let next : history T t (suc j) ≡ moved close (history T t j) = history-suc T t j ∙ ap (λ m. moved m (history T t j)) (closes_move T t j c) in
    omega (arith, ap interval next, length-append (history T t j).closed ((history T t j).last ∷ []))

abbrev one_if : Bool → ℕ
one_if b = cond b 1 0

-- a start is never at interval 0
start_above : (T : Run) (t j i : ℕ) → t < starts T → i ≡ 0 → ¬ ((point_at T t j).interval ≡ i)
start_above T t j i l z e = omega (arith, (counted T t j).interval_is, ap one_if (lt-ltb t (starts T) l))

-- one Checkpoint ends an interval
close_once : (T : Run) (t j l : ℕ) → Closes T t j → Closes T t l → (point_at T t j).interval ≡ (point_at T t l).interval → j ≡ l
close_once T t j l c d e = ⊎_elim (λ x. x) (λ r. ⊎_elim (λ b. absurd (not_after j l c b e)) (λ b. absurd (not_after l j d b (sym e))) r) (cases_order j l) where
  not_after : (a b : ℕ) → Closes T t a → a < b → ¬ ((point_at T t a).interval ≡ (point_at T t b).interval)
  not_after a b c lt e = omega (arith, closes_later T t a c, up_to_interval (point_at T t (suc a)) (point_at T t b) ((points_grow T t b).grows (suc a) lt))

mutual
  pub state_once : (T : Run) (opening : List Value) (q : Point) (k : ℕ) (v w : Value) → StateAt T opening q k v → StateAt T opening q k w → v ≡ w
  state_once T opening q k v w (by_set {j = i} e at b none) (by_set {j = j} f to c nor) = ⊎_elim
      (λ (s : i ≡ j). same_value q.who q.who v w (same_some (sym e ∙ ap (step_at T) s ∙ f)))
      (λ r. ⊎_elim
      (λ l. absurd (none j l c (the_set T q.who j w f) to))
      (λ l. absurd (nor i l b (the_set T q.who i v e) at))
      r)
      (cases_order i j)
  state_once T opening q k v w (by_set {j = i} e at b none) (by_new birth is first nor) = absurd (nor i (omega arith) b (the_set T q.who i v e) at)
  state_once T opening q k v w (by_set {j = i} e at b none) (by_save is saved nor) = absurd (nor i (omega arith) b (the_set T q.who i v e) at)
  state_once T opening q k v w (by_new birth is first none) (by_set {j = j} f to c nor) = absurd (none j (omega arith) c (the_set T q.who j w f) to)
  state_once T opening q k v w (by_save is saved none) (by_set {j = j} f to c nor) = absurd (none j (omega arith) c (the_set T q.who j w f) to)
  state_once T opening q k v w (by_new {j = i} {by = x} birth is first none) (by_new {j = j} {by = y} other so again nor) =
      let same = new_once T i j x y q.who birth other in
      sym is ∙ same_gift birth.behaviour birth.node other.behaviour other.node x y birth.state other.state (same_some (sym birth.stands ∙ ap (step_at T) same ∙ other.stands)) ∙ so
  state_once T opening q k v w (by_new birth is first none) (by_save so saved nor) = absurd (omega arith)
  state_once T opening q k v w (by_save so saved none) (by_new birth is first nor) = absurd (omega arith)
  state_once T opening q k v w (by_save {i = i} is saved none) (by_save {i = j} so other nor) =
      let same : j ≡ i = omega arith in
      let P : ℕ → Type 0 = λ n. SavedWith T opening q.who n w in
      saved_once T opening q.who i v w saved (subst P same other)

  pub saved_once : (T : Run) (opening : List Value) (t i : ℕ) (v w : Value) → SavedWith T opening t i v → SavedWith T opening t i w → v ≡ w
  saved_once T opening t i v w (at_opening l z e) (at_opening m y f) = same_some (sym e ∙ f)
  saved_once T opening t i v w (at_opening l z e) (at_checkpoint {j = j} c is s) = absurd (start_above T t j i l z is)
  saved_once T opening t i v w (at_checkpoint {j = j} c is s) (at_opening l z e) = absurd (start_above T t j i l z is)
  saved_once T opening t i v w (at_checkpoint {j = j} c is s) (at_checkpoint {j = l} d so other) =
      let same : l ≡ j = close_once T t l j d c (so ∙ sym is) in
      let P : ℕ → Type 0 = λ n. StateAt T opening (point_at T t n) n w in
      state_once T opening (point_at T t j) j v w s (subst P same other)
