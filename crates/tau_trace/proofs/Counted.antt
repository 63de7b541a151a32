-- Histories are what counting steps gives.
use Rattle.std.proofs.Common.{◌≡◌, ◌⊎◌, inl, inr, ⊎_elim, ℕ, zero, suc, ◌+◌, ◌<◌, ◌≤◌, Bool, true, false, cond, ltb, IsTrue, ◌↔◌, Option, Some, length, refl, sym, ap, ◌∙◌, subst, arith}
use Rattle.tau_history.specs.Timeline.{Timeline, interval, Move, keep, stabilize, close, fall, moved, opening, newborn}
use Rattle.tau_trace.specs.declared.step.Step.{Step}
use Rattle.tau_trace.specs.declared.step.Step.TheVariants.{Fall, Stabilize, Checkpoint, Rollback, Trap, Fail}
use Rattle.tau_trace.specs.Steps.{actor}
use Rattle.tau_trace.specs.Places.{count_below}
use Rattle.tau_trace.specs.Run.{Run, step_at, starts}
use Rattle.tau_trace.specs.Histories.{history, opened, move_at, move_of, move_by, Falls, Closes, IsFallingStep, by_fall, by_rollback, by_trap, by_fail, IsSinceCheckpoint, IsStabilized, IsCounted, is_close}
use Rattle.tau_trace.proofs.Moves as moves
use Rattle.tau_trace.proofs.Sequences.{Goes, interval_counted, falls_counted, stable_from, stable_by, LastStabilize, SinceClose}

pub history_goes : (T : Run) (t : ℕ) → Goes (history T t) (move_at T t)
unfolding history
history_goes T t = record { step = λ k. refl }

pub history-zero : (T : Run) (t : ℕ) → history T t zero ≡ opened T t
unfolding history
history-zero T t = refl

pub history-suc : (T : Run) (t k : ℕ) → history T t (suc k) ≡ moved (move_at T t k) (history T t k)
unfolding history
history-suc T t k = refl

opened-interval : (T : Run) (t : ℕ) → interval (opened T t) ≡ cond (ltb t (starts T)) 1 0
opened-interval T t = by (ltb t (starts T)) where
  by : (b : Bool) → interval (cond b opening newborn) ≡ cond b 1 0
  by true = refl
  by false = refl

pub opened-last : (T : Run) (t : ℕ) → (opened T t).last ≡ 0
opened-last T t = by (ltb t (starts T)) where
  by : (b : Bool) → (cond b opening newborn).last ≡ 0
  by true = refl
  by false = refl

pub opened-stable : (T : Run) (t : ℕ) → (opened T t).stable ≡ false
opened-stable T t = by (ltb t (starts T)) where
  by : (b : Bool) → (cond b opening newborn).stable ≡ false
  by true = refl
  by false = refl

-- a step that stands at k makes its own transactor's move
pub move_at-own : (T : Run) (t k : ℕ) (s : Step) → step_at T k ≡ Some s → actor s ≡ Some t → move_at T t k ≡ move_of (history T t k).stable s
move_at-own T t k s e by = moves.move_by-own t (history T t k).stable (step_at T k) s e by

pub closes_move : (T : Run) (t k : ℕ) → Closes T t k → move_at T t k ≡ close
closes_move T t k e = move_at-own T t k (Checkpoint t) e refl

pub move_closes : (T : Run) (t k : ℕ) → move_at T t k ≡ close → Closes T t k
move_closes T t k e = moves.closing t (history T t k).stable (step_at T k) e

pub stabilizes_move : (T : Run) (t k : ℕ) → step_at T k ≡ Some (Stabilize t) → move_at T t k ≡ stabilize
stabilizes_move T t k e = move_at-own T t k (Stabilize t) e refl

pub move_stabilizes : (T : Run) (t k : ℕ) → move_at T t k ≡ stabilize → step_at T k ≡ Some (Stabilize t)
move_stabilizes T t k e = moves.stabilizing t (history T t k).stable (step_at T k) e

pub falling_falls : (T : Run) (t k : ℕ) → IsFallingStep T t k → Falls T t k
falling_falls T t k (by_fall {m = m} e) = move_at-own T t k (Fall t m) e refl
falling_falls T t k (by_rollback e) = move_at-own T t k (Rollback t) e refl
falling_falls T t k (by_trap {c = c} e v) = move_at-own T t k (Trap t c) e refl ∙ ap (λ b. move_of b (Trap t c)) v
falling_falls T t k (by_fail e v) = move_at-own T t k (Fail t) e refl ∙ ap (λ b. move_of b (Fail t)) v

pub falls_falling : (T : Run) (t k : ℕ) → Falls T t k → IsFallingStep T t k
falls_falling T t k e =
    let own = moves.own_move t (history T t k).stable (step_at T k) fall (λ f. cc) e in
    by own.step own.stands (moves.fall_case t (history T t k).stable own.step own.by own.moves) where
      by : (s : Step) → step_at T k ≡ Some s → moves.FallCase t (history T t k).stable s → IsFallingStep T t k
      by s is (moves.by_fall {m = m} f) = by_fall {m = m} (is ∙ ap Some f)
      by s is (moves.by_rollback f) = by_rollback (is ∙ ap Some f)
      by s is (moves.by_trap {c = c} f v) = by_trap {c = c} (is ∙ ap Some f) v
      by s is (moves.by_fail f v) = by_fail (is ∙ ap Some f) v

since_checkpoint : (T : Run) (t k a : ℕ) → SinceClose (move_at T t) k a → IsSinceCheckpoint T t k a
since_checkpoint T t k a s = record {
  within = s.within;
  begins = ⊎_elim (λ z. inl z) (λ w. inr (w.0, w.1, move_closes T t w.0 w.2)) s.begins;
  none_later = λ j l b c. s.none_later j l b (closes_move T t j c);
}

stabilized : (T : Run) (t k : ℕ) → LastStabilize (move_at T t) k → IsStabilized T t k
stabilized T t k l = record {
  place = l.place;
  before = l.before;
  stabilizes = move_stabilizes T t l.place l.stabilizes;
  latest = λ j b c. l.latest j b (⊎_elim (λ x. inl (closes_move T t j x)) (λ x. inr (falling_falls T t j x)) c);
}

last_stabilize : (T : Run) (t k : ℕ) → IsStabilized T t k → LastStabilize (move_at T t) k
last_stabilize T t k l = record {
  place = l.place;
  before = l.before;
  stabilizes = stabilizes_move T t l.place l.stabilizes;
  latest = λ j b c. l.latest j b (⊎_elim (λ x. inl (move_closes T t j x)) (λ x. inr (falls_falling T t j x)) c);
}

pub counted : (T : Run) (t k : ℕ) → IsCounted T t k
counted T t k =
    let goes = history_goes T t in
    let first = history-zero T t in
    let falls = falls_counted goes (ap (λ h. h.last) first ∙ opened-last T t) k in
    record {
      falling = (falls_falling T t k, falling_falls T t k);
      interval_is = interval_counted goes k ∙ ap (λ n. count_below (λ j. is_close (move_at T t j)) k + n) (ap interval first ∙ opened-interval T t);
      closing = (closes_move T t k, move_closes T t k);
      since = falls.since;
      since_is = since_checkpoint T t k falls.since falls.since_is;
      incarnation_is = falls.last_is;
      stable_is = (λ s. stabilized T t k (stable_from goes (ap (λ h. h.stable) first ∙ opened-stable T t) k s), λ s. stable_by goes k (last_stabilize T t k s));
    }
