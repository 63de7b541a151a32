-- Transactors that make no step below a place, and numbers that a well-formed run doesn't name.
use Rattle.std.proofs.Common.{◌≡◌, ◌⊎◌, inl, inr, ⊎_elim, ℕ, zero, suc, ◌+◌, ◌<◌, ◌≤◌, Option, Some, None, refl, sym, ap, ◌∙◌, subst, arith}
use Rattle.std.specs.Prelude.{option_and_then, slice_get}
use Rattle.std.proofs.lemmas.Option.{slice_get_within, option_and_then_some}
use Rattle.tau_history.specs.Timeline.{Timeline, Move, keep, fall, moved}
use Rattle.tau_trace.specs.declared.opening.Opening.{Opening}
use Rattle.tau_trace.specs.declared.step.Step.{Step}
use Rattle.tau_trace.specs.declared.step.Step.TheVariants.{Take, Drop, Fall, Void, Get, Set, Skip, Send, New, Stabilize, Ask, Checkpoint, Hold, Rollback, Stay, Done, Trap, Fail, Lose, Echo, Heed, Repeat}
use Rattle.tau_trace.specs.Steps.{actor, removed_by}
use Rattle.tau_trace.specs.Run.{Run, step_at, len, ActsAt}
use Rattle.tau_trace.specs.Places.{IsFirst}
use Rattle.tau_trace.specs.Numbering.{born, sent, Removes}
use Rattle.tau_trace.specs.Histories.{history, move_at, EndsAt}
use Rattle.tau_trace.specs.Turns.{Turn, IsOpenTurn}
use Rattle.tau_trace.specs.Known.{IsKnown, IsKnownAt, WellFormed}
use Rattle.tau_trace.proofs.Lists.{same_some}
use Rattle.tau_trace.proofs.Agreement.{born-grows, sent-grows}
use Rattle.tau_trace.proofs.Counted.{history-suc}
use Rattle.tau_trace.proofs.Moves.{move_by-other, own_move}

-- transactor t makes no step below place n
abbrev pub IsQuiet : Run → ℕ → ℕ → Type 0
IsQuiet T t n = (j : ℕ) → j < n → ¬ ActsAt T t j

pub acts : (T : Run) (t j : ℕ) (s : Step) → step_at T j ≡ Some s → actor s ≡ Some t → ActsAt T t j
acts T t j s e by = ap (option_and_then actor) e ∙ by

pub quiet_history : (T : Run) (t n : ℕ) → IsQuiet T t n → history T t n ≡ history T t 0
quiet_history T t zero q = refl
quiet_history T t (suc n) q =
    let move : move_at T t n ≡ keep = move_by-other t (history T t n).stable (step_at T n) (λ s e by. q n (omega arith) (acts T t n s e by)) in
    history-suc T t n ∙ ap (λ m. moved m (history T t n)) move ∙ quiet_history T t n (λ j l. q j (omega arith))

pub quiet_turn : (T : Run) (t n : ℕ) → IsQuiet T t n → IsOpenTurn T t n None
quiet_turn T t n q = λ place m u. q place u.before (acts T t place (Take t m) u.takes refl)

pub quiet_end : (T : Run) (t n : ℕ) → IsQuiet T t n → IsFirst (EndsAt T t) n None
quiet_end T t n q = λ j l e.
    let own = own_move t (history T t j).stable (step_at T j) fall (λ f. cc) e.falls in
    q j l (acts T t j own.step own.stands own.by)

pub known_actor : (o : Opening) (b m t : ℕ) (s : Step) → IsKnown o b m s → actor s ≡ Some t → t < b
known_actor o b m t (Take u x) h e = omega (arith, h.0, same_some e)
known_actor o b m t (Drop u x) h e = omega (arith, h.0, same_some e)
known_actor o b m t (Fall u x) h e = omega (arith, h.0, same_some e)
known_actor o b m t (Void u x) h e = omega (arith, h.0, same_some e)
known_actor o b m t (Get u) h e = omega (arith, h, same_some e)
known_actor o b m t (Set u v) h e = omega (arith, h.0, same_some e)
known_actor o b m t (Skip u) h e = omega (arith, h, same_some e)
known_actor o b m t (Send u w v) h e = omega (arith, h.0, same_some e)
known_actor o b m t (New u c n v) h e = omega (arith, h.0, same_some e)
known_actor o b m t (Stabilize u) h e = omega (arith, h, same_some e)
known_actor o b m t (Ask u a) h e = omega (arith, h, same_some e)
known_actor o b m t (Checkpoint u) h e = omega (arith, h, same_some e)
known_actor o b m t (Hold u) h e = omega (arith, h, same_some e)
known_actor o b m t (Rollback u) h e = omega (arith, h, same_some e)
known_actor o b m t (Stay u) h e = omega (arith, h, same_some e)
known_actor o b m t (Done u) h e = omega (arith, h, same_some e)
known_actor o b m t (Trap u c) h e = omega (arith, h.0, same_some e)
known_actor o b m t (Fail u) h e = omega (arith, h, same_some e)
known_actor o b m t (Lose x) h e = absurd (cc)
known_actor o b m t (Echo u x) h e = omega (arith, h.0, same_some e)
known_actor o b m t (Heed u x) h e = omega (arith, h.0, same_some e)
known_actor o b m t (Repeat x) h e = absurd (cc)

pub known_removed : (o : Opening) (b m x : ℕ) (s : Step) → IsKnown o b m s → removed_by s ≡ Some x → x < m
known_removed o b m x (Take u y) h e = omega (arith, h.1, same_some e)
known_removed o b m x (Drop u y) h e = omega (arith, h.1, same_some e)
known_removed o b m x (Void u y) h e = omega (arith, h.1, same_some e)
known_removed o b m x (Lose y) h e = omega (arith, h, same_some e)
known_removed o b m x (Echo u y) h e = omega (arith, h.1, same_some e)
known_removed o b m x (Heed u y) h e = omega (arith, h.1, same_some e)
known_removed o b m x s h e = absurd (cc)

-- the step at a place below n names only what exists at n
pub acts_born : (T : Run) (t j : ℕ) → ((s : Step) → step_at T j ≡ Some s → IsKnownAt T j s) → ActsAt T t j → t < born T j
acts_born T t j known a = by (step_at T j) refl a where
  by : (o : Option Step) → step_at T j ≡ o → option_and_then actor o ≡ Some t → t < born T j
  by None e h = absurd (cc)
  by (Some s) e h = known_actor T.opening (born T j) (sent T j) t s (known s e) h

pub removes_sent : (T : Run) (m j : ℕ) → ((s : Step) → step_at T j ≡ Some s → IsKnownAt T j s) → Removes T m j → m < sent T j
removes_sent T m j known r = by (step_at T j) refl r where
  by : (o : Option Step) → step_at T j ≡ o → option_and_then removed_by o ≡ Some m → m < sent T j
  by None e h = absurd (cc)
  by (Some s) e h = known_removed T.opening (born T j) (sent T j) m s (known s e) h

-- a transactor that doesn't exist at place n makes no step below it
pub unborn_quiet : (T : Run) (t n : ℕ) → ((k : ℕ) (s : Step) → step_at T k ≡ Some s → IsKnownAt T k s) → born T n ≤ t → IsQuiet T t n
unborn_quiet T t n known h j l a = omega (arith, acts_born T t j (known j) a, born-grows T j n (omega arith))

pub unsent_kept : (T : Run) (m n : ℕ) → ((k : ℕ) (s : Step) → step_at T k ≡ Some s → IsKnownAt T k s) → sent T n ≤ m → IsFirst (Removes T m) n None
unsent_kept T m n known h j l r = omega (arith, removes_sent T m j (known j) r, sent-grows T j n (omega arith))
