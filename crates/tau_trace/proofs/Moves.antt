-- Which steps make a history move.
use Rattle.std.proofs.Common.{◌≡◌, ◌⊎◌, inl, inr, ℕ, Bool, true, false, cond, eqb, Option, Some, None, refl, sym, ap, ◌∙◌, subst, eqb-true, eq-eqb, arith}
use Rattle.std.specs.Option.{option_map_or}
use Rattle.tau_history.specs.Timeline.{Move, keep, stabilize, close, fall}
use Rattle.tau_trace.specs.declared.step.Step.{Step}
use Rattle.tau_trace.specs.declared.step.Step.TheVariants.{Take, Drop, Fall, Void, Get, Set, Skip, Send, New, Stabilize, Ask, Checkpoint, Hold, Rollback, Stay, Done, Trap, Fail, Lose}
use Rattle.tau_trace.specs.Steps.{actor}
use Rattle.tau_trace.specs.Histories.{move_of, move_by, is_by}

chosen : (x : Bool) (m n : Move) → ¬ (n ≡ keep) → cond x m keep ≡ n → (x ≡ true) × (m ≡ n)
chosen true m n moves e = (refl, e)
chosen false m n moves e = absurd (moves (sym e))

-- a step by t, whose move is not `keep`
pub record OwnMove (t : ℕ) (b : Bool) (o : Option Step) (n : Move) : Type 0 where
  pub step : Step
  pub stands : o ≡ Some step
  pub by : actor step ≡ Some t
  pub moves : move_of b step ≡ n

by_actor : (t : ℕ) (s : Step) → is_by t s ≡ true → actor s ≡ Some t
by_actor t s e = by (actor s) e where
  by : (o : Option ℕ) → option_map_or (λ u. eqb u t) o false ≡ true → o ≡ Some t
  by None f = absurd (cc)
  by (Some u) f = ap Some (eqb-true u t f)

pub own_move : (t : ℕ) (b : Bool) (o : Option Step) (n : Move) → ¬ (n ≡ keep) → move_by t b o ≡ n → OwnMove t b o n
own_move t b None n moves e = absurd (moves (sym e))
own_move t b (Some s) n moves e =
    let parts = chosen (is_by t s) (move_of b s) n moves e in
    record { step = s; stands = refl; by = by_actor t s parts.0; moves = parts.1 }

-- a step by t makes its own move
is_by-own : (t : ℕ) (s : Step) → actor s ≡ Some t → is_by t s ≡ true
is_by-own t s e = ap (λ o. option_map_or (λ u. eqb u t) o false) e ∙ eq-eqb t t refl

pub move_by-own : (t : ℕ) (b : Bool) (o : Option Step) (s : Step) → o ≡ Some s → actor s ≡ Some t → move_by t b o ≡ move_of b s
move_by-own t b o s e by = ap (move_by t b) e ∙ ap (λ x. cond x (move_of b s) keep) (is_by-own t s by)

-- and a step by another makes none
is_by-other : (t : ℕ) (s : Step) → ¬ (actor s ≡ Some t) → is_by t s ≡ false
is_by-other t s other = by (is_by t s) refl where
  by : (x : Bool) → is_by t s ≡ x → x ≡ false
  by true e = absurd (other (by_actor t s e))
  by false e = refl

pub move_by-other : (t : ℕ) (b : Bool) (o : Option Step) → ((s : Step) → o ≡ Some s → ¬ (actor s ≡ Some t)) → move_by t b o ≡ keep
move_by-other t b None other = refl
move_by-other t b (Some s) other = ap (λ x. cond x (move_of b s) keep) (is_by-other t s (other s refl))

by_close : (t : ℕ) (b : Bool) (s : Step) → actor s ≡ Some t → move_of b s ≡ close → s ≡ Checkpoint t
by_close t b (Checkpoint u) a e = cc
by_close t true (Trap u c) a e = cc
by_close t false (Trap u c) a e = cc
by_close t true (Fail u) a e = cc
by_close t false (Fail u) a e = cc
by_close t b s a e = cc

pub closing : (t : ℕ) (b : Bool) (o : Option Step) → move_by t b o ≡ close → o ≡ Some (Checkpoint t)
closing t b o e =
    let own = own_move t b o close (λ f. cc) e in
    own.stands ∙ ap Some (by_close t b own.step own.by own.moves)

by_stabilize : (t : ℕ) (b : Bool) (s : Step) → actor s ≡ Some t → move_of b s ≡ stabilize → s ≡ Stabilize t
by_stabilize t b (Stabilize u) a e = cc
by_stabilize t true (Trap u c) a e = cc
by_stabilize t false (Trap u c) a e = cc
by_stabilize t true (Fail u) a e = cc
by_stabilize t false (Fail u) a e = cc
by_stabilize t b s a e = cc

pub stabilizing : (t : ℕ) (b : Bool) (o : Option Step) → move_by t b o ≡ stabilize → o ≡ Some (Stabilize t)
stabilizing t b o e =
    let own = own_move t b o stabilize (λ f. cc) e in
    own.stands ∙ ap Some (by_stabilize t b own.step own.by own.moves)

-- the steps that make t fall
pub data FallCase (t : ℕ) (b : Bool) (s : Step) : Type 0 where
  by_fall : {m : ℕ} → s ≡ Fall t m → FallCase t b s
  by_rollback : s ≡ Rollback t → FallCase t b s
  by_trap : {c : ℕ} → s ≡ Trap t c → b ≡ false → FallCase t b s
  by_fail : s ≡ Fail t → b ≡ false → FallCase t b s

pub fall_case : (t : ℕ) (b : Bool) (s : Step) → actor s ≡ Some t → move_of b s ≡ fall → FallCase t b s
fall_case t b (Fall u m) a e = by_fall {m = m} (cc)
fall_case t b (Rollback u) a e = by_rollback (cc)
fall_case t true (Trap u c) a e = absurd (cc)
fall_case t false (Trap u c) a e = by_trap {c = c} (cc) refl
fall_case t true (Fail u) a e = absurd (cc)
fall_case t false (Fail u) a e = by_fail (cc) refl
fall_case t b s a e = absurd (cc)
