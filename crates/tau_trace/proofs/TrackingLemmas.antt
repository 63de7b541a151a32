-- What a trace keeps of a transactor, before and after a step.
use Rattle.std.proofs.Common.{◌≡◌, ◌⊎◌, ⊎_elim, ℕ, suc, ◌<◌, ◌≤◌, Bool, true, false, cond, eqb, [], ◌∷◌, length-append, Option, Some, None, refl, sym, ap, ◌∙◌, subst, arith, eqb-true, eq-eqb}
use Rattle.std.specs.Prelude.{◌||◌}
use Rattle.tau_history.specs.Timeline.{Timeline, interval, Move, keep, stabilize, close, fall, moved}
use Rattle.tau_trace.specs.declared.step.Step.{Step}
use Rattle.tau_trace.specs.declared.step.Step.TheVariants.{Take}
use Rattle.tau_trace.specs.declared.transactor.Transactor.{Transactor}
use Rattle.tau_trace.specs.Steps.{actor, ends_turn, is_take}
use Rattle.tau_trace.specs.Run.{Run, step_at, Does}
use Rattle.tau_trace.specs.Places.{IsFirst}
use Rattle.tau_trace.specs.Histories.{history, move_at, move_of, EndsAt}
use Rattle.tau_trace.specs.Turns.{Turn, IsOpenTurn}
use Rattle.tau_trace.specs.Tracking.{Tracks, transactor_after, turn_after, end_after, stable_after, at_opening_after}
use Rattle.tau_trace.proofs.Counted.{history-suc, move_at-own}
use Rattle.tau_trace.proofs.Moves.{move_by-other}
use Rattle.tau_trace.proofs.Sequences.{cases_last}
use Rattle.tau_trace.proofs.Lists.{same_some}

-- the first place at which P holds, one place further
pub first-not : (P : ℕ → Type 0) (n : ℕ) (o : Option ℕ) → ¬ P n → IsFirst P n o → IsFirst P (suc n) o
first-not P n None not f = λ j l p. ⊎_elim (λ e. not (subst P e p)) (λ b. f j b p) (cases_last j n l)
first-not P n (Some k) not f = (omega (arith, f.0), f.1, f.2)

pub first-here : (P : ℕ → Type 0) (n : ℕ) → P n → IsFirst P n None → IsFirst P (suc n) (Some n)
first-here P n p f = (omega arith, p, f)

pub first-later : (P : ℕ → Type 0) (n k : ℕ) → IsFirst P n (Some k) → IsFirst P (suc n) (Some k)
first-later P n k f = (omega (arith, f.0), f.1, f.2)

-- the kinds that begin or end a turn
abbrev pub bounds : Step → Bool
bounds s = ends_turn s || is_take s

-- a turn that is open at k, at the next place
pub turn-on : (T : Run) (t k place m : ℕ) → ¬ Does bounds T t k → Turn T t k place m → Turn T t (suc k) place m
turn-on T t k place m none u = record {
  before = omega (arith, u.before);
  takes = u.takes;
  goes_on = λ j l b d. ⊎_elim (λ e. none (subst (Does bounds T t) e d)) (λ c. u.goes_on j l c d) (cases_last j k b);
}

-- a turn that is open at the place after k and was opened before k
turn-back : (T : Run) (t k place m : ℕ) → place < k → Turn T t (suc k) place m → Turn T t k place m
turn-back T t k place m l u = record { before = l; takes = u.takes; goes_on = λ j a b d. u.goes_on j a (omega arith) d }

pub turn_same : (T : Run) (t k : ℕ) (o : Option ℕ) → ¬ Does bounds T t k → IsOpenTurn T t k o → IsOpenTurn T t (suc k) o
turn_same T t k (Some place) none u = (u.0, turn-on T t k place u.0 none u.1)
turn_same T t k None none idle = λ place m u. ⊎_elim
    (λ (e : place ≡ k). none (record { step = Take t m; stands = subst (λ j. step_at T j ≡ Some (Take t m)) e u.takes; by = refl; passes = refl }))
    (λ l. idle place m (turn-back T t k place m l u))
    (cases_last place k u.before)

pub turn_begins : (T : Run) (t k m : ℕ) → step_at T k ≡ Some (Take t m) → IsOpenTurn T t (suc k) (Some k)
turn_begins T t k m e = (m, record { before = omega arith; takes = e; goes_on = λ j a b. absurd (omega arith) })

pub turn_ends : (T : Run) (t k : ℕ) (s : Step) → step_at T k ≡ Some s → actor s ≡ Some t → is_take s ≡ false → ends_turn s ≡ true → IsOpenTurn T t (suc k) None
turn_ends T t k s e by not_take ends place m u = ⊎_elim
    (λ (l : place ≡ k). let is : Take t m ≡ s = same_some (sym u.takes ∙ ap (step_at T) l ∙ e) in let both = ap is_take is ∙ not_take in cc)
    (λ l. u.goes_on k l (omega arith) (record { step = s; stands = e; by = by; passes = ap (λ b. b || is_take s) ends }))
    (cases_last place k u.before)

none_by : (T : Run) (t k : ℕ) (s : Step) (test : Step → Bool) → step_at T k ≡ Some s → test s ≡ false → ¬ Does test T t k
none_by T t k s test e not d = let is : d.step ≡ s = same_some (sym d.stands ∙ e) in let both = sym d.passes ∙ ap test is ∙ not in cc

none_other : (T : Run) (t k : ℕ) (s : Step) (test : Step → Bool) → step_at T k ≡ Some s → ¬ (actor s ≡ Some t) → ¬ Does test T t k
none_other T t k s test e other d = let is : d.step ≡ s = same_some (sym d.stands ∙ e) in other (ap actor (sym is) ∙ d.by)

take_by : (t : ℕ) (s : Step) → actor s ≡ Some t → is_take s ≡ true → (m : ℕ) × (s ≡ Take t m)
take_by t (Take u m) a e = (m, ap (λ x. Take x m) (same_some a))
take_by t s a e = absurd (cc)

turn_step : (T : Run) (t k : ℕ) (s : Step) (o : Option ℕ) → step_at T k ≡ Some s → actor s ≡ Some t → IsOpenTurn T t k o → IsOpenTurn T t (suc k) (turn_after s k o)
turn_step T t k s o e by u = cases (is_take s) (ends_turn s) refl refl where
  cases : (a b : Bool) → is_take s ≡ a → ends_turn s ≡ b → IsOpenTurn T t (suc k) (cond a (Some k) (cond b None o))
  cases true b p q = let is = take_by t s by p in turn_begins T t k is.0 (e ∙ ap Some is.1)
  cases false true p q = turn_ends T t k s e by p q
  cases false false p q = turn_same T t k o (none_by T t k s bounds e ((λ i. q i || p i))) u

no_end : (T : Run) (t k : ℕ) → ¬ (move_at T t k ≡ fall) → ¬ EndsAt T t k
no_end T t k not e = not e.falls

end_step : (T : Run) (t k : ℕ) (m : Move) (b : Bool) (o : Option ℕ) → move_at T t k ≡ m → b ≡ eqb (interval (history T t k)) 0 → IsFirst (EndsAt T t) k o → IsFirst (EndsAt T t) (suc k) (end_after m k b o)
end_step T t k keep b o e h f = first-not (EndsAt T t) k o (no_end T t k (λ g. let both = sym e ∙ g in cc)) f
end_step T t k stabilize b o e h f = first-not (EndsAt T t) k o (no_end T t k (λ g. let both = sym e ∙ g in cc)) f
end_step T t k close b o e h f = first-not (EndsAt T t) k o (no_end T t k (λ g. let both = sym e ∙ g in cc)) f
end_step T t k fall false o e h f = first-not (EndsAt T t) k o (λ (g : EndsAt T t k). let both = h ∙ eq-eqb (interval (history T t k)) 0 g.at_opening in cc) f
end_step T t k fall true None e h f = first-here (EndsAt T t) k (record { falls = e; at_opening = eqb-true (interval (history T t k)) 0 (sym h) }) f
end_step T t k fall true (Some j) e h f = first-later (EndsAt T t) k j f

stable_moved : (m : Move) (a : Timeline) → stable_after m a.stable ≡ (moved m a).stable
stable_moved keep a = refl
stable_moved stabilize a = refl
stable_moved close a = refl
stable_moved fall a = refl

not_zero : (n : ℕ) → 1 ≤ n → eqb n 0 ≡ false
not_zero n h = by (eqb n 0) refl where
  by : (b : Bool) → eqb n 0 ≡ b → b ≡ false
  by true e = absurd (omega (arith, eqb-true n 0 e))
  by false e = refl

at_opening_moved : (m : Move) (a : Timeline) → at_opening_after m (eqb (interval a) 0) ≡ eqb (interval (moved m a)) 0
at_opening_moved keep a = refl
at_opening_moved stabilize a = refl
at_opening_moved fall a = refl
at_opening_moved close a = sym (not_zero (interval (moved close a)) (omega (arith, length-append a.closed (a.last ∷ []))))

-- a transactor after a step of its own
pub tracks_own : (T : Run) (k t : ℕ) (s : Step) (r : Transactor) → step_at T k ≡ Some s → actor s ≡ Some t → Tracks T k t r → Tracks T (suc k) t (transactor_after s k r)
tracks_own T k t s r e by h =
    let move : move_at T t k ≡ move_of r.stable s = move_at-own T t k s e by ∙ ap (λ b. move_of b s) (sym h.stable) in
    let next : history T t (suc k) ≡ moved (move_of r.stable s) (history T t k) = history-suc T t k ∙ ap (λ m. moved m (history T t k)) move in
    record {
      home = h.home;
      turn = turn_step T t k s r.turn e by h.turn;
      end = end_step T t k (move_of r.stable s) r.at_opening r.end move h.at_opening h.end;
      stable = ap (stable_after (move_of r.stable s)) h.stable ∙ stable_moved (move_of r.stable s) (history T t k) ∙ ap (λ a. a.stable) (sym next);
      at_opening = ap (at_opening_after (move_of r.stable s)) h.at_opening ∙ at_opening_moved (move_of r.stable s) (history T t k) ∙ ap (λ a. eqb (interval a) 0) (sym next);
    }

-- and after a step of another
pub tracks_other : (T : Run) (k t : ℕ) (s : Step) (r : Transactor) → step_at T k ≡ Some s → ¬ (actor s ≡ Some t) → Tracks T k t r → Tracks T (suc k) t r
tracks_other T k t s r e other h =
    let move : move_at T t k ≡ keep = move_by-other t (history T t k).stable (step_at T k) (λ u f g. other (ap actor (same_some (sym e ∙ f)) ∙ g)) in
    let next : history T t (suc k) ≡ history T t k = history-suc T t k ∙ ap (λ m. moved m (history T t k)) move in
    record {
      home = h.home;
      turn = turn_same T t k r.turn (none_other T t k s bounds e other) h.turn;
      end = first-not (EndsAt T t) k r.end (no_end T t k (λ g. let both = sym move ∙ g in cc)) h.end;
      stable = h.stable ∙ ap (λ a. a.stable) (sym next);
      at_opening = h.at_opening ∙ ap (λ a. eqb (interval a) 0) (sym next);
    }
