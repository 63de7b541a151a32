-- What is said of a place reads the opening and the steps below it alone.
use Rattle.std.proofs.Common.{◌≡◌, ◌⊎◌, ◌↔◌, inl, inr, ⊎_elim, ℕ, zero, suc, ◌+◌, ◌<◌, ◌≤◌, Bool, true, false, cond, Option, Some, None, List, [], ◌∷◌, ◌++◌, length, refl, sym, ap, ◌∙◌, subst, arith}
use Rattle.std.specs.Prelude.{slice_get, option_and_then}
use Rattle.std.specs.Option.{option_map_or}
use Rattle.tau_history.specs.Timeline.{Timeline, interval, moved, Move, fall}
use Rattle.tau_trace.specs.declared.step.Step.{Step}
use Rattle.tau_trace.specs.Steps.{actor, removed_by, is_new, makes_message}
use Rattle.tau_trace.specs.Run.{Run, Agree, step_at, len, appended, starts, ActsAt, Does}
use Rattle.tau_trace.specs.Places.{count_below}
use Rattle.tau_trace.specs.Numbering.{born, sent, IsNew, IsSent, IsEchoed, IsRepeated, IsOrigin, direct, echoed, copied, HasSender, Receives, post, message, notice, copy, IsHome, start, created, Removes, InFlight}
use Rattle.tau_trace.specs.Histories.{history, opened, move_at, move_by, Falls, EndsAt, Ended}
use Rattle.tau_trace.specs.Turns.{Turn}
use Rattle.tau_trace.specs.Laws.{SameAt}
use Rattle.tau_trace.proofs.Lists.{slice_get-front, slice_get-last}
use Rattle.tau_trace.proofs.Counts.{count-same, count-grows, count-suc}
use Rattle.tau_trace.proofs.Counted.{history-zero, history-suc}

pub agree_sym : {T U : Run} {k : ℕ} → Agree T U k → Agree U T k
agree_sym a = record { opening = sym a.opening; steps = λ j l. sym (a.steps j l) }

pub agree_below : {T U : Run} {k : ℕ} (j : ℕ) → j ≤ k → Agree T U k → Agree T U j
agree_below j h a = record { opening = a.opening; steps = λ i l. a.steps i (omega arith) }

-- a run agrees with itself and one more step
pub agree_appended : (T : Run) (s : Step) → Agree T (appended T s) (len T)
agree_appended T s = record { opening = refl; steps = λ j l. slice_get-front T.steps s j l }

pub step_at-appended : (T : Run) (s : Step) → step_at (appended T s) (len T) ≡ Some s
step_at-appended T s = slice_get-last T.steps s

opened-same : (T U : Run) (t : ℕ) → T.opening ≡ U.opening → opened T t ≡ opened U t
opened-same T U t e = ap (λ o. opened (record { opening = o; steps = [] }) t) e

module _ {T U : Run} where
  pub born-same : (k : ℕ) → Agree T U k → born T k ≡ born U k
  born-same k a = omega (arith, ap (λ o. length o.names) a.opening, count-same (λ j. option_map_or is_new (step_at T j) false) (λ j. option_map_or is_new (step_at U j) false) k (λ j l. ap (λ s. option_map_or is_new s false) (a.steps j l)))

  pub sent-same : (k : ℕ) → Agree T U k → sent T k ≡ sent U k
  sent-same k a = omega (arith, ap (λ o. length o.targets) a.opening, count-same (λ j. option_map_or makes_message (step_at T j) false) (λ j. option_map_or makes_message (step_at U j) false) k (λ j l. ap (λ s. option_map_or makes_message s false) (a.steps j l)))

  pub history-same : (t k : ℕ) → Agree T U k → history T t k ≡ history U t k
  history-same t zero a = history-zero T t ∙ opened-same T U t a.opening ∙ sym (history-zero U t)
  history-same t (suc k) a =
      let before = history-same t k (agree_below k (omega arith) a) in
      let here = a.steps k (omega arith) in
      history-suc T t k ∙ (λ i. moved (move_by t (before i).stable (here i)) (before i)) ∙ sym (history-suc U t k)

  pub move_at-same : (t k : ℕ) → Agree T U (suc k) → move_at T t k ≡ move_at U t k
  move_at-same t k a =
      let before = history-same t k (agree_below k (omega arith) a) in
      let here = a.steps k (omega arith) in
      λ i. move_by t (before i).stable (here i)

  pub ends-same : (t k : ℕ) → Agree T U (suc k) → EndsAt T t k → EndsAt U t k
  ends-same t k a e = record {
    falls = sym (move_at-same t k a) ∙ e.falls;
    at_opening = ap interval (sym (history-same t k (agree_below k (omega arith) a))) ∙ e.at_opening;
  }

  pub is_new-same : (j by u : ℕ) → Agree T U (suc j) → IsNew T j by u → IsNew U j by u
  is_new-same j by u a n = record {
    behaviour = n.behaviour;
    node = n.node;
    state = n.state;
    stands = sym (a.steps j (omega arith)) ∙ n.stands;
    made = n.made ∙ born-same j (agree_below j (omega arith) a);
  }

  pub is_sent-same : (j by m : ℕ) → Agree T U (suc j) → IsSent T j by m → IsSent U j by m
  is_sent-same j by m a o = record {
    to = o.to;
    value = o.value;
    stands = sym (a.steps j (omega arith)) ∙ o.stands;
    made = o.made ∙ sent-same j (agree_below j (omega arith) a);
  }

  is_echoed-same : (j by n m : ℕ) → Agree T U (suc j) → IsEchoed T j by n m → IsEchoed U j by n m
  is_echoed-same j by n m a o = record {
    stands = sym (a.steps j (omega arith)) ∙ o.stands;
    made = o.made ∙ sent-same j (agree_below j (omega arith) a);
    earlier = o.earlier;
  }

  is_repeated-same : (j n m : ℕ) → Agree T U (suc j) → IsRepeated T j n m → IsRepeated U j n m
  is_repeated-same j n m a o = record {
    stands = sym (a.steps j (omega arith)) ∙ o.stands;
    made = o.made ∙ sent-same j (agree_below j (omega arith) a);
    earlier = o.earlier;
  }

  pub removes-same : (m j : ℕ) → Agree T U (suc j) → Removes T m j → Removes U m j
  removes-same m j a e = ap (option_and_then removed_by) (sym (a.steps j (omega arith))) ∙ e

  pub does-same : (test : Step → Bool) (t j : ℕ) → step_at T j ≡ step_at U j → Does test T t j → Does test U t j
  does-same test t j e d = record { step = d.step; stands = sym e ∙ d.stands; by = d.by; passes = d.passes }

-- messages and transactors made below k have numbers below those at k, and no others have
made_before : (count : ℕ → ℕ) → ((i j : ℕ) → i ≤ j → count i ≤ count j) → (i j : ℕ) → count i < count j → i < j
made_before count grows i j h = by (cases i j) where
  cases : (i j : ℕ) → (i < j) ⊎ (j ≤ i)
  cases i j = grind arith

  by : (i < j) ⊎ (j ≤ i) → i < j
  by (inl l) = l
  by (inr g) = absurd (omega (arith, grows j i g))

pub sent-grows : (T : Run) (i j : ℕ) → i ≤ j → sent T i ≤ sent T j
sent-grows T i j h = omega (arith, count-grows (λ n. option_map_or makes_message (step_at T n) false) i j h)

pub born-grows : (T : Run) (i j : ℕ) → i ≤ j → born T i ≤ born T j
born-grows T i j h = omega (arith, count-grows (λ n. option_map_or is_new (step_at T n) false) i j h)

made_at_before : (T : Run) (j m k : ℕ) → m ≡ sent T j → m < sent T k → j < k
made_at_before T j m k e h = made_before (sent T) (sent-grows T) j k (omega (arith, e))

pub sent_before : (T : Run) (j by m k : ℕ) → IsSent T j by m → m < sent T k → j < k
sent_before T j by m k o h = made_at_before T j m k o.made h

pub origin_before : (T : Run) (j by m k : ℕ) → IsOrigin T j by m → m < sent T k → j < k
origin_before T j by m k (direct o) h = made_at_before T j m k o.made h
origin_before T j by m k (echoed o) h = made_at_before T j m k o.made h
origin_before T j by m k (copied {n = n} o r) h = origin_before T j by n k r (omega (arith, o.earlier, h))

pub new_before : (T : Run) (j by u k : ℕ) → IsNew T j by u → u < born T k → j < k
new_before T j by u k n h = made_before (born T) (born-grows T) j k (omega (arith, n.made))

module _ {T U : Run} where
  pub origin-same : (k j by m : ℕ) → Agree T U k → m < sent T k → IsOrigin T j by m → IsOrigin U j by m
  origin-same k j by m a h (direct o) = direct (is_sent-same j by m (agree_below (suc j) (made_at_before T j m k o.made h) a) o)
  origin-same k j by m a h (echoed {n = n} o) =
      echoed {n = n} (is_echoed-same j by n m (agree_below (suc j) (made_at_before T j m k o.made h) a) o)
  origin-same k j by m a h (copied {k = i} {n = n} o r) =
      copied {k = i} {n = n} (is_repeated-same i n m (agree_below (suc i) (made_at_before T i m k o.made h) a) o) (origin-same k j by n a (omega (arith, o.earlier, h)) r)

  sender-same : (k m u : ℕ) → Agree T U k → m < sent T k → HasSender T m u → HasSender U m u
  sender-same k m u a h s = record { place = s.place; origin = origin-same k s.place u m a h s.origin }

  pub receives-same : (k m u : ℕ) → Agree T U k → m < sent T k → Receives T m u → Receives U m u
  unfolding is_sent-same
  receives-same k m u a h (post e) = post (ap (λ o. slice_get o.targets m) (sym a.opening) ∙ e)
  receives-same k m u a h (message {j = j} {by = by} o e) =
      message (is_sent-same j by m (agree_below (suc j) (made_at_before T j m k o.made h) a) o) e
  receives-same k m u a h (notice {j = j} {by = by} {n = n} o s) =
      notice {by = by} (is_echoed-same j by n m (agree_below (suc j) (made_at_before T j m k o.made h) a) o) (sender-same k n u a (omega (arith, o.earlier, h)) s)
  receives-same k m u a h (copy {k = i} {n = n} o r) =
      copy (is_repeated-same i n m (agree_below (suc i) (made_at_before T i m k o.made h) a) o) (receives-same k n u a (omega (arith, o.earlier, h)) r)

  pub home-same : (k t n : ℕ) → Agree T U k → t < born T k → IsHome T t n → IsHome U t n
  unfolding is_new-same
  home-same k t n a h (start e) = start (ap (λ o. slice_get o.homes t) (sym a.opening) ∙ e)
  home-same k t n a h (created {j = j} {by = by} b e) =
      created (is_new-same j by t (agree_below (suc j) (new_before T j by t k b h) a) b) e

  in_flight-same : (m k : ℕ) → Agree T U k → InFlight T m k → InFlight U m k
  in_flight-same m k a f = record {
    exists = omega (arith, f.exists, sent-same k a);
    not_removed = λ j l r. f.not_removed j l (removes-same m j (agree_below (suc j) l (agree_sym a)) r);
  }

  ended-same : (t k : ℕ) → Agree T U k → Ended T t k → Ended U t k
  ended-same t k a e = record { place = e.place; before = e.before; ends = ends-same t e.place (agree_below (suc e.place) e.before a) e.ends }

  turn-same : (t k place m : ℕ) → Agree T U k → Turn T t k place m → Turn U t k place m
  turn-same t k place m a u = record {
    before = u.before;
    takes = sym (a.steps place u.before) ∙ u.takes;
    goes_on = λ j l b d. u.goes_on j l b (does-same _ t j (sym (a.steps j b)) d);
  }

pub same_at : (T U : Run) (k : ℕ) → Agree T U k → SameAt T U k
same_at T U k a =
    let b = agree_sym a in
    record {
      born_is = born-same k a;
      sent_is = sent-same k a;
      history_is = λ t. history-same t k a;
      in_flight = λ m. (in_flight-same m k a, in_flight-same m k b);
      ended = λ t. (ended-same t k a, ended-same t k b);
      turn = λ t place m. (turn-same t k place m a, turn-same t k place m b);
      receives = λ m u h. (receives-same k m u a h, receives-same k m u b (omega (arith, h, sent-same k a)));
      origin = λ m j by h. (origin-same k j by m a h, origin-same k j by m b (omega (arith, h, sent-same k a)));
      home = λ t n h. (home-same k t n a h, home-same k t n b (omega (arith, h, born-same k a)));
    }
