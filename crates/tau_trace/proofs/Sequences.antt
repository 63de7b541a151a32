-- Any sequence of histories, each of which is the one before after a move.
use Rattle.std.proofs.Common.{◌≡◌, ◌⊎◌, inl, inr, ⊎_elim, ℕ, zero, suc, ◌+◌, ◌<◌, ◌≤◌, Bool, true, false, cond, ◌&&◌, leb, IsTrue, ◌↔◌, List, [], ◌∷◌, ◌++◌, length, refl, sym, ap, ◌∙◌, subst, arith, length-append, le-leb}
use Rattle.tau_history.specs.Timeline.{Timeline, interval, Move, keep, stabilize, close, fall, moved}
use Rattle.tau_trace.specs.Places.{count_below, count_from}
use Rattle.tau_trace.specs.Histories.{is_close, is_fall}
use Rattle.tau_trace.proofs.Counts.{count-suc, count-zero, count_from-suc, count_from-none}

-- each history is the one before after its move
pub record Goes (h : ℕ → Timeline) (f : ℕ → Move) : Type 0 where
  pub step : (k : ℕ) → h (suc k) ≡ moved (f k) (h k)

interval-moved : (m : Move) (a : Timeline) → interval (moved m a) ≡ interval a + cond (is_close m) 1 0
interval-moved keep a = omega arith
interval-moved stabilize a = omega arith
interval-moved fall a = omega arith
interval-moved close a = omega (arith, length-append a.closed (a.last ∷ []))

-- the place after the last close before k, and 0 where there is none
pub record SinceClose (f : ℕ → Move) (k a : ℕ) : Type 0 where
  pub within : a ≤ k
  pub begins : (a ≡ 0) ⊎ ((j : ℕ) × (a ≡ suc j) × (f j ≡ close))
  pub none_later : (j : ℕ) → a ≤ j → j < k → ¬ (f j ≡ close)

pub record CountsFalls (h : ℕ → Timeline) (f : ℕ → Move) (k : ℕ) : Type 0 where
  pub since : ℕ
  pub since_is : SinceClose f k since
  pub last_is : (h k).last ≡ count_from since (λ j. is_fall (f j)) k

-- a stabilize stands before k, and after every close and fall before k
pub record LastStabilize (f : ℕ → Move) (k : ℕ) : Type 0 where
  pub place : ℕ
  pub before : place < k
  pub stabilizes : f place ≡ stabilize
  pub latest : (j : ℕ) → j < k → (f j ≡ close) ⊎ (f j ≡ fall) → j < place

pub cases_last : (j k : ℕ) → j < suc k → (j ≡ k) ⊎ (j < k)
cases_last j k l = grind arith

abbrev one_if : Bool → ℕ
one_if b = cond b 1 0

none_of : (b : Bool) → one_if (b && false) ≡ 0
none_of true = refl
none_of false = refl

module _ {h : ℕ → Timeline} {f : ℕ → Move} (goes : Goes h f) where
  pub interval_counted : (k : ℕ) → interval (h k) ≡ count_below (λ j. is_close (f j)) k + interval (h 0)
  interval_counted zero = omega (arith, count-zero (λ j. is_close (f j)))
  interval_counted (suc k) =
      omega (arith, count-suc (λ j. is_close (f j)) k, interval_counted k, ap interval (goes.step k), interval-moved (f k) (h k))

  goes_on : (k : ℕ) → ¬ (f k ≡ close) → (c : CountsFalls h f k) → SinceClose f (suc k) c.since
  goes_on k ne c = record {
    within = omega (arith, c.since_is.within);
    begins = c.since_is.begins;
    none_later = λ j a l e. ⊎_elim (λ (here : j ≡ k). ne (sym (ap f here) ∙ e)) (λ below. c.since_is.none_later j a below e) (cases_last j k l);
  }

  pub falls_counted : (h 0).last ≡ 0 → (k : ℕ) → CountsFalls h f k
  falls_counted first zero = record {
    since = 0;
    since_is = record { within = omega arith; begins = inl refl; none_later = λ j a l. absurd (omega arith) };
    last_is = omega (arith, first, count_from-none 0 (λ j. is_fall (f j)) 0 (omega arith));
  }
  falls_counted first (suc k) = by (f k) refl (falls_counted first k) where
    test : ℕ → Bool
    test j = is_fall (f j)

    by : (m : Move) → f k ≡ m → CountsFalls h f k → CountsFalls h f (suc k)
    by keep e c = record {
      since = c.since;
      since_is = goes_on k (λ g. cc) c;
      last_is = omega (arith, c.last_is, ap (λ t. t.last) (goes.step k ∙ ap (λ m. moved m (h k)) e), count_from-suc c.since (λ j. is_fall (f j)) k, ap (λ m. one_if (leb c.since k && is_fall m)) e, none_of (leb c.since k));
    }
    by stabilize e c = record {
      since = c.since;
      since_is = goes_on k (λ g. cc) c;
      last_is = omega (arith, c.last_is, ap (λ t. t.last) (goes.step k ∙ ap (λ m. moved m (h k)) e), count_from-suc c.since (λ j. is_fall (f j)) k, ap (λ m. one_if (leb c.since k && is_fall m)) e, none_of (leb c.since k));
    }
    by fall e c = record {
      since = c.since;
      since_is = goes_on k (λ g. cc) c;
      last_is = omega (arith, c.last_is, ap (λ t. t.last) (goes.step k ∙ ap (λ m. moved m (h k)) e), count_from-suc c.since (λ j. is_fall (f j)) k, ap (λ m. one_if (leb c.since k && is_fall m)) e, ap (λ b. one_if (b && true)) (le-leb c.since k c.since_is.within));
    }
    by close e c = record {
      since = suc k;
      since_is = record { within = omega arith; begins = inr (k, refl, e); none_later = λ j a l. absurd (omega arith) };
      last_is = omega (arith, ap (λ t. t.last) (goes.step k ∙ ap (λ m. moved m (h k)) e), count_from-none (suc k) (λ j. is_fall (f j)) (suc k) (omega arith));
    }

  mode_after : (k : ℕ) (m : Move) → f k ≡ m → (h (suc k)).stable ≡ (moved m (h k)).stable
  mode_after k m e = ap (λ t. t.stable) (goes.step k ∙ ap (λ n. moved n (h k)) e)

  pub stable_from : (h 0).stable ≡ false → (k : ℕ) → IsTrue (h k).stable → LastStabilize f k
  stable_from first zero s = absurd (cc)
  stable_from first (suc k) s = by (f k) refl (λ b. stable_from first k b) where
    by : (m : Move) → f k ≡ m → (IsTrue (h k).stable → LastStabilize f k) → LastStabilize f (suc k)
    by keep e earlier =
        let before = earlier (sym (mode_after k keep e) ∙ s) in
        record {
          place = before.place;
          before = omega (arith, before.before);
          stabilizes = before.stabilizes;
          latest = λ j l c. ⊎_elim (λ (here : j ≡ k). absurd (⊎_elim (λ (x : f j ≡ close). cc (ap f here)) (λ (x : f j ≡ fall). cc (ap f here)) c)) (λ below. before.latest j below c) (cases_last j k l);
        }
    by stabilize e earlier = record {
      place = k;
      before = omega arith;
      stabilizes = e;
      latest = λ j l c. ⊎_elim (λ (here : j ≡ k). absurd (⊎_elim (λ (x : f j ≡ close). cc (ap f here)) (λ (x : f j ≡ fall). cc (ap f here)) c)) (λ below. below) (cases_last j k l);
    }
    by close e earlier = absurd (let v = mode_after k close e in cc)
    by fall e earlier = absurd (let v = mode_after k fall e in cc)

  pub stable_by : (k : ℕ) → LastStabilize f k → IsTrue (h k).stable
  stable_by zero l = absurd (omega (arith, l.before))
  stable_by (suc k) l = by (f k) refl (λ m. stable_by k m) where
    earlier : ¬ (f k ≡ stabilize) → LastStabilize f k
    earlier ne = record {
      place = l.place;
      before = ⊎_elim (λ (here : l.place ≡ k). absurd (ne (sym (ap f here) ∙ l.stabilizes))) (λ below. below) (cases_last l.place k l.before);
      stabilizes = l.stabilizes;
      latest = λ j b. l.latest j (omega arith);
    }

    by : (m : Move) → f k ≡ m → (LastStabilize f k → IsTrue (h k).stable) → IsTrue (h (suc k)).stable
    by keep e before = mode_after k keep e ∙ before (earlier (λ g. cc))
    by stabilize e before = mode_after k stabilize e
    by close e before = absurd (omega (arith, l.latest k (omega arith) (inl e), l.before))
    by fall e before = absurd (omega (arith, l.latest k (omega arith) (inr e), l.before))
