-- What a scan finds below a bound, with one more number, and of the whole run.
use Rattle.std.proofs.Common.{◌≡◌, ⊎_elim, ℕ, ◌+◌, ◌<◌, Bool, true, false, not, Option, Some, None, List, [], ◌∷◌, ◌++◌, length, get_or, eqb, eqb-true, eq-eqb, refl, sym, ap, ◌∙◌, subst, arith}
use Rattle.std.specs.List.{Contains}
use Rattle.std.specs.Option.{is_some, option_eq}
use Rattle.std.proofs.lemmas.List.Quantifiers.{all_pairs_push}
use Rattle.std.proofs.lemmas.List.Elements.{Contains-append_left, Contains-push, Contains-push_cases, Contains-get_or}
use Rattle.tau_mailbox.specs.declared.letter.Letter.{Letter}
use Rattle.tau_mailbox.specs.Letters.{AllBelow}
use Rattle.tau_trace.specs.declared.step.Step.TheVariants.{Take}
use Rattle.tau_trace.specs.Run.{Run, len, step_at}
use Rattle.tau_trace.specs.Known.{WellFormed, IsSound}
use Rattle.tau_trace.specs.Places.{IsFirst}
use Rattle.tau_trace.specs.Numbering.{born, sent, Removes, Receives, IsHome, InFlight}
use Rattle.tau_trace.specs.Turns.{Turn, IsOpenTurn, HasOpenTurn}
use Rattle.tau_trace.proofs.Lists.{same_some}
use Rattle.tau_trace.proofs.Once.{home_once, receives_once}
use Rattle.tau_rules.proofs.ActLemmas.{one_open_turn}
use Rattle.tau_rules.proofs.ActLemmasOfJobs.{taker_exists}
use Rattle.tau_check.proofs.Once.{same_taker}
use Rattle.tau_queue.specs.OpenTurns.{IsOpenFrom, AreOpenTurns}
use Rattle.tau_queue.specs.Flight.{IsWaiting, AreInFlight}
use Rattle.tau_queue.specs.Inner.Scans.{AreLettersBelow, AreThoseBelow, AreInTurnBelow, AreOpenBelow}
use Rattle.tau_queue.proofs.Members.{contains_nothing}
use Rattle.tau_queue.proofs.Homes.{below_or_last}
use Rattle.tau_queue.proofs.OpenLemmas.{AreBusy, few_turns}

module _ (P : ℕ → Type 0) where
  -- there are no numbers below 0
  pub none_below : (xs : List ℕ) → xs ≡ [] → AreThoseBelow P 0 xs
  none_below xs none = record {
    ascending = λ i j d a b. absurd (omega (arith, b, ap length none));
    each = λ k. (λ c. absurd (contains_nothing k (subst (λ (ys : List ℕ). Contains ys k) none c)), λ f. absurd (omega (arith, f.0)));
  }

  module _ (n : ℕ) (xs : List ℕ) (h : AreThoseBelow P n xs) where
    -- one number more, which has P
    pub one_found : P n → AreThoseBelow P (n + 1) (xs ++ n ∷ [])
    one_found has = record {
      ascending = all_pairs_push (λ a b. a < b) xs n h.ascending (λ k d lt. ((h.each (get_or xs k d)).0 (Contains-get_or xs k d lt)).0);
      each = λ k. (there k, back k);
    } where
      there : (k : ℕ) → Contains (xs ++ n ∷ []) k → (k < n + 1) × P k
      there k c = ⊎_elim
          (λ d. let f = (h.each k).0 d in (omega (arith, f.0), f.1))
          (λ (e : n ≡ k). (omega (arith, e), subst P e has))
          (Contains-push_cases xs n k c)

      back : (k : ℕ) → (k < n + 1) × P k → Contains (xs ++ n ∷ []) k
      back k f = ⊎_elim
          (λ lt. Contains-append_left xs (n ∷ []) k ((h.each k).1 (lt, f.1)))
          (λ (e : k ≡ n). subst (Contains (xs ++ n ∷ [])) (sym e) (Contains-push xs n))
          (below_or_last k n f.0)

    -- or which hasn't
    pub one_passed : ¬ P n → AreThoseBelow P (n + 1) xs
    one_passed lacks = record {
      ascending = h.ascending;
      each = λ k. (
        λ c. let f = (h.each k).0 c in (omega (arith, f.0), f.1),
        λ f. ⊎_elim (λ lt. (h.each k).1 (lt, f.1)) (λ (e : k ≡ n). absurd (lacks (subst P e f.1))) (below_or_last k n f.0),
      );
    }

    -- it isn't among those before
    pub not_yet : ¬ Contains xs n
    not_yet c = omega (arith, ((h.each n).0 c).0)

-- no letters below message 0
pub no_letters_below : (T : Run) (ls : List Letter) → ls ≡ [] → AreLettersBelow T 0 ls
no_letters_below T ls none = record {
  ascending = λ i j d a b. absurd (omega (arith, b, ap length none));
  each = λ l. (λ c. absurd (contains_nothing l (subst (λ (ks : List Letter). Contains ks l) none c)), λ f. absurd (omega (arith, f.0)));
}

pub letters_before : (T : Run) (n : ℕ) (ls : List Letter) → AreLettersBelow T n ls → AllBelow n ls
letters_before T n ls h k d lt = ((h.each (get_or ls k d)).0 (Contains-get_or ls k d lt)).0

-- a message that a step took out of flight has no letter
pub letter_passed : (T : Run) (n : ℕ) (ls : List Letter) → ¬ InFlight T n (len T) → AreLettersBelow T n ls → AreLettersBelow T (n + 1) ls
letter_passed T n ls gone h = record {
  ascending = h.ascending;
  each = λ l. (
    λ c. let f = (h.each l).0 c in (omega (arith, f.0), f.1),
    λ f. ⊎_elim (λ lt. (h.each l).1 (lt, f.1)) (λ (e : l.message ≡ n). absurd (gone (subst (λ m. InFlight T m (len T)) e f.1.in_flight))) (below_or_last l.message n f.0),
  );
}

-- a letter that waits comes behind those of the messages before it
pub letter_put : (T : Run) (x : Letter) (ls : List Letter) → IsSound T.opening → IsWaiting T x → AreLettersBelow T x.message ls → AreLettersBelow T (x.message + 1) (ls ++ x ∷ [])
letter_put T x ls sound waits h = record {
  ascending = all_pairs_push (λ a b. a.message < b.message) ls x h.ascending (letters_before T x.message ls h);
  each = λ l. (there l, back l);
} where
  there : (l : Letter) → Contains (ls ++ x ∷ []) l → (l.message < x.message + 1) × IsWaiting T l
  there l c = ⊎_elim
      (λ d. let f = (h.each l).0 d in (omega (arith, f.0), f.1))
      (λ (e : x ≡ l). subst (λ (y : Letter). (y.message < x.message + 1) × IsWaiting T y) e (omega arith, waits))
      (Contains-push_cases ls x l c)

  same : (l : Letter) → l.message ≡ x.message → IsWaiting T l → x ≡ l
  same l e wait =
      let who : x.who ≡ l.who = receives_once T x.message x.who l.who waits.receiver (subst (λ m. Receives T m l.who) e wait.receiver) in
      let node : x.node ≡ l.node = home_once T x.who x.node l.node sound waits.home (subst (λ t. IsHome T t l.node) (sym who) wait.home) in
      λ i. record { message = sym e i; who = who i; node = node i }

  back : (l : Letter) → (l.message < x.message + 1) × IsWaiting T l → Contains (ls ++ x ∷ []) l
  back l f = ⊎_elim
      (λ lt. Contains-append_left ls (x ∷ []) l ((h.each l).1 (lt, f.1)))
      (λ (e : l.message ≡ x.message). subst (λ (y : Letter). Contains (ls ++ x ∷ []) y) (same l e f.1) (Contains-push ls x))
      (below_or_last l.message x.message f.0)

-- whether a message is in flight, by the place at which a step took it out
pub taken_out : (T : Run) (m : ℕ) (r : Option ℕ) → IsFirst (Removes T m) (len T) r → is_some r ≡ true → ¬ InFlight T m (len T)
taken_out T m None first some f = absurd (cc)
taken_out T m (Some place) first some f = f.not_removed place first.0 first.1

pub still_in_flight : (T : Run) (m : ℕ) (r : Option ℕ) → m < sent T (len T) → IsFirst (Removes T m) (len T) r → is_some r ≡ false → InFlight T m (len T)
still_in_flight T m None lt first some = record { exists = lt; not_removed = first }
still_in_flight T m (Some place) lt first some = absurd (cc)

-- whether a transactor is in a turn, by the place of its Take
pub in_turn : (T : Run) (t : ℕ) (r : Option ℕ) (b : Bool) → IsOpenTurn T t (len T) r → is_some r ≡ not b → b ≡ false → HasOpenTurn T t (len T)
in_turn T t None b h says is = absurd (cc)
in_turn T t (Some place) b h says is = (place, h)

pub in_no_turn : (T : Run) (t : ℕ) (r : Option ℕ) (b : Bool) → IsOpenTurn T t (len T) r → is_some r ≡ not b → b ≡ true → ¬ HasOpenTurn T t (len T)
in_no_turn T t None b h says is f = h f.0 f.1.0 f.1.1
in_no_turn T t (Some place) b h says is f = absurd (cc)

-- whether the turn of a Take is open, by the place from which its transactor is in a turn
module _ (T : Run) (t m place : ℕ) (takes : step_at T place ≡ Some (Take t m)) where
  own : (f : IsOpenFrom T place) → Turn T t (len T) place f.message
  own f = subst (λ x. Turn T x (len T) place f.message) (same_taker f.who t f.message m (same_some (sym f.turn.takes ∙ takes))) f.turn

  pub open_told : (r : Option ℕ) → IsOpenTurn T t (len T) r → option_eq eqb r (Some place) ≡ true → IsOpenFrom T place
  open_told None u e = absurd (cc)
  open_told (Some p) u e = record { who = t; message = u.0; turn = subst (λ k. Turn T t (len T) k u.0) (eqb-true p place e) u.1 }

  pub open_tells : (r : Option ℕ) → IsOpenTurn T t (len T) r → IsOpenFrom T place → option_eq eqb r (Some place) ≡ true
  open_tells None idle f = absurd (idle place f.message (own f))
  open_tells (Some p) u f = eq-eqb p place (one_open_turn T t (len T) p place u.0 f.message u.1 (own f))

-- of the whole run
pub all_letters : (T : Run) (n : ℕ) (ls : List Letter) → n ≡ sent T (len T) → AreLettersBelow T n ls → AreInFlight T ls
all_letters T n ls is h = record {
  ascending = h.ascending;
  each = λ l. (λ c. ((h.each l).0 c).1, λ w. (h.each l).1 (omega (arith, w.in_flight.exists, is), w));
}

pub all_in_turn : (T : Run) → WellFormed T → (n : ℕ) (busy : List ℕ) → n ≡ born T (len T) → AreInTurnBelow T n busy → AreBusy T busy
all_in_turn T w n busy is h t = (λ c. ((h.each t).0 c).1, λ f. (h.each t).1 (omega (arith, taker_exists T w t f.0 (f.1.0, f.1.1.takes), is), f))

pub all_open : (T : Run) (n : ℕ) (places : List ℕ) → n ≡ len T → AreOpenBelow T n places → AreOpenTurns T places
all_open T n places is h = record {
  ascending = h.ascending;
  each = λ place. (λ c. ((h.each place).0 c).1, λ f. (h.each place).1 (omega (arith, f.turn.before, is), f));
}

-- a run without steps has no open turns
pub no_turns_first : (T : Run) (places : List ℕ) → len T ≡ 0 → AreOpenTurns T places → places ≡ []
no_turns_first T [] none h = refl
no_turns_first T (p ∷ ps) none h = absurd (omega (arith, few_turns T (p ∷ ps) h, none))
