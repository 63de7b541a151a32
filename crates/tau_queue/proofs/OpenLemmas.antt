-- The open turns after one more step.
use Rattle.std.proofs.Common.{◌≡◌, ◌≢◌, ◌⊎◌, ◌↔◌, inl, inr, ⊎_elim, ℕ, zero, suc, ◌<◌, ◌≤◌, Bool, true, false, not, IsTrue, eqb, eqb-true, eq-eqb, Some, None, List, [], ◌∷◌, ◌++◌, get_or, filter, length, refl, sym, ap, ◌∙◌, subst, arith}
use Rattle.std.specs.List.{Contains, AllPairs}
use Rattle.std.proofs.lemmas.List.Kept.{AllPairs-filter}
use Rattle.std.proofs.lemmas.List.Quantifiers.{all_pairs_push}
use Rattle.std.proofs.lemmas.List.Elements.{Contains-append_left, Contains-push, Contains-push_cases, Contains-get_or}
use Rattle.tau_trace.specs.declared.step.Step.{Step}
use Rattle.tau_trace.specs.declared.step.Step.TheVariants.{Take, Get, Set, Skip, Send, New, Stabilize, Ask}
use Rattle.tau_trace.specs.Steps.{actor, ends_turn}
use Rattle.tau_trace.specs.Run.{Run, len, step_at, appended, Does}
use Rattle.tau_trace.specs.Turns.{Turn, IsOpenTurn, HasOpenTurn}
use Rattle.tau_trace.proofs.Agreement.{agree_appended, step_at-appended, same_at}
use Rattle.tau_trace.proofs.Indexing.{len-appended}
use Rattle.tau_trace.proofs.Lists.{same_some}
use Rattle.tau_mailbox.specs.MailState.{is_not}
use Rattle.tau_past.specs.Carried.{touches}
use Rattle.tau_past.specs.KnownLaws.{KeepsTurns, keeps_pending}
use Rattle.tau_past.proofs.PendingLemmas.{turns_after_step}
use Rattle.tau_rules.proofs.ActLemmas.{one_open_turn}
use Rattle.tau_legal.specs.Choices.{goes_on}
use Rattle.tau_check.proofs.Once.{same_taker, same_taken}
use Rattle.tau_check.proofs.Turns.{BeginsNone, earlier, ended, stays_open}
use Rattle.tau_queue.specs.OpenTurns.{IsOpenFrom, AreOpenTurns}
use Rattle.tau_queue.proofs.Members.{contains_filter, filter_contains}

-- another number
is_not-true : (q b : ℕ) → b ≢ q → is_not q b ≡ true
is_not-true q b ne = by (eqb b q) refl where
  by : (c : Bool) → eqb b q ≡ c → not c ≡ true
  by true e = absurd (ne (eqb-true b q e))
  by false e = refl

not_same : (q b : ℕ) → is_not q b ≡ true → b ≢ q
not_same q b says same =
    let is : eqb b q ≡ true = eq-eqb b q same in
    let both : false ≡ true = sym (ap not is) ∙ says in
    cc

same_or_other : (t u : ℕ) → (t ≡ u) ⊎ (t ≢ u)
same_or_other t u = grind arith

-- the same turns are open after the step
abbrev pub TurnsStay : Run → Step → Type 0
TurnsStay T s = (t place m : ℕ) → Turn (appended T s) t (len (appended T s)) place m ↔ Turn T t (len T) place m

-- and the one of `who` that the step begins with message n
abbrev pub TurnsBegin : Run → Step → ℕ → ℕ → Type 0
TurnsBegin T s who n = (t place m : ℕ) → Turn (appended T s) t (len (appended T s)) place m ↔ (Turn T t (len T) place m ⊎ ((t ≡ who) × (place ≡ len T) × (m ≡ n)))

-- all but the one of `who`
abbrev pub TurnsEnd : Run → Step → ℕ → Type 0
TurnsEnd T s who = (t place m : ℕ) → Turn (appended T s) t (len (appended T s)) place m ↔ (Turn T t (len T) place m × (t ≢ who))

-- a step that ends a turn begins none
ends_begins_none : (s : Step) → IsTrue (ends_turn s) → BeginsNone s
ends_begins_none s h t m e =
    let both : false ≡ true = sym (ap ends_turn e) ∙ h in
    cc

going_kind : (s : Step) → IsTrue (goes_on s) → IsTrue (touches s) ⊎ IsTrue (keeps_pending s)
going_kind (Get t) h = inl refl
going_kind (Set t v) h = inl refl
going_kind (Skip t) h = inl refl
going_kind (Send t u v) h = inr refl
going_kind (New t b n v) h = inr refl
going_kind (Stabilize t) h = inl refl
going_kind (Ask t a) h = inl refl
going_kind s h = absurd (cc)

going_begins_none : (s : Step) → IsTrue (goes_on s) → BeginsNone s
going_begins_none s h t m e =
    let both : false ≡ true = sym (ap goes_on e) ∙ h in
    cc

module _ (T : Run) (s : Step) where
  turn_at : (t place m : ℕ) → Turn (appended T s) t (suc (len T)) place m → Turn (appended T s) t (len (appended T s)) place m
  turn_at t place m u = subst (λ k. Turn (appended T s) t k place m) (sym (len-appended T s)) u

  does : (test : Step → Bool) (t : ℕ) → actor s ≡ Some t → IsTrue (test s) → Does test (appended T s) t (len T)
  does test t by passes = record { step = s; stands = step_at-appended T s; by = by; passes = passes }

  before : BeginsNone s → (t place m : ℕ) → Turn (appended T s) t (len (appended T s)) place m → Turn T t (len T) place m
  before begins t place m u = ⊎_elim (λ v. v) (λ e. absurd (begins t m e.1)) (earlier T s t place m u)

  -- a step of one that is in no turn, or of nobody, which begins none
  pub stay_idle : BeginsNone s → ((t : ℕ) → actor s ≡ Some t → IsOpenTurn T t (len T) None) → TurnsStay T s
  stay_idle begins idle t place m = (before begins t place m, λ u. stays_open T s t place m (λ by. idle t by place m u) u)

  -- a step with which a turn goes on
  pub stay_going : (who : ℕ) → actor s ≡ Some who → IsTrue (goes_on s) → TurnsStay T s
  stay_going who by going t place m = (before (going_begins_none s going) t place m, λ u. ⊎_elim (own u) (λ ne. stays_open T s t place m (λ e. ne (same_some (sym e ∙ by))) u) (same_or_other t who)) where
    keeps : KeepsTurns (appended T s) who (len T)
    keeps = ⊎_elim
        (λ h. (turns_after_step (appended T s) who (len T)).touching (does touches who by h))
        (λ h. (turns_after_step (appended T s) who (len T)).keeping (does keeps_pending who by h))
        (going_kind s going)

    own : Turn T t (len T) place m → t ≡ who → Turn (appended T s) t (len (appended T s)) place m
    own u e =
        let k : KeepsTurns (appended T s) t (len T) = subst (λ x. KeepsTurns (appended T s) x (len T)) (sym e) keeps in
        turn_at t place m ((k place m).1 (((same_at T (appended T s) (len T) (agree_appended T s)).turn t place m).0 u))

  -- a Take by one that is in no turn
  pub begin_take : (who n : ℕ) → s ≡ Take who n → IsOpenTurn T who (len T) None → TurnsBegin T s who n
  begin_take who n is idle t place m = (there, back) where
    at : step_at (appended T s) (len T) ≡ Some (Take who n)
    at = step_at-appended T s ∙ ap Some is

    there : Turn (appended T s) t (len (appended T s)) place m → Turn T t (len T) place m ⊎ ((t ≡ who) × (place ≡ len T) × (m ≡ n))
    there u = ⊎_elim (λ v. inl v) (λ e. inr (same_taker t who m n (sym e.1 ∙ is), e.0, same_taken t who m n (sym e.1 ∙ is))) (earlier T s t place m u)

    old : Turn T t (len T) place m → Turn (appended T s) t (len (appended T s)) place m
    old u = stays_open T s t place m (λ by. idle place m (subst (λ x. Turn T x (len T) place m) (same_some (sym by ∙ ap actor is)) u)) u

    own : (t ≡ who) × (place ≡ len T) × (m ≡ n) → Turn (appended T s) t (len (appended T s)) place m
    own e =
        let u : Turn (appended T s) who (suc (len T)) place m = ((turns_after_step (appended T s) who (len T)).take n at place m).1 (e.1, e.2) in
        subst (λ x. Turn (appended T s) x (len (appended T s)) place m) (sym e.0) (turn_at who place m u)

    back : Turn T t (len T) place m ⊎ ((t ≡ who) × (place ≡ len T) × (m ≡ n)) → Turn (appended T s) t (len (appended T s)) place m
    back (inl u) = old u
    back (inr e) = own e

  -- a step that ends a turn
  pub end_own : (who : ℕ) → actor s ≡ Some who → IsTrue (ends_turn s) → TurnsEnd T s who
  end_own who by ends t place m = (
    λ u. (before (ends_begins_none s ends) t place m u, λ e. ended T s t place m (by ∙ ap Some (sym e)) ends u),
    λ r. stays_open T s t place m (λ e. r.1 (same_some (sym e ∙ by))) r.0,
  )

-- the places of the open turns are below the length
pub open_before : (T : Run) (places : List ℕ) (place : ℕ) → AreOpenTurns T places → Contains places place → place < len T
open_before T places place h c = ((h.each place).0 c).turn.before

module _ (T : Run) (s : Step) (places : List ℕ) (h : AreOpenTurns T places) where
  pub open_stay : TurnsStay T s → AreOpenTurns (appended T s) places
  open_stay stays = record {
    ascending = h.ascending;
    each = λ place. (
      λ c. let f = (h.each place).0 c in record { who = f.who; message = f.message; turn = (stays f.who place f.message).1 f.turn },
      λ f. (h.each place).1 (record { who = f.who; message = f.message; turn = (stays f.who place f.message).0 f.turn }),
    );
  }

  pub open_begin : (who n : ℕ) → TurnsBegin T s who n → AreOpenTurns (appended T s) (places ++ len T ∷ [])
  open_begin who n begins = record {
    ascending = all_pairs_push (λ a b. a < b) places (len T) h.ascending (λ k d lt. open_before T places (get_or places k d) h (Contains-get_or places k d lt));
    each = λ place. (there place, back place);
  } where
    there : (place : ℕ) → Contains (places ++ len T ∷ []) place → IsOpenFrom (appended T s) place
    there place c = ⊎_elim
        (λ d. let f = (h.each place).0 d in record { who = f.who; message = f.message; turn = (begins f.who place f.message).1 (inl f.turn) })
        (λ (e : len T ≡ place). record { who = who; message = n; turn = (begins who place n).1 (inr (refl, sym e, refl)) })
        (Contains-push_cases places (len T) place c)

    back : (place : ℕ) → IsOpenFrom (appended T s) place → Contains (places ++ len T ∷ []) place
    back place f = ⊎_elim
        (λ u. Contains-append_left places (len T ∷ []) place ((h.each place).1 (record { who = f.who; message = f.message; turn = u })))
        (λ e. subst (Contains (places ++ len T ∷ [])) (sym e.1) (Contains-push places (len T)))
        ((begins f.who place f.message).0 f.turn)

  pub open_end : (who place m : ℕ) → TurnsEnd T s who → Turn T who (len T) place m → AreOpenTurns (appended T s) (filter (is_not place) places)
  open_end who place m ends u = record {
    ascending = AllPairs-filter (λ a b. a < b) (is_not place) places h.ascending;
    each = λ other. (there other, back other);
  } where
    there : (other : ℕ) → Contains (filter (is_not place) places) other → IsOpenFrom (appended T s) other
    there other c =
        let r = filter_contains (is_not place) places other c in
        let f = (h.each other).0 r.0 in
        record {
          who = f.who;
          message = f.message;
          turn = (ends f.who other f.message).1 (f.turn, λ e. not_same place other r.1 (one_open_turn T who (len T) other place f.message m (subst (λ x. Turn T x (len T) other f.message) e f.turn) u));
        }

    back : (other : ℕ) → IsOpenFrom (appended T s) other → Contains (filter (is_not place) places) other
    back other f =
        let r = (ends f.who other f.message).0 f.turn in
        contains_filter (is_not place) places other ((h.each other).1 (record { who = f.who; message = f.message; turn = r.0 }))
        (is_not-true place other (λ e. r.1 (same_taker f.who who f.message m (same_some (sym r.0.takes ∙ ap (step_at T) e ∙ u.takes)))))

-- those in a turn
abbrev pub AreBusy : Run → List ℕ → Type 0
AreBusy T busy = (t : ℕ) → Contains busy t ↔ HasOpenTurn T t (len T)

module _ (T : Run) (s : Step) (busy : List ℕ) (h : AreBusy T busy) where
  pub busy_stay : TurnsStay T s → AreBusy (appended T s) busy
  busy_stay stays t = (
    λ c. let f = (h t).0 c in (f.0, (f.1.0, (stays t f.0 f.1.0).1 f.1.1)),
    λ f. (h t).1 ((f.0, (f.1.0, (stays t f.0 f.1.0).0 f.1.1))),
  )

  pub busy_begin : (who n : ℕ) → TurnsBegin T s who n → AreBusy (appended T s) (busy ++ who ∷ [])
  busy_begin who n begins t = (there, back) where
    there : Contains (busy ++ who ∷ []) t → HasOpenTurn (appended T s) t (len (appended T s))
    there c = ⊎_elim
        (λ d. let f = (h t).0 d in (f.0, (f.1.0, (begins t f.0 f.1.0).1 (inl f.1.1))))
        (λ (e : who ≡ t). (len T, (n, (begins t (len T) n).1 (inr (sym e, refl, refl)))))
        (Contains-push_cases busy who t c)

    back : HasOpenTurn (appended T s) t (len (appended T s)) → Contains (busy ++ who ∷ []) t
    back f = ⊎_elim
        (λ u. Contains-append_left busy (who ∷ []) t ((h t).1 ((f.0, (f.1.0, u)))))
        (λ e. subst (Contains (busy ++ who ∷ [])) (sym e.0) (Contains-push busy who))
        ((begins t f.0 f.1.0).0 f.1.1)

  pub busy_end : (who : ℕ) → TurnsEnd T s who → AreBusy (appended T s) (filter (is_not who) busy)
  busy_end who ends t = (
    λ c. let r = filter_contains (is_not who) busy t c in let f = (h t).0 r.0 in (f.0, (f.1.0, (ends t f.0 f.1.0).1 (f.1.1, not_same who t r.1))),
    λ f. let r = (ends t f.0 f.1.0).0 f.1.1 in contains_filter (is_not who) busy t ((h t).1 ((f.0, (f.1.0, r.0)))) (is_not-true who t r.1),
  )

-- ascending numbers below a bound are no more than it
ascending_fewer : (xs : List ℕ) (n : ℕ) → AllPairs (λ a b. a < b) xs → ((k d : ℕ) → k < length xs → get_or xs k d < n) → (k d : ℕ) → k < length xs → k ≤ get_or xs k d
ascending_fewer xs n ascending below zero d l = omega arith
ascending_fewer xs n ascending below (suc k) d l = omega (arith, ascending_fewer xs n ascending below k d (omega (arith, l)), ascending k (suc k) d (omega arith) l)

pub few_turns : (T : Run) (places : List ℕ) → AreOpenTurns T places → length places ≤ len T
few_turns T [] h = omega arith
few_turns T (p ∷ ps) h =
    let last : ℕ = length ps in
    let below : (k d : ℕ) → k < length (p ∷ ps) → get_or (p ∷ ps) k d < len T = λ k d lt. open_before T (p ∷ ps) (get_or (p ∷ ps) k d) h (Contains-get_or (p ∷ ps) k d lt) in
    omega (arith, ascending_fewer (p ∷ ps) (len T) h.ascending below last 0 (omega arith), below last 0 (omega arith))
