-- Numbers, and what a trace keeps of its transactors, after a step.
use Rattle.std.proofs.Common.{◌≡◌, ◌⊎◌, inl, inr, ⊎_elim, ℕ, suc, ◌+◌, ◌^◌, ◌<◌, ◌≤◌, Bool, true, false, cond, eqb, ltb, List, [], ◌∷◌, ◌++◌, length, map, set, Option, Some, None, refl, sym, ap, ◌∙◌, subst, arith, length-append, length-set, ltb-true, lt-ltb}
use Rattle.std.specs.Prelude.{slice_get, option_and_then}
use Rattle.std.specs.Option.{option_map_or, option_or, option_map}
use Rattle.std.proofs.lemmas.Option.{slice_get_within, slice_get-map}
use Rattle.std.proofs.lemmas.List.{length-map}
use Rattle.std.proofs.lemmas.Bool.{cases_eq}
use Rattle.tau_value.specs.declared.shared.Value.{Value}
use Rattle.tau_history.specs.Timeline.{interval, opening, newborn}
use Rattle.tau_trace.specs.declared.opening.Opening.{Opening}
use Rattle.tau_trace.specs.declared.step.Step.{Step}
use Rattle.tau_trace.specs.declared.step.Step.TheVariants.{Send, New, Echo, Repeat}
use Rattle.tau_trace.specs.declared.transactor.Transactor.{Transactor}
use Rattle.tau_trace.specs.declared.message.Message.{Message}
use Rattle.tau_trace.specs.Steps.{actor, removed_by, is_new, makes_message}
use Rattle.tau_trace.specs.Run.{Run, len, step_at, starts, appended, Agree}
use Rattle.tau_trace.specs.Places.{IsFirst}
use Rattle.tau_trace.specs.Numbering.{born, sent, created, number_made}
use Rattle.tau_trace.specs.Histories.{history, EndsAt}
use Rattle.tau_trace.specs.Turns.{IsOpenTurn}
use Rattle.tau_trace.specs.Known.{IsKnown, IsKnownAt, IsInVersion, MayFollow, WellFormed}
use Rattle.tau_trace.specs.Tracking.{Tracks, TracksAll, transactor_after, created_at}
use Rattle.tau_trace.specs.Living.{Tracked}
use Rattle.tau_trace.specs.Stored.{noted_at, noted_of, with_new, transactors_after, HasNumbers, IsIndexed}
use Rattle.tau_trace.proofs.Lists.{same_some, slice_get-set_same, slice_get-set_other, slice_get-front, slice_get-last, slice_get-push_cases}
use Rattle.tau_trace.proofs.Counts.{count-suc, count-le}
use Rattle.tau_trace.proofs.Counted.{history-zero}
use Rattle.tau_trace.proofs.Agreement.{agree_appended, agree_below, agree_sym, step_at-appended, born-same, sent-same, ends-same, home-same, same_at}
use Rattle.tau_trace.proofs.TrackingLemmas.{tracks_own, tracks_other}
use Rattle.tau_trace.proofs.Quiet.{IsQuiet, quiet_history, quiet_turn, quiet_end, known_actor, unborn_quiet}
use Rattle.tau_trace.proofs.Sequences.{cases_last}

abbrev one_if : Bool → ℕ
one_if b = cond b 1 0

pub len-appended : (T : Run) (s : Step) → len (appended T s) ≡ suc (len T)
len-appended T s = omega (arith, length-append T.steps (s ∷ []))

pub born-next : (T : Run) (k : ℕ) (s : Step) → step_at T k ≡ Some s → born T (suc k) ≡ born T k + one_if (is_new s)
born-next T k s e = omega (arith, count-suc (λ j. option_map_or is_new (step_at T j) false) k, ap (λ o. one_if (option_map_or is_new o false)) e)

pub sent-next : (T : Run) (k : ℕ) (s : Step) → step_at T k ≡ Some s → sent T (suc k) ≡ sent T k + one_if (makes_message s)
sent-next T k s e = omega (arith, count-suc (λ j. option_map_or makes_message (step_at T j) false) k, ap (λ o. one_if (option_map_or makes_message o false)) e)

pub known_same : (o : Opening) (b c m n : ℕ) (s : Step) → b ≡ c → m ≡ n → IsKnown o b m s → IsKnown o c n s
known_same o b c m n s e f h = let P : ℕ → Type 0 = λ x. IsKnown o x n s in subst P e (let Q : ℕ → Type 0 = λ x. IsKnown o b x s in subst Q f h)

pub known_appended : (T : Run) (s : Step) → WellFormed T → MayFollow T s → (j : ℕ) (r : Step) → step_at (appended T s) j ≡ Some r → IsKnownAt (appended T s) j r
known_appended T s w may j r e = ⊎_elim old new (slice_get-push_cases T.steps s r j e) where
  U : Run
  U = appended T s

  agree : (i : ℕ) → i ≤ len T → Agree T U i
  agree i l = agree_below i l (agree_appended T s)

  carry : (i : ℕ) → i ≤ len T → IsKnownAt T i r → IsKnownAt (appended T s) i r
  carry i l h = known_same T.opening (born T i) (born (appended T s) i) (sent T i) (sent (appended T s) i) r (born-same i (agree_below i l (agree_appended T s))) (sent-same i (agree_below i l (agree_appended T s))) h

  old : step_at T j ≡ Some r → IsKnownAt (appended T s) j r
  old f = carry j (omega (arith, slice_get_within T.steps j r f)) (w.known j r f)

  new : (j ≡ len T) × (s ≡ r) → IsKnownAt (appended T s) j r
  new p = let P : ℕ → Type 0 = λ i. IsKnownAt (appended T s) i r in subst P (sym p.0) (carry (len T) (omega arith) (subst (IsKnownAt T (len T)) p.1 may.known))

versions_appended : (T : Run) (s : Step) → WellFormed T → MayFollow T s → (j : ℕ) (r : Step) → step_at (appended T s) j ≡ Some r → IsInVersion T.opening.version r
versions_appended T s w may j r e = ⊎_elim
    (λ f. w.versions j r f)
    (λ p. let P : Step → Type 0 = IsInVersion T.opening.version in subst P p.1 may.version)
    (slice_get-push_cases T.steps s r j e)

pub well_formed_appended : (T : Run) (s : Step) → WellFormed T → MayFollow T s → WellFormed (appended T s)
well_formed_appended T s w may = record {
  opening = w.opening;
  known = known_appended T s w may;
  versions = versions_appended T s w may;
  few_steps = omega (arith, may.few_steps, len-appended T s);
}

pub made_same : (s : Step) (a b m n : ℕ) → a ≡ b → m ≡ n → number_made s a m ≡ number_made s b n
made_same s a b m n e f = λ i. number_made s (e i) (f i)

pub numbers_appended : (T : Run) (s : Step) (made : List ℕ) (number : ℕ) → number ≡ number_made s (born T (len T)) (sent T (len T)) → HasNumbers T made → HasNumbers (appended T s) (made ++ number ∷ [])
numbers_appended T s made number is h = record {
  count = omega (arith, h.count, length-append made (number ∷ []), len-appended T s);
  each = λ k r e. ⊎_elim (old k r) (new k r) (slice_get-push_cases T.steps s r k e);
} where
  at : (k : ℕ) (r : Step) → k ≤ len T → number_made r (born T k) (sent T k) ≡ number_made r (born (appended T s) k) (sent (appended T s) k)
  at k r l = made_same r (born T k) (born (appended T s) k) (sent T k) (sent (appended T s) k) (born-same k (agree_below k l (agree_appended T s))) (sent-same k (agree_below k l (agree_appended T s)))

  old : (k : ℕ) (r : Step) → step_at T k ≡ Some r → slice_get (made ++ number ∷ []) k ≡ Some (number_made r (born (appended T s) k) (sent (appended T s) k))
  old k r e =
      let below = slice_get_within T.steps k r e in
      sym (slice_get-front made number k (omega (arith, below, h.count))) ∙ h.each k r e ∙ ap Some (at k r (omega (arith, below)))

  new : (k : ℕ) (r : Step) → (k ≡ len T) × (s ≡ r) → slice_get (made ++ number ∷ []) k ≡ Some (number_made r (born (appended T s) k) (sent (appended T s) k))
  new k r p =
      let here : k ≡ length made = omega (arith, p.0, h.count) in
      ap (slice_get (made ++ number ∷ [])) here ∙ slice_get-last made number ∙ ap Some (is ∙ at (len T) s (omega arith) ∙ (λ i. number_made (p.1 i) (born (appended T s) (sym p.0 i)) (sent (appended T s) (sym p.0 i))))

-- what the steps below k say is the same in a run that agrees
tracks_same : (T U : Run) (k t : ℕ) (r : Transactor) → Agree T U k → t < born T k → Tracks T k t r → Tracks U k t r
tracks_same T U k t r a b h =
    let same = same_at T U k a in
    record {
      home = home-same k t r.home a b h.home;
      turn = turn_same r.turn h.turn;
      end = end_same r.end h.end;
      stable = h.stable ∙ ap (λ x. x.stable) (same.history_is t);
      at_opening = h.at_opening ∙ ap (λ x. eqb (interval x) 0) (same.history_is t);
    } where
      turn_same : (o : Option ℕ) → IsOpenTurn T t k o → IsOpenTurn U t k o
      turn_same None n = λ place m u. n place m (((same_at T U k a).turn t place m).1 u)
      turn_same (Some place) u = (u.0, ((same_at T U k a).turn t place u.0).0 u.1)

      end_same : (o : Option ℕ) → IsFirst (EndsAt T t) k o → IsFirst (EndsAt U t) k o
      end_same None n = λ j l e. n j l (ends-same t j (agree_below (suc j) l (agree_sym a)) e)
      end_same (Some i) n = (n.0, ends-same t i (agree_below (suc i) n.0 a) n.1, λ j l e. n.2 j l (ends-same t j (agree_below (suc j) (omega (arith, l, n.0)) (agree_sym a)) e))

length-noted : (s : Step) (k : ℕ) (ts : List Transactor) (o : Option ℕ) → length (noted_of s k ts o) ≡ length ts
length-noted s k ts None = refl
length-noted s k ts (Some t) = by (slice_get ts t) where
  by : (o : Option Transactor) → length (noted_at s k ts t o) ≡ length ts
  by None = refl
  by (Some r) = length-set ts t (transactor_after s k r)

length-with_new : (s : Step) (ts : List Transactor) → length (with_new s ts) ≡ length ts + one_if (is_new s)
length-with_new (New t b n v) ts = length-append ts (created_at n ∷ [])
length-with_new s ts = omega arith

-- the record of a transactor that a step made
record MadeNew (s : Step) (r : Transactor) : Type 0 where
  by : ℕ
  behaviour : ℕ
  node : ℕ
  state : Value
  is : s ≡ New by behaviour node state
  record_is : created_at node ≡ r

with_new-cases : (s : Step) (ts : List Transactor) (t : ℕ) (r : Transactor) → slice_get (with_new s ts) t ≡ Some r → (slice_get ts t ≡ Some r) ⊎ ((t ≡ length ts) × MadeNew s r)
with_new-cases (New u b n v) ts t r e = ⊎_elim (λ x. inl x) (λ p. inr (p.0, record { by = u; behaviour = b; node = n; state = v; is = refl; record_is = p.1 })) (slice_get-push_cases ts (created_at n) r t e)
with_new-cases s ts t r e = inl e

-- the record of a transactor after a step: its own record noted, or as it was
data NotedCase (s : Step) (k : ℕ) (ts : List Transactor) (o : Option ℕ) (t : ℕ) (r : Transactor) : Type 0 where
  own : o ≡ Some t → (q : Transactor) → slice_get ts t ≡ Some q → transactor_after s k q ≡ r → NotedCase s k ts o t r
  other : ¬ (o ≡ Some t) → slice_get ts t ≡ Some r → NotedCase s k ts o t r

noted-cases : (s : Step) (k : ℕ) (ts : List Transactor) (o : Option ℕ) (t : ℕ) (r : Transactor) → slice_get (noted_of s k ts o) t ≡ Some r → NotedCase s k ts o t r
noted-cases s k ts None t r e = other (λ f. cc) e
noted-cases s k ts (Some u) t r e = by (slice_get ts u) refl e where
  by : (o : Option Transactor) → slice_get ts u ≡ o → slice_get (noted_at s k ts u o) t ≡ Some r → NotedCase s k ts (Some u) t r
  by None f g = other (λ x. let both = sym g ∙ ap (slice_get ts) (sym (same_some x)) ∙ f in cc) g
  by (Some q) f g = ⊎_elim
      (λ (x : t ≡ u). own (ap Some (sym x)) q (ap (slice_get ts) x ∙ f) (same_some (sym (slice_get-set_same ts u (transactor_after s k q) (slice_get_within ts u q f)) ∙ ap (slice_get (set ts u (transactor_after s k q))) (sym x) ∙ g)))
      (λ ne. other (λ x. ne (sym (same_some x))) (sym (slice_get-set_other ts u t (transactor_after s k q) ne) ∙ g))
      (cases_eq t u)

not_below : (a b : ℕ) → ¬ (a < b) → ltb a b ≡ false
not_below a b n = by (ltb a b) refl where
  by : (x : Bool) → ltb a b ≡ x → x ≡ false
  by true e = absurd (n (ltb-true a b e))
  by false e = refl

newborn_at : (T : Run) (k t : ℕ) → ¬ (t < starts T) → IsQuiet T t k → history T t k ≡ newborn
newborn_at T k t not q = quiet_history T t k q ∙ history-zero T t ∙ ap (λ b. cond b opening newborn) (not_below t (starts T) not)

-- the record of a transactor right after its New
tracks_new : (T : Run) (k t : ℕ) (s : Step) (r : Transactor) → step_at T k ≡ Some s → t ≡ born T k → MadeNew s r → IsQuiet T t (suc k) → Tracks T (suc k) t r
tracks_new T k t s r e is m q =
    let P : Transactor → Type 0 = λ x. Tracks T (suc k) t x in
    subst P m.record_is (record {
      home = created {j = k} {by = m.by} (record { behaviour = m.behaviour; node = m.node; state = m.state; stands = e ∙ ap Some m.is; made = is }) refl;
      turn = quiet_turn T t (suc k) q;
      end = quiet_end T t (suc k) q;
      stable = ap (λ x. x.stable) (sym here);
      at_opening = ap (λ x. eqb (interval x) 0) (sym here);
    }) where
      here : history T t (suc k) ≡ newborn
      here = newborn_at T (suc k) t (omega (arith, is)) q

pub transactors_appended : (T : Run) (s : Step) (ts : List Transactor) → WellFormed T → MayFollow T s → TracksAll T ts → TracksAll (appended T s) (transactors_after s (len T) ts)
transactors_appended T s ts w may h = record {
  count = omega (arith, length-with_new s (noted_of s (len T) ts (actor s)), length-noted s (len T) ts (actor s), h.count, born-same (len T) agree, next, ap (born U) (len-appended T s));
  each = λ t r e. let P : ℕ → Type 0 = λ k. Tracks U k t r in subst P (sym (len-appended T s)) (⊎_elim (old t r) (new t r) (with_new-cases s (noted_of s (len T) ts (actor s)) t r e));
} where
  U : Run
  U = appended T s

  agree : Agree T (appended T s) (len T)
  agree = agree_appended T s

  here : step_at (appended T s) (len T) ≡ Some s
  here = step_at-appended T s

  next : born (appended T s) (suc (len T)) ≡ born (appended T s) (len T) + one_if (is_new s)
  next = born-next (appended T s) (len T) s (step_at-appended T s)

  before : (t : ℕ) (r : Transactor) → slice_get ts t ≡ Some r → Tracks (appended T s) (len T) t r
  before t r e = tracks_same T (appended T s) (len T) t r (agree_appended T s) (omega (arith, slice_get_within ts t r e, h.count)) (h.each t r e)

  old : (t : ℕ) (r : Transactor) → slice_get (noted_of s (len T) ts (actor s)) t ≡ Some r → Tracks (appended T s) (suc (len T)) t r
  old t r e = by (noted-cases s (len T) ts (actor s) t r e) where
    by : NotedCase s (len T) ts (actor s) t r → Tracks (appended T s) (suc (len T)) t r
    by (own a q f g) = let P : Transactor → Type 0 = λ x. Tracks (appended T s) (suc (len T)) t x in subst P g (tracks_own (appended T s) (len T) t s q (step_at-appended T s) a (before t q f))
    by (other n f) = tracks_other (appended T s) (len T) t s r (step_at-appended T s) n (before t r f)

  new : (t : ℕ) (r : Transactor) → (t ≡ length (noted_of s (len T) ts (actor s))) × MadeNew s r → Tracks (appended T s) (suc (len T)) t r
  new t r p =
      let is : t ≡ born T (len T) = omega (arith, p.0, length-noted s (len T) ts (actor s), h.count) in
      let quiet : IsQuiet (appended T s) t (suc (len T)) = λ j l a. ⊎_elim
      (λ (x : j ≡ len T). omega (arith, is, known_actor T.opening (born T (len T)) (sent T (len T)) t s may.known (sym (ap (option_and_then actor) (step_at-appended T s)) ∙ ap (λ i. option_and_then actor (step_at (appended T s) i)) (sym x) ∙ a)))
      (λ b. unborn_quiet T t (len T) w.known (omega (arith, is)) j b (ap (option_and_then actor) ((agree_appended T s).steps j b) ∙ a))
      (cases_last j (len T) l) in
      tracks_new (appended T s) (len T) t s r (step_at-appended T s) (is ∙ born-same (len T) (agree_appended T s)) p.1 quiet

-- how many transactors and messages there can be
pub born-le : (T : Run) (k : ℕ) → born T k ≤ starts T + k
born-le T k = omega (arith, count-le (λ j. option_map_or is_new (step_at T j) false) k)

pub sent-le : (T : Run) (k : ℕ) → sent T k ≤ length T.opening.targets + k
sent-le T k = omega (arith, count-le (λ j. option_map_or makes_message (step_at T j) false) k)

pub few_transactors : (T : Run) (made : List ℕ) (tracked : Tracked) (records : List Message) → IsIndexed T made tracked records → length tracked.transactors < 2 ^ 32
few_transactors T made tracked records x = omega (arith, x.transactors.count, born-le T (len T), x.well_formed.opening.few_names, x.well_formed.few_steps)

pub few_messages : (T : Run) (made : List ℕ) (tracked : Tracked) (records : List Message) → IsIndexed T made tracked records → length records < 2 ^ 32
few_messages T made tracked records x = omega (arith, x.messages.count, sent-le T (len T), x.well_formed.opening.few_targets, x.well_formed.few_steps)

made-lt : (s : Step) (a m n : ℕ) → a < n → m < n → 0 < n → number_made s a m < n
made-lt (Send t u v) a m n h k z = k
made-lt (Echo t x) a m n h k z = k
made-lt (Repeat x) a m n h k z = k
made-lt (New t b c v) a m n h k z = h
made-lt s a m n h k z = z

pub few_numbers : (T : Run) (s : Step) (made : List ℕ) (tracked : Tracked) (records : List Message) → IsIndexed T made tracked records → number_made s (length tracked.transactors) (length records) < 2 ^ 32
few_numbers T s made tracked records x = made-lt s (length tracked.transactors) (length records) (2 ^ 32) (few_transactors T made tracked records x) (few_messages T made tracked records x) (omega arith)

pub noted_count : (s : Step) (k : ℕ) (ts : List Transactor) → length (noted_of s k ts (actor s)) ≡ length ts
noted_count s k ts = length-noted s k ts (actor s)
