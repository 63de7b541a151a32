-- The letters of the messages in flight, after one more step.
use Rattle.std.proofs.Common.{◌≡◌, ◌≢◌, ◌⊎◌, ◌↔◌, ⊎_elim, ℕ, suc, ◌+◌, ◌<◌, Bool, true, false, not, eqb, eqb-true, eq-eqb, Option, Some, None, List, [], ◌∷◌, ◌++◌, get_or, filter, refl, sym, ap, ◌∙◌, subst, arith}
use Rattle.std.specs.Prelude.{IfSome}
use Rattle.std.specs.List.{Contains}
use Rattle.std.proofs.lemmas.List.Kept.{AllPairs-filter}
use Rattle.std.proofs.lemmas.List.Quantifiers.{all_pairs_push}
use Rattle.std.proofs.lemmas.List.Elements.{Contains-append_left, Contains-push, Contains-push_cases, Contains-get_or}
use Rattle.tau_value.specs.declared.shared.Value.{Value}
use Rattle.tau_mailbox.specs.declared.letter.Letter.{Letter}
use Rattle.tau_mailbox.specs.Letters.{is_other, AllBelow, IsAscending}
use Rattle.tau_trace.specs.declared.step.Step.{Step}
use Rattle.tau_trace.specs.declared.step.Step.TheVariants.{Send, Echo, Repeat}
use Rattle.tau_trace.specs.Steps.{removed_by, makes_message}
use Rattle.tau_trace.specs.Run.{Run, len, appended}
use Rattle.tau_trace.specs.Numbering.{born, sent, HasSender, Receives, message, notice, copy, IsHome, InFlight}
use Rattle.tau_trace.specs.Known.{MayFollow, WellFormed}
use Rattle.tau_trace.proofs.Lists.{same_some}
use Rattle.tau_trace.proofs.Agreement.{agree_appended, step_at-appended, same_at}
use Rattle.tau_trace.proofs.Indexing.{len-appended}
use Rattle.tau_trace.proofs.Once.{home_once, receives_once}
use Rattle.tau_rules.proofs.DeliverLemmas.{receiver_exists}
use Rattle.tau_rules.proofs.AppendedRuns.{one_if, sent_here, sent_then, flew, flies_on, not_removed, new_flies}
use Rattle.tau_queue.specs.Flight.{IsWaiting, AreInFlight}
use Rattle.tau_queue.specs.Inner.Index.{IsNoticeLetter}
use Rattle.tau_queue.proofs.Members.{contains_filter, filter_contains}

-- a letter of another message
pub is_other-true : (m : ℕ) (l : Letter) → l.message ≢ m → is_other m l ≡ true
is_other-true m l ne = by (eqb l.message m) refl where
  by : (b : Bool) → eqb l.message m ≡ b → not b ≡ true
  by true e = absurd (ne (eqb-true l.message m e))
  by false e = refl

pub other_message : (m : ℕ) (l : Letter) → is_other m l ≡ true → l.message ≢ m
other_message m l says same =
    let is : eqb l.message m ≡ true = eq-eqb l.message m same in
    let both : false ≡ true = sym (ap not is) ∙ says in
    cc

module _ (T : Run) (s : Step) (v : WellFormed T) where
  -- the letters that wait at the end of the longer run, by its length
  waits_at : (l : Letter) → InFlight (appended T s) l.message (suc (len T)) → Receives (appended T s) l.message l.who → IsHome (appended T s) l.who l.node → IsWaiting (appended T s) l
  waits_at l f r h = record { in_flight = subst (InFlight (appended T s) l.message) (sym (len-appended T s)) f; receiver = r; home = h }

  -- a letter that the step leaves waits on
  pub waits_on : (l : Letter) → ¬ (removed_by s ≡ Some l.message) → IsWaiting T l → IsWaiting (appended T s) l
  waits_on l stays h =
      let same = same_at T (appended T s) (len T) (agree_appended T s) in
      waits_at l (flies_on T s l.message stays h.in_flight) ((same.receives l.message l.who h.in_flight.exists).0 h.receiver)
      ((same.home l.who l.node (receiver_exists T v l.message l.who h.in_flight.exists h.receiver)).0 h.home)

  -- a letter of an earlier message waited before, and the step leaves it
  pub waited : (l : Letter) → l.message < sent T (len T) → IsWaiting (appended T s) l → IsWaiting T l × (¬ (removed_by s ≡ Some l.message))
  waited l lt h =
      let f : InFlight (appended T s) l.message (suc (len T)) = subst (InFlight (appended T s) l.message) (len-appended T s) h.in_flight in
      let same = same_at T (appended T s) (len T) (agree_appended T s) in
      let receiver : Receives T l.message l.who = (same.receives l.message l.who lt).1 h.receiver in (
        record { in_flight = flew T s l.message lt f; receiver = receiver; home = (same.home l.who l.node (receiver_exists T v l.message l.who lt receiver)).1 h.home },
        not_removed T s l.message f,
      )

  -- a letter that waits is of a message that exists
  pub waits_below : (l : Letter) → makes_message s ≡ false → IsWaiting (appended T s) l → l.message < sent T (len T)
  waits_below l no_send h =
      let f : InFlight (appended T s) l.message (suc (len T)) = subst (InFlight (appended T s) l.message) (len-appended T s) h.in_flight in
      let none : sent (appended T s) (suc (len T)) ≡ sent T (len T) + 0 = subst (λ (b : Bool). sent (appended T s) (suc (len T)) ≡ sent T (len T) + one_if b) no_send (sent_then T s) in
      omega (arith, f.exists, none)

  -- after a step that takes no message out of flight and sends none
  pub letters_stay : (ls : List Letter) → removed_by s ≡ None → makes_message s ≡ false → AreInFlight T ls → AreInFlight (appended T s) ls
  letters_stay ls none no_send h = record {
    ascending = h.ascending;
    each = λ l. (
      λ c. waits_on l (λ e. nothing (sym none ∙ e)) ((h.each l).0 c),
      λ w. (h.each l).1 (waited l (waits_below l no_send w) w).0,
    );
  } where
    nothing : {m : ℕ} → ¬ (None ≡ Some m)
    nothing e = cc

  -- after a step that takes one out
  pub letters_without : (m : ℕ) (ls : List Letter) → removed_by s ≡ Some m → makes_message s ≡ false → AreInFlight T ls → AreInFlight (appended T s) (filter (is_other m) ls)
  letters_without m ls takes no_send h = record {
    ascending = AllPairs-filter (λ a b. a.message < b.message) (is_other m) ls h.ascending;
    each = λ l. (
      λ c. let r = filter_contains (is_other m) ls l c in waits_on l (λ e. other_message m l r.1 (same_some (sym e ∙ takes))) ((h.each l).0 r.0),
      λ w. let r = waited l (waits_below l no_send w) w in contains_filter (is_other m) ls l ((h.each l).1 r.0) (is_other-true m l (λ e. r.1 (takes ∙ ap Some (sym e)))),
    );
  }

-- the messages of the letters exist
pub letters_below : (T : Run) (ls : List Letter) → AreInFlight T ls → AllBelow (sent T (len T)) ls
letters_below T ls h k d lt = ((h.each (get_or ls k d)).0 (Contains-get_or ls k d lt)).in_flight.exists

-- so the letter of a notice comes behind them
pub notice_last : (T : Run) (t m : ℕ) (o : Option Letter) (ls : List Letter) → IsNoticeLetter T t m o → AreInFlight T ls → IfSome o (λ l. AllBelow l.message ls)
notice_last T t m None ls tells h = tt
notice_last T t m (Some l) ls tells h = subst (λ n. AllBelow n ls) (sym tells.0) (letters_below T ls h)

-- the letter of the message that a step makes
abbrev pub letter_to : Run → ℕ → ℕ → Letter
letter_to T u n = record { message = sent T (len T); who = u; node = n }

last_or_below : (j k : ℕ) → j < k + 1 → (j < k) ⊎ (j ≡ k)
last_or_below j k l = grind arith

-- the letters that a step leaves in flight
pub record AreLeft (s : Step) (ls rs : List Letter) : Type 0 where
  pub ascending : IsAscending rs
  pub each : (l : Letter) → Contains rs l ↔ (Contains ls l × (¬ (removed_by s ≡ Some l.message)))

pub all_left : (T : Run) (s : Step) (ls : List Letter) → removed_by s ≡ None → AreInFlight T ls → AreLeft s ls ls
all_left T s ls none h = record { ascending = h.ascending; each = λ l. (λ c. (c, λ e. nothing (sym none ∙ e)), λ p. p.0) } where
  nothing : {m : ℕ} → ¬ (None ≡ Some m)
  nothing e = cc

pub others_left : (T : Run) (s : Step) (m : ℕ) (ls : List Letter) → removed_by s ≡ Some m → AreInFlight T ls → AreLeft s ls (filter (is_other m) ls)
others_left T s m ls takes h = record {
  ascending = AllPairs-filter (λ a b. a.message < b.message) (is_other m) ls h.ascending;
  each = λ l. (
    λ c. let r = filter_contains (is_other m) ls l c in (r.0, λ e. other_message m l r.1 (same_some (sym e ∙ takes))),
    λ p. contains_filter (is_other m) ls l p.0 (is_other-true m l (λ e. p.1 (takes ∙ ap Some (sym e)))),
  );
}

module _ (T : Run) (s : Step) (w : WellFormed T) (may : MayFollow T s) (makes : makes_message s ≡ true) (u n : ℕ) (receiver : Receives (appended T s) (sent T (len T)) u) (home : IsHome (appended T s) u n) where
  one_more : sent (appended T s) (suc (len T)) ≡ sent T (len T) + 1
  one_more = subst (λ (b : Bool). sent (appended T s) (suc (len T)) ≡ sent T (len T) + one_if b) makes (sent_then T s)

  new_waits : IsWaiting (appended T s) (letter_to T u n)
  new_waits = waits_at T s w (letter_to T u n) (new_flies T s w may (sent T (len T)) (omega arith) (omega (arith, one_more))) receiver home

  -- after a step that makes a message
  pub letters_making : (ls rs : List Letter) → AreInFlight T ls → AreLeft s ls rs → AreInFlight (appended T s) (rs ++ letter_to T u n ∷ [])
  letters_making ls rs h left = record {
    ascending = all_pairs_push (λ a b. a.message < b.message) rs (letter_to T u n) left.ascending (λ k d lt. ((h.each (get_or rs k d)).0 ((left.each (get_or rs k d)).0 (Contains-get_or rs k d lt)).0).in_flight.exists);
    each = λ l. (there l, back l);
  } where
    there : (l : Letter) → Contains (rs ++ letter_to T u n ∷ []) l → IsWaiting (appended T s) l
    there l c = ⊎_elim
        (λ d. let p = (left.each l).0 d in waits_on T s w l p.1 ((h.each l).0 p.0))
        (λ (e : letter_to T u n ≡ l). subst (IsWaiting (appended T s)) e new_waits)
        (Contains-push_cases rs (letter_to T u n) l c)

    same : (l : Letter) → l.message ≡ sent T (len T) → IsWaiting (appended T s) l → letter_to T u n ≡ l
    same l e wait =
        let who : u ≡ l.who = receives_once (appended T s) (sent T (len T)) u l.who receiver (subst (λ m. Receives (appended T s) m l.who) e wait.receiver) in
        let node : n ≡ l.node = home_once (appended T s) u n l.node w.opening home (subst (λ x. IsHome (appended T s) x l.node) (sym who) wait.home) in
        λ i. record { message = sym e i; who = who i; node = node i }

    back : (l : Letter) → IsWaiting (appended T s) l → Contains (rs ++ letter_to T u n ∷ []) l
    back l wait =
        let f : InFlight (appended T s) l.message (suc (len T)) = subst (InFlight (appended T s) l.message) (len-appended T s) wait.in_flight in
        ⊎_elim
        (λ lt. let r = waited T s w l lt wait in Contains-append_left rs (letter_to T u n ∷ []) l ((left.each l).1 ((h.each l).1 r.0, r.1)))
        (λ (e : l.message ≡ sent T (len T)). subst (λ (x : Letter). Contains (rs ++ letter_to T u n ∷ []) x) (same l e wait) (Contains-push rs (letter_to T u n)))
        (last_or_below l.message (sent T (len T)) (omega (arith, f.exists, one_more)))

-- after a Send
module _ (T : Run) (t u : ℕ) (v : Value) (w : WellFormed T) (may : MayFollow T (Send t u v)) (n : ℕ) (home : IsHome T u n) where
  receiver_is : Receives (appended T (Send t u v)) (sent T (len T)) u
  receiver_is = message (record { to = u; value = v; stands = step_at-appended T (Send t u v); made = sym (sent_here T (Send t u v)) }) refl

  home_is : IsHome (appended T (Send t u v)) u n
  home_is = ((same_at T (appended T (Send t u v)) (len T) (agree_appended T (Send t u v))).home u n may.known.1).0 home

  pub letters_with : (ls : List Letter) → AreInFlight T ls → AreInFlight (appended T (Send t u v)) (ls ++ letter_to T u n ∷ [])
  letters_with ls h = letters_making T (Send t u v) w may refl u n receiver_is home_is ls ls h (all_left T (Send t u v) ls refl h)

-- after a Repeat: the copy has the receiver of the message that it repeats
module _ (T : Run) (m u n : ℕ) (w : WellFormed T) (may : MayFollow T (Repeat m)) (receives : Receives T m u) (home : IsHome T u n) where
  copy_received : Receives (appended T (Repeat m)) (sent T (len T)) u
  copy_received = copy {k = len T} {n = m} (record { stands = step_at-appended T (Repeat m); made = sym (sent_here T (Repeat m)); earlier = may.known }) (((same_at T (appended T (Repeat m)) (len T) (agree_appended T (Repeat m))).receives m u may.known).0 receives)

  copy_home : IsHome (appended T (Repeat m)) u n
  copy_home = ((same_at T (appended T (Repeat m)) (len T) (agree_appended T (Repeat m))).home u n (receiver_exists T w m u may.known receives)).0 home

  pub letters_repeated : (ls : List Letter) → AreInFlight T ls → AreInFlight (appended T (Repeat m)) (ls ++ letter_to T u n ∷ [])
  letters_repeated ls h = letters_making T (Repeat m) w may refl u n copy_received copy_home ls ls h (all_left T (Repeat m) ls refl h)

-- after an Echo: the notice goes to the sender of the message, which is out of flight
module _ (T : Run) (t m u n : ℕ) (w : WellFormed T) (may : MayFollow T (Echo t m)) (sender : HasSender T m u) (exists : u < born T (len T)) (home : IsHome T u n) where
  notice_received : Receives (appended T (Echo t m)) (sent T (len T)) u
  notice_received = notice {j = len T} {by = t} {n = m} (record { stands = step_at-appended T (Echo t m); made = sym (sent_here T (Echo t m)); earlier = may.known.1 })
      (record { place = sender.place; origin = ((same_at T (appended T (Echo t m)) (len T) (agree_appended T (Echo t m))).origin m sender.place u may.known.1).0 sender.origin })

  notice_home : IsHome (appended T (Echo t m)) u n
  notice_home = ((same_at T (appended T (Echo t m)) (len T) (agree_appended T (Echo t m))).home u n exists).0 home

  pub letters_echoed : (ls : List Letter) → AreInFlight T ls → AreInFlight (appended T (Echo t m)) (filter (is_other m) ls ++ letter_to T u n ∷ [])
  letters_echoed ls h = letters_making T (Echo t m) w may refl u n notice_received notice_home ls (filter (is_other m) ls) h (others_left T (Echo t m) m ls refl h)
