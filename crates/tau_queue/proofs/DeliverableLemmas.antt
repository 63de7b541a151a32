-- The deliverable messages, by the letters and the receivers in a turn.
use Rattle.std.proofs.Common.{◌≡◌, ℕ, zero, suc, ◌<◌, Bool, true, false, not, ◌||◌, eqb, eqb-true, eq-eqb, List, [], ◌∷◌, length, get_or, filter, map, Some, None, refl, sym, ap, ◌∙◌, subst, arith}
use Rattle.std.specs.Prelude.{slice_get}
use Rattle.std.specs.List.{AllPairs, Contains, list_any}
use Rattle.std.proofs.lemmas.List.{get_or-map, length-map}
use Rattle.std.proofs.lemmas.List.Kept.{AllPairs-filter}
use Rattle.std.proofs.lemmas.List.Folds.{list_any_at}
use Rattle.tau_mailbox.specs.declared.letter.Letter.{Letter}
use Rattle.tau_mailbox.specs.Letters.{IsAscending}
use Rattle.tau_mailbox.specs.MailState.{is_busy, is_deliverable}
use Rattle.tau_trace.specs.Run.{Run, len}
use Rattle.tau_trace.specs.Known.{WellFormed}
use Rattle.tau_trace.specs.Turns.{IsOpenTurn}
use Rattle.tau_trace.specs.Numbering.{InFlight, Receives}
use Rattle.tau_trace.proofs.Lists.{same_some}
use Rattle.tau_rules.proofs.DeliverLemmas.{receiver_exists}
use Rattle.tau_queue.specs.Flight.{IsWaiting, AreInFlight, IsDeliverable, AreDeliverable}
use Rattle.tau_queue.specs.ScriptedRun.{messages_of}
use Rattle.tau_queue.proofs.Members.{contains_here, contains_there, contains_filter, filter_contains, contains_map, map_contains}
use Rattle.tau_queue.proofs.Homes.{each_homed}
use Rattle.tau_queue.proofs.OpenLemmas.{AreBusy}

-- being in a list, as a test
any_at : (x q : ℕ) (xs : List ℕ) (b : Bool) → eqb x q ≡ b → (list_any (λ y. eqb y q) xs ≡ true → Contains xs q) → (b || list_any (λ y. eqb y q) xs) ≡ true → Contains (x ∷ xs) q
any_at x q xs true e back h = subst (λ (y : ℕ). Contains (x ∷ xs) y) (eqb-true x q e) (contains_here x xs)
any_at x q xs false e back h = contains_there x q xs (back h)

pub contains_any : (xs : List ℕ) (q : ℕ) → list_any (λ y. eqb y q) xs ≡ true → Contains xs q
contains_any [] q e = absurd (cc)
contains_any (x ∷ xs) q e = any_at x q xs (eqb x q) refl (λ h. contains_any xs q h) e

pub any_contains : (xs : List ℕ) (q : ℕ) → Contains xs q → list_any (λ y. eqb y q) xs ≡ true
any_contains xs q h = list_any_at (λ y. eqb y q) xs h.0 q h.1 (eq-eqb (get_or xs h.0 q) q h.2)

-- who isn't busy
pub not_busy : (busy : List ℕ) (q : ℕ) → ¬ Contains busy q → is_busy busy q ≡ false
not_busy busy q none = by (is_busy busy q) refl where
  by : (b : Bool) → is_busy busy q ≡ b → b ≡ false
  by true e = absurd (none (contains_any busy q e))
  by false e = refl

is_busy-not : (busy : List ℕ) (q : ℕ) → not (is_busy busy q) ≡ true → ¬ Contains busy q
is_busy-not busy q says h =
    let is : is_busy busy q ≡ true = any_contains busy q h in
    let both : false ≡ true = sym (ap not is) ∙ says in
    cc

-- who is in no turn isn't busy, and the other way round
pub idle_free : (T : Run) (busy : List ℕ) (t : ℕ) → AreBusy T busy → IsOpenTurn T t (len T) None → ¬ Contains busy t
idle_free T busy t are idle c = let f = (are t).0 c in idle f.0 f.1.0 f.1.1

pub free_idle : (T : Run) (busy : List ℕ) (t : ℕ) → AreBusy T busy → ¬ Contains busy t → IsOpenTurn T t (len T) None
free_idle T busy t are none place m u = none ((are t).1 (place, (m, u)))

-- the messages of ascending letters ascend
ascends : (ls : List Letter) → IsAscending ls → AllPairs (λ a b. a < b) (map (λ l. l.message) ls)
ascends ls h i j d less within =
    let message : Letter → ℕ = λ l. l.message in
    let none : Letter = record { message = 0; who = 0; node = 0 } in
    let l : j < length ls = omega (arith, length-map ls (λ (x : Letter). x.message)) in
    let one : get_or (map message ls) i d ≡ (get_or ls i none).message = get_or-map message ls i none d (omega arith) in
    let two : get_or (map message ls) j d ≡ (get_or ls j none).message = get_or-map message ls j none d l in
    omega (arith, h i j none less l, one, two)

module _ (T : Run) (w : WellFormed T) (ls : List Letter) (busy : List ℕ) (letters : AreInFlight T ls) (are : AreBusy T busy) where
  there : (m : ℕ) → Contains (messages_of busy ls) m → IsDeliverable T m
  there m c =
      let came = map_contains (λ (l : Letter). l.message) (filter (is_deliverable busy) ls) m c in
      let in_list = filter_contains (is_deliverable busy) ls came.0 came.1 in
      let waits = (letters.each came.0).0 in_list.0 in
      record {
        receiver = came.0.who;
        receives = subst (λ x. Receives T x came.0.who) came.2 waits.receiver;
        in_flight = subst (λ x. InFlight T x (len T)) came.2 waits.in_flight;
        idle = free_idle T busy came.0.who are (is_busy-not busy came.0.who in_list.1);
      }

  back : (m : ℕ) → IsDeliverable T m → Contains (messages_of busy ls) m
  back m h =
      let home = each_homed T w.opening (len T) h.receiver (receiver_exists T w m h.receiver h.in_flight.exists h.receives) in
      let l : Letter = record { message = m; who = h.receiver; node = home.0 } in
      let in_list : Contains ls l = (letters.each l).1 (record { in_flight = h.in_flight; receiver = h.receives; home = home.1 }) in
      let free : is_deliverable busy l ≡ true = ap not (not_busy busy h.receiver (idle_free T busy h.receiver are h.idle)) in
      contains_map (λ (x : Letter). x.message) (filter (is_deliverable busy) ls) l (contains_filter (is_deliverable busy) ls l in_list free)

  pub are_deliverable : AreDeliverable T (messages_of busy ls)
  are_deliverable = record {
    ascending = ascends (filter (is_deliverable busy) ls) (AllPairs-filter (λ a b. a.message < b.message) (is_deliverable busy) ls letters.ascending);
    each = λ m. (there m, back m);
  }

-- the letter at a place is one of the list, and its message stands at that place
pub contains_at : {X : Type 0} (xs : List X) (k : ℕ) (x : X) → slice_get xs k ≡ Some x → Contains xs x
contains_at [] k x e = absurd (cc)
contains_at {X} (y ∷ ys) zero x e = subst (λ (z : X). Contains (y ∷ ys) z) (same_some e) (contains_here y ys)
contains_at (y ∷ ys) (suc k) x e = contains_there y x ys (contains_at ys k x e)

pub map_at : {X Y : Type 0} (f : X → Y) (xs : List X) (k : ℕ) (x : X) → slice_get xs k ≡ Some x → slice_get (map f xs) k ≡ Some (f x)
map_at f [] k x e = absurd (cc)
map_at f (y ∷ ys) zero x e = ap (λ z. Some (f z)) (same_some e)
map_at f (y ∷ ys) (suc k) x e = map_at f ys k x e

module _ (T : Run) (ls : List Letter) (busy : List ℕ) (letters : AreInFlight T ls) (are : AreBusy T busy) (k : ℕ) (l : Letter) (at : slice_get (filter (is_deliverable busy) ls) k ≡ Some l) where
  found : Contains ls l × (is_deliverable busy l ≡ true)
  found = filter_contains (is_deliverable busy) ls l (contains_at (filter (is_deliverable busy) ls) k l at)

  -- the letter waits, and its receiver is in no turn
  pub letter_waits : IsWaiting T l
  letter_waits = (letters.each l).0 found.0

  pub receiver_free : ¬ Contains busy l.who
  receiver_free = is_busy-not busy l.who found.1

  pub receiver_idle : IsOpenTurn T l.who (len T) None
  receiver_idle = free_idle T busy l.who are receiver_free

  pub message_is : (m : ℕ) → slice_get (messages_of busy ls) k ≡ Some m → l.message ≡ m
  message_is m e = same_some (sym (map_at (λ (x : Letter). x.message) (filter (is_deliverable busy) ls) k l at) ∙ e)
