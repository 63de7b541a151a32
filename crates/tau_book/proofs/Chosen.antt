-- What the jobs of a hand are, and which option a number chooses.
use Rattle.std.proofs.Common.{◌≡◌, ◌≢◌, ⊎_elim, ℕ, zero, suc, ◌+◌, ◌%◌, ◌<◌, ◌≤◌, Bool, true, false, cond, ◌||◌, eqb, eqb-true, eq-eqb, ltb-false, Some, List, [], ◌∷◌, ◌++◌, length, get_or, map, refl, sym, ap, ◌∙◌, subst, arith}
use Rattle.std.specs.List.{Contains, AllPairs, list_any}
use Rattle.std.specs.Prelude.{nat_lt, slice_get, option_map, if◌then◌else◌}
use Rattle.std.proofs.lemmas.List.{length-append, length-map}
use Rattle.std.proofs.lemmas.List.Kept.{AllPairs-cons, AllPairs-filter}
use Rattle.std.proofs.lemmas.List.Elements.{All-map, Contains-append_left, Contains-append_right, Contains-append_cases, Contains-get_or}
use Rattle.std.proofs.lemmas.List.Folds.{list_any_at}
use Rattle.std.proofs.lemmas.Nat.{mod_below}
use Rattle.std.proofs.lemmas.Option.{slice_get-map, slice_get_within}
use Rattle.tau_tree.specs.declared.programs.Program.{Program}
use Rattle.tau_trace.specs.Run.{Run}
use Rattle.tau_eval.specs.Turn as jobs
use Rattle.tau_rules.specs.Answers.{IsOpenJob}
use Rattle.tau_queue.specs.OpenTurns.{IsOpenFrom, AreOpenTurns}
use Rattle.tau_queue.proofs.Members.{contains_nothing, contains_here, contains_there, contains_cases, contains_filter, filter_contains}
use Rattle.tau_book.specs.Offers.{open_jobs, options}
use Rattle.tau_book.specs.SerialRun.{Choosable, turn, message}
use Rattle.tau_book.specs.Adopted.{HasJobFrom}
use Rattle.tau_book.specs.Working.{AreJobs}
use Rattle.tau_book.proofs.Counts.{AreDistinct}

-- elements of two lists in a row
nth_left : {X : Type 0} (xs ys : List X) (k : ℕ) → k < length xs → slice_get (xs ++ ys) k ≡ slice_get xs k
nth_left [] ys k l = absurd (omega (arith, l))
nth_left (x ∷ xs) ys zero l = refl
nth_left (x ∷ xs) ys (suc k) l = nth_left xs ys k (omega (arith, l))

nth_right : {X : Type 0} (xs ys : List X) (k : ℕ) → slice_get (xs ++ ys) (length xs + k) ≡ slice_get ys k
nth_right [] ys k = ap (slice_get ys) (omega arith)
nth_right (x ∷ xs) ys k = let e : suc (length xs) + k ≡ suc (length xs + k) = omega arith in ap (slice_get (x ∷ xs ++ ys)) e ∙ nth_right xs ys k

-- numbers among numbers
any_step : (t q : ℕ) (ts : List ℕ) (b : Bool) → eqb t q ≡ b → (list_any (λ p. eqb p q) ts ≡ true → Contains ts q) → (b || list_any (λ p. eqb p q) ts) ≡ true → Contains (t ∷ ts) q
any_step t q ts true e back h = subst (λ x. Contains (t ∷ ts) x) (eqb-true t q e) (contains_here t ts)
any_step t q ts false e back h = contains_there t q ts (back h)

pub any_has : (ts : List ℕ) (q : ℕ) → list_any (λ p. eqb p q) ts ≡ true → Contains ts q
any_has [] q h = absurd (cc)
any_has (t ∷ ts) q h = any_step t q ts (eqb t q) refl (any_has ts q) h

pub has_any : (ts : List ℕ) (q : ℕ) → Contains ts q → list_any (λ p. eqb p q) ts ≡ true
has_any ts q c = list_any_at (λ p. eqb p q) ts c.0 q c.1 (eq-eqb (get_or ts c.0 q) q c.2)

-- different turns
abbrev pub AreApart : List jobs.TurnSoFar → Type 0
AreApart js = AllPairs (λ a b. a.place ≢ b.place) js

pub apart_tail : (x : jobs.TurnSoFar) (xs : List jobs.TurnSoFar) → AreApart (x ∷ xs) → AreApart xs
apart_tail x xs h i j d l k = h (suc i) (suc j) d (omega (arith, l)) (omega (arith, k))

pub apart_head : (x q : jobs.TurnSoFar) (xs : List jobs.TurnSoFar) → AreApart (x ∷ xs) → Contains xs q → x.place ≢ q.place
apart_head x q xs h c same = h 0 (suc c.0) q (omega arith) (omega (arith, c.1)) (same ∙ ap (λ j. j.place) (sym c.2))

-- those in front are of other turns, and those behind
pub apart_front : (front : List jobs.TurnSoFar) (job : jobs.TurnSoFar) (back : List jobs.TurnSoFar) (q : jobs.TurnSoFar) → AreApart (front ++ job ∷ back) → Contains front q → q.place ≢ job.place
apart_front [] job back q h c = absurd (contains_nothing q c)
apart_front (x ∷ xs) job back q h c =
    ⊎_elim
    (λ (e : x ≡ q). λ same. apart_head x job (xs ++ job ∷ back) h (Contains-append_right xs (job ∷ back) job (contains_here job back)) (ap (λ j. j.place) e ∙ same))
    (λ (d : Contains xs q). apart_front xs job back q (apart_tail x (xs ++ job ∷ back) h) d)
    (contains_cases x q xs c)

pub apart_back : (front : List jobs.TurnSoFar) (job : jobs.TurnSoFar) (back : List jobs.TurnSoFar) (q : jobs.TurnSoFar) → AreApart (front ++ job ∷ back) → Contains back q → q.place ≢ job.place
apart_back [] job back q h c = λ same. apart_head job q back h c (sym same)
apart_back (x ∷ xs) job back q h c = apart_back xs job back q (apart_tail x (xs ++ job ∷ back) h) c

pub others_in : (front back : List jobs.TurnSoFar) (job q : jobs.TurnSoFar) → Contains (front ++ back) q → Contains (front ++ job ∷ back) q
others_in front back job q c =
    ⊎_elim
    (λ (d : Contains front q). Contains-append_left front (job ∷ back) q d)
    (λ (d : Contains back q). Contains-append_right front (job ∷ back) q (contains_there job q back d))
    (Contains-append_cases front back q c)

pub apart_others : (front : List jobs.TurnSoFar) (job : jobs.TurnSoFar) (back : List jobs.TurnSoFar) → AreApart (front ++ job ∷ back) → AreApart (front ++ back)
apart_others [] job back h = apart_tail job back h
apart_others (x ∷ xs) job back h =
    AllPairs-cons (λ a b. a.place ≢ b.place) x (xs ++ back)
    (λ k d lt. apart_head x (get_or (xs ++ back) k d) (xs ++ job ∷ back) h (others_in xs back job (get_or (xs ++ back) k d) (Contains-get_or (xs ++ back) k d lt)))
    (apart_others xs job back (apart_tail x (xs ++ job ∷ back) h))

pub places_distinct : (js : List jobs.TurnSoFar) → AreApart js → AreDistinct (map (λ j. j.place) js)
places_distinct [] h = λ i j d l k. absurd (omega (arith, k))
places_distinct (x ∷ xs) h =
    AllPairs-cons (λ a b. a ≢ b) x.place (map (λ j. j.place) xs)
    (All-map (λ y. x.place ≢ y) (λ j. j.place) xs (λ k d lt. h 0 (suc k) d (omega arith) (omega (arith, lt))))
    (places_distinct xs (apart_tail x xs h))

-- what the jobs of a hand are, where these are the open turns
module _ (P : Program) (T : Run) (turns : List ℕ) (are : AreOpenTurns T turns) (js : List jobs.TurnSoFar) (h : AreJobs P T js) where
  pub taken : (j : jobs.TurnSoFar) → Contains (open_jobs turns js) j → Contains js j × Contains turns j.place
  taken j c =
      let r = filter_contains (λ k. list_any (λ p. eqb p k.place) turns) js j c in
      (r.0, any_has turns j.place r.1)

  pub kept : (j : jobs.TurnSoFar) → Contains js j → Contains turns j.place → Contains (open_jobs turns js) j
  kept j c d = contains_filter (λ k. list_any (λ p. eqb p k.place) turns) js j c (has_any turns j.place d)

  pub open_apart : AreApart (open_jobs turns js)
  open_apart = AllPairs-filter (λ a b. a.place ≢ b.place) (λ k. list_any (λ p. eqb p k.place) turns) js h.one_each

  -- they are the records of the open turns
  pub are_open : (j : jobs.TurnSoFar) → Contains (open_jobs turns js) j → IsOpenJob P T j
  are_open j c = let r = taken j c in h.records j r.0 ((are.each j.place).0 r.1)

  pub job_from : (place : ℕ) → IsOpenFrom T place → HasJobFrom (open_jobs turns js) place
  job_from place is_open =
      let f = h.each place is_open in
      let listed : Contains turns f.job.place = subst (λ q. Contains turns q) (sym f.from) ((are.each place).1 is_open) in
      record { job = f.job; among = kept f.job f.among listed; from = f.from }

-- the options, by the turns and the messages, and which of them a number chooses
abbrev pub options_of : List ℕ → List ℕ → ℕ → List Choosable
options_of turns messages size = map turn turns ++ (if nat_lt (length turns) size then map message messages else [])

messages_length : (b : Bool) (messages : List ℕ) → length (cond b (map message messages) []) ≡ cond b (length messages) 0
messages_length true messages = length-map messages message
messages_length false messages = refl

module _ (turns messages : List ℕ) (size : ℕ) (ks : List jobs.TurnSoFar) (same : length ks ≡ length turns) where
  as_many : length (options_of turns messages size) ≡ options size ks messages
  as_many =
      let front = length-map turns turn in
      let back = messages_length (nat_lt (length turns) size) messages in
      let all = length-append (map turn turns) (cond (nat_lt (length turns) size) (map message messages) []) in
      let sum : length (options_of turns messages size) ≡ length turns + cond (nat_lt (length turns) size) (length messages) 0 = omega (arith, front, back, all) in
      sum ∙ ap (λ n. n + cond (nat_lt n size) (length messages) 0) (sym same)

  pub turn_chosen : (w number place : ℕ) → number ≡ w % options size ks messages → slice_get turns number ≡ Some place → slice_get (options_of turns messages size) (w % length (options_of turns messages size)) ≡ Some (turn place)
  turn_chosen w number place is got =
      let number_is : w % length (options_of turns messages size) ≡ number = ap (λ n. w % n) as_many ∙ sym is in
      let within : number < length (map turn turns) = omega (arith, slice_get_within turns number place got, length-map turns turn) in
      ap (slice_get (options_of turns messages size)) number_is
      ∙ nth_left (map turn turns) (cond (nat_lt (length turns) size) (map message messages) []) number within
      ∙ slice_get-map turn turns number ∙ ap (option_map turn) got

  -- a number beyond the turns is a message's, since the hand has room then
  has_room : (w place : ℕ) (b : Bool) → nat_lt (length turns) size ≡ b → 1 ≤ size → w % options size ks messages ≡ length ks + place → nat_lt (length turns) size ≡ true
  has_room w place true e some is = e
  has_room w place false e some is =
      let full : size ≤ length turns = ltb-false (length turns) size e in
      let count : options size ks messages ≡ length ks + 0 = ap (λ n. length ks + cond (nat_lt n size) (length messages) 0) same ∙ ap (λ b. length ks + cond b (length messages) 0) e in
      let below : w % (length ks + 0) < length ks + 0 = mod_below w (length ks + 0) (omega (arith, full, some, same)) in
      let at : w % (length ks + 0) ≡ length ks + place = ap (λ n. w % n) (sym count) ∙ is in
      absurd (omega (arith, below, at))

  pub message_chosen : (w place m : ℕ) → 1 ≤ size → w % options size ks messages ≡ length ks + place → slice_get messages place ≡ Some m → slice_get (options_of turns messages size) (w % length (options_of turns messages size)) ≡ Some (message m)
  message_chosen w place m some is got =
      let room = has_room w place (nat_lt (length turns) size) refl some is in
      let front = length-map turns turn in
      let number_is : w % length (options_of turns messages size) ≡ length (map turn turns) + place = ap (λ n. w % n) as_many ∙ is ∙ omega (arith, same, front) in
      ap (slice_get (options_of turns messages size)) number_is
      ∙ nth_right (map turn turns) (cond (nat_lt (length turns) size) (map message messages) []) place
      ∙ ap (λ b. slice_get (cond b (map message messages) []) place) room
      ∙ slice_get-map message messages place ∙ ap (option_map message) got
