-- The turns of a hand, by the open turns and those that wait for it.
use Rattle.std.proofs.Common.{◌≡◌, ◌≢◌, ⊎_elim, ℕ, suc, ◌<◌, Bool, true, false, not, cond, eqb, eqb-true, eq-eqb, le-leb, Option, Some, None, List, [], ◌∷◌, ◌++◌, length, get_or, filter, map, drop, refl, sym, ap, ◌∙◌, subst, arith}
use Rattle.std.specs.List.{Contains}
use Rattle.std.specs.Prelude.{count_by, nat_lt, slice_get}
use Rattle.std.proofs.lemmas.List.Kept.{AllPairs-filter}
use Rattle.std.proofs.lemmas.List.Elements.{Contains-append_left, Contains-append_right, Contains-append_cases}
use Rattle.tau_tree.specs.declared.programs.Program.{Program}
use Rattle.tau_trace.specs.Run.{Run}
use Rattle.tau_eval.specs.Turn.{TurnSoFar}
use Rattle.tau_queue.specs.OpenTurns.{AreOpenTurns}
use Rattle.tau_queue.proofs.Members.{contains_here, contains_filter, filter_contains, contains_map, map_contains}
use Rattle.tau_book.specs.Hands.{Held, is_earlier, is_of, IsNumbered}
use Rattle.tau_book.specs.Offers.{open_jobs, earlier_of, earliest, without, store_without}
use Rattle.tau_book.specs.Alone.{is_among, own_of, left_of}
use Rattle.tau_book.specs.Working.{AreJobs}
use Rattle.tau_book.specs.Inner.Working.{AreOpenJobs}
use Rattle.tau_book.proofs.Counts.{AreAscending, count_none, count_map, count_all, filter_same, same_counts, place_of, ascending_distinct}
use Rattle.tau_book.proofs.Chosen.{AreApart, any_has, has_any, apart_front, places_distinct}
use Rattle.tau_book.proofs.Together.{IsAmong, apart_left, apart_across, earliest_among, opened}

-- the places of the turns of jobs
abbrev pub places : List TurnSoFar → List ℕ
places js = map (λ j. j.place) js

not_true : (b : Bool) → not b ≡ true → b ≡ true → ⊥
not_true true e f = let both : false ≡ true = e in cc
not_true false e f = let both : false ≡ true = f in cc

not_false : (b : Bool) → (b ≡ true → ⊥) → not b ≡ true
not_false true h = absurd (h refl)
not_false false h = refl

-- where the jobs of the hand and those behind it are the records of the open turns, the hand has the turns that don't wait
module _ (P : Program) (T : Run) (turns : List ℕ) (are : AreOpenTurns T turns) (front back : List TurnSoFar) (h : AreOpenJobs P T (front ++ back)) where
  abbrev own : List ℕ
  own = own_of turns (places back)

  own_ascending : AreAscending own
  own_ascending = AllPairs-filter (λ a b. a < b) (λ q. not (is_among (places back) q)) turns are.ascending

  not_back : (j : TurnSoFar) → Contains front j → is_among (places back) j.place ≡ true → ⊥
  not_back j c e =
      let r = map_contains (λ (k : TurnSoFar). k.place) back j.place (any_has (places back) j.place e) in
      apart_across front back h.one_each j r.0 c r.1 (sym r.2)

  job_own : (j : TurnSoFar) → Contains front j → Contains own j.place
  job_own j c =
      let o = h.records j (Contains-append_left front back j c) in
      let listed : Contains turns j.place = (are.each j.place).1 (record { who = j.who; message = o.message; turn = o.turn }) in
      contains_filter (λ q. not (is_among (places back) q)) turns j.place listed (not_false (is_among (places back) j.place) (not_back j c))

  place_own : (q : ℕ) → Contains (places front) q → Contains own q
  place_own q c =
      let r = map_contains (λ (k : TurnSoFar). k.place) front q c in
      subst (λ n. Contains own n) r.2 (job_own r.0 r.1)

  own_place : (q : ℕ) → Contains own q → Contains (places front) q
  own_place q c =
      let r = filter_contains (λ n. not (is_among (places back) n)) turns q c in
      let f = h.each q ((are.each q).0 r.0) in
      ⊎_elim
      (λ (d : Contains front f.job). subst (λ n. Contains (places front) n) f.from (contains_map (λ (k : TurnSoFar). k.place) front f.job d))
      (λ (d : Contains back f.job).
      let there : Contains (places back) q = subst (λ n. Contains (places back) n) f.from (contains_map (λ (k : TurnSoFar). k.place) back f.job d) in
      absurd (not_true (is_among (places back) q) r.1 (has_any (places back) q there)))
      (Contains-append_cases front back f.job f.among)

  front_apart : AreApart front
  front_apart = apart_left front back h.one_each

  counts : (p : ℕ → Bool) → count_by (λ j. p j.place) front ≡ count_by p own
  counts p =
      sym (count_map p (λ (j : TurnSoFar). j.place) front)
      ∙ same_counts p (places front) own (places_distinct front front_apart) (ascending_distinct own own_ascending) (λ q. (place_own q, own_place q))

  pub as_many : length front ≡ length own
  as_many = sym (count_all front) ∙ counts (λ _. true) ∙ count_all own

  -- the job of a number is that of the turn of that number
  pub numbered : (number : ℕ) (job : TurnSoFar) (others : List TurnSoFar) → IsNumbered front number job others → slice_get own number ≡ Some job.place
  numbered number job others n =
      let among : Contains front job = subst (λ (xs : List TurnSoFar). Contains xs job) (sym n.stands) (Contains-append_right n.front (job ∷ n.back) job (contains_here job n.back)) in
      let apart : AreApart (n.front ++ job ∷ n.back) = subst AreApart n.stands front_apart in
      let none : count_by (is_of job.place) n.front ≡ 0 = count_none (is_of job.place) n.front (λ q c. other q (apart_front n.front job n.back q apart c)) in
      let earlier : count_by (is_earlier job.place) front ≡ count_by (λ y. nat_lt y job.place) own = counts (λ y. nat_lt y job.place) in
      let is : number ≡ count_by (λ y. nat_lt y job.place) own = n.number_is ∙ omega (arith, none, earlier) in
      ap (slice_get own) is ∙ place_of own job.place own_ascending (job_own job among)
    where
      other : (q : TurnSoFar) → q.place ≢ job.place → is_of job.place q ≡ false
      other q ne = by (eqb q.place job.place) refl where
        by : (b : Bool) → eqb q.place job.place ≡ b → b ≡ false
        by true e = absurd (ne (eqb-true q.place job.place e))
        by false e = refl

-- the places of the open ones of the returned jobs
places_kept : (b : Bool) (j : TurnSoFar) (js : List TurnSoFar) (ns : List ℕ) → places js ≡ ns → places (cond b (j ∷ js) js) ≡ cond b (j.place ∷ ns) ns
places_kept true j js ns e = ap (λ ms. j.place ∷ ms) e
places_kept false j js ns e = e

pub places_open : (turns : List ℕ) (js : List TurnSoFar) → places (open_jobs turns js) ≡ filter (is_among turns) (places js)
places_open turns [] = refl
places_open turns (j ∷ js) = places_kept (is_among turns j.place) j (open_jobs turns js) (filter (is_among turns) (places js)) (places_open turns js)

-- of jobs in the order of their turns the earliest is the first
pub ascending_tail : (x : ℕ) (xs : List ℕ) → AreAscending (x ∷ xs) → AreAscending xs
ascending_tail x xs h i j d l k = h (suc i) (suc j) d (omega (arith, l)) (omega (arith, k))

first_before : (j q : TurnSoFar) (js : List TurnSoFar) → AreAscending (places (j ∷ js)) → Contains js q → j.place < q.place
first_before j q js h c =
    let d : Contains (places js) q.place = contains_map (λ (k : TurnSoFar). k.place) js q c in
    let l : j.place < get_or (places js) d.0 q.place = h 0 (suc d.0) q.place (omega arith) (omega (arith, d.1)) in
    omega (arith, l, d.2)

pub earliest_first : (j : TurnSoFar) (js : List TurnSoFar) → AreAscending (places (j ∷ js)) → earliest (j ∷ js) ≡ Some j
earliest_first j js h = ap Some (by (earliest js) (earliest_among js)) where
  by : (o : Option TurnSoFar) → IsAmong js o → earlier_of j o ≡ j
  by None among = refl
  by (Some other) among = ap (λ b. cond b j other) (le-leb j.place other.place (omega (arith, first_before j other js h among)))

without_first : (j : TurnSoFar) (js : List TurnSoFar) → AreAscending (places (j ∷ js)) → without (Some j) (j ∷ js) ≡ js
without_first j js h =
    let own : eqb j.place j.place ≡ true = eq-eqb j.place j.place refl in
    let rest : filter (λ k. not (is_of j.place k)) js ≡ js = filter_same (λ k. not (is_of j.place k)) js (λ q c.
    not_false (eqb q.place j.place) (λ e. let same = eqb-true q.place j.place e in absurd (omega (arith, first_before j q js h c, same)))) in
    ap (λ b. cond (not b) (j ∷ filter (λ k. not (is_of j.place k)) js) (filter (λ k. not (is_of j.place k)) js)) own ∙ rest

places_left : (b : Bool) (js : List TurnSoFar) → AreAscending (places js) → places (without (cond b (earliest js) None) js) ≡ cond b (drop 1 (places js)) (places js)
places_left true [] h = refl
places_left true (j ∷ js) h = ap (λ o. places (without o (j ∷ js))) (earliest_first j js h) ∙ ap places (without_first j js h)
places_left false js h = refl

-- which turns wait on
module _ (P : Program) (T : Run) (turns : List ℕ) (are : AreOpenTurns T turns) (h : Held) (store : List TurnSoFar) (all : AreJobs P T (h.jobs ++ store)) (ascending : AreAscending (places store)) where
  still_ascending : AreAscending (places (open_jobs turns store))
  still_ascending = subst AreAscending (sym (places_open turns store)) (AllPairs-filter (λ a b. a < b) (is_among turns) (places store) ascending)

  pub waits_on : places (store_without turns h store) ≡ left_of turns h.size (places store)
  waits_on =
      let still = open_jobs turns store in
      let many : length (open_jobs turns h.jobs) ≡ length (own_of turns (places still)) = as_many P T turns are (open_jobs turns h.jobs) still (opened P T turns are h store all) in
      places_left (nat_lt (length (open_jobs turns h.jobs)) h.size) still still_ascending
      ∙ ap (λ n. cond (nat_lt n h.size) (drop 1 (places still)) (places still)) many
      ∙ ap (λ ns. cond (nat_lt (length (own_of turns ns)) h.size) (drop 1 ns) ns) (places_open turns store)

-- the turns that wait stay in their order
first_dropped : (ns : List ℕ) → AreAscending ns → AreAscending (drop 1 ns)
first_dropped [] h = h
first_dropped (n ∷ ns) h = ascending_tail n ns h

chosen_ascending : (b : Bool) (ns : List ℕ) → AreAscending ns → AreAscending (cond b (drop 1 ns) ns)
chosen_ascending true ns h = first_dropped ns h
chosen_ascending false ns h = h

pub left_ascending : (turns : List ℕ) (jobs : ℕ) (waiting : List ℕ) → AreAscending waiting → AreAscending (left_of turns jobs waiting)
left_ascending turns jobs waiting h =
    let still = filter (is_among turns) waiting in
    chosen_ascending (nat_lt (length (own_of turns still)) jobs) still (AllPairs-filter (λ a b. a < b) (is_among turns) waiting h)
