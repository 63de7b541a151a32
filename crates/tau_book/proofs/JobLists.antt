-- Lists of jobs: the earliest of them, and their numbers by ascending turn.
use Rattle.std.proofs.Common.{◌≡◌, ◌≢◌, ◌⊎◌, inl, inr, ⊎_elim, ℕ, zero, suc, ◌+◌, ◌-◌, ◌<◌, ◌≤◌, Bool, true, false, not, cond, eqb, eqb-true, eq-eqb, Option, Some, None, List, [], ◌∷◌, ◌++◌, length, get_or, take, drop, refl, sym, ap, ◌∙◌, subst, arith, length-append}
use Rattle.std.specs.Prelude.{slice_get, count_by, nat_lt, nat_le, remove}
use Rattle.std.specs.Option.{option_to_list}
use Rattle.std.proofs.lemmas.Bool.Decides.{nat_tests}
use Rattle.std.proofs.lemmas.Option.{slice_get-get_or, get_or_from_slice_get}
use Rattle.std.proofs.lemmas.List.Sums.{sum_by-cons, count_by-le-length}
use Rattle.std.proofs.Math.Seq.{drop-cons}
use Rattle.std.proofs.lemmas.List.{take-append-drop}
use Rattle.tau_mailbox.proofs.Lists.{filter-one}
use Rattle.tau_eval.specs.Turn.{TurnSoFar}
use Rattle.tau_book.specs.Hands.{is_earlier, is_of, IsNumbered}
use Rattle.tau_book.specs.Books.{AreOfDifferentTurns}
use Rattle.tau_book.specs.Offers.{earlier_of, earliest, without}

-- The earliest.

le_or_above : (m n : ℕ) → (m ≤ n) ⊎ (n < m)
le_or_above m n = grind arith

-- the earlier of two
first_earlier : (j k : TurnSoFar) → j.place ≤ k.place → earlier_of j (Some k) ≡ j
first_earlier j k l = by (nat_le j.place k.place) refl where
  by : (b : Bool) → nat_le j.place k.place ≡ b → cond b j k ≡ j
  by true e = refl
  by false e = absurd (grind (arith, nat_tests))

other_earlier : (j k : TurnSoFar) → k.place < j.place → earlier_of j (Some k) ≡ k
other_earlier j k l = by (nat_le j.place k.place) refl where
  by : (b : Bool) → nat_le j.place k.place ≡ b → cond b j k ≡ k
  by true e = absurd (grind (arith, nat_tests))
  by false e = refl

nothing_behind : (jobs : List TurnSoFar) (k : ℕ) → length jobs ≤ k → drop k jobs ≡ []
nothing_behind [] zero l = refl
nothing_behind [] (suc k) l = refl
nothing_behind (j ∷ jobs) zero l = absurd (omega (arith, l))
nothing_behind (j ∷ jobs) (suc k) l = nothing_behind jobs k (omega (arith, l))

module _ (jobs : List TurnSoFar) (k : ℕ) (d : TurnSoFar) (within : k < length jobs) where
  from_here : earliest (drop k jobs) ≡ Some (earlier_of (get_or jobs k d) (earliest (drop (k + 1) jobs)))
  from_here =
      let next : suc k ≡ k + 1 = omega arith in
      ap earliest (drop-cons jobs k d within) ∙ ap (λ n. Some (earlier_of (get_or jobs k d) (earliest (drop n jobs)))) next

  pub earliest_last : length jobs ≤ k + 1 → earliest (drop k jobs) ≡ slice_get jobs k
  earliest_last l =
      from_here ∙ ap (λ (js : List TurnSoFar). Some (earlier_of (get_or jobs k d) (earliest js))) (nothing_behind jobs (k + 1) l) ∙ sym (slice_get-get_or jobs k d within)

  module _ (best : ℕ) (inside : best < length jobs) (is : earliest (drop (k + 1) jobs) ≡ slice_get jobs best) where
    behind : earliest (drop (k + 1) jobs) ≡ Some (get_or jobs best d)
    behind = is ∙ slice_get-get_or jobs best d inside

    pub earliest_kept : (get_or jobs best d).place < (get_or jobs k d).place → earliest (drop k jobs) ≡ slice_get jobs best
    earliest_kept l = from_here ∙ ap (λ (o : Option TurnSoFar). Some (earlier_of (get_or jobs k d) o)) behind ∙ ap Some (other_earlier (get_or jobs k d) (get_or jobs best d) l) ∙ sym (slice_get-get_or jobs best d inside)

    pub earliest_taken : (get_or jobs k d).place ≤ (get_or jobs best d).place → earliest (drop k jobs) ≡ slice_get jobs k
    earliest_taken l = from_here ∙ ap (λ (o : Option TurnSoFar). Some (earlier_of (get_or jobs k d) o)) behind ∙ ap Some (first_earlier (get_or jobs k d) (get_or jobs best d) l) ∙ sym (slice_get-get_or jobs k d within)

-- without it, the others are left
pub others_left : (jobs : List TurnSoFar) (k : ℕ) (d : TurnSoFar) → k < length jobs → AreOfDifferentTurns jobs → without (Some (get_or jobs k d)) jobs ≡ remove jobs k
others_left jobs k d within differ = filter-one (λ j. not (is_of (get_or jobs k d).place j)) jobs k within here there where
  here : (e : TurnSoFar) → not (is_of (get_or jobs k d).place (get_or jobs k e)) ≡ false
  here e =
      let same : get_or jobs k e ≡ get_or jobs k d = get_or_from_slice_get jobs k (get_or jobs k d) e (slice_get-get_or jobs k d within) in
      ap not (eq-eqb (get_or jobs k e).place (get_or jobs k d).place (ap (λ (j : TurnSoFar). j.place) same))

  there : (j : ℕ) (e : TurnSoFar) → j ≢ k → j < length jobs → not (is_of (get_or jobs k d).place (get_or jobs j e)) ≡ true
  there j e ne l = by (eqb (get_or jobs j e).place (get_or jobs k d).place) refl where
    apart : (get_or jobs j e).place ≢ (get_or jobs k d).place
    apart same =
        let at_k : get_or jobs k e ≡ get_or jobs k d = get_or_from_slice_get jobs k (get_or jobs k d) e (slice_get-get_or jobs k d within) in
        let here_too : (get_or jobs j e).place ≡ (get_or jobs k e).place = same ∙ sym (ap (λ (x : TurnSoFar). x.place) at_k) in
        ⊎_elim (λ b. differ j k e b within here_too) (λ a. differ k j e a l (sym here_too)) (before_or_behind j k ne) where
          before_or_behind : (m n : ℕ) → m ≢ n → (m < n) ⊎ (n < m)
          before_or_behind m n apart_from = grind arith

    by : (b : Bool) → eqb (get_or jobs j e).place (get_or jobs k d).place ≡ b → not b ≡ true
    by true is = absurd (apart (eqb-true (get_or jobs j e).place (get_or jobs k d).place is))
    by false is = refl

-- with one that is taken up there is one job more
pub one_taken_up : (xs ys : List TurnSoFar) (size : ℕ) → length xs < size → 0 < length ys → length (xs ++ option_to_list (cond (nat_lt (length xs) size) (earliest ys) None)) ≡ length xs + 1
one_taken_up xs [] size l some = absurd (omega (arith, some))
one_taken_up xs (y ∷ ys) size l some =
    let told : nat_lt (length xs) size ≡ true = grind (arith, nat_tests) in
    let job : TurnSoFar = earlier_of y (earliest ys) in
    ap (λ b. length (xs ++ option_to_list (cond b (Some job) None))) told ∙ omega (arith, length-append xs (job ∷ []))

-- The numbers by ascending turn.

abbrev one_if : Bool → ℕ
one_if b = cond b 1 0

count_more : (p : TurnSoFar → Bool) (j : TurnSoFar) (jobs : List TurnSoFar) → count_by p (j ∷ jobs) ≡ one_if (p j) + count_by p jobs
count_more p j jobs = sum_by-cons (λ x. one_if (p x)) j jobs

head_earlier : (a b p : ℕ) → a ≤ b → one_if (nat_lt p a) ≤ one_if (nat_lt p b)
head_earlier a b p l = grind (arith, nat_tests)

head_pair : (a b p : ℕ) → a < b → one_if (nat_lt p a) + one_if (eqb p a) ≤ one_if (nat_lt p b)
head_pair a b p l = grind (arith, nat_tests)

earlier_grows : (a b : ℕ) (jobs : List TurnSoFar) → a ≤ b → count_by (is_earlier a) jobs ≤ count_by (is_earlier b) jobs
earlier_grows a b [] l = omega arith
earlier_grows a b (j ∷ jobs) l = omega (arith, earlier_grows a b jobs l, head_earlier a b j.place l, count_more (is_earlier a) j jobs, count_more (is_earlier b) j jobs)

earlier_and_of : (a b : ℕ) (jobs : List TurnSoFar) → a < b → count_by (is_earlier a) jobs + count_by (is_of a) jobs ≤ count_by (is_earlier b) jobs
earlier_and_of a b [] l = omega arith
earlier_and_of a b (j ∷ jobs) l = omega (arith, earlier_and_of a b jobs l, head_pair a b j.place l, count_more (is_earlier a) j jobs, count_more (is_of a) j jobs, count_more (is_earlier b) j jobs)

count_front : (p : TurnSoFar → Bool) (jobs : List TurnSoFar) (k : ℕ) (d : TurnSoFar) → k < length jobs → p (get_or jobs k d) ≡ true → count_by p (take k jobs) + 1 ≤ count_by p jobs
count_front p [] k d l e = absurd (omega (arith, l))
count_front p (j ∷ jobs) zero d l e = let one : one_if (p j) ≡ 1 = ap one_if e in omega (arith, one, count_more p j jobs)
count_front p (j ∷ jobs) (suc k) d l e = omega (arith, count_front p jobs k d (omega (arith, l)) e, count_more p j jobs, count_more p j (take k jobs))

-- how many stand before the job at a place
abbrev pub number_at : List TurnSoFar → ℕ → TurnSoFar → ℕ
number_at jobs k d = count_by (is_earlier (get_or jobs k d).place) jobs + count_by (is_of (get_or jobs k d).place) (take k jobs)

-- the place of a number
pub record IsPlaceOfNumber (jobs : List TurnSoFar) (number k : ℕ) : Type 0 where
  pub within : k < length jobs
  pub is : (d : TurnSoFar) → number_at jobs k d ≡ number

not_below_itself : (p : ℕ) → one_if (nat_lt p p) ≡ 0
not_below_itself p = grind (arith, nat_tests)

front_counts : (a p : ℕ) → a ≤ p → one_if (nat_lt a p) + one_if (eqb a p) ≡ 1
front_counts a p l = grind (arith, nat_tests)

front_counts_not : (a p : ℕ) → p < a → one_if (nat_lt a p) + one_if (eqb a p) ≡ 0
front_counts_not a p l = grind (arith, nat_tests)

module _ (j : TurnSoFar) (jobs : List TurnSoFar) where
  first_number : IsPlaceOfNumber (j ∷ jobs) (count_by (is_earlier j.place) jobs) 0
  first_number = record { within = omega arith; is = λ d. omega (arith, not_below_itself j.place, count_more (is_earlier j.place) j jobs) }

  shifted : (k : ℕ) (d : TurnSoFar) → number_at (j ∷ jobs) (suc k) d ≡ number_at jobs k d + (one_if (nat_lt j.place (get_or jobs k d).place) + one_if (eqb j.place (get_or jobs k d).place))
  shifted k d = omega (arith, count_more (is_earlier (get_or jobs k d).place) j jobs, count_more (is_of (get_or jobs k d).place) j (take k jobs))

  -- a number below the first one's
  below_first : (n : ℕ) → n < count_by (is_earlier j.place) jobs → (k : ℕ) → IsPlaceOfNumber jobs n k → IsPlaceOfNumber (j ∷ jobs) n (suc k)
  below_first n l k h = record { within = omega (arith, h.within); is = λ d. omega (arith, shifted k d, h.is d, front_counts_not j.place (get_or jobs k d).place (earlier d)) } where
    earlier : (d : TurnSoFar) → (get_or jobs k d).place < j.place
    earlier d = ⊎_elim
        (λ (not_so : j.place ≤ (get_or jobs k d).place). absurd (omega (arith, h.is d, earlier_grows j.place (get_or jobs k d).place jobs not_so, l)))
        (λ so. so)
        (le_or_above j.place (get_or jobs k d).place)

  -- a number above it
  above_first : (n : ℕ) → count_by (is_earlier j.place) jobs ≤ n → (k : ℕ) → IsPlaceOfNumber jobs n k → IsPlaceOfNumber (j ∷ jobs) (suc n) (suc k)
  above_first n l k h = record { within = omega (arith, h.within); is = λ d. omega (arith, shifted k d, h.is d, front_counts j.place (get_or jobs k d).place (later d)) } where
    later : (d : TurnSoFar) → j.place ≤ (get_or jobs k d).place
    later d = ⊎_elim
        (λ so. so)
        (λ (not_so : (get_or jobs k d).place < j.place).
        absurd (omega (
          arith,
          h.is d,
          earlier_and_of (get_or jobs k d).place j.place jobs not_so,
          count_front (is_of (get_or jobs k d).place) jobs k d h.within (eq-eqb (get_or jobs k d).place (get_or jobs k d).place refl),
          l,
        )))
        (le_or_above j.place (get_or jobs k d).place)

three_ways : (n m : ℕ) → (n < m) ⊎ ((n ≡ m) ⊎ ((k : ℕ) × (n ≡ suc k) × (m ≤ k)))
three_ways n m = ⊎_elim (λ l. inl l) (λ g. inr (⊎_elim (λ e. inl e) (λ a. inr (n - 1, omega arith, omega arith)) (same_or_above n m g))) (below_or n m) where
  below_or : (a b : ℕ) → (a < b) ⊎ (b ≤ a)
  below_or a b = grind arith

  same_or_above : (a b : ℕ) → b ≤ a → (a ≡ b) ⊎ (b < a)
  same_or_above a b l = grind arith

-- each number below their number is that of a job
number_of_list : (j : TurnSoFar) (jobs : List TurnSoFar) (n : ℕ) → ((m : ℕ) → m < length jobs → (k : ℕ) × IsPlaceOfNumber jobs m k) → n < length (j ∷ jobs)
    → (n < count_by (is_earlier j.place) jobs) ⊎ ((n ≡ count_by (is_earlier j.place) jobs) ⊎ ((k : ℕ) × (n ≡ suc k) × (count_by (is_earlier j.place) jobs ≤ k))) → (k : ℕ) × IsPlaceOfNumber (j ∷ jobs) n k
number_of_list j jobs n rest l (inl below) =
    let r = rest n (omega (arith, below, count_by-le-length (is_earlier j.place) jobs)) in
    (suc r.0, below_first j jobs n below r.0 r.1)
number_of_list j jobs n rest l (inr (inl same)) = (0, subst (λ m. IsPlaceOfNumber (j ∷ jobs) m 0) (sym same) (first_number j jobs))
number_of_list j jobs n rest l (inr (inr above)) =
    let r = rest above.0 (omega (arith, l, above.1)) in
    (suc r.0, subst (λ m. IsPlaceOfNumber (j ∷ jobs) m (suc r.0)) (sym above.1) (above_first j jobs above.0 above.2 r.0 r.1))

pub place_of : (jobs : List TurnSoFar) (n : ℕ) → n < length jobs → (k : ℕ) × IsPlaceOfNumber jobs n k
place_of [] n l = absurd (omega (arith, l))
place_of (j ∷ jobs) n l = number_of_list j jobs n (λ m k. place_of jobs m k) l (three_ways n (count_by (is_earlier j.place) jobs))

-- the element at a place, whatever stands for one beyond the end
pub same_default : (jobs : List TurnSoFar) (k : ℕ) (d e : TurnSoFar) → k < length jobs → get_or jobs k d ≡ get_or jobs k e
same_default jobs k d e l = get_or_from_slice_get jobs k (get_or jobs k e) d (slice_get-get_or jobs k e l)

-- the last job is the earliest of the last
pub earliest_at_end : (jobs : List TurnSoFar) (k : ℕ) → k < length jobs → length jobs ≤ k + 1 → earliest (drop k jobs) ≡ slice_get jobs k
earliest_at_end [] k l last = absurd (omega (arith, l))
earliest_at_end (j ∷ jobs) k l last = earliest_last (j ∷ jobs) k j l last

-- a place whose number is another isn't that of this number
pub not_there : (jobs : List TurnSoFar) (n k r : ℕ) → k < length jobs → ((d : TurnSoFar) → r ≡ number_at jobs k d) → ¬ (r ≡ n) → ¬ IsPlaceOfNumber jobs n k
not_there [] n k r l is ne h = omega (arith, l)
not_there (j ∷ jobs) n k r l is ne h = ne (is j ∙ h.is j)

-- the job at the place of a number
pub numbered : (jobs : List TurnSoFar) (n k : ℕ) (job : TurnSoFar) → k < length jobs → job ≡ get_or jobs k job → ((d : TurnSoFar) → n ≡ number_at jobs k d) → IsNumbered jobs n job (remove jobs k)
numbered jobs n k job l at is = record {
  front = take k jobs;
  back = drop (suc k) jobs;
  stands = sym (take-append-drop k jobs) ∙ ap (λ (js : List TurnSoFar). take k jobs ++ js) (drop-cons jobs k job l ∙ ap (λ (j : TurnSoFar). j ∷ drop (suc k) jobs) (sym at));
  others_are = refl;
  number_is = is job ∙ ap (λ (j : TurnSoFar). count_by (is_earlier j.place) jobs + count_by (is_of j.place) (take k jobs)) (sym at);
}

-- without the earliest
pub without_earliest : (jobs : List TurnSoFar) (k : ℕ) (job : TurnSoFar) → k < length jobs → AreOfDifferentTurns jobs → earliest jobs ≡ slice_get jobs k → without (earliest jobs) jobs ≡ remove jobs k
without_earliest jobs k job l differ is = ap (λ (o : Option TurnSoFar). without o jobs) (is ∙ slice_get-get_or jobs k job l) ∙ others_left jobs k job l differ
