-- Returned jobs: of different turns, each of an open turn, and so no more than there are open turns.
use Rattle.std.proofs.Common.{◌≡◌, ◌≢◌, ◌⊎◌, inl, inr, ℕ, suc, ◌+◌, ◌<◌, ◌≤◌, Bool, true, false, not, cond, eqb, eqb-true, eq-eqb, IsTrue, Option, Some, None, List, [], ◌∷◌, ◌++◌, length, get_or, filter, map, refl, sym, ◌∙◌, subst, arith, length-append}
use Rattle.std.specs.List.{AllPairs, Contains, list_any}
use Rattle.std.proofs.lemmas.List.Kept.{AllPairs-filter}
use Rattle.std.proofs.lemmas.List.Quantifiers.{all_pairs_push}
use Rattle.std.proofs.lemmas.List.Folds.{list_any_at}
use Rattle.std.proofs.lemmas.List.{get_or-map, length-map}
use Rattle.std.proofs.lemmas.List.Elements.{All-push, All-contains, Contains-get_or}
use Rattle.tau_mailbox.proofs.Lists.{length-filter-le}
use Rattle.tau_mailbox.specs.MailState.{is_not}
use Rattle.tau_eval.specs.Turn.{TurnSoFar}
use Rattle.tau_queue.proofs.Members.{contains_nothing, contains_here, contains_there, contains_cases, contains_filter, filter_contains, map_contains}
use Rattle.tau_queue.proofs.DeliverableLemmas.{contains_any}
use Rattle.tau_book.specs.Hands.{is_of}
use Rattle.tau_book.specs.Books.{AreOfDifferentTurns}
use Rattle.tau_book.specs.Offers.{open_jobs, without}
use Rattle.tau_book.specs.Inner.Returns.{AreOfTurns}

-- Numbers that differ are no more than those among which they are.

is_not-true : (q b : ℕ) → b ≢ q → is_not q b ≡ true
is_not-true q b ne = by (eqb b q) refl where
  by : (c : Bool) → eqb b q ≡ c → not c ≡ true
  by true e = absurd (ne (eqb-true b q e))
  by false e = refl

-- one leaves
shorter_at : (y x : ℕ) (ys : List ℕ) (b : Bool) → eqb y x ≡ b → (Contains ys x → length (filter (is_not x) ys) + 1 ≤ length ys) → length (filter (is_not x) ys) ≤ length ys → Contains (y ∷ ys) x
    → length (cond (not b) (y ∷ filter (is_not x) ys) (filter (is_not x) ys)) + 1 ≤ length (y ∷ ys)
shorter_at y x ys true e back fewer h = omega (arith, fewer)
shorter_at y x ys false e back fewer h = by (contains_cases y x ys h) where
  by : (y ≡ x) ⊎ Contains ys x → length (y ∷ filter (is_not x) ys) + 1 ≤ length (y ∷ ys)
  by (inl same) = let both : false ≡ true = sym e ∙ eq-eqb y x same in absurd (cc)
  by (inr c) = omega (arith, back c)

shorter : (ys : List ℕ) (x : ℕ) → Contains ys x → length (filter (is_not x) ys) + 1 ≤ length ys
shorter [] x h = absurd (contains_nothing x h)
shorter (y ∷ ys) x h = shorter_at y x ys (eqb y x) refl (λ c. shorter ys x c) (length-filter-le (is_not x) ys) h

few : (xs ys : List ℕ) → AllPairs (λ a b. a ≢ b) xs → ((q : ℕ) → Contains xs q → Contains ys q) → length xs ≤ length ys
few [] ys differ all = omega arith
few (x ∷ xs) ys differ all =
    let apart : (q : ℕ) → Contains xs q → q ≢ x = λ q c e. differ 0 (suc c.0) q (omega arith) (omega (arith, c.1)) (sym e ∙ sym c.2) in
    let rest : length xs ≤ length (filter (is_not x) ys) =
    few xs (filter (is_not x) ys) (λ i j d a b. differ (suc i) (suc j) d (omega (arith, a)) (omega (arith, b)))
    (λ q c. contains_filter (is_not x) ys q (all q (contains_there x q xs c)) (is_not-true x q (apart q c))) in
    omega (arith, rest, shorter ys x (all x (contains_here x xs)))

-- the places of jobs of different turns differ
places_differ : (jobs : List TurnSoFar) → AreOfDifferentTurns jobs → AllPairs (λ a b. a ≢ b) (map (λ j. j.place) jobs)
places_differ [] differ i j d a b = absurd (omega (arith, b))
places_differ (x ∷ xs) differ i j d a b =
    let place : TurnSoFar → ℕ = λ t. t.place in
    let l : j < length (x ∷ xs) = omega (arith, b, length-map (x ∷ xs) place) in
    let one : get_or (map place (x ∷ xs)) i d ≡ (get_or (x ∷ xs) i x).place = get_or-map place (x ∷ xs) i x d (omega (arith, a, l)) in
    let two : get_or (map place (x ∷ xs)) j d ≡ (get_or (x ∷ xs) j x).place = get_or-map place (x ∷ xs) j x d l in
    λ e. differ i j x a l (sym one ∙ e ∙ two)

-- jobs of different turns, each of one of these, are no more than these
pub few_jobs : (turns : List ℕ) (jobs : List TurnSoFar) → AreOfDifferentTurns jobs → AreOfTurns turns jobs → length jobs ≤ length turns
few_jobs turns jobs differ are =
    let place : TurnSoFar → ℕ = λ t. t.place in
    let all : (q : ℕ) → Contains (map place jobs) q → Contains turns q = λ q c.
    let came = map_contains place jobs q c in
    subst (Contains turns) came.2 (contains_any turns came.0.place (All-contains (λ (j : TurnSoFar). IsTrue (list_any (λ p. eqb p j.place) turns)) jobs came.0 are came.1)) in
    let fewer : length (map place jobs) ≤ length turns = few (map place jobs) turns (places_differ jobs differ) all in
    omega (arith, fewer, length-map jobs place)

-- The returned jobs.

pub differ_open : (turns : List ℕ) (jobs : List TurnSoFar) → AreOfDifferentTurns jobs → AreOfDifferentTurns (open_jobs turns jobs)
differ_open turns jobs differ = AllPairs-filter (λ a b. a.place ≢ b.place) (λ j. list_any (λ p. eqb p j.place) turns) jobs differ

pub differ_without : (o : Option TurnSoFar) (jobs : List TurnSoFar) → AreOfDifferentTurns jobs → AreOfDifferentTurns (without o jobs)
differ_without None jobs differ = differ
differ_without (Some job) jobs differ = AllPairs-filter (λ a b. a.place ≢ b.place) (λ j. not (is_of job.place j)) jobs differ

-- the open jobs are of the turns
pub open_of_turns : (turns : List ℕ) (jobs : List TurnSoFar) → AreOfTurns turns (open_jobs turns jobs)
open_of_turns turns jobs k d l = (filter_contains (λ j. list_any (λ p. eqb p j.place) turns) jobs (get_or (open_jobs turns jobs) k d) (Contains-get_or (open_jobs turns jobs) k d l)).1

-- with one of another turn
pub differ_stored : (jobs : List TurnSoFar) (job : TurnSoFar) → list_any (is_of job.place) jobs ≡ false → AreOfDifferentTurns jobs → AreOfDifferentTurns (jobs ++ job ∷ [])
differ_stored jobs job none differ = all_pairs_push (λ a b. a.place ≢ b.place) jobs job differ (λ k d l same.
    let found : list_any (is_of job.place) jobs ≡ true = list_any_at (is_of job.place) jobs k d l (eq-eqb (get_or jobs k d).place job.place same) in
    let both : false ≡ true = sym none ∙ found in
    absurd (cc))

pub of_turns_stored : (turns : List ℕ) (jobs : List TurnSoFar) (job : TurnSoFar) → IsTrue (list_any (λ p. eqb p job.place) turns) → AreOfTurns turns jobs → AreOfTurns turns (jobs ++ job ∷ [])
of_turns_stored turns jobs job is are = All-push (λ (j : TurnSoFar). IsTrue (list_any (λ p. eqb p j.place) turns)) jobs job are is

-- there is room for one of another turn
pub room_for_one : (turns : List ℕ) (jobs : List TurnSoFar) (job : TurnSoFar) → list_any (is_of job.place) jobs ≡ false → AreOfDifferentTurns jobs → IsTrue (list_any (λ p. eqb p job.place) turns) → AreOfTurns turns jobs → length jobs < length turns
room_for_one turns jobs job none differ is are =
    omega (arith, few_jobs turns (jobs ++ job ∷ []) (differ_stored jobs job none differ) (of_turns_stored turns jobs job is are), length-append jobs (job ∷ []))
