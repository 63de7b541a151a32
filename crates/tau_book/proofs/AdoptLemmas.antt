-- Jobs for the open turns that have none.
use Rattle.std.proofs.Common.{◌≡◌, ◌≢◌, ℕ, suc, ◌+◌, ◌≤◌, Bool, true, false, not, cond, ◌||◌, eqb, eqb-true, Some, None, List, [], ◌∷◌, ◌++◌, length, get_or, filter, map, fold, refl, sym, ap, ◌∙◌, subst, arith, append-nil, append_assoc}
use Rattle.std.specs.List.{Contains, list_any}
use Rattle.std.proofs.lemmas.List.{map-append, get_or-map, length-map}
use Rattle.std.proofs.lemmas.List.Kept.{AllPairs-filter}
use Rattle.std.proofs.lemmas.List.Elements.{filter-append, All-push, Contains-append_left, Contains-append_right, Contains-get_or}
use Rattle.std.proofs.lemmas.List.Folds.{list_any_at, list_any_none, list_any-append}
use Rattle.tau_tree.specs.declared.programs.Program.{Program}
use Rattle.tau_trace.specs.Run.{Run, len}
use Rattle.tau_trace.specs.Turns.{Turn, IsOpenTurn}
use Rattle.tau_trace.proofs.Lists.{same_some}
use Rattle.tau_check.proofs.Once.{same_taker}
use Rattle.tau_eval.specs.Turn.{TurnSoFar}
use Rattle.tau_rules.specs.System.{Core}
use Rattle.tau_rules.specs.Answers.{IsOpenJob, IsJobOf}
use Rattle.tau_rules.specs.Inner.Acting.{IsTaker}
use Rattle.tau_rules.proofs.ActLemmas.{one_open_turn}
use Rattle.tau_queue.specs.OpenTurns.{IsOpenFrom, AreOpenTurns}
use Rattle.tau_queue.specs.ScriptedRun.{ScriptedRun}
use Rattle.tau_queue.proofs.Members.{contains_here, contains_there, contains_filter, filter_contains, contains_map, map_contains}
use Rattle.tau_book.specs.Hands.{Held, is_of}
use Rattle.tau_book.specs.Books.{Booked, booked, AreOfDifferentTurns}
use Rattle.tau_book.specs.Offers.{open_jobs, jobs_with, stored}
use Rattle.tau_book.specs.Nexts.{IsIdle}
use Rattle.tau_book.specs.Adopted.{HasJobFrom, without_job, AreMissing, IsAdopted}
use Rattle.tau_book.specs.Inner.Returns.{AreOfTurns}
use Rattle.tau_book.proofs.Counts.{AreDistinct, ascending_distinct}
use Rattle.tau_book.proofs.Chosen.{has_any, apart_head}
use Rattle.tau_book.proofs.JobLists.{one_taken_up}

-- Who has the turn that is open from a place.

-- the transactor of its Take
pub taker_open : (T : Run) (t place : ℕ) → IsOpenFrom T place → IsTaker T place (Some t) → IsOpenTurn T t (len T) (Some place)
taker_open T t place f taker =
    let same : f.who ≡ t = same_taker f.who t f.message taker.0 (same_some (sym f.turn.takes ∙ taker.1)) in
    subst (λ u. IsOpenTurn T u (len T) (Some place)) same (f.message, f.turn)

pub taker_there : (T : Run) (place : ℕ) → IsOpenFrom T place → ¬ IsTaker T place None
taker_there T place f none = none f.who f.message f.turn.takes

-- and the job of its record
pub job_there : (k : Core) (who place : ℕ) → IsOpenTurn k.run who (len k.run) (Some place) → ¬ IsJobOf k who None
job_there k who place u none = none place u.0 u.1

pub job_place : (k : Core) (who place : ℕ) (job : TurnSoFar) → IsOpenTurn k.run who (len k.run) (Some place) → IsJobOf k who (Some job) → job.place ≡ place
job_place k who place job u h =
    let own : Turn k.run who (len k.run) job.place h.1.message = subst (λ w. Turn k.run w (len k.run) job.place h.1.message) h.0 h.1.turn in
    one_open_turn k.run who (len k.run) job.place place h.1.message u.0 own u.1

-- The jobs that are missing, turn by turn.

module _ (P : Program) (T : Run) (jobs : List TurnSoFar) where
  -- of no turn
  pub none_missing : (made : List TurnSoFar) → made ≡ [] → AreMissing P T jobs [] made
  none_missing made none = subst (λ (js : List TurnSoFar). AreMissing P T jobs [] js) (sym none) (record { places = refl; records = λ k d l. absurd (omega (arith, l)) })

  module _ (turns : List ℕ) (turn : ℕ) where
    -- with one turn more
    with_turn : (b : Bool) → list_any (is_of turn) jobs ≡ b → without_job jobs (turns ++ turn ∷ []) ≡ without_job jobs turns ++ cond (not b) (turn ∷ []) []
    with_turn b e =
        filter-append (λ p. not (list_any (is_of p) jobs)) turns (turn ∷ [])
        ∙ ap (λ c. without_job jobs turns ++ cond (not c) (turn ∷ []) []) e

    -- that has a job
    pub turn_passed : (made : List TurnSoFar) → list_any (is_of turn) jobs ≡ true → AreMissing P T jobs turns made → AreMissing P T jobs (turns ++ turn ∷ []) made
    turn_passed made e h = record {
      places = h.places ∙ sym (append-nil (without_job jobs turns)) ∙ sym (with_turn true e);
      records = h.records;
    }

    -- that has none
    pub turn_made : (made more : List TurnSoFar) (job : TurnSoFar) → more ≡ made ++ job ∷ [] → list_any (is_of turn) jobs ≡ false → job.place ≡ turn → IsOpenJob P T job
        → AreMissing P T jobs turns made → AreMissing P T jobs (turns ++ turn ∷ []) more
    turn_made made more job items e at opened h = subst (λ (js : List TurnSoFar). AreMissing P T jobs (turns ++ turn ∷ []) js) (sym items) (record {
      places =
          map-append (λ (j : TurnSoFar). j.place) made (job ∷ [])
          ∙ ap (λ (ps : List ℕ). ps ++ job.place ∷ []) h.places
          ∙ ap (λ n. without_job jobs turns ++ n ∷ []) at
          ∙ sym (with_turn false e);
      records = All-push (λ (j : TurnSoFar). IsOpenJob P T j) made job h.records opened;
    })

-- Tests of jobs.

-- other numbers differ
eqb_no : (a b : ℕ) → a ≢ b → eqb a b ≡ false
eqb_no a b ne = by (eqb a b) refl where
  by : (c : Bool) → eqb a b ≡ c → c ≡ false
  by true e = absurd (ne (eqb-true a b e))
  by false e = refl

not_false : (b : Bool) → not b ≡ true → b ≡ false
not_false true e = sym e
not_false false e = refl

-- a test that none passes, none of those that are kept passes
none_kept : (p q : TurnSoFar → Bool) (xs : List TurnSoFar) → list_any p xs ≡ false → list_any p (filter q xs) ≡ false
none_kept p q xs none = list_any_none p (filter q xs) (λ k d l. fails (get_or (filter q xs) k d) (filter_contains q xs (get_or (filter q xs) k d) (Contains-get_or (filter q xs) k d l)).0) where
  fails : (x : TurnSoFar) → Contains xs x → p x ≡ false
  fails x c = by (p x) refl where
    by : (b : Bool) → p x ≡ b → b ≡ false
    by true e =
        let any : list_any p xs ≡ true = list_any_at p xs c.0 x c.1 (ap p c.2 ∙ e) in
        let both : false ≡ true = sym none ∙ any in
        absurd (cc)
    by false e = refl

-- where one is of a turn, it is among them
any_step : (x : TurnSoFar) (xs : List TurnSoFar) (place : ℕ) (b : Bool) → eqb x.place place ≡ b → (list_any (is_of place) xs ≡ true → (j : TurnSoFar) × Contains xs j × (j.place ≡ place))
    → (b || list_any (is_of place) xs) ≡ true → (j : TurnSoFar) × Contains (x ∷ xs) j × (j.place ≡ place)
any_step x xs place true e back h = (x, contains_here x xs, eqb-true x.place place e)
any_step x xs place false e back h = let r = back h in (r.0, contains_there x r.0 xs r.1, r.2)

any_job : (xs : List TurnSoFar) (place : ℕ) → list_any (is_of place) xs ≡ true → (j : TurnSoFar) × Contains xs j × (j.place ≡ place)
any_job [] place h = absurd (cc)
any_job (x ∷ xs) place h = any_step x xs place (eqb x.place place) refl (any_job xs place) h

-- jobs of turns of which none is among others are put behind them
pub all_stored : (xs made : List TurnSoFar) → ((j : TurnSoFar) → Contains made j → list_any (is_of j.place) xs ≡ false) → AreOfDifferentTurns made → fold stored xs made ≡ xs ++ made
all_stored xs [] none differ = sym (append-nil xs)
all_stored xs (j ∷ js) none differ =
    ap (λ b. fold stored (cond b xs (xs ++ j ∷ [])) js) (none j (contains_here j js))
    ∙ all_stored (xs ++ j ∷ []) js after (λ a b d l m. differ (suc a) (suc b) d (omega (arith, l)) (omega (arith, m)))
    ∙ append_assoc xs (j ∷ []) js where
      after : (k : TurnSoFar) → Contains js k → list_any (is_of k.place) (xs ++ j ∷ []) ≡ false
      after k c =
          list_any-append (is_of k.place) xs (j ∷ [])
          ∙ ap (λ b. b || list_any (is_of k.place) (j ∷ [])) (none k (contains_there j k js c))
          ∙ ap (λ b. b || false) (eqb_no j.place k.place (apart_head j k js differ c))

-- jobs of different places are of different turns
apart_by_places : (jobs : List TurnSoFar) → AreDistinct (map (λ j. j.place) jobs) → AreOfDifferentTurns jobs
apart_by_places jobs differ i j d a b =
    let place : TurnSoFar → ℕ = λ t. t.place in
    let one : get_or (map place jobs) i 0 ≡ (get_or jobs i d).place = get_or-map place jobs i d 0 (omega (arith, a, b)) in
    let two : get_or (map place jobs) j 0 ≡ (get_or jobs j d).place = get_or-map place jobs j d 0 b in
    λ same. differ i j 0 a (omega (arith, b, length-map jobs place)) (one ∙ same ∙ sym two)

-- The jobs that are missing are put behind those of open turns.

module _ (P : Program) (T : Run) (jobs : List TurnSoFar) (turns : List ℕ) (are : AreOpenTurns T turns) (made : List TurnSoFar) (h : AreMissing P T jobs turns made) where
  -- each is of an open turn that has none
  made_for : (j : TurnSoFar) → Contains made j → Contains turns j.place × (not (list_any (is_of j.place) jobs) ≡ true)
  made_for j c = filter_contains (λ p. not (list_any (is_of p) jobs)) turns j.place (subst (λ (ps : List ℕ). Contains ps j.place) h.places (contains_map (λ (k : TurnSoFar). k.place) made j c))

  pub made_of_turns : AreOfTurns turns made
  made_of_turns k d l = has_any turns (get_or made k d).place (made_for (get_or made k d) (Contains-get_or made k d l)).0

  pub made_apart : AreOfDifferentTurns made
  made_apart = apart_by_places made (subst AreDistinct (sym h.places) (AllPairs-filter (λ a b. a ≢ b) (λ p. not (list_any (is_of p) jobs)) turns (ascending_distinct turns are.ascending)))

  pub made_behind : fold stored (open_jobs turns jobs) made ≡ open_jobs turns jobs ++ made
  made_behind = all_stored (open_jobs turns jobs) made (λ j c. none_kept (is_of j.place) (λ k. list_any (λ p. eqb p k.place) turns) jobs (not_false (list_any (is_of j.place) jobs) (made_for j c).1)) made_apart

  -- each open turn has one
  pub made_each : (place : ℕ) → IsOpenFrom T place → HasJobFrom (open_jobs turns jobs ++ made) place
  made_each place f = by (list_any (is_of place) jobs) refl where
    listed : Contains turns place
    listed = (are.each place).1 f

    by : (b : Bool) → list_any (is_of place) jobs ≡ b → HasJobFrom (open_jobs turns jobs ++ made) place
    by true e =
        let r = any_job jobs place e in
        let there : Contains turns r.0.place = subst (λ q. Contains turns q) (sym r.2) listed in
        let stays : Contains (open_jobs turns jobs) r.0 = contains_filter (λ k. list_any (λ p. eqb p k.place) turns) jobs r.0 r.1 (has_any turns r.0.place there) in
        record { job = r.0; among = Contains-append_left (open_jobs turns jobs) made r.0 stays; from = r.2 }
    by false e =
        let missing : Contains (without_job jobs turns) place = contains_filter (λ p. not (list_any (is_of p) jobs)) turns place listed (ap not e) in
        let r = map_contains (λ (k : TurnSoFar). k.place) made place (subst (λ (ps : List ℕ). Contains ps place) (sym h.places) missing) in
        record { job = r.0; among = Contains-append_right (open_jobs turns jobs) made r.0 r.1; from = r.2 }

-- what the book is then
pub adopted : (s : ScriptedRun) (limit : ℕ) (store after made : List TurnSoFar) (turns : List ℕ) (count : ℕ) → AreOpenTurns s.system.run turns → AreMissing s.system.program s.system.run store turns made
    → after ≡ fold stored (open_jobs turns store) made → AreOfDifferentTurns after → count ≡ length made → IsAdopted (booked s limit store) (booked s limit after) count
adopted s limit store after made turns count are h is differ many = record {
  turns = turns;
  turns_are = are;
  made = made;
  made_are = h;
  count_is = many;
  book_is = ap (λ (js : List TurnSoFar). booked s limit js) all;
  each = λ place f. subst (λ (js : List TurnSoFar). HasJobFrom js place) (sym all) (made_each s.system.program s.system.run store turns are made h place f);
  one_each = differ;
} where
  all : after ≡ open_jobs turns store ++ made
  all = is ∙ made_behind s.system.program s.system.run store turns are made h

-- Then an empty hand takes one up.
pub not_idle_then : (before old new : Booked) (h k : Held) (count out : ℕ) → IsAdopted before old count → h.jobs ≡ [] → 1 ≤ h.size → ¬ IsIdle old new h k out
not_idle_then before old new h k count out a none some i =
    let turns : List ℕ = i.offer.turns in
    let place : ℕ = get_or turns 0 0 in
    let listed : Contains turns place = Contains-get_or turns 0 0 (omega (arith, i.out_is, i.some_out)) in
    let same : old.system ≡ before.system = ap (λ (b : Booked). b.system) a.book_is in
    let is_open : IsOpenFrom before.system.run place = subst (λ (c : Core). IsOpenFrom c.run place) same ((i.offer.turns_are.each place).0 listed) in
    let f : HasJobFrom old.store place = a.each place is_open in
    let there : Contains turns f.job.place = subst (λ q. Contains turns q) (sym f.from) listed in
    let back : Contains (open_jobs turns old.store) f.job = contains_filter (λ j. list_any (λ p. eqb p j.place) turns) old.store f.job f.among (has_any turns f.job.place there) in
    let own : length (open_jobs turns h.jobs) ≡ 0 = ap (λ (js : List TurnSoFar). length (open_jobs turns js)) none in
    let one : length (jobs_with turns h old.store) ≡ length (open_jobs turns h.jobs) + 1 = one_taken_up (open_jobs turns h.jobs) (open_jobs turns old.store) h.size (omega (arith, own, some)) (omega (arith, back.1)) in
    let nothing : length (jobs_with turns h old.store) ≡ 0 = ap length i.no_job in
    omega (arith, one, nothing)
