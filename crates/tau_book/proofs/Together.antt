-- The jobs of a hand and the returned jobs, together.
use Rattle.std.proofs.Common.{◌≡◌, ◌≢◌, ◌⊎◌, inl, inr, ⊎_elim, ℕ, Bool, true, false, not, cond, eqb, eqb-true, Option, Some, None, List, [], ◌∷◌, ◌++◌, length, get_or, refl, sym, ap, ◌∙◌, subst, arith, append-nil}
use Rattle.std.specs.List.{Contains, list_any}
use Rattle.std.specs.Prelude.{nat_lt, nat_le}
use Rattle.std.specs.Option.{option_to_list}
use Rattle.std.proofs.lemmas.List.Kept.{AllPairs-cons}
use Rattle.std.proofs.lemmas.List.Quantifiers.{all_pairs_push}
use Rattle.std.proofs.lemmas.List.Elements.{filter-append, Contains-append_left, Contains-append_right, Contains-append_cases, Contains-push, Contains-push_cases, Contains-get_or}
use Rattle.tau_tree.specs.declared.programs.Program.{Program}
use Rattle.tau_trace.specs.Run.{Run}
use Rattle.tau_eval.specs.Turn.{TurnSoFar}
use Rattle.tau_queue.specs.OpenTurns.{AreOpenTurns}
use Rattle.tau_queue.proofs.Members.{contains_nothing, contains_here, contains_there, contains_cases, contains_filter, filter_contains}
use Rattle.tau_book.specs.Hands.{Held, is_of}
use Rattle.tau_book.specs.Offers.{open_jobs, earlier_of, earliest, without, taken_up, jobs_with, store_without}
use Rattle.tau_book.specs.Adopted.{HasJobFrom}
use Rattle.tau_book.specs.Working.{AreJobs}
use Rattle.tau_book.specs.Inner.Working.{AreOpenJobs, AreOtherJobs}
use Rattle.tau_book.proofs.Counts.{is_other-not}
use Rattle.tau_book.proofs.Chosen.{AreApart, apart_tail, apart_head, apart_front, apart_back, apart_others, others_in, open_apart, are_open, job_from}
use Rattle.tau_book.proofs.StoreLemmas.{differ_without}

-- Jobs of different turns, in two lists.

pub apart_left : (xs ys : List TurnSoFar) → AreApart (xs ++ ys) → AreApart xs
apart_left [] ys h = λ i j d l k. absurd (omega (arith, k))
apart_left (x ∷ xs) ys h =
    AllPairs-cons (λ a b. a.place ≢ b.place) x xs
    (λ k d lt. apart_head x (get_or xs k d) (xs ++ ys) h (Contains-append_left xs ys (get_or xs k d) (Contains-get_or xs k d lt)))
    (apart_left xs ys (apart_tail x (xs ++ ys) h))

pub apart_right : (xs ys : List TurnSoFar) → AreApart (xs ++ ys) → AreApart ys
apart_right [] ys h = h
apart_right (x ∷ xs) ys h = apart_right xs ys (apart_tail x (xs ++ ys) h)

-- those of the one are of other turns than those of the other
pub apart_across : (xs ys : List TurnSoFar) → AreApart (xs ++ ys) → (p q : TurnSoFar) → Contains xs p → Contains ys q → p.place ≢ q.place
apart_across [] ys h p q c d = absurd (contains_nothing p c)
apart_across (x ∷ xs) ys h p q c d =
    ⊎_elim
    (λ (e : x ≡ p). λ same. apart_head x q (xs ++ ys) h (Contains-append_right xs ys q d) (ap (λ (j : TurnSoFar). j.place) e ∙ same))
    (λ (b : Contains xs p). apart_across xs ys (apart_tail x (xs ++ ys) h) p q b d)
    (contains_cases x p xs c)

pub apart_joined : (xs ys : List TurnSoFar) → AreApart xs → AreApart ys → ((p q : TurnSoFar) → Contains xs p → Contains ys q → p.place ≢ q.place) → AreApart (xs ++ ys)
apart_joined [] ys a b across = b
apart_joined (x ∷ xs) ys a b across =
    AllPairs-cons (λ a b. a.place ≢ b.place) x (xs ++ ys)
    (λ k d lt. here (get_or (xs ++ ys) k d) (Contains-get_or (xs ++ ys) k d lt))
    (apart_joined xs ys (apart_tail x xs a) b (λ p q c d. across p q (contains_there x p xs c) d)) where
      here : (q : TurnSoFar) → Contains (xs ++ ys) q → x.place ≢ q.place
      here q c = ⊎_elim (λ (d : Contains xs q). apart_head x q xs a d) (λ (d : Contains ys q). across x q (contains_here x xs) d) (Contains-append_cases xs ys q c)

-- The order of the jobs is no matter.

module _ (P : Program) (T : Run) where
  -- where the jobs are of different turns, those with the same members are as good
  same_jobs : (js ks : List TurnSoFar) → AreJobs P T js → AreApart ks → ((j : TurnSoFar) → Contains ks j → Contains js j) → ((j : TurnSoFar) → Contains js j → Contains ks j) → AreJobs P T ks
  same_jobs js ks h apart back forth = record {
    one_each = apart;
    records = λ j c f. h.records j (back j c) f;
    each = λ place f. let g = h.each place f in record { job = g.job; among = forth g.job g.among; from = g.from };
  }

  -- the last ones may stand before the middle ones
  pub swapped : (xs ys zs : List TurnSoFar) → AreJobs P T ((xs ++ ys) ++ zs) → AreJobs P T ((xs ++ zs) ++ ys)
  swapped xs ys zs h = same_jobs ((xs ++ ys) ++ zs) ((xs ++ zs) ++ ys) h apart (moved_over zs ys) (moved_over ys zs) where
    front : AreApart (xs ++ ys)
    front = apart_left (xs ++ ys) zs h.one_each

    last : (p q : TurnSoFar) → Contains (xs ++ ys) p → Contains zs q → p.place ≢ q.place
    last p q c d = apart_across (xs ++ ys) zs h.one_each p q c d

    before : AreApart (xs ++ zs)
    before = apart_joined xs zs (apart_left xs ys front) (apart_right (xs ++ ys) zs h.one_each) (λ p q c d. last p q (Contains-append_left xs ys p c) d)

    apart : AreApart ((xs ++ zs) ++ ys)
    apart = apart_joined (xs ++ zs) ys before (apart_right xs ys front) (λ p q c d.
        ⊎_elim
        (λ (e : Contains xs p). apart_across xs ys front p q e d)
        (λ (e : Contains zs p). λ same. last q p (Contains-append_right xs ys q d) e (sym same))
        (Contains-append_cases xs zs p c))

    moved_over : (us vs : List TurnSoFar) (j : TurnSoFar) → Contains ((xs ++ us) ++ vs) j → Contains ((xs ++ vs) ++ us) j
    moved_over us vs j c =
        ⊎_elim
        (λ (d : Contains (xs ++ us) j). ⊎_elim
        (λ (e : Contains xs j). Contains-append_left (xs ++ vs) us j (Contains-append_left xs vs j e))
        (λ (e : Contains us j). Contains-append_right (xs ++ vs) us j e)
        (Contains-append_cases xs us j d))
        (λ (d : Contains vs j). Contains-append_left (xs ++ vs) us j (Contains-append_right xs vs j d))
        (Contains-append_cases (xs ++ us) vs j c)

  pub open_are_jobs : (js : List TurnSoFar) → AreOpenJobs P T js → AreJobs P T js
  open_are_jobs js h = record { one_each = h.one_each; records = λ j c f. h.records j c; each = h.each }

  -- the others, where one is handed out
  pub others_left : (front : List TurnSoFar) (job : TurnSoFar) (back : List TurnSoFar) → AreOpenJobs P T (front ++ job ∷ back) → AreOtherJobs P T job (front ++ back)
  others_left front job back h = record {
    one_each = apart_others front job back h.one_each;
    records = λ j c. (h.records j (others_in front back job j c), other j c);
    each = λ place f. here place (h.each place f);
  } where
    other : (j : TurnSoFar) → Contains (front ++ back) j → j.place ≢ job.place
    other j c = ⊎_elim (λ d. apart_front front job back j h.one_each d) (λ d. apart_back front job back j h.one_each d) (Contains-append_cases front back j c)

    here : (place : ℕ) → HasJobFrom (front ++ job ∷ back) place → (place ≡ job.place) ⊎ HasJobFrom (front ++ back) place
    here place f = ⊎_elim
        (λ (d : Contains front f.job). inr (record { job = f.job; among = Contains-append_left front back f.job d; from = f.from }))
        (λ (d : Contains (job ∷ back) f.job). ⊎_elim
        (λ (e : job ≡ f.job). inl (sym f.from ∙ ap (λ (j : TurnSoFar). j.place) (sym e)))
        (λ (d : Contains back f.job). inr (record { job = f.job; among = Contains-append_right front back f.job d; from = f.from }))
        (contains_cases job f.job back d))
        (Contains-append_cases front (job ∷ back) f.job f.among)

-- The returned job that a hand takes up.

-- it is one of these jobs, if there is one
abbrev pub IsAmong : List TurnSoFar → Option TurnSoFar → Type 0
IsAmong jobs None = Unit {0}
IsAmong jobs (Some job) = Contains jobs job

earlier_among : (job : TurnSoFar) (jobs : List TurnSoFar) (o : Option TurnSoFar) → IsAmong jobs o → Contains (job ∷ jobs) (earlier_of job o)
earlier_among job jobs None among = contains_here job jobs
earlier_among job jobs (Some other) among = by (nat_le job.place other.place) where
  by : (b : Bool) → Contains (job ∷ jobs) (cond b job other)
  by true = contains_here job jobs
  by false = contains_there job other jobs among

pub earliest_among : (jobs : List TurnSoFar) → IsAmong jobs (earliest jobs)
earliest_among [] = tt
earliest_among (job ∷ jobs) = earlier_among job jobs (earliest jobs) (earliest_among jobs)

module _ (P : Program) (T : Run) where
  -- it moves from the last jobs behind the first ones
  moved : (own back : List TurnSoFar) (o : Option TurnSoFar) → IsAmong back o → AreOpenJobs P T (own ++ back) → AreOpenJobs P T ((own ++ option_to_list o) ++ without o back)
  moved own back None among h = subst (λ (js : List TurnSoFar). AreOpenJobs P T (js ++ back)) (sym (append-nil own)) h
  moved own back (Some job) among h = record {
    one_each = apart_joined (own ++ job ∷ []) (without (Some job) back) with_job (differ_without (Some job) back (apart_right own back h.one_each)) across;
    records = λ j c. h.records j (came_from j c);
    each = λ place f. there place (h.each place f);
  } where
    with_job : AreApart (own ++ job ∷ [])
    with_job = all_pairs_push (λ a b. a.place ≢ b.place) own job (apart_left own back h.one_each) (λ k d l. apart_across own back h.one_each (get_or own k d) job (Contains-get_or own k d l) among)

    across : (p q : TurnSoFar) → Contains (own ++ job ∷ []) p → Contains (without (Some job) back) q → p.place ≢ q.place
    across p q c d =
        let r = filter_contains (λ j. not (is_of job.place j)) back q d in
        ⊎_elim
        (λ (e : Contains own p). apart_across own back h.one_each p q e r.0)
        (λ (e : job ≡ p). λ same. is_other-not job.place q.place r.1 (sym same ∙ ap (λ (j : TurnSoFar). j.place) (sym e)))
        (Contains-push_cases own job p c)

    came_from : (j : TurnSoFar) → Contains ((own ++ job ∷ []) ++ without (Some job) back) j → Contains (own ++ back) j
    came_from j c =
        ⊎_elim
        (λ (d : Contains (own ++ job ∷ []) j). ⊎_elim
        (λ (e : Contains own j). Contains-append_left own back j e)
        (λ (e : job ≡ j). Contains-append_right own back j (subst (λ (x : TurnSoFar). Contains back x) e among))
        (Contains-push_cases own job j d))
        (λ (d : Contains (without (Some job) back) j). Contains-append_right own back j (filter_contains (λ k. not (is_of job.place k)) back j d).0)
        (Contains-append_cases (own ++ job ∷ []) (without (Some job) back) j c)

    -- a job that was returned is this one, or stays
    stays : (j : TurnSoFar) (b : Bool) → eqb j.place job.place ≡ b → Contains back j → HasJobFrom ((own ++ job ∷ []) ++ without (Some job) back) j.place
    stays j true e c = record { job = job; among = Contains-append_left (own ++ job ∷ []) (without (Some job) back) job (Contains-push own job); from = sym (eqb-true j.place job.place e) }
    stays j false e c = record { job = j; among = Contains-append_right (own ++ job ∷ []) (without (Some job) back) j (contains_filter (λ k. not (is_of job.place k)) back j c (ap not e)); from = refl }

    there : (place : ℕ) → HasJobFrom (own ++ back) place → HasJobFrom ((own ++ job ∷ []) ++ without (Some job) back) place
    there place f = subst (λ n. HasJobFrom ((own ++ job ∷ []) ++ without (Some job) back) n) f.from (⊎_elim
        (λ (c : Contains own f.job). record { job = f.job; among = Contains-append_left (own ++ job ∷ []) (without (Some job) back) f.job (Contains-append_left own (job ∷ []) f.job c); from = refl })
        (λ (c : Contains back f.job). stays f.job (eqb f.job.place job.place) refl c)
        (Contains-append_cases own back f.job f.among))

  -- once jobs of turns that aren't open are given up and the hand has taken up a returned job, there is one job of each open turn
  module _ (turns : List ℕ) (are : AreOpenTurns T turns) (h : Held) (store : List TurnSoFar) (all : AreJobs P T (h.jobs ++ store)) where
    pub opened : AreOpenJobs P T (open_jobs turns h.jobs ++ open_jobs turns store)
    opened = subst (λ (js : List TurnSoFar). AreOpenJobs P T js) (filter-append (λ j. list_any (λ p. eqb p j.place) turns) h.jobs store) (record {
      one_each = open_apart P T turns are (h.jobs ++ store) all;
      records = are_open P T turns are (h.jobs ++ store) all;
      each = job_from P T turns are (h.jobs ++ store) all;
    })

    taken_among : (b : Bool) → IsAmong (open_jobs turns store) (cond b (earliest (open_jobs turns store)) None)
    taken_among true = earliest_among (open_jobs turns store)
    taken_among false = tt

    pub tidied : AreOpenJobs P T (jobs_with turns h store ++ store_without turns h store)
    tidied = moved (open_jobs turns h.jobs) (open_jobs turns store) (taken_up turns h store) (taken_among (nat_lt (length (open_jobs turns h.jobs)) h.size)) opened
