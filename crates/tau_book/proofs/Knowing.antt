-- Jobs of a hand that were records of open turns, after each answer.
use Rattle.std.proofs.Common.{◌≡◌, ⊎_elim, ℕ, Bool, true, false, cond, eqb, None, List, [], ◌∷◌, ◌++◌, length, All, get_or, sym, ap, ◌∙◌, subst, arith, append-nil}
use Rattle.std.specs.Prelude.{nat_lt}
use Rattle.std.specs.List.{Contains, list_any}
use Rattle.std.specs.Option.{option_to_list}
use Rattle.std.proofs.lemmas.List.Elements.{All-same, All-push, All-weaker, All-contains, All-filter, Contains-append_right, Contains-get_or}
use Rattle.tau_value.specs.Value.{val_of}
use Rattle.tau_trace.specs.declared.step.Step.{Step}
use Rattle.tau_trace.specs.declared.step.Step.TheVariants.{Take, Drop, Fall, Void, Echo, Heed}
use Rattle.tau_eval.specs.Turn.{TurnSoFar, with_reply}
use Rattle.tau_rules.specs.System.{Core, with_step}
use Rattle.tau_rules.specs.Answers.{IsOpenJob, IsDelivered}
use Rattle.tau_rules.specs.declared.answers.Delivered.{Delivered}
use Rattle.tau_rules.specs.declared.answers.Delivered.TheVariants.{Began, Dropped, Fell, Voided, Echoed, Heeded}
use Rattle.tau_rules.specs.KnownJobs.{WasOpenJob}
use Rattle.tau_rules.proofs.KnownJobs.{known_longer, open_known}
use Rattle.tau_queue.proofs.Members.{contains_here}
use Rattle.tau_book.specs.declared.answers.Next.TheVariants as nexts
use Rattle.tau_book.specs.declared.answers.Told.TheVariants as tolds
use Rattle.tau_book.specs.Hands.{Held, IsNumbered}
use Rattle.tau_book.specs.Books.{Booked}
use Rattle.tau_book.specs.Offers.{open_jobs, earliest, jobs_with}
use Rattle.tau_book.specs.Nexts.{IsDueMade, IsHandedOut, IsReceived, begun_with}
use Rattle.tau_book.specs.Tolds.{goes_on, is_over}
use Rattle.tau_book.specs.Knowing.{IsKnown, AreKnown, NextHandsOnKnown, ActHandsOnKnown}
use Rattle.tau_book.proofs.Chosen.{others_in}

-- Jobs of lists.

-- what holds of each job that is among the jobs
all_of : (P : TurnSoFar → Type 0) (js : List TurnSoFar) → ((job : TurnSoFar) → Contains js job → P job) → All P js
all_of P js each = λ k d l. each (get_or js k d) (Contains-get_or js k d l)

-- where no job has come back, the hand takes none up
none_taken_up : (turns : List ℕ) (h : Held) → jobs_with turns h [] ≡ open_jobs turns h.jobs
none_taken_up turns h = by (nat_lt (length (open_jobs turns h.jobs)) h.size) where
  by : (b : Bool) → open_jobs turns h.jobs ++ option_to_list (cond b (earliest (open_jobs turns [])) None) ≡ open_jobs turns h.jobs
  by true = append-nil (open_jobs turns h.jobs)
  by false = append-nil (open_jobs turns h.jobs)

all_offered : (P : TurnSoFar → Type 0) (turns : List ℕ) (h : Held) (store : List TurnSoFar) → store ≡ [] → All P h.jobs → All P (jobs_with turns h store)
all_offered P turns h store none all =
    All-same P (jobs_with turns h store) (open_jobs turns h.jobs) (ap (jobs_with turns h) none ∙ none_taken_up turns h)
    (All-filter (λ j. list_any (λ p. eqb p j.place) turns) P h.jobs all)

-- the job that leaves the hand, and the others
all_handed_out : (P : TurnSoFar → Type 0) (jobs : List TurnSoFar) (number : ℕ) (job : TurnSoFar) (others : List TurnSoFar) → IsNumbered jobs number job others → All P jobs → All P others × P job
all_handed_out P jobs number job others is all =
    let there : All P (is.front ++ job ∷ is.back) = All-same P (is.front ++ job ∷ is.back) jobs (sym is.stands) all in
    let left : All P (is.front ++ is.back) = all_of P (is.front ++ is.back) (λ j c. All-contains P (is.front ++ job ∷ is.back) j there (others_in is.front is.back job j c)) in
    let among : Contains (is.front ++ job ∷ is.back) job = Contains-append_right is.front (job ∷ is.back) job (contains_here job is.back) in
    (All-same P others (is.front ++ is.back) is.others_are left, All-contains P (is.front ++ job ∷ is.back) job there among)

-- What is known of a job stays known.

module _ (old new : Booked) where
  still : (job : TurnSoFar) → new.system ≡ old.system → IsKnown old job → IsKnown new job
  still job e was = subst (λ (c : Core). WasOpenJob c.program c.run job) (sym e) was

  longer : (s : Step) (job : TurnSoFar) → new.system ≡ with_step old.system s → IsKnown old job → IsKnown new job
  longer s job e was = subst (λ (c : Core). WasOpenJob c.program c.run job) (sym e) (known_longer old.system.program old.system.run (s ∷ []) job was)

  all_still : (js : List TurnSoFar) → new.system ≡ old.system → AreKnown old js → AreKnown new js
  all_still js e all = All-weaker (IsKnown old) (IsKnown new) (λ job was. still job e was) js all

  all_longer : (s : Step) (js : List TurnSoFar) → new.system ≡ with_step old.system s → AreKnown old js → AreKnown new js
  all_longer s js e all = All-weaker (IsKnown old) (IsKnown new) (λ job was. longer s job e was) js all

  opened : (job : TurnSoFar) → IsOpenJob new.system.program new.system.run job → IsKnown new job
  opened job is = open_known new.system.program new.system.run job is

  -- the hand is as it was
  all_same_hand : (h k : Held) → new ≡ old → k ≡ h → AreKnown old h.jobs → AreKnown new k.jobs
  all_same_hand h k b e all = All-same (IsKnown new) k.jobs h.jobs (ap (λ (x : Held). x.jobs) e) (all_still h.jobs (ap (λ (x : Booked). x.system) b) all)

  due_made : (h k : Held) → IsDueMade old new h k → AreKnown old h.jobs → AreKnown new k.jobs
  due_made h k d all = All-same (IsKnown new) k.jobs h.jobs (ap (λ (x : Held). x.jobs) d.hand_is) (all_longer d.step h.jobs d.appended.system_is all)

  -- with the job of a turn that began
  all_begun : (m : ℕ) (js : List TurnSoFar) (a : Delivered) → IsDelivered old.system new.system m a → AreKnown old js → AreKnown new (begun_with js a)
  all_begun m js (Began job) d all = All-push (IsKnown new) js job (all_longer (Take job.who m) js d.appended all) (opened job d.opened)
  all_begun m js Dropped d all = all_longer (Drop d.0 m) js d.1 all
  all_begun m js Fell d all = all_longer (Fall d.0 m) js d.1 all
  all_begun m js Voided d all = all_longer (Void d.0 m) js d.1 all
  all_begun m js Echoed d all = all_longer (Echo d.0 m) js d.1 all
  all_begun m js Heeded d all = all_longer (Heed d.0 m) js d.1 all

  received : (h k : Held) → IsReceived old new h k → old.store ≡ [] → AreKnown old h.jobs → AreKnown new k.jobs
  received h k r none all =
      let js : List TurnSoFar = jobs_with r.offer.turns h old.store in
      All-same (IsKnown new) k.jobs (begun_with js r.answer) (ap (λ (x : Held). x.jobs) r.hand_is)
      (all_begun r.message js r.answer r.delivered (all_offered (IsKnown old) r.offer.turns h old.store none all))

  handed_out : (h k : Held) (job : TurnSoFar) → IsHandedOut old new h k job → old.store ≡ [] → AreKnown old h.jobs → AreKnown new k.jobs × IsKnown new job
  handed_out h k job d none all =
      let js : List TurnSoFar = jobs_with d.offer.turns h old.store in
      let both = all_handed_out (IsKnown old) js _ job d.others d.chosen (all_offered (IsKnown old) d.offer.turns h old.store none all) in
      let same : new.system ≡ old.system = ap (λ (x : Booked). x.system) d.book_is in
      (All-same (IsKnown new) k.jobs d.others (ap (λ (x : Held). x.jobs) d.hand_is) (all_still d.others same both.0), still job same both.1)

-- What the answers hand on.

pub next_hands_on : NextHandsOnKnown
next_hands_on old new h k nexts.Complete is none all = (all_same_hand old new h k is.1 is.2 all, tt)
next_hands_on old new h k nexts.Stopped is none all = (all_same_hand old new h k is.2 is.3 all, tt)
next_hands_on old new h k (nexts.Idle out) is none all = (All-same (IsKnown new) k.jobs [] (ap (λ (x : Held). x.jobs) is.hand_is) (λ i d l. absurd (omega (arith, l))), tt)
next_hands_on old new h k (nexts.Work job) is none all = handed_out old new h k job is none all
next_hands_on old new h k nexts.Stepped is none all = (⊎_elim (λ d. due_made old new h k d all) (λ r. received old new h k r none all) is, tt)

pub act_hands_on : ActHandsOnKnown
act_hands_on old new h k pending tolds.Stopped is all = all_same_hand old new h k is.1 is.2 all
act_hands_on old new h k pending (tolds.Later back) is all = due_made old new h k is.0 all
act_hands_on old new h k pending (tolds.Stale ended_by) is all = all_same_hand old new h k is.book_is is.hand_is all
act_hands_on old new h k pending tolds.Redone is all =
    let known : IsKnown old is.job = open_known old.system.program old.system.run is.job is.redone.acted.is_open in
    let same : new.system ≡ old.system = ap (λ (x : Booked). x.system) is.book_is in
    All-same (IsKnown new) k.jobs (h.jobs ++ is.job ∷ []) (ap (λ (x : Held). x.jobs) is.hand_is) (all_still old new (h.jobs ++ is.job ∷ []) same (All-push (IsKnown old) h.jobs is.job all known))
act_hands_on old new h k pending tolds.Stepped (goes_on {r = r} tried hand_is) all =
    let a = tried.acted in
    let job : TurnSoFar = with_reply pending (val_of r) in
    All-same (IsKnown new) k.jobs (h.jobs ++ job ∷ []) (ap (λ (x : Held). x.jobs) hand_is) (All-push (IsKnown new) h.jobs job (all_longer old new a.0 h.jobs a.1.appended all) (opened old new job a.4))
act_hands_on old new h k pending tolds.Stepped (is_over tried hand_is) all =
    let a = tried.acted in
    All-same (IsKnown new) k.jobs h.jobs (ap (λ (x : Held). x.jobs) hand_is) (all_longer old new a.0 h.jobs a.1.appended all)
