-- The jobs of a hand and the returned jobs, after each answer.
use Rattle.std.proofs.Common.{◌≡◌, ⊎_elim, ℕ, ◌≤◌, Some, None, List, [], ◌∷◌, ◌++◌, length, get_or, eqb, refl, sym, ap, ◌∙◌, subst, arith, length-append, append_assoc}
use Rattle.std.specs.List.{Contains, list_any}
use Rattle.std.specs.Option.{option_to_list}
use Rattle.std.proofs.lemmas.List.Elements.{Contains-append_right, Contains-append_cases, Contains-get_or}
use Rattle.tau_tree.specs.declared.programs.Program.{Program}
use Rattle.tau_value.specs.Value.{val_of}
use Rattle.tau_trace.specs.declared.step.Step.{Step}
use Rattle.tau_trace.specs.declared.step.Step.TheVariants as steps
use Rattle.tau_trace.specs.Steps.{actor, received_by}
use Rattle.tau_trace.specs.Run.{Run, len, appended}
use Rattle.tau_trace.specs.Known.{WellFormed}
use Rattle.tau_trace.specs.Turns.{Turn, IsOpenTurn}
use Rattle.tau_trace.proofs.Lists.{same_some}
use Rattle.tau_script.specs.Scripts.{HasObject, fails, loses, repeats}
use Rattle.tau_script.proofs.Passing.{object}
use Rattle.tau_eval.specs.Turn.{TurnSoFar, with_reply}
use Rattle.tau_rules.specs.System.{Core, with_step}
use Rattle.tau_rules.specs.Answers.{IsOpenJob, IsStepped, IsDelivered}
use Rattle.tau_rules.specs.declared.answers.Delivered.{Delivered}
use Rattle.tau_rules.specs.declared.answers.Delivered.TheVariants.{Began, Dropped, Fell, Voided, Echoed, Heeded}
use Rattle.tau_check.proofs.Turns.{BeginsNone, of_turn_begins_none, earlier, ended}
use Rattle.tau_check.proofs.Endings.{legal_fits, last_fits}
use Rattle.tau_check.proofs.Receipts.{IsByIdle, by_idle}
use Rattle.tau_queue.proofs.Members.{contains_here, contains_filter}
use Rattle.tau_book.specs.Hands.{Held, IsNumbered}
use Rattle.tau_book.specs.Books.{Booked, IsBook}
use Rattle.tau_book.specs.Offers.{Offer, open_jobs, taken_up, jobs_with, store_without, options, number_drawn, generator_after}
use Rattle.tau_book.specs.Nexts.{IsDueMade, IsIdle, IsHandedOut, IsReceived, begun_with}
use Rattle.tau_book.specs.Tolds.{IsTurnStep as IsTurnMade, goes_on, is_over}
use Rattle.tau_book.specs.Adopted.{HasJobFrom}
use Rattle.tau_book.specs.Working.{AreJobs, HasAllJobs}
use Rattle.tau_book.specs.Inner.Working.{AreOpenJobs, AreOtherJobs, HasHandedOut}
use Rattle.tau_book.proofs.Chosen.{has_any}
use Rattle.tau_book.proofs.JobLists.{one_taken_up}
use Rattle.tau_book.proofs.Kept.{jobs_stay, jobs_begun, jobs_ended, jobs_going}
use Rattle.tau_book.proofs.Together.{swapped, open_are_jobs, others_left, tidied}

-- a step of the script begins no turn, and its transactor has none open after it
due_begins_none : (T : Run) (k : ℕ) (s : Step) → HasObject T k s → BeginsNone s
due_begins_none T k s (fails lt living) t m e = cc
due_begins_none T k s (loses f) t m e = cc
due_begins_none T k s (repeats f) t m e = cc

due_none : (T : Run) (s : Step) → HasObject T (len T) s → (t place m : ℕ) → actor s ≡ Some t → ¬ Turn (appended T s) t (len (appended T s)) place m
due_none T s (fails {t = u} lt living) t place m by u2 = ended T (steps.Fail u) t place m by refl u2
due_none T s (loses f) t place m by u = cc
due_none T s (repeats f) t place m by u = cc

-- a hand and returned jobs after a step
all_after : (old new : Booked) (h : Held) (s : Step) (js store : List TurnSoFar) → 1 ≤ h.size → new.system ≡ with_step old.system s → new.store ≡ store → h.jobs ≡ js
    → AreJobs old.system.program (appended old.system.run s) (js ++ store) → HasAllJobs new h
all_after old new h s js store some system_is store_is jobs_is are = record {
  some = some;
  jobs_are = subst (λ (c : Core). AreJobs c.program c.run (h.jobs ++ new.store)) (sym system_is) (subst (λ (xs : List TurnSoFar). AreJobs old.system.program (appended old.system.run s) xs) (λ i. sym jobs_is i ++ sym store_is i) are);
}

module _ (old new : Booked) (h k : Held) (was : IsBook old) (is : IsBook new) (w : HasAllJobs old h) where
  abbrev T : Run
  T = old.system.run

  abbrev P : Program
  P = old.system.program

  well_formed_after : (s : Step) → new.system ≡ with_step old.system s → WellFormed (appended T s)
  well_formed_after s e = subst (λ (c : Core). WellFormed c.run) e is.well_formed

  -- after a due step
  pub jobs_due : IsDueMade old new h k → HasAllJobs new k
  jobs_due d =
      let s = d.step in
      let e = d.appended.system_is in
      let has : HasObject T (len T) s = object P.script T (len T) d.due.cursor s d.due.due in
      let stay : AreJobs P (appended T s) (h.jobs ++ old.store) = jobs_stay P T s was.well_formed (well_formed_after s e) (h.jobs ++ old.store) (due_begins_none T (len T) s has) (due_none T s has) w.jobs_are in
      subst (λ (x : Held). HasAllJobs new x) (sym d.hand_is) (all_after old new h s h.jobs old.store w.some e d.appended.store_is refl stay)

  -- the jobs among which a hand chooses, and the returned jobs that are left
  offered : (offer : Offer old h) → AreOpenJobs P T (jobs_with offer.turns h old.store ++ store_without offer.turns h old.store)
  offered offer = tidied P T offer.turns offer.turns_are h old.store w.jobs_are

  -- an open turn has a job, in the hand or returned, and where the hand has none it has room for one
  pub not_idle : (out : ℕ) → ¬ IsIdle old new h k out
  not_idle out i =
      let turns : List ℕ = i.offer.turns in
      let place : ℕ = get_or turns 0 0 in
      let listed : Contains turns place = Contains-get_or turns 0 0 (omega (arith, i.out_is, i.some_out)) in
      let f : HasJobFrom (h.jobs ++ old.store) place = w.jobs_are.each place ((i.offer.turns_are.each place).0 listed) in
      let there : Contains turns f.job.place = subst (λ q. Contains turns q) (sym f.from) listed in
      let own : List TurnSoFar = open_jobs turns h.jobs in
      let back : List TurnSoFar = open_jobs turns old.store in
      let nothing : length (jobs_with turns h old.store) ≡ 0 = ap length i.no_job in
      let no_own : length own ≡ 0 = omega (arith, nothing, length-append own (option_to_list (taken_up turns h old.store))) in
      ⊎_elim
      (λ (c : Contains h.jobs f.job).
      let kept : Contains own f.job = contains_filter (λ j. list_any (λ p. eqb p j.place) turns) h.jobs f.job c (has_any turns f.job.place there) in
      omega (arith, kept.1, no_own))
      (λ (c : Contains old.store f.job).
      let kept : Contains back f.job = contains_filter (λ j. list_any (λ p. eqb p j.place) turns) old.store f.job c (has_any turns f.job.place there) in
      omega (arith, nothing, no_own, one_taken_up own back h.size (omega (arith, no_own, w.some)) (omega (arith, kept.1))))
      (Contains-append_cases h.jobs old.store f.job f.among)

  -- the job that was handed out is that of an open turn, and the others are left
  pub handed_out : (job : TurnSoFar) → IsHandedOut old new h k job → HasHandedOut new k job
  handed_out job d =
      let turns : List ℕ = d.offer.turns in
      let left : List TurnSoFar = store_without turns h old.store in
      let n : IsNumbered (jobs_with turns h old.store) (number_drawn h.generator (options h.size (jobs_with turns h old.store) d.offer.messages)) job d.others = d.chosen in
      let all : AreOpenJobs P T ((n.front ++ job ∷ n.back) ++ left) = subst (λ (js : List TurnSoFar). AreOpenJobs P T (js ++ left)) n.stands (offered d.offer) in
      let regrouped : AreOpenJobs P T (n.front ++ job ∷ (n.back ++ left)) = subst (λ (js : List TurnSoFar). AreOpenJobs P T js) (append_assoc n.front (job ∷ n.back) left) all in
      let others : AreOtherJobs P T job (n.front ++ (n.back ++ left)) = others_left P T n.front job (n.back ++ left) regrouped in
      let same : n.front ++ (n.back ++ left) ≡ d.others ++ left = sym (append_assoc n.front n.back left) ∙ ap (λ (js : List TurnSoFar). js ++ left) (sym n.others_are) in
      subst (λ (b : Booked). HasHandedOut b k job) (sym d.book_is) (subst (λ (x : Held). HasHandedOut (record old { store = left }) x job) (sym d.hand_is) (record {
        some = w.some;
        goes_on = record { below = d.goes_on.below; none_due = d.goes_on.none_due };
        is_open = regrouped.records job (Contains-append_right n.front (job ∷ (n.back ++ left)) job (contains_here job (n.back ++ left)));
        others = subst (λ (js : List TurnSoFar). AreOtherJobs P T job js) same others;
      }))

  -- after a receipt
  module _ (r : IsReceived old new h k) where
    abbrev ks : List TurnSoFar
    ks = jobs_with r.offer.turns h old.store

    abbrev left : List TurnSoFar
    left = store_without r.offer.turns h old.store

    idle_then : (s : Step) → received_by s ≡ Some r.message → new.system ≡ with_step old.system s → IsByIdle T (len T) r.message s
    idle_then s by e = by_idle P T (len T) r.message s (legal_fits P T was.legal) by (last_fits old.system new.system s was.well_formed is.well_formed (legal_fits new.system.program new.system.run is.legal) e)

    stays : (s : Step) → received_by s ≡ Some r.message → BeginsNone s → new.system ≡ with_step old.system s → AreJobs P (appended T s) (ks ++ left)
    stays s by quiet e =
        let idle = idle_then s by e in
        jobs_stay P T s was.well_formed (well_formed_after s e) (ks ++ left) quiet
        (λ t place m acts u. ⊎_elim
        (λ x. idle.idle place m (subst (λ y. Turn T y (len T) place m) (same_some (sym acts ∙ idle.by)) x))
        (λ x. quiet t m x.1)
        (earlier T s t place m u))
        (open_are_jobs P T (ks ++ left) (offered r.offer))

    made : (s : Step) (js : List TurnSoFar) → new.system ≡ with_step old.system s → AreJobs P (appended T s) (js ++ left) → HasAllJobs new (record { generator = generator_after h.generator; size = h.size; jobs = js })
    made s js e are = all_after old new (record { generator = generator_after h.generator; size = h.size; jobs = js }) s js left w.some e r.store_is refl are

    by_answer : (a : Delivered) → IsDelivered old.system new.system r.message a → HasAllJobs new (record { generator = generator_after h.generator; size = h.size; jobs = begun_with ks a })
    by_answer (Began job) d =
        let s = steps.Take job.who r.message in
        let idle = idle_then s refl d.appended in
        let idle_who : IsOpenTurn T job.who (len T) None = subst (λ x. IsOpenTurn T x (len T) None) (same_some (sym idle.by)) idle.idle in
        let opened : IsOpenJob P (appended T s) job = subst (λ (c : Core). IsOpenJob c.program c.run job) d.appended d.opened in
        let begun : AreJobs P (appended T s) ((ks ++ left) ++ job ∷ []) = jobs_begun P T s was.well_formed (well_formed_after s d.appended) (ks ++ left) job r.message refl d.place idle_who opened (offered r.offer) in
        made s (ks ++ job ∷ []) d.appended (swapped P (appended T s) ks left (job ∷ []) begun)
    by_answer Dropped d = let s = steps.Drop d.0 r.message in made s ks d.1 (stays s refl (λ t m e. cc) d.1)
    by_answer Fell d = let s = steps.Fall d.0 r.message in made s ks d.1 (stays s refl (λ t m e. cc) d.1)
    by_answer Voided d = let s = steps.Void d.0 r.message in made s ks d.1 (stays s refl (λ t m e. cc) d.1)
    by_answer Echoed d = let s = steps.Echo d.0 r.message in made s ks d.1 (stays s refl (λ t m e. cc) d.1)
    by_answer Heeded d = let s = steps.Heed d.0 r.message in made s ks d.1 (stays s refl (λ t m e. cc) d.1)

    pub jobs_received : HasAllJobs new k
    jobs_received = subst (λ (x : Held). HasAllJobs new x) (sym r.hand_is) (by_answer r.answer r.delivered)

-- what comes of the effect of the job that was handed out
module _ (old new : Booked) (h k : Held) (job : TurnSoFar) (was : IsBook old) (is : IsBook new) (x : HasHandedOut old h job) where
  abbrev U : Run
  U = old.system.run

  abbrev Q : Program
  Q = old.system.program

  stepped_well : (s : Step) → new.system ≡ with_step old.system s → WellFormed (appended U s)
  stepped_well s e = subst (λ (c : Core). WellFormed c.run) e is.well_formed

  pub jobs_made : IsTurnMade old new h k job → HasAllJobs new k
  jobs_made (goes_on {r = r} tried hand_is) =
      let a = tried.acted in
      let s = a.0 in
      let next = with_reply job (val_of r) in
      let opened : IsOpenJob Q (appended U s) next = subst (λ (c : Core). IsOpenJob c.program c.run next) a.1.appended a.4 in
      let going : AreJobs Q (appended U s) ((h.jobs ++ old.store) ++ next ∷ []) =
      jobs_going Q U s was.well_formed (stepped_well s a.1.appended) job (h.jobs ++ old.store) x.is_open x.others a.1.step.by (of_turn_begins_none s a.1.step.of_turn) next refl opened in
      subst (λ (y : Held). HasAllJobs new y) (sym hand_is)
      (all_after old new (record h { jobs = h.jobs ++ next ∷ [] }) s (h.jobs ++ next ∷ []) old.store x.some a.1.appended tried.store_is refl (swapped Q (appended U s) h.jobs old.store (next ∷ []) going))
  jobs_made (is_over tried hand_is) =
      let a = tried.acted in
      let s = a.0 in
      let over : AreJobs Q (appended U s) (h.jobs ++ old.store) =
      jobs_ended Q U s was.well_formed (stepped_well s a.1.appended) job (h.jobs ++ old.store) x.is_open x.others a.1.step.by (of_turn_begins_none s a.1.step.of_turn) a.2 in
      subst (λ (y : Held). HasAllJobs new y) (sym hand_is) (all_after old new h s h.jobs old.store x.some a.1.appended tried.store_is refl over)

-- what is known of a step of a turn that was made
pub turn_made : (old new : Booked) (h k : Held) (job : TurnSoFar) → IsTurnMade old new h k job → (s : Step) × IsStepped old.system new.system job s
turn_made old new h k job (goes_on tried hand_is) = (tried.acted.0, tried.acted.1)
turn_made old new h k job (is_over tried hand_is) = (tried.acted.0, tried.acted.1)

pub turn_store : (old new : Booked) (h k : Held) (job : TurnSoFar) → IsTurnMade old new h k job → (new.store ≡ old.store) × (k.generator ≡ h.generator) × (k.size ≡ h.size)
turn_store old new h k job (goes_on tried hand_is) = (tried.store_is, ap (λ (x : Held). x.generator) hand_is, ap (λ (x : Held). x.size) hand_is)
turn_store old new h k job (is_over tried hand_is) = (tried.store_is, ap (λ (x : Held). x.generator) hand_is, ap (λ (x : Held). x.size) hand_is)
