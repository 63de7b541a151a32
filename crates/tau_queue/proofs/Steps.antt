-- What is kept after each kind of step.
use Rattle.std.proofs.Common.{◌≡◌, ◌≢◌, ◌<◌, inl, inr, ℕ, false, IsTrue, Option, Some, None, List, [], ◌∷◌, ◌++◌, filter, refl, sym, ap, ◌∙◌, subst, arith}
use Rattle.tau_mailbox.specs.declared.letter.Letter.{Letter}
use Rattle.tau_mailbox.specs.Letters.{is_other}
use Rattle.tau_tree.specs.declared.programs.Program.{Program}
use Rattle.tau_trace.specs.declared.step.Step.{Step}
use Rattle.tau_trace.specs.declared.step.Step.TheVariants.{Take, Drop, Fall, Void, Get, Set, Skip, Send, New, Stabilize, Ask, Fail, Lose, Echo, Heed, Repeat}
use Rattle.tau_trace.specs.Steps.{actor, removed_by, makes_message, ends_turn}
use Rattle.tau_trace.specs.Run.{Run, len, appended}
use Rattle.tau_trace.specs.Known.{WellFormed, IsKnownAt, MayFollow}
use Rattle.tau_trace.specs.Numbering.{born, sent, Receives, IsHome}
use Rattle.tau_trace.specs.Histories.{Ended}
use Rattle.tau_trace.specs.Turns.{IsOpenTurn}
use Rattle.tau_trace.proofs.Agreement.{agree_appended, step_at-appended, born-same, sent-same}
use Rattle.tau_trace.proofs.Indexing.{known_same, len-appended}
use Rattle.tau_trace.proofs.Lists.{same_some}
use Rattle.tau_trace.proofs.Once.{receives_once}
use Rattle.tau_script.specs.Openings.{program_opening}
use Rattle.tau_legal.specs.Traces.{Legal}
use Rattle.tau_legal.proofs.TraceLemmas.{legal_fitting}
use Rattle.tau_legal.specs.Fits.{Fits, is_of_turn}
use Rattle.tau_legal.specs.Turns.{TurnHas}
use Rattle.tau_eval.specs.Turn as jobs
use Rattle.tau_eval.specs.Eff.{Eff}
use Rattle.tau_eval.specs.Effect.{eff_of}
use Rattle.tau_eval.specs.Meaning.{next}
use Rattle.tau_eval.specs.declared.effects.Effect.{Effect}
use Rattle.tau_eval.specs.declared.effects.Effect.TheVariants as effects
use Rattle.tau_legal.specs.Choices.{goes_on}
use Rattle.tau_rules.specs.System.{Core, with_step}
use Rattle.tau_rules.specs.declared.answers.Delivered.{Delivered}
use Rattle.tau_rules.specs.declared.answers.Delivered.TheVariants.{Began, Dropped, Fell, Voided, Echoed, Heeded}
use Rattle.tau_rules.specs.declared.answers.Acted.{Acted}
use Rattle.tau_rules.specs.declared.answers.Acted.TheVariants.{Reply, TurnOver, Redo}
use Rattle.tau_rules.specs.Answers.{IsDelivered, IsActed, IsStepped, IsOpenJob}
use Rattle.tau_failures.specs.LegalRun.{LegalRun}
use Rattle.tau_check.proofs.Endings.{last_fits}
use Rattle.tau_check.proofs.FamilyLemmas.{IsRow, of_effect, effect_once}
use Rattle.tau_check.proofs.TurnSteps.{acts_in_turn}
use Rattle.tau_queue.specs.Inner.Index.{receiver_of, IsNodeOf, with_letter, IsNoticeLetter, with_notice, letters_received, busy_received, turns_received, busy_ended, turns_ended, letters_acted, busy_acted, turns_acted}
use Rattle.tau_queue.specs.Flight.{IsWaiting, AreInFlight}
use Rattle.tau_queue.specs.OpenTurns.{AreOpenTurns}
use Rattle.tau_queue.specs.ScriptedRun.{IsIndexed, IsUnchangedAtRedo, messages_of}
use Rattle.tau_queue.proofs.FlightLemmas.{letter_to, letters_stay, letters_without, letters_with, letters_repeated, letters_echoed}
use Rattle.tau_legal.proofs.TurnLemmas.{sender_known}
use Rattle.tau_queue.proofs.OpenLemmas.{AreBusy, TurnsStay, stay_idle, stay_going, begin_take, end_own, open_stay, open_begin, open_end, busy_stay, busy_begin, busy_end}

-- the step at the end of a well-formed run may follow the others
pub may_follow : (T : Run) (s : Step) → WellFormed (appended T s) → MayFollow T s
may_follow T s w =
    let known : IsKnownAt (appended T s) (len T) s = w.known (len T) s (step_at-appended T s) in
    record {
      known = known_same T.opening (born (appended T s) (len T)) (born T (len T)) (sent (appended T s) (len T)) (sent T (len T)) s (sym (born-same (len T) (agree_appended T s))) (sym (sent-same (len T) (agree_appended T s))) known;
      version = w.versions (len T) s (step_at-appended T s);
      few_steps = omega (arith, w.few_steps, len-appended T s);
    }

-- the receiver of a Send
abbrev pub sent_to : Step → Option ℕ
sent_to (Send t u v) = Some u
sent_to s = None

-- the open turn of a job has the effect to which the job comes
job_has : (P : Program) (T : Run) (job : jobs.TurnSoFar) → IsOpenJob P T job → TurnHas P T job.who (len T) (jobs.next_in job)
job_has P T job h = record {
  place = job.place;
  message = h.message;
  body = job.body;
  value = job.message;
  replies = job.replies;
  turn = h.turn;
  body_is = h.body;
  value_is = h.value;
  replies_are = h.replies;
  effect_is = ap (λ n. next job.body (record { nodes = n; own = job.who; message = job.message }) job.replies) (sym h.nodes);
}

-- the step of an effect sends what the effect sends
row_sends : (T : Run) (t k : ℕ) (e : Effect) (s : Step) → IsRow T t k (eff_of e) s → sent_to s ≡ receiver_of e
row_sends T t k effects.Get s h = ap sent_to h
row_sends T t k (effects.Set v) s (inl h) = ap sent_to h.1
row_sends T t k (effects.Set v) s (inr h) = ap sent_to h.0
row_sends T t k (effects.Send u v) s h = ap sent_to h.1
row_sends T t k (effects.New b n v) s (inl h) = ap sent_to h.1
row_sends T t k (effects.New b n v) s (inr h) = ap sent_to h.0
row_sends T t k effects.Stabilize s h = ap sent_to h
row_sends T t k effects.Checkpoint s (inl h) = ap sent_to h.0
row_sends T t k effects.Checkpoint s (inr h) = ap sent_to h.0
row_sends T t k effects.Rollback s (inl h) = ap sent_to h.0
row_sends T t k effects.Rollback s (inr h) = ap sent_to h.0
row_sends T t k effects.Ask s h = ap sent_to h.1
row_sends T t k effects.Done s h = ap sent_to h
row_sends T t k (effects.Trap c) s h = ap sent_to h

-- so does the step that was made of a job's effect
stepped_sends : (old new : Core) (job : jobs.TurnSoFar) (e : Effect) (s : Step) → old.run.opening ≡ program_opening old.program → eff_of e ≡ jobs.next_in job → IsStepped old new job s → sent_to s ≡ receiver_of e
stepped_sends old new job e s opens is h =
    let P : Program = old.program in
    let T : Run = old.run in
    let row = of_effect P T job.who (len T) s (acts_in_turn s job.who h.step.by h.step.of_turn) h.step.fits in
    let same : row.effect ≡ eff_of e = effect_once P T job.who (len T) row.effect (jobs.next_in job) opens row.has (job_has P T job h.was_open) ∙ sym is in
    row_sends T job.who (len T) e s (subst (λ (x : Eff). IsRow T job.who (len T) x s) same row.row)

-- the letters after a step with which a turn goes on
letters_going : (T : Run) (s : Step) (n : ℕ) (ls : List Letter) → WellFormed T → WellFormed (appended T s) → IsTrue (goes_on s) → ((u : ℕ) → sent_to s ≡ Some u → u < born T (len T) → IsHome T u n)
    → AreInFlight T ls → AreInFlight (appended T s) (with_letter (sent T (len T)) n ls (sent_to s))
letters_going T (Get t) n ls v w going at h = letters_stay T (Get t) v ls refl refl h
letters_going T (Set t x) n ls v w going at h = letters_stay T (Set t x) v ls refl refl h
letters_going T (Skip t) n ls v w going at h = letters_stay T (Skip t) v ls refl refl h
letters_going T (Send t u x) n ls v w going at h = let may : MayFollow T (Send t u x) = may_follow T (Send t u x) w in letters_with T t u x v may n (at u refl may.known.1) ls h
letters_going T (New t b home x) n ls v w going at h = letters_stay T (New t b home x) v ls refl refl h
letters_going T (Stabilize t) n ls v w going at h = letters_stay T (Stabilize t) v ls refl refl h
letters_going T (Ask t a) n ls v w going at h = letters_stay T (Ask t a) v ls refl refl h
letters_going T s n ls v w going at h = absurd (cc)

-- a step of a turn that ends it leaves the letters
over_keeps : (s : Step) → IsTrue (is_of_turn s) → IsTrue (ends_turn s) → (removed_by s ≡ None) × (makes_message s ≡ false)
over_keeps (Take t m) h e = absurd (cc)
over_keeps (Drop t m) h e = absurd (cc)
over_keeps (Fall t m) h e = absurd (cc)
over_keeps (Void t m) h e = absurd (cc)
over_keeps (Send t u v) h e = absurd (cc)
over_keeps (Lose m) h e = absurd (cc)
over_keeps (Echo t m) h e = absurd (cc)
over_keeps (Heed t m) h e = absurd (cc)
over_keeps (Repeat m) h e = absurd (cc)
over_keeps s h e = (refl, refl)

module _ (old new : Core) (nodes : ℕ) (ls : List Letter) (busy turns : List ℕ) (kept : IsIndexed old.run nodes ls busy turns) (v : WellFormed old.run) (w : WellFormed new.run) (legal : Legal new.program new.run) where
  after_step : (s : Step) → new ≡ with_step old s → (ks : List Letter) (bs ts : List ℕ) → AreInFlight (appended old.run s) ks → AreBusy (appended old.run s) bs → AreOpenTurns (appended old.run s) ts → IsIndexed new.run nodes ks bs ts
  after_step s is ks bs ts letters are open_are =
      let here : IsIndexed (appended old.run s) nodes ks bs ts = record { nodes_are = kept.nodes_are; letters_are = letters; busy_are = are; turns_are = open_are } in
      subst (λ (k : Core). IsIndexed k.run nodes ks bs ts) (sym is) here

  -- after a Fail
  pub after_fail : (who : ℕ) (turn : Option ℕ) → new ≡ with_step old (Fail who)
      → IsOpenTurn old.run who (len old.run) turn → IsIndexed new.run nodes ls (busy_ended who busy turn) (turns_ended turns turn)
  after_fail who None is idle =
      let stay : TurnsStay old.run (Fail who) = stay_idle old.run (Fail who) (λ t m e. cc) (λ t by. subst (λ x. IsOpenTurn old.run x (len old.run) None) (same_some by) idle) in
      after_step (Fail who) is ls busy turns (letters_stay old.run (Fail who) v ls refl refl kept.letters_are) (busy_stay old.run (Fail who) busy kept.busy_are stay) (open_stay old.run (Fail who) turns kept.turns_are stay)
  after_fail who (Some place) is has =
      let ends = end_own old.run (Fail who) who refl refl in
      after_step (Fail who) is ls (busy_ended who busy (Some place)) (turns_ended turns (Some place)) (letters_stay old.run (Fail who) v ls refl refl kept.letters_are)
      (busy_end old.run (Fail who) busy kept.busy_are who ends) (open_end old.run (Fail who) turns kept.turns_are who place has.0 ends has.1)

  -- after a Lose
  pub after_lose : (m : ℕ) → new ≡ with_step old (Lose m)
      → IsIndexed new.run nodes (filter (is_other m) ls) busy turns
  after_lose m is =
      let stay : TurnsStay old.run (Lose m) = stay_idle old.run (Lose m) (λ t n e. cc) (λ t by. absurd (nobody t by)) in
      after_step (Lose m) is (filter (is_other m) ls) busy turns (letters_without old.run (Lose m) v m ls refl refl kept.letters_are) (busy_stay old.run (Lose m) busy kept.busy_are stay) (open_stay old.run (Lose m) turns kept.turns_are stay) where
        nobody : (t : ℕ) → ¬ (None ≡ Some t)
        nobody t e = cc

  -- after a Repeat, by the letter of its copy, which goes to the receiver of the message
  pub after_repeat : (m : ℕ) (l : Letter) → new ≡ with_step old (Repeat m)
      → l.message ≡ sent old.run (len old.run) → Receives old.run m l.who → IsHome old.run l.who l.node → IsIndexed new.run nodes (ls ++ l ∷ []) busy turns
  after_repeat m l is number receives home =
      let may : MayFollow old.run (Repeat m) = may_follow old.run (Repeat m) (subst (λ (k : Core). WellFormed k.run) is w) in
      let stay : TurnsStay old.run (Repeat m) = stay_idle old.run (Repeat m) (λ t k e. cc) (λ t by. absurd (nobody t by)) in
      let made : AreInFlight (appended old.run (Repeat m)) (ls ++ letter_to old.run l.who l.node ∷ []) = letters_repeated old.run m l.who l.node v may receives home ls kept.letters_are in
      let same : letter_to old.run l.who l.node ≡ l = λ i. record { message = sym number i; who = l.who; node = l.node } in
      let letters : AreInFlight (appended old.run (Repeat m)) (ls ++ l ∷ []) = subst (λ (y : Letter). AreInFlight (appended old.run (Repeat m)) (ls ++ y ∷ [])) same made in
      after_step (Repeat m) is (ls ++ l ∷ []) busy turns letters (busy_stay old.run (Repeat m) busy kept.busy_are stay) (open_stay old.run (Repeat m) turns kept.turns_are stay) where
        nobody : (t : ℕ) → ¬ (None ≡ Some t)
        nobody t e = cc

  own_fits : (s : Step) → new ≡ with_step old s → Fits old.program old.run (len old.run) s
  own_fits s is = last_fits old new s v w (legal_fitting new.program new.run legal) is

  module _ (l : Letter) (waits : IsWaiting old.run l) (idle : IsOpenTurn old.run l.who (len old.run) None) where
    -- a step by the letter's receiver that begins no turn
    receiver_stays : (s : Step) → actor s ≡ Some l.who → ((t n : ℕ) → s ≢ Take t n) → TurnsStay old.run s
    receiver_stays s by begins = stay_idle old.run s begins (λ t e. subst (λ x. IsOpenTurn old.run x (len old.run) None) (same_some (sym by ∙ e)) idle)

    after_other : (s : Step) → new ≡ with_step old s → actor s ≡ Some l.who → ((t n : ℕ) → s ≢ Take t n) → (ks : List Letter) → AreInFlight (appended old.run s) ks → IsIndexed new.run nodes ks busy turns
    after_other s is by begins ks letters =
        let stay = receiver_stays s by begins in
        after_step s is ks busy turns letters (busy_stay old.run s busy kept.busy_are stay) (open_stay old.run s turns kept.turns_are stay)

    after_take : (t : ℕ) → new ≡ with_step old (Take t l.message) → IsIndexed new.run nodes (filter (is_other l.message) ls) (busy ++ l.who ∷ []) (turns ++ len old.run ∷ [])
    after_take t is =
        let s : Step = Take l.who l.message in
        let who : t ≡ l.who = receives_once old.run l.message t l.who (own_fits (Take t l.message) is).0.receiver waits.receiver in
        let here : new ≡ with_step old (Take l.who l.message) = is ∙ ap (λ x. with_step old (Take x l.message)) who in
        let begins = begin_take old.run (Take l.who l.message) l.who l.message refl idle in
        after_step (Take l.who l.message) here (filter (is_other l.message) ls) (busy ++ l.who ∷ []) (turns ++ len old.run ∷ [])
        (letters_without old.run (Take l.who l.message) v l.message ls refl refl kept.letters_are) (busy_begin old.run (Take l.who l.message) busy kept.busy_are l.who l.message begins) (open_begin old.run (Take l.who l.message) turns kept.turns_are l.who l.message begins)

    -- after an Echo, by the letter of its notice
    after_echo : (t : ℕ) (notice : Option Letter) → IsNoticeLetter old.run l.who l.message notice → new ≡ with_step old (Echo t l.message) → IsIndexed new.run nodes (with_notice (filter (is_other l.message) ls) notice) busy turns
    after_echo t None tells is =
        let f = own_fits (Echo t l.message) is in
        let who : t ≡ l.who = receives_once old.run l.message t l.who f.0.receiver waits.receiver in
        absurd (tells (subst (λ u. Ended old.run u (len old.run)) who f.0.ended) f.1.sender f.1.has)
    after_echo t (Some x) tells is =
        let f = own_fits (Echo t l.message) is in
        let who : t ≡ l.who = receives_once old.run l.message t l.who f.0.receiver waits.receiver in
        let may : MayFollow old.run (Echo t l.message) = may_follow old.run (Echo t l.message) (subst (λ (k : Core). WellFormed k.run) is w) in
        let exists = sender_known old.run v l.message x.who (len old.run) f.0.in_flight.exists tells.1 in
        let made : AreInFlight (appended old.run (Echo t l.message)) (filter (is_other l.message) ls ++ letter_to old.run x.who x.node ∷ []) = letters_echoed old.run t l.message x.who x.node v may tells.1 exists tells.2 ls kept.letters_are in
        let same : letter_to old.run x.who x.node ≡ x = λ i. record { message = sym tells.0 i; who = x.who; node = x.node } in
        after_other (Echo t l.message) is (ap Some who) (λ u n e. cc) (filter (is_other l.message) ls ++ x ∷ []) (subst (λ (y : Letter). AreInFlight (appended old.run (Echo t l.message)) (filter (is_other l.message) ls ++ y ∷ [])) same made)

    -- after each receipt
    pub after_receipt : (notice : Option Letter) → IsNoticeLetter old.run l.who l.message notice → (r : Delivered) → IsDelivered old new l.message r → IsIndexed new.run nodes (letters_received l.message notice ls r) (busy_received l.who busy r) (turns_received (len old.run) turns r)
    after_receipt notice tells (Began job) h = after_take job.who h.appended
    after_receipt notice tells Dropped h =
        let who : h.0 ≡ l.who = receives_once old.run l.message h.0 l.who (own_fits (Drop h.0 l.message) h.1).0.receiver waits.receiver in
        after_other (Drop h.0 l.message) h.1 (ap Some who) (λ t n e. cc) (filter (is_other l.message) ls) (letters_without old.run (Drop h.0 l.message) v l.message ls refl refl kept.letters_are)
    after_receipt notice tells Fell h =
        let who : h.0 ≡ l.who = receives_once old.run l.message h.0 l.who (own_fits (Fall h.0 l.message) h.1).0.receiver waits.receiver in
        after_other (Fall h.0 l.message) h.1 (ap Some who) (λ t n e. cc) ls (letters_stay old.run (Fall h.0 l.message) v ls refl refl kept.letters_are)
    after_receipt notice tells Echoed h = after_echo h.0 notice tells h.1
    after_receipt notice tells Heeded h =
        let who : h.0 ≡ l.who = receives_once old.run l.message h.0 l.who (own_fits (Heed h.0 l.message) h.1).0.receiver waits.receiver in
        after_other (Heed h.0 l.message) h.1 (ap Some who) (λ t n e. cc) (filter (is_other l.message) ls) (letters_without old.run (Heed h.0 l.message) v l.message ls refl refl kept.letters_are)
    after_receipt notice tells Voided h =
        let who : h.0 ≡ l.who = receives_once old.run l.message h.0 l.who (own_fits (Void h.0 l.message) h.1).0.receiver waits.receiver in
        after_other (Void h.0 l.message) h.1 (ap Some who) (λ t n e. cc) (filter (is_other l.message) ls) (letters_without old.run (Void h.0 l.message) v l.message ls refl refl kept.letters_are)

  module _ (job : jobs.TurnSoFar) (e : Effect) (is_effect : eff_of e ≡ jobs.next_in job) (n : ℕ) (at : IsNodeOf old.run e n) where
    after_going : (s : Step) → IsStepped old new job s → IsTrue (goes_on s) → IsIndexed new.run nodes (with_letter (sent old.run (len old.run)) n ls (receiver_of e)) busy turns
    after_going s h going =
        let stay = stay_going old.run s job.who h.step.by going in
        let same : sent_to s ≡ receiver_of e = stepped_sends old new job e s (subst (λ (k : Core). Legal k.program k.run) h.appended legal).opening is_effect h in
        let letters : AreInFlight (appended old.run s) (with_letter (sent old.run (len old.run)) n ls (sent_to s)) = letters_going old.run s n ls v (subst (λ (k : Core). WellFormed k.run) h.appended w) going (λ u is lt. at u (sym same ∙ is) lt) kept.letters_are in
        after_step s h.appended (with_letter (sent old.run (len old.run)) n ls (receiver_of e)) busy turns
        (subst (λ (o : Option ℕ). AreInFlight (appended old.run s) (with_letter (sent old.run (len old.run)) n ls o)) same letters)
        (busy_stay old.run s busy kept.busy_are stay) (open_stay old.run s turns kept.turns_are stay)

    after_over : (s : Step) → IsStepped old new job s → IsTrue (ends_turn s) → IsIndexed new.run nodes ls (busy_acted job.who busy TurnOver) (turns_acted job.place turns TurnOver)
    after_over s h ends_here =
        let ends = end_own old.run s job.who h.step.by ends_here in
        let keeps = over_keeps s h.step.of_turn ends_here in
        after_step s h.appended ls (busy_acted job.who busy TurnOver) (turns_acted job.place turns TurnOver) (letters_stay old.run s v ls keeps.0 keeps.1 kept.letters_are)
        (busy_end old.run s busy kept.busy_are job.who ends) (open_end old.run s turns kept.turns_are job.who job.place h.was_open.message ends h.was_open.turn)

    -- after an effect
    pub after_act : (a : Acted) → IsActed old new job a → IsIndexed new.run nodes (letters_acted (sent old.run (len old.run)) n ls e a) (busy_acted job.who busy a) (turns_acted job.place turns a)
    after_act (Reply r) h = after_going h.0 h.1 h.2
    after_act TurnOver h = after_over h.0 h.1 h.2
    after_act (Redo other) h = subst (λ (k : Core). IsIndexed k.run nodes ls busy turns) (sym h.unchanged) kept

-- after Redo nothing is different
pub redo_same : (old new : LegalRun) (ls ks : List Letter) (busy bs turns ts : List ℕ) (m n : ℕ) (job : jobs.TurnSoFar) (e : Effect) (a : Acted) → (new.system ≡ old.system → new ≡ old)
    → IsActed old.system new.system job a → ks ≡ letters_acted m n ls e a → bs ≡ busy_acted job.who busy a → ts ≡ turns_acted job.place turns a
    → IsUnchangedAtRedo (record { system = old.system; cursor = old.cursor; letters = ls; messages = messages_of busy ls; turns = turns }) (record { system = new.system; cursor = new.cursor; letters = ks; messages = messages_of bs ks; turns = ts }) a
redo_same old new ls ks busy bs turns ts m n job e (Reply r) same h same_letters same_busy same_turns = tt
redo_same old new ls ks busy bs turns ts m n job e TurnOver same h same_letters same_busy same_turns = tt
redo_same old new ls ks busy bs turns ts m n job e (Redo other) same h same_letters same_busy same_turns =
    let is : new ≡ old = same h.unchanged in
    λ i. record { system = (is i).system; cursor = (is i).cursor; letters = same_letters i; messages = messages_of (same_busy i) (same_letters i); turns = same_turns i }

-- what is kept by lists that are the same
pub of_lists : (T : Run) (nodes now : ℕ) (ls ks : List Letter) (busy bs turns ts : List ℕ) → now ≡ nodes → ks ≡ ls → bs ≡ busy → ts ≡ turns → IsIndexed T nodes ls busy turns → IsIndexed T now ks bs ts
of_lists T nodes now ls ks busy bs turns ts same_nodes same_letters same_busy same_turns h =
    subst (λ (x : ℕ). IsIndexed T x ks bs ts) (sym same_nodes)
    (subst (λ (x : List Letter). IsIndexed T nodes x bs ts) (sym same_letters) (subst (λ (x : List ℕ). IsIndexed T nodes ls x ts) (sym same_busy) (subst (λ (x : List ℕ). IsIndexed T nodes ls busy x) (sym same_turns) h)))
