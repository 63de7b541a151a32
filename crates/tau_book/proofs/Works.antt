-- That the run of one hand comes about behind the steps of a run, answer by answer.
use Rattle.std.proofs.Common.{◌≡◌, ◌⊎◌, inl, inr, ⊎_elim, ℕ, ◌+◌, ◌%◌, ◌≤◌, Bool, true, false, not, cond, Option, Some, None, List, [], ◌∷◌, ◌++◌, length, drop, refl, sym, ap, ◌∙◌, subst, arith}
use Rattle.std.specs.Prelude.{nat_lt, is_some, slice_get, unwrap_or}
use Rattle.rand_core.specs.Pcg32Seed.{pcg32_seed}
use Rattle.rand_pcg.specs.Lcg.{Lcg}
use Rattle.rand_pcg.specs.Pcg.{pcg32, pcg32_of_seed}
use Rattle.tau_tree.specs.declared.programs.Program.{Program}
use Rattle.tau_trace.specs.declared.step.Step.{Step}
use Rattle.tau_trace.specs.declared.step.Step.TheVariants as steps
use Rattle.tau_trace.specs.Run.{Run, len, appended}
use Rattle.tau_script.specs.Openings.{program_opening}
use Rattle.tau_legal.specs.Fits.{Fits}
use Rattle.tau_legal.specs.Traces.{Complete}
use Rattle.tau_legal.specs.Ends.{EndsAt}
use Rattle.tau_eval.specs.Turn.{TurnSoFar}
use Rattle.tau_rules.specs.System.{Core, with_step}
use Rattle.tau_rules.specs.Answers.{IsStepped, IsDelivered}
use Rattle.tau_rules.specs.declared.answers.Delivered.{Delivered}
use Rattle.tau_rules.specs.declared.answers.Delivered.TheVariants.{Began, Dropped, Fell, Voided, Echoed, Heeded}
use Rattle.tau_check.proofs.Endings.{legal_fits, last_fits}
use Rattle.tau_queue.specs.OpenTurns.{AreOpenTurns}
use Rattle.tau_queue.proofs.Members.{contains_nothing, contains_here}
use Rattle.tau_book.specs.Hands.{Held, IsNumbered}
use Rattle.tau_book.specs.Books.{Booked, IsBook, IsAtLimit, IsComplete}
use Rattle.tau_book.specs.Offers.{Offer, jobs_with, store_without, options, number_drawn, generator_after}
use Rattle.tau_book.specs.Nexts.{IsDueMade, IsHandedOut, IsReceived}
use Rattle.tau_book.specs.Tolds.{IsTurnStep, IsFinished}
use Rattle.tau_book.specs.Onward.{GoesOnFrom}
use Rattle.tau_book.specs.SerialRun.{IsSerialRun, ComesAbout, Choosable, turn, message, AreOptions, IsReceipt, of_turn, of_message}
use Rattle.tau_book.specs.SerialRun as serial
use Rattle.tau_book.specs.Alone.{is_among, own_of, left_of, AreOwnOptions, ComesAfter, begins, due, chooses, IsRunAfter}
use Rattle.tau_book.specs.Laws.{ComesAfterNone}
use Rattle.tau_book.specs.Working.{AreJobs, HasAllJobs, IsAtWork}
use Rattle.tau_book.specs.Inner.Working.{HasHandedOut, HasChosen}
use Rattle.tau_book.proofs.Counts.{AreAscending, filter_same}
use Rattle.tau_book.proofs.Chosen.{options_of, turn_chosen, message_chosen}
use Rattle.tau_book.proofs.Together.{tidied}
use Rattle.tau_book.proofs.Own.{places, as_many, numbered, waits_on, left_ascending}
use Rattle.tau_book.proofs.AllJobs.{turn_made, turn_store}

-- the turns that wait stand in order
pub waits_ascending : (P : Program) (jobs seed : ℕ) (start T : Run) (waiting : List ℕ) (g : Lcg) → ComesAfter P jobs seed start T waiting g → AreAscending waiting
waits_ascending P jobs seed start T waiting g (begins are) = are.ascending
waits_ascending P jobs seed start T waiting g (due {T = U} {g = h} a d) = waits_ascending P jobs seed start U waiting h a
waits_ascending P jobs seed start T waiting g (chooses {T = U} {waiting = before} {g = h} a n o k f) =
    subst AreAscending (sym o.left_is) (left_ascending o.turns jobs before (waits_ascending P jobs seed start U before h a))

-- what is delivered is a receipt
receipt_of : (old new : Core) (m : ℕ) (a : Delivered) → IsDelivered old new m a → (s : Step) × (t : ℕ) × IsReceipt t m s × (new ≡ with_step old s)
receipt_of old new m (Began job) d = (steps.Take job.who m, job.who, serial.take, d.appended)
receipt_of old new m Dropped d = (steps.Drop d.0 m, d.0, serial.drop, d.1)
receipt_of old new m Fell d = (steps.Fall d.0 m, d.0, serial.fall, d.1)
receipt_of old new m Voided d = (steps.Void d.0 m, d.0, serial.void, d.1)
receipt_of old new m Echoed d = (steps.Echo d.0 m, d.0, serial.echo, d.1)
receipt_of old new m Heeded d = (steps.Heed d.0 m, d.0, serial.heed, d.1)

module _ (seed : ℕ) (start : Run) (old new : Booked) (h k : Held) (was : IsBook old) (is : IsBook new) (all : HasAllJobs old h) (w : IsAtWork seed start old h) where
  abbrev T : Run
  T = old.system.run

  abbrev P : Program
  P = old.system.program

  -- a hand at work after a step
  works_then : (s : Step) (g : Lcg) (store : List TurnSoFar) → new.system ≡ with_step old.system s → new.store ≡ store → k.size ≡ h.size → k.generator ≡ g
      → ComesAfter P h.size seed start (appended T s) (places store) g → IsAtWork seed start new k
  works_then s g store system_is store_is size_is generator_is comes =
      subst (λ (c : Core). ComesAfter c.program k.size seed start c.run (places new.store) k.generator) (sym system_is)
      (subst (λ (js : List TurnSoFar). ComesAfter P k.size seed start (appended T s) (places js) k.generator) (sym store_is)
      (subst (λ n. ComesAfter P n seed start (appended T s) (places store) k.generator) (sym size_is)
      (subst (λ x. ComesAfter P h.size seed start (appended T s) (places store) x) (sym generator_is) comes)))

  -- after a due step
  pub works_due : IsDueMade old new h k → IsAtWork seed start new k
  works_due d =
      works_then d.step h.generator old.store d.appended.system_is d.appended.store_is (ap (λ (x : Held). x.size) d.hand_is) (ap (λ (x : Held). x.generator) d.hand_is)
      (due w d.due)

  module _ (offer : Offer old h) where
    abbrev ks : List TurnSoFar
    ks = jobs_with offer.turns h old.store

    abbrev left : List TurnSoFar
    left = store_without offer.turns h old.store

    abbrev own : List ℕ
    own = own_of offer.turns (places left)

    as_many_own : length ks ≡ length own
    as_many_own = as_many P T offer.turns offer.turns_are ks left (tidied P T offer.turns offer.turns_are h old.store all.jobs_are)

    -- what was chosen is an option
    chosen_turn : (job : TurnSoFar) (others : List TurnSoFar) → IsNumbered ks (number_drawn h.generator (options h.size ks offer.messages)) job others
        → slice_get (options_of own offer.messages h.size) ((pcg32 h.generator).0 % length (options_of own offer.messages h.size)) ≡ Some (turn job.place)
    chosen_turn job others n =
        let number = number_drawn h.generator (options h.size ks offer.messages) in
        turn_chosen own offer.messages h.size ks as_many_own (pcg32 h.generator).0 number job.place refl
        (numbered P T offer.turns offer.turns_are ks left (tidied P T offer.turns offer.turns_are h old.store all.jobs_are) number job others n)

    chosen_message : (place m : ℕ) → number_drawn h.generator (options h.size ks offer.messages) ≡ length ks + place → slice_get offer.messages place ≡ Some m
        → slice_get (options_of own offer.messages h.size) ((pcg32 h.generator).0 % length (options_of own offer.messages h.size)) ≡ Some (message m)
    chosen_message place m is got = message_chosen own offer.messages h.size ks as_many_own (pcg32 h.generator).0 place m all.some is got

    options_are : AreOwnOptions T h.size (places old.store) (places left) (options_of own offer.messages h.size)
    options_are = record {
      turns = offer.turns;
      turns_are = offer.turns_are;
      messages = offer.messages;
      messages_are = offer.messages_are;
      left_is = waits_on P T offer.turns offer.turns_are h old.store all.jobs_are (waits_ascending P h.size seed start T (places old.store) h.generator w);
      options_are = refl;
    }

  -- the job that was handed out is that of the turn that the word chose
  pub works_handed_out : (job : TurnSoFar) → IsHandedOut old new h k job → HasChosen seed start new k job
  works_handed_out job d =
      subst (λ (b : Booked). HasChosen seed start b k job) (sym d.book_is) (subst (λ (x : Held). HasChosen seed start (record old { store = left d.offer }) x job) (sym d.hand_is) (record {
        waiting = places old.store;
        before = h.generator;
        comes_after = w;
        after = refl;
        options = options_of (own d.offer) d.offer.messages h.size;
        options_are = options_are d.offer;
        chosen = chosen_turn d.offer job d.others d.chosen;
      }))

  -- after a receipt
  pub works_received : IsReceived old new h k → IsAtWork seed start new k
  works_received r =
      let a = receipt_of old.system new.system r.message r.answer r.delivered in
      let s = a.0 in
      let fits : Fits P T (len T) s = last_fits old.system new.system s was.well_formed is.well_formed (legal_fits new.system.program new.system.run is.legal) a.3 in
      works_then s (generator_after h.generator) (left r.offer) a.3 r.store_is (ap (λ (x : Held). x.size) r.hand_is) (ap (λ (x : Held). x.generator) r.hand_is)
      (chooses w r.goes_on.none_due (options_are r.offer) (chosen_message r.offer r.place r.message r.chosen r.message_is) (of_message a.2 fits))

-- after the step of the job that was handed out
pub works_made : (seed : ℕ) (start : Run) (old new : Booked) (h k : Held) (job : TurnSoFar) → HasHandedOut old h job → HasChosen seed start old h job → IsTurnStep old new h k job → IsAtWork seed start new k
works_made seed start old new h k job out x made =
    let T : Run = old.system.run in
    let a = turn_made old new h k job made in
    let s : Step = a.0 in
    let stepped : IsStepped old.system new.system job s = a.1 in
    let same = turn_store old new h k job made in
    let comes : ComesAfter old.system.program h.size seed start (appended T s) (places old.store) (pcg32 x.before).1 =
    chooses x.comes_after out.goes_on.none_due x.options_are x.chosen (of_turn out.is_open.turn stepped.step) in
    subst (λ (c : Core). ComesAfter c.program k.size seed start c.run (places new.store) k.generator) (sym stepped.appended)
    (subst (λ (js : List TurnSoFar). ComesAfter old.system.program k.size seed start (appended T s) (places js) k.generator) (sym same.0)
    (subst (λ n. ComesAfter old.system.program n seed start (appended T s) (places old.store) k.generator) (sym same.2)
    (subst (λ g. ComesAfter old.system.program h.size seed start (appended T s) (places old.store) g) (sym (same.1 ∙ x.after)) comes)))

-- a hand at the beginning, where no turn is open
pub no_turns : (T : Run) → T.steps ≡ [] → AreOpenTurns T []
no_turns T none = record {
  ascending = λ i j d l k. absurd (omega (arith, k));
  each = λ place. (λ c. absurd (contains_nothing place c), λ f. absurd (omega (arith, f.turn.before, ap length none)));
}

pub begins_work : (seed : ℕ) (b : Booked) (h : Held) → b.system.run.steps ≡ [] → b.store ≡ [] → h.generator ≡ pcg32_of_seed (pcg32_seed 16 seed) → IsAtWork seed b.system.run b h
begins_work seed b h none store generator =
    subst (λ (js : List TurnSoFar). ComesAfter b.system.program h.size seed b.system.run b.system.run (places js) h.generator) (sym store)
    (subst (λ g. ComesAfter b.system.program h.size seed b.system.run b.system.run [] g) (sym generator) (begins (no_turns b.system.run none)))

pub no_jobs : (b : Booked) (h : Held) → b.system.run.steps ≡ [] → b.store ≡ [] → 1 ≤ h.size → h.jobs ≡ [] → HasAllJobs b h
no_jobs b h none store some empty = record {
  some = some;
  jobs_are = subst (λ (js : List TurnSoFar). AreJobs b.system.program b.system.run js) (sym nothing) (record {
    one_each = λ i j d l k. absurd (omega (arith, k));
    records = λ job c f. absurd (contains_nothing job c);
    each = λ place f. absurd (omega (arith, f.turn.before, ap length none));
  });
} where
  nothing : h.jobs ++ b.store ≡ []
  nothing = (λ i. empty i ++ store i)

-- how a run has ended, by what the book says
pub finished_complete : (b : Booked) (o : Option Bool) → IsFinished b o → unwrap_or o false ≡ true → IsComplete b
finished_complete b (Some true) f e = f
finished_complete b (Some false) f e = absurd (cc)
finished_complete b None f e = absurd (cc)

pub finished_stopped : (b : Booked) (o : Option Bool) → IsFinished b o → IsComplete b ⊎ IsAtLimit b → unwrap_or o false ≡ false → (¬ IsComplete b) × IsAtLimit b
finished_stopped b (Some true) f over e = absurd (cc)
finished_stopped b (Some false) f over e = f
finished_stopped b None f over e = (f.0, ⊎_elim (λ x. absurd (f.0 x)) (λ x. x) over)

pub has_ended : (b : Booked) (o : Option Bool) → IsFinished b o → is_some o ≡ true → IsComplete b ⊎ IsAtLimit b
has_ended b (Some true) f e = inl f
has_ended b (Some false) f e = inr f.1
has_ended b None f e = absurd (cc)

-- the run that was made is the one after that at the beginning
pub is_run_after : (P : Program) (size seed limit : ℕ) (start : Run) (b : Booked) (h : Held) → b.system.program ≡ P → b.limit ≡ limit → h.size ≡ size → IsAtWork seed start b h → len b.system.run ≤ b.limit → IsComplete b ⊎ IsAtLimit b
    → IsRunAfter P size seed limit start b.system.run
is_run_after P size seed limit start b h program limit_is size_is w within over = record {
  waiting = places b.store;
  generator = h.generator;
  comes_after = subst (λ n. ComesAfter P n seed start b.system.run (places b.store) h.generator) size_is (subst (λ p. ComesAfter p h.size seed start b.system.run (places b.store) h.generator) program w);
  within = omega (arith, within, limit_is);
  ends = ⊎_elim (λ c. inl (subst (λ p. Complete p b.system.run) program c)) (λ (e : len b.system.run ≡ b.limit). inr (e ∙ limit_is)) over;
}

-- how a run that was gone on with has ended
module _ (old new : Booked) (goes : GoesOnFrom old new) (is : IsBook new) (over : IsComplete new ⊎ IsAtLimit new) where
  -- by what the book says
  pub ends_then : (o : Option Bool) (b : Bool) → IsFinished new o → b ≡ unwrap_or o false → (T : Run) → T ≡ new.system.run → EndsAt old.limit old.system.program T b
  ends_then o b told same T run =
      subst (λ n. EndsAt n old.system.program T b) goes.limit
      (subst (λ p. EndsAt new.limit p T b) goes.program
      (subst (λ U. EndsAt new.limit new.system.program U b) (sym run) (record {
        well_formed = is.well_formed;
        legal = is.legal;
        complete = λ e. (finished_complete new o told (sym same ∙ e), is.limited);
        stopped = λ e. finished_stopped new o told over (sym same ∙ e);
      })))

  -- by a hand that is at work
  pub after_then : (seed : ℕ) (start : Run) (size : ℕ) (k : Held) → k.size ≡ size → IsAtWork seed start new k → IsRunAfter old.system.program size seed old.limit start new.system.run
  after_then seed start size k same w = is_run_after old.system.program size seed old.limit start new k goes.program goes.limit same w is.limited over

-- of the same program, jobs, limit and start
pub same_after : (Q P : Program) (size jobs seed most limit : ℕ) (S start T : Run) → Q ≡ P → size ≡ jobs → most ≡ limit → S ≡ start → IsRunAfter Q size seed most S T → IsRunAfter P jobs seed limit start T
same_after Q P size jobs seed most limit S start T program room same first after =
    subst (λ X. IsRunAfter X jobs seed limit start T) program (subst (λ n. IsRunAfter Q n seed limit start T) room (subst (λ n. IsRunAfter Q size seed n start T) same (subst (λ X. IsRunAfter Q size seed most X T) first after)))

-- behind a run without steps no turn waits, and the options are those of the serial run
none_dropped : (b : Bool) (ns : List ℕ) → ns ≡ [] → cond b (drop 1 ns) ns ≡ []
none_dropped true ns e = ap (λ (ms : List ℕ). drop 1 ms) e
none_dropped false ns e = e

pub none_waits : (turns : List ℕ) (jobs : ℕ) → left_of turns jobs [] ≡ []
none_waits turns jobs = none_dropped (nat_lt (length (own_of turns [])) jobs) [] refl

pub all_own : (turns : List ℕ) → own_of turns [] ≡ turns
all_own turns = filter_same (λ q. not (is_among [] q)) turns (λ q c. refl)

module _ (P : Program) (jobs seed : ℕ) where
  abbrev no_steps : Run
  no_steps = record { opening = program_opening P; steps = [] }

  open_of_none : (turns : List ℕ) → AreOpenTurns no_steps turns → turns ≡ []
  open_of_none [] are = refl
  open_of_none (place ∷ turns) are = absurd (omega (arith, ((are.each place).0 (contains_here place turns)).turn.before))

  options_so : (T : Run) (waiting left : List ℕ) (os : List Choosable) → waiting ≡ [] → AreOwnOptions T jobs waiting left os → AreOptions T jobs os × (left ≡ [])
  options_so T waiting left os nothing o =
      let left_none : left ≡ [] = o.left_is ∙ ap (left_of o.turns jobs) nothing ∙ none_waits o.turns jobs in
      let own : own_of o.turns left ≡ o.turns = ap (own_of o.turns) left_none ∙ all_own o.turns in
      (record { turns = o.turns; turns_are = o.turns_are; messages = o.messages; messages_are = o.messages_are; options_are = o.options_are ∙ (λ i. options_of (own i) o.messages jobs) }, left_none)

  as_serial : (T : Run) (waiting : List ℕ) (g : Lcg) → ComesAfter P jobs seed no_steps T waiting g → ComesAbout P jobs seed T g × (waiting ≡ [])
  as_serial T waiting g (begins {turns = turns} are) = (serial.begins, open_of_none turns are)
  as_serial T waiting g (due {T = U} {g = h} a d) = let r = as_serial U waiting h a in (serial.due r.0 d, r.1)
  as_serial T waiting g (chooses {T = U} {waiting = before} {g = h} {options = os} a n o k f) =
      let r = as_serial U before h a in
      let same = options_so U before waiting os r.1 o in
      (serial.chooses r.0 n same.0 k f, same.1)

pub comes_after_none : ComesAfterNone
comes_after_none P jobs seed T waiting g a = (as_serial P jobs seed T waiting g a).0

-- so the run after it is the serial one
pub is_serial : (P : Program) (jobs seed limit : ℕ) (T : Run) → IsRunAfter P jobs seed limit (record { opening = program_opening P; steps = [] }) T → IsSerialRun P jobs seed limit T
is_serial P jobs seed limit T a = record { generator = a.generator; comes_about = comes_after_none P jobs seed T a.waiting a.generator a.comes_after; within = a.within; ends = a.ends }
