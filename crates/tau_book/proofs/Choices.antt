-- What a choice is.
use Rattle.std.proofs.Common.{◌≡◌, ◌↔◌, ℕ, suc, ◌+◌, ◌<◌, ◌≤◌, nat_lt, IsTrue, Some, List, [], ◌∷◌, length, refl, ap, ◌∙◌, subst, arith}
use Rattle.std.proofs.lemmas.Bool.{lt-ltb, ltb-true}
use Rattle.std.specs.Prelude.{slice_get}
use Rattle.std.specs.List.{Contains}
use Rattle.rand_pcg.specs.Lcg.{Lcg}
use Rattle.tau_tree.specs.declared.programs.Program.{Program}
use Rattle.tau_trace.specs.declared.step.Step.TheVariants as steps
use Rattle.tau_trace.specs.Run.{Run, len}
use Rattle.tau_trace.proofs.Indexing.{len-appended}
use Rattle.tau_script.specs.Scripts.{NoneDue}
use Rattle.tau_legal.specs.Traces.{Complete, Fitting}
use Rattle.tau_eval.specs.Turn.{TurnSoFar}
use Rattle.tau_rules.specs.System.{Core}
use Rattle.tau_rules.specs.Answers.{IsDelivered}
use Rattle.tau_rules.specs.declared.answers.Delivered.{Delivered}
use Rattle.tau_rules.specs.declared.answers.Delivered.TheVariants.{Began, Dropped, Fell, Voided, Echoed, Heeded}
use Rattle.tau_queue.specs.OpenTurns.{AreOpenTurns}
use Rattle.tau_queue.specs.Flight.{IsDeliverable, AreDeliverable}
use Rattle.tau_queue.specs.ScriptedRun.{ScriptedRun}
use Rattle.tau_queue.proofs.Members.{contains_nothing, contains_here}
use Rattle.tau_legal.proofs.ReceiverLemmas.{receivers_of_fitting}
use Rattle.tau_queue.proofs.Homes.{at_place}
use Rattle.tau_book.specs.Hands.{Held, IsNumbered}
use Rattle.tau_book.specs.Books.{booked, GoesOn}
use Rattle.tau_book.specs.Offers.{Offer, jobs_with, store_without, options, number_drawn, generator_after}
use Rattle.tau_book.specs.Nexts.{IsIdle, IsHandedOut, IsReceived, begun_with}

-- a message is deliverable where some are listed
pub some_deliverable : (T : Run) (messages : List ℕ) → AreDeliverable T messages → IsTrue (nat_lt 0 (length messages)) ↔ ((m : ℕ) × IsDeliverable T m)
some_deliverable T [] are = (λ t. absurd (omega (arith, ltb-true 0 0 t)), λ d. absurd (contains_nothing d.0 ((are.each d.0).1 d.1)))
some_deliverable T (m ∷ ms) are = (λ t. (m, (are.each m).0 (contains_here m ms)), λ d. lt-ltb 0 (suc (length ms)) (omega arith))

-- where nothing is deliverable and the run isn't complete, a turn is open
pub some_open : (P : Program) (T : Run) (turns messages : List ℕ) → Fitting P T → AreOpenTurns T turns → AreDeliverable T messages → messages ≡ [] → NoneDue P.script T (len T) → ¬ Complete P T → 1 ≤ length turns
some_open P T (place ∷ turns) messages fitting are deliverable none none_due incomplete = omega arith
some_open P T [] messages fitting are deliverable none none_due incomplete = absurd (incomplete (record {
  none_due = none_due;
  no_turn = λ t place m u. contains_nothing place ((are.each place).1 (record { who = t; message = m; turn = u }));
  none_in_flight = λ m f.
      let r = receivers_of_fitting P T m fitting f.exists in
      contains_nothing m (subst (λ (ms : List ℕ). Contains ms m) none ((deliverable.each m).1 (record {
        receiver = r.0;
        receives = r.1;
        in_flight = f;
        idle = λ place n u. contains_nothing place ((are.each place).1 (record { who = r.0; message = n; turn = u }));
      })));
}))

-- a message delivered is one step
pub delivered_one : (old new : Core) (m : ℕ) (d : Delivered) → IsDelivered old new m d → len new.run ≡ suc (len old.run)
delivered_one old new m (Began job) h = ap (λ (c : Core). len c.run) h.appended ∙ len-appended old.run (steps.Take job.who m)
delivered_one old new m Dropped h = ap (λ (c : Core). len c.run) h.1 ∙ len-appended old.run (steps.Drop h.0 m)
delivered_one old new m Fell h = ap (λ (c : Core). len c.run) h.1 ∙ len-appended old.run (steps.Fall h.0 m)
delivered_one old new m Voided h = ap (λ (c : Core). len c.run) h.1 ∙ len-appended old.run (steps.Void h.0 m)
delivered_one old new m Echoed h = ap (λ (c : Core). len c.run) h.1 ∙ len-appended old.run (steps.Echo h.0 m)
delivered_one old new m Heeded h = ap (λ (c : Core). len c.run) h.1 ∙ len-appended old.run (steps.Heed h.0 m)

-- the same list of no length
pub none_of : {X : Type 0} (xs : List X) → length xs ≡ 0 → xs ≡ []
none_of [] e = refl
none_of (x ∷ xs) e = absurd (omega (arith, e))

module _ (s : ScriptedRun) (limit : ℕ) (store : List TurnSoFar) (h : Held) (turns_are : AreOpenTurns s.system.run s.turns) (messages_are : AreDeliverable s.system.run s.messages)
    (none_due : NoneDue s.system.program.script s.system.run (len s.system.run)) (below : len s.system.run < limit) where
  abbrev going : GoesOn (booked s limit store)
  going = record { below = below; none_due = none_due }

  abbrev offered : Offer (booked s limit store) h
  offered = record { turns = s.turns; turns_are = turns_are; messages = s.messages; messages_are = messages_are }

  pub is_idle : (kept : List TurnSoFar) (k : Held) (out : ℕ) → Fitting s.system.program s.system.run → ¬ Complete s.system.program s.system.run → jobs_with s.turns h store ≡ [] → s.messages ≡ [] → out ≡ length s.turns
      → kept ≡ store_without s.turns h store → k ≡ record h { jobs = jobs_with s.turns h store } → IsIdle (booked s limit store) (booked s limit kept) h k out
  is_idle kept k out fitting incomplete no_job no_message out_is kept_is hand_is =
      let some : 1 ≤ length s.turns = some_open s.system.program s.system.run s.turns s.messages fitting turns_are messages_are no_message none_due incomplete in
      record {
        goes_on = going;
        offer = offered;
        no_job = no_job;
        no_message = no_message;
        out_is = out_is;
        some_out = omega (arith, some, out_is);
        book_is = ap (booked s limit) kept_is;
        hand_is = hand_is ∙ ap (λ (jobs : List TurnSoFar). record h { jobs = jobs }) no_job;
      }

  pub is_handed_out : (kept : List TurnSoFar) (mid k : Held) (job : TurnSoFar) (number : ℕ) (generator : Lcg) → number ≡ number_drawn h.generator (options h.size (jobs_with s.turns h store) s.messages)
      → generator ≡ generator_after h.generator → kept ≡ store_without s.turns h store → mid ≡ record h { jobs = jobs_with s.turns h store }
      → IsNumbered mid.jobs number job k.jobs → k.generator ≡ generator → k.size ≡ mid.size → IsHandedOut (booked s limit store) (booked s limit kept) h k job
  is_handed_out kept mid k job number generator drawn after kept_is mid_is numbered generator_is size_is =
      let with_jobs = subst (λ (m : Held). IsNumbered m.jobs number job k.jobs) mid_is numbered in
      let size : k.size ≡ h.size = size_is ∙ ap (λ (m : Held). m.size) mid_is in
      record {
        goes_on = going;
        offer = offered;
        others = k.jobs;
        chosen = subst (λ n. IsNumbered (jobs_with s.turns h store) n job k.jobs) drawn with_jobs;
        book_is = ap (booked s limit) kept_is;
        hand_is = λ i. record { generator = (generator_is ∙ after) i; size = size i; jobs = k.jobs };
      }

  pub is_received : (t : ScriptedRun) (turns : List ℕ) (stored kept : List TurnSoFar) (mid k : Held) (number : ℕ) (generator : Lcg) (d : Delivered) → turns ≡ s.turns → stored ≡ store
      → number < length s.messages → number_drawn h.generator (options h.size (jobs_with s.turns h store) s.messages) ≡ length (jobs_with s.turns h store) + number
      → generator ≡ generator_after h.generator → ((m : ℕ) → slice_get s.messages number ≡ Some m → IsDelivered s.system t.system m d)
      → kept ≡ store_without turns h stored → mid ≡ record h { jobs = jobs_with turns h stored }
      → k ≡ record { generator = generator; size = mid.size; jobs = begun_with mid.jobs d } → IsReceived (booked s limit store) (booked t limit kept) h k
  is_received t turns stored kept mid k number generator d turns_same stored_same within drawn after delivered kept_is mid_is hand_is =
      let m = at_place s.messages number within in
      let jobs_same : jobs_with turns h stored ≡ jobs_with s.turns h store = λ i. jobs_with (turns_same i) h (stored_same i) in
      let mid_same : mid ≡ record h { jobs = jobs_with s.turns h store } = mid_is ∙ ap (λ (jobs : List TurnSoFar). record h { jobs = jobs }) jobs_same in
      record {
        goes_on = going;
        offer = offered;
        place = number;
        message = m.0;
        chosen = drawn;
        message_is = m.1;
        answer = d;
        delivered = delivered m.0 m.1;
        limit_is = refl;
        store_is = kept_is ∙ λ i. store_without (turns_same i) h (stored_same i);
        hand_is = hand_is ∙ λ i. record { generator = after i; size = (mid_same i).size; jobs = begun_with (mid_same i).jobs d };
      }
