-- Whether a receipt is legal, by what the system answers to its message.
use Rattle.std.proofs.Common.{◌≡◌, ℕ, Option, Some, None, List, refl, sym, ap, ◌∙◌, subst}
use Rattle.tau_tree.specs.declared.programs.Program.{Program}
use Rattle.tau_trace.specs.declared.step.Step.{Step}
use Rattle.tau_trace.specs.declared.step.Step.TheVariants.{Take, Drop, Fall, Void, Echo, Heed}
use Rattle.tau_trace.specs.Steps.{actor, received_by}
use Rattle.tau_trace.specs.Run.{Run, len, appended, step_at}
use Rattle.tau_trace.specs.Known.{WellFormed}
use Rattle.tau_trace.specs.Numbering.{Receives, Removes, InFlight}
use Rattle.tau_trace.specs.Places.{IsFirst}
use Rattle.tau_trace.specs.Turns.{Turn, IsOpenTurn}
use Rattle.tau_trace.proofs.Lists.{same_some}
use Rattle.tau_trace.proofs.Once.{receives_once}
use Rattle.tau_legal.specs.Fits.{Fits}
use Rattle.tau_legal.specs.Traces.{Fitting, Legal, IsLegal}
use Rattle.tau_eval.specs.Turn as jobs
use Rattle.tau_rules.specs.System.{Core, with_step}
use Rattle.tau_rules.specs.declared.answers.Delivered.{Delivered}
use Rattle.tau_rules.specs.declared.answers.Delivered.TheVariants.{Began, Dropped, Fell, Voided, Echoed, Heeded}
use Rattle.tau_rules.specs.Answers.{IsOpenJob, IsDelivered}
use Rattle.tau_rules.proofs.IdleLemmas.{ended_idle}
use Rattle.tau_check.specs.Inner.Jobs.{HasJobs, IsKeptBegun}
use Rattle.tau_check.specs.Inner.Checkers.{HasAsked, GoesOn}
use Rattle.tau_check.proofs.Turns.{BeginsNone}
use Rattle.tau_check.proofs.Kept.{all_jobs, others_after, jobs_after_idle}
use Rattle.tau_check.proofs.FamilyLemmas.{one_receipt}
use Rattle.tau_failures.proofs.Steps.{received}
use Rattle.tau_check.proofs.Endings.{legal_fits, goes_on, last_step, last_fits}

-- the step is by the receiver of message m, which is in flight, and no turn of it is open
pub record IsByIdle (T : Run) (k m : ℕ) (s : Step) : Type 0 where
  pub who : ℕ
  pub by : actor s ≡ Some who
  pub receiver : Receives T m who
  pub in_flight : InFlight T m k
  pub idle : IsOpenTurn T who k None

-- so it is of each receipt that fits
pub by_idle : (P : Program) (T : Run) (k m : ℕ) (s : Step) → Fitting P T → received_by s ≡ Some m → Fits P T k s → IsByIdle T k m s
by_idle P T k m (Take t n) fitting e f = record { who = t; by = refl; receiver = subst (λ x. Receives T x t) (same_some e) f.0.receiver; in_flight = subst (λ x. InFlight T x k) (same_some e) f.0.in_flight; idle = f.0.idle }
by_idle P T k m (Drop t n) fitting e f = record { who = t; by = refl; receiver = subst (λ x. Receives T x t) (same_some e) f.0.receiver; in_flight = subst (λ x. InFlight T x k) (same_some e) f.0.in_flight; idle = f.0.idle }
by_idle P T k m (Fall t n) fitting e f = record { who = t; by = refl; receiver = subst (λ x. Receives T x t) (same_some e) f.0.receiver; in_flight = subst (λ x. InFlight T x k) (same_some e) f.0.in_flight; idle = f.0.idle }
by_idle P T k m (Void t n) fitting e f = record { who = t; by = refl; receiver = subst (λ x. Receives T x t) (same_some e) f.0.receiver; in_flight = subst (λ x. InFlight T x k) (same_some e) f.0.in_flight; idle = ended_idle P T t k fitting f.0.ended }
by_idle P T k m (Echo t n) fitting e f = record { who = t; by = refl; receiver = subst (λ x. Receives T x t) (same_some e) f.0.receiver; in_flight = subst (λ x. InFlight T x k) (same_some e) f.0.in_flight; idle = ended_idle P T t k fitting f.0.ended }
by_idle P T k m (Heed t n) fitting e f = record { who = t; by = refl; receiver = subst (λ x. Receives T x t) (same_some e) f.0.receiver; in_flight = subst (λ x. InFlight T x k) (same_some e) f.0.in_flight; idle = f.0.idle }
by_idle P T k m s fitting e f = absurd (cc)

module _ (P : Program) (T : Run) (m : ℕ) (s : Step) (asked : HasAsked P T None) (receipt : received_by s ≡ Some m) where
  idle_receiver : IsLegal P T (len T) s → IsByIdle T (len T) m s
  idle_receiver l = by_idle P T (len T) m s (legal_fits P T asked.legal) receipt l.fits

  -- no receipt of a message that was taken is legal
  pub taken_illegal : (place : ℕ) → IsFirst (Removes T m) (len T) (Some place) → ¬ IsLegal P T (len T) s
  taken_illegal place first l = (idle_receiver l).in_flight.not_removed place first.0 first.1

  -- nor one by a receiver in a turn
  pub busy_illegal : (t turn : ℕ) → Receives T m t → IsOpenTurn T t (len T) (Some turn) → ¬ IsLegal P T (len T) s
  busy_illegal t turn receives open_turn l =
      let r = idle_receiver l in
      let same : t ≡ r.who = receives_once T m t r.who receives r.receiver in
      r.idle turn open_turn.0 (subst (λ x. Turn T x (len T) turn open_turn.0) same open_turn.1)

-- what was appended is one step
same_appended : (old new : Core) (r s : Step) → new ≡ with_step old r → new ≡ with_step old s → r ≡ s
same_appended old new r s e f = same_some (sym (last_step old new r e) ∙ last_step old new s f)

module _ (old new : Core) (m : ℕ) (s : Step) (d : Delivered) (asked : HasAsked old.program old.run None)
    (receipt : received_by s ≡ Some m) (delivered : IsDelivered old new m d) where
  -- where another step than the one that was appended stands there, it isn't legal
  pub receipt_illegal : WellFormed new.run → Legal new.program new.run → ¬ (step_at new.run (len old.run) ≡ Some s) → ¬ IsLegal old.program old.run (len old.run) s
  receipt_illegal w f other l =
      let r = received old new m d delivered in
      let fits : Fits old.program old.run (len old.run) r.step = last_fits old new r.step asked.well_formed w (legal_fits new.program new.run f) r.appended in
      let same : r.step ≡ s = one_receipt old.program old.run (len old.run) m r.step s r.receipt receipt fits l.fits in
      other (last_step old new r.step r.appended ∙ ap Some same)

  -- the step that stands there is the one that was appended
  is_appended : step_at new.run (len old.run) ≡ Some s → new ≡ with_step old s
  is_appended here =
      let r = received old new m d delivered in
      r.appended ∙ ap (with_step old) (same_some (sym (last_step old new r.step r.appended) ∙ here))

module _ (old new : Core) (m : ℕ) (s : Step) (js ks : List (Option jobs.TurnSoFar)) (v : WellFormed old.run) (w : WellFormed (appended old.run s)) (is : new ≡ with_step old s)
    (idle : IsByIdle old.run (len old.run) m s) (has : HasJobs old.program old.run js) where
  -- the jobs after a receipt that opens no turn
  jobs_kept : (r : Step) → BeginsNone r → s ≡ r → ks ≡ js → HasJobs old.program (appended old.run s) ks
  jobs_kept r begins same kept = subst (HasJobs old.program (appended old.run s)) (sym kept)
      (jobs_after_idle old.program old.run s v w idle.who js idle.by (λ t k e. begins t k (sym same ∙ e)) idle.idle has)

  -- and after each receipt
  pub jobs_received : (d : Delivered) → IsDelivered old new m d → IsKeptBegun js ks d → HasJobs old.program (appended old.run s) ks
  jobs_received (Began job) h kept =
      let same : s ≡ Take job.who m = same_appended old new s (Take job.who m) is h.appended in
      let opened : IsOpenJob old.program (appended old.run s) job = subst (λ (k : Core). IsOpenJob k.program k.run job) is h.opened in
      all_jobs old.program (appended old.run s) job.who ks
      (others_after old.program old.run s v w job.who js ks (ap actor same) (λ t place n ne u. has t place n u) kept.others)
      (λ place n u. record { job = job; kept = kept.kept; who = refl; is_open = opened })
  jobs_received Dropped h kept = jobs_kept (Drop h.0 m) (λ t k e. cc) (same_appended old new s (Drop h.0 m) is h.1) kept
  jobs_received Fell h kept = jobs_kept (Fall h.0 m) (λ t k e. cc) (same_appended old new s (Fall h.0 m) is h.1) kept
  jobs_received Voided h kept = jobs_kept (Void h.0 m) (λ t k e. cc) (same_appended old new s (Void h.0 m) is h.1) kept
  jobs_received Echoed h kept = jobs_kept (Echo h.0 m) (λ t k e. cc) (same_appended old new s (Echo h.0 m) is h.1) kept
  jobs_received Heeded h kept = jobs_kept (Heed h.0 m) (λ t k e. cc) (same_appended old new s (Heed h.0 m) is h.1) kept

-- the receipt that was appended is legal, and the checker goes on
pub receipt_goes_on : (old new : Core) (m : ℕ) (s : Step) (d : Delivered) (js ks : List (Option jobs.TurnSoFar)) → HasAsked old.program old.run None
    → received_by s ≡ Some m → HasJobs old.program old.run js → IsDelivered old new m d → WellFormed new.run → Legal new.program new.run → step_at new.run (len old.run) ≡ Some s → IsKeptBegun js ks d
    → GoesOn old new ks s
receipt_goes_on old new m s d js ks asked receipt has delivered whole f here kept =
    let is : new ≡ with_step old s = is_appended old new m s d asked receipt delivered here in
    let w : WellFormed (appended old.run s) = subst (λ (k : Core). WellFormed k.run) is whole in
    let fits : Fits old.program old.run (len old.run) s = last_fits old new s asked.well_formed whole (legal_fits new.program new.run f) is in
    let idle : IsByIdle old.run (len old.run) m s = by_idle old.program old.run (len old.run) m s (legal_fits old.program old.run asked.legal) receipt fits in
    goes_on old new s ks asked.well_formed whole f is
    (jobs_received old new m s js ks asked.well_formed w is idle has d delivered kept)
