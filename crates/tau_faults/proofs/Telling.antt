-- Two programs of a storm are the same only where they have the same faults.
use Rattle.std.proofs.Common.{◌≡◌, ◌⊎◌, ⊎_elim, ℕ, suc, ◌+◌, ◌<◌, ◌≤◌, IsTrue, IsFalse, List, [], ◌∷◌, ◌++◌, length, Some, None, refl, sym, ap, ◌∙◌, subst, arith}
use Rattle.std.proofs.lemmas.Bool.{cases_order}
use Rattle.rand_pcg.specs.Lcg.{Lcg}
use Rattle.tau_tree.specs.declared.entries.Entry.{Entry}
use Rattle.tau_tree.specs.declared.entries.Failure.{Failure}
use Rattle.tau_tree.specs.declared.entries.Failure.TheVariants as failures
use Rattle.tau_tree.specs.declared.programs.Program.{Program}
use Rattle.tau_tree.specs.Sound.{Sound}
use Rattle.tau_trace.specs.declared.step.Step.{Step}
use Rattle.tau_trace.specs.Run.{Run, Agree, len, step_at, appended}
use Rattle.tau_trace.proofs.Agreement.{agree_below, agree_appended, step_at-appended}
use Rattle.tau_trace.proofs.Indexing.{len-appended}
use Rattle.tau_trace.specs.Numbering.{IsHome}
use Rattle.tau_trace.specs.Known.{IsSound}
use Rattle.tau_trace.proofs.Lists.{same_some}
use Rattle.tau_trace.proofs.Once.{home_once}
use Rattle.tau_script.specs.Cursors.{IsDueAs}
use Rattle.tau_script.specs.Scripts.{IsDue, NoneDue, is_failure}
use Rattle.tau_script.specs.Openings.{program_opening}
use Rattle.tau_script.proofs.SoundOpenings.{sound_opening}
use Rattle.tau_script.specs.Laws.{ScriptsAreDetermined, ScriptsAreLocal}
use Rattle.tau_book.specs.SerialRun.{IsSerialRun, ComesAbout, begins, due, chooses}
use Rattle.tau_book.specs.Laws.{SerialRunIsUnique}
use Rattle.tau_faults.specs.declared.setting.Setting.{Setting}
use Rattle.tau_faults.specs.Faults.{IsFaulted}
use Rattle.tau_faults.specs.Ends.{Storms, itself, further}
use Rattle.tau_faults.proofs.Once.{same_faulted}
use Rattle.tau_faults.proofs.Inserted.{not_passed}
use Rattle.tau_faults.proofs.Coming.{agree_shorter, first_steps, same_length, comes_other, front_and_fault, none_ripe}
use Rattle.tau_faults.proofs.Runs.{chosen_no_failure}
use Rattle.tau_faults.proofs.Programs.{length-inserted, sound_faulted}

-- the programs with faults of a storm, from the first fault to the last
pub data Goes (S : Setting) (seed : ℕ) : ℕ → Program → List Entry → ℕ → Program → Type 0 where
  stays : {from : ℕ} {P : Program} → Goes S seed from P [] from P
  goes : {from k to : ℕ} {P Q R : Program} {T : Run} {f : Failure} {faults : List Entry} → IsSerialRun P S.jobs seed S.steps T → from ≤ k → IsFaulted S.every P T k f Q
      → Goes S seed (suc k) Q faults to R → Goes S seed from P (record { at = k; failure = f } ∷ faults) to R

goes_on : (S : Setting) (seed from k to : ℕ) (P Q R : Program) (T : Run) (f : Failure) (faults : List Entry) → Goes S seed from P faults to Q → IsSerialRun Q S.jobs seed S.steps T → to ≤ k → IsFaulted S.every Q T k f R
    → Goes S seed from P (faults ++ record { at = k; failure = f } ∷ []) (suc k) R
goes_on S seed from k to P Q R T f faults stays s low q = goes s low q stays
goes_on S seed from k to P Q R T f faults (goes {k = j} {Q = X} {T = U} {f = g} {faults = rest} a b c d) s low q = goes a b c (goes_on S seed (suc j) k to X Q R T f rest d s low q)

pub goes_to : (O : Program) (S : Setting) (seed from : ℕ) (faults : List Entry) (P : Program) → Storms O S seed from faults P → Goes S seed 0 O faults from P
goes_to O S seed from faults P itself = stays
goes_to O S seed from faults P (further {from = start} {k = k} {faults = before} {P = R} {T = T} {f = f} comes s low q) =
    goes_on S seed 0 k start O R P T f before (goes_to O S seed start before R comes) s low q

-- each fault makes the script longer
goes_length : (S : Setting) (seed from to : ℕ) (P Q : Program) (faults : List Entry) → Goes S seed from P faults to Q → length Q.script ≡ length P.script + length faults
goes_length S seed from to P Q faults stays = omega arith
goes_length S seed from to P Q faults (goes {k = k} {Q = R} {T = T} {f = f} {faults = rest} s low q more) =
    omega (arith, goes_length S seed (suc k) to R Q rest more, ap (λ (X : Program). length X.script) q.faulted, length-inserted P.script q.cursor.entry (record { at = k; failure = f }))

-- what is due as a failure is a failure, and one failure of all
due_failure : (T : Run) (k : ℕ) (f : Failure) (s : Step) → IsDueAs T k 0 f (Some s) → IsTrue (is_failure s)
due_failure T k (failures.Fail n) s d = ap is_failure d.2
due_failure T k (failures.Lose m) s d = ap is_failure d.1
due_failure T k (failures.Repeat m) s d = ap is_failure d.1

same_failure : (T : Run) (k : ℕ) (f g : Failure) (s : Step) → IsSound T.opening → IsDueAs T k 0 f (Some s) → IsDueAs T k 0 g (Some s) → f ≡ g
same_failure T k (failures.Fail n) (failures.Fail m) s sound d e =
    let same : d.0 ≡ e.0 = let a = d.2 in let b = e.2 in cc in
    ap failures.Fail (home_once T e.0 n m sound (subst (λ (t : ℕ). IsHome T t n) same d.1.1.home) e.1.1.home)
same_failure T k (failures.Lose m) (failures.Lose n) s sound d e = let same : m ≡ n = let a = d.1 in let b = e.1 in cc in ap failures.Lose same
same_failure T k (failures.Repeat m) (failures.Repeat n) s sound d e = let same : m ≡ n = let a = d.1 in let b = e.1 in cc in ap failures.Repeat same
same_failure T k (failures.Fail n) (failures.Lose m) s sound d e = let a = d.2 in let b = e.1 in absurd (cc)
same_failure T k (failures.Fail n) (failures.Repeat m) s sound d e = let a = d.2 in let b = e.1 in absurd (cc)
same_failure T k (failures.Lose n) (failures.Fail m) s sound d e = let a = d.1 in let b = e.2 in absurd (cc)
same_failure T k (failures.Lose n) (failures.Repeat m) s sound d e = let a = d.1 in let b = e.1 in absurd (cc)
same_failure T k (failures.Repeat n) (failures.Fail m) s sound d e = let a = d.1 in let b = e.2 in absurd (cc)
same_failure T k (failures.Repeat n) (failures.Lose m) s sound d e = let a = d.1 in let b = e.1 in absurd (cc)

comes_opening : (P : Program) (jobs seed : ℕ) (T : Run) (g : Lcg) → ComesAbout P jobs seed T g → T.opening ≡ program_opening P
comes_opening P jobs seed T g begins = refl
comes_opening P jobs seed T g (due {T = U} {g = h} a d) = comes_opening P jobs seed U h a
comes_opening P jobs seed T g (chooses {T = U} {g = h} a n o got is) = comes_opening P jobs seed U h a

module _ (determined : ScriptsAreDetermined) (local : ScriptsAreLocal) (P : Program) (jobs seed : ℕ) (T : Run) (k : ℕ) (none : NoneDue P.script T k) where
  -- where none is due the step is no failure
  last_step : (V : Run) (h : Lcg) (s : Step) → ComesAbout P jobs seed V h → len V ≡ suc k → Agree V T (len V) → step_at T k ≡ Some s → IsFalse (is_failure s)
  last_step V h s begins long agree is = absurd (omega (arith, long))
  last_step V h s (due {T = U} {s = r} a d) long agree is =
      let there : len U ≡ k = omega (arith, long, len-appended U r) in
      let in_t : IsDue P.script T (len U) (Some r) = ((local P.script U T (len U) (agree_shorter U T r agree)).step (Some r)).0 d in
      let at_k : IsDue P.script T k (Some r) = subst (λ (n : ℕ). IsDue P.script T n (Some r)) there in_t in
      let one = determined P.script T k in
      let both : Some r ≡ None = (one.step_is (Some r)).0 at_k ∙ sym ((one.step_is None).0 none) in
      absurd (cc)
  last_step V h s (chooses {T = U} {s = r} {chosen = chosen} a n o got c) long agree is =
      let there : len U ≡ k = omega (arith, long, len-appended U r) in
      let at_u : step_at T (len U) ≡ Some r = sym (agree.steps (len U) (omega (arith, len-appended U r))) ∙ step_at-appended U r in
      let same : r ≡ s = same_some (sym at_u ∙ ap (step_at T) there ∙ is) in
      subst (λ (x : Step). IsFalse (is_failure x)) same (chosen_no_failure P U chosen r c)

  no_failure_there : (g : Lcg) (s : Step) → ComesAbout P jobs seed T g → k < len T → step_at T k ≡ Some s → IsFalse (is_failure s)
  no_failure_there g s comes lt is =
      let first = first_steps P jobs seed T g (suc k) comes (omega (arith, lt)) in
      last_step first.run first.generator s first.comes first.long (agree_below (len first.run) (omega (arith, first.long)) first.agree) is

-- what has a fault's step at its place, behind the run before
record HasFault (S : Setting) (seed : ℕ) (Q : Program) (T : Run) (k : ℕ) (f : Failure) : Type 0 where
  run : Run
  generator : Lcg
  step : Step
  comes : ComesAbout Q S.jobs seed (appended run step) generator
  long : len run ≡ k
  agree : Agree run T k
  of_fault : IsDueAs T k 0 f (Some step)

module _ (unique : SerialRunIsUnique) (determined : ScriptsAreDetermined) (local : ScriptsAreLocal) (S : Setting) (seed : ℕ) where
  -- what comes about before the next fault comes about with all that follow
  comes_later : (from to : ℕ) (P Q : Program) (faults : List Entry) → Goes S seed from P faults to Q → (V : Run) (h : Lcg) → ComesAbout P S.jobs seed V h → len V ≤ from → ComesAbout Q S.jobs seed V h
  comes_later from to P Q faults stays V h comes le = comes
  comes_later from to P Q faults (goes {k = k} {Q = R} {T = T} {f = f} {faults = rest} s low q more) V h comes le =
      let first = first_steps P S.jobs seed T s.generator (len V) s.comes_about (omega (arith, le, low, q.step)) in
      let same : V ≡ first.run = same_length P S.jobs seed unique V first.run h first.generator comes first.comes (sym first.long) in
      let agree : Agree V T (len V) = subst (λ (X : Run). Agree X T (len V)) (sym same) first.agree in
      let there = comes_other determined local P S.jobs seed T k f q.cursor q.stands (none_ripe determined S.every P T k f R q) V h comes agree (omega (arith, le, low)) in
      comes_later (suc k) to R Q rest more V h (subst (λ (X : Program). ComesAbout X S.jobs seed V h) (sym q.faulted) there) (omega (arith, le, low))

  has_fault : (k to : ℕ) (P R Q : Program) (T : Run) (f : Failure) (faults : List Entry) → IsSerialRun P S.jobs seed S.steps T → IsFaulted S.every P T k f R → Goes S seed (suc k) R faults to Q → HasFault S seed Q T k f
  has_fault k to P R Q T f faults s q more =
      let front = front_and_fault determined local P S.jobs seed T k f q.cursor q.stands (none_ripe determined S.every P T k f R q) (not_passed P T k f q.effective) s.generator s.comes_about q.step in
      let there : ComesAbout R S.jobs seed (appended front.run front.step) front.generator = subst (λ (X : Program). ComesAbout X S.jobs seed (appended front.run front.step) front.generator) (sym q.faulted) front.comes in
      record {
        run = front.run;
        generator = front.generator;
        step = front.step;
        comes = comes_later (suc k) to R Q faults more (appended front.run front.step) front.generator there (omega (arith, front.long, len-appended front.run front.step));
        long = front.long;
        agree = front.agree;
        of_fault = front.of_fault;
      }

  module _ (P Q : Program) (T : Run) (s : IsSerialRun P S.jobs seed S.steps T) where
    -- no other first fault comes later
    none_later : (k j : ℕ) (f g : Failure) → NoneDue P.script T k → k < len T → HasFault S seed Q T k f → HasFault S seed Q T j g → ¬ (k < j)
    none_later k j f g none lt a b before =
        let first = first_steps Q S.jobs seed (appended b.run b.step) b.generator (suc k) b.comes (omega (arith, b.long, before, len-appended b.run b.step)) in
        let same : appended a.run a.step ≡ first.run = same_length Q S.jobs seed unique (appended a.run a.step) first.run a.generator first.generator a.comes first.comes (omega (arith, a.long, first.long, len-appended a.run a.step)) in
        let mine : step_at (appended a.run a.step) k ≡ Some a.step = subst (λ (n : ℕ). step_at (appended a.run a.step) n ≡ Some a.step) a.long (step_at-appended a.run a.step) in
        let other : step_at first.run k ≡ step_at T k =
        first.agree.steps k (omega arith) ∙ sym ((agree_appended b.run b.step).steps k (omega (arith, b.long, before))) ∙ b.agree.steps k before in
        let in_t : step_at T k ≡ Some a.step = sym other ∙ ap (λ (X : Run). step_at X k) (sym same) ∙ mine in
        let no : IsFalse (is_failure a.step) = no_failure_there determined local P S.jobs seed T k none s.generator a.step s.comes_about lt in_t in
        let yes : IsTrue (is_failure a.step) = due_failure T k f a.step a.of_fault in
        cc

    same_first : (k j : ℕ) (f g : Failure) → IsSound T.opening → k ≡ j → HasFault S seed Q T k f → HasFault S seed Q T j g → f ≡ g
    same_first k j f g sound e a b =
        let same : appended a.run a.step ≡ appended b.run b.step = same_length Q S.jobs seed unique (appended a.run a.step) (appended b.run b.step) a.generator b.generator a.comes b.comes (omega (arith, e, a.long, b.long, len-appended a.run a.step, len-appended b.run b.step)) in
        let here : len a.run ≡ len b.run = omega (arith, e, a.long, b.long) in
        let step : a.step ≡ b.step = same_some (sym (step_at-appended a.run a.step) ∙ ap (λ (X : Run). step_at X (len a.run)) same ∙ ap (step_at (appended b.run b.step)) here ∙ step_at-appended b.run b.step) in
        let other : IsDueAs T k 0 g (Some a.step) = subst (λ (n : ℕ). IsDueAs T n 0 g (Some a.step)) (sym e) (subst (λ (r : Step). IsDueAs T j 0 g (Some r)) (sym step) b.of_fault) in
        same_failure T k f g a.step sound a.of_fault other

    same_place : (k j : ℕ) (f g : Failure) → NoneDue P.script T k → NoneDue P.script T j → k < len T → j < len T → HasFault S seed Q T k f → HasFault S seed Q T j g → k ≡ j
    same_place k j f g none other lt less a b =
        ⊎_elim
        (λ (e : k ≡ j). e)
        (λ (d : (k < j) ⊎ (j < k)). absurd (⊎_elim (λ (l : k < j). none_later k j f g none lt a b l) (λ (l : j < k). none_later j k g f other less b a l) d))
        (cases_order k j)

  stays_alone : (start end : ℕ) (P Q : Program) (ys : List Entry) → Goes S seed start P ys end Q → length Q.script ≡ length P.script → [] ≡ ys
  stays_alone start end P Q ys stays same = refl
  stays_alone start end P Q ys (goes {k = j} {Q = X} {T = U} {f = g} {faults = others} t high r more) same =
      absurd (omega (arith, same, goes_length S seed start end P Q (record { at = j; failure = g } ∷ others) (goes t high r more)))

  tell_first : (k start to end : ℕ) (P R Q : Program) (T : Run) (f : Failure) (rest ys : List Entry) → Sound P → IsSerialRun P S.jobs seed S.steps T → IsFaulted S.every P T k f R → Goes S seed (suc k) R rest to Q
      → ((n : ℕ) (zs : List Entry) → Goes S seed n R zs end Q → rest ≡ zs) → Goes S seed start P ys end Q → record { at = k; failure = f } ∷ rest ≡ ys
  tell_first k start to end P R Q T f rest ys sound s q more hypothesis stays =
      absurd (omega (arith, goes_length S seed 0 to P Q (record { at = k; failure = f } ∷ rest) (goes s (omega arith) q more)))
  tell_first k start to end P R Q T f rest ys sound s q more hypothesis (goes {k = j} {Q = X} {T = U} {f = g} {faults = others} t high r after) =
      let runs : T ≡ U = unique P S.jobs seed S.steps T U s t in
      let r_there : IsFaulted S.every P T j g X = subst (λ (W : Run). IsFaulted S.every P W j g X) (sym runs) r in
      let a = has_fault k to P R Q T f rest s q more in
      let b = has_fault j end P X Q T g others s r_there after in
      let opening : IsSound T.opening = subst IsSound (sym (comes_opening P S.jobs seed T s.generator s.comes_about)) (sound_opening P sound) in
      let place : k ≡ j = same_place P Q T s k j f g q.none_due r_there.none_due q.step r_there.step a b in
      let fault : f ≡ g = same_first P Q T s k j f g opening place a b in
      let r_here : IsFaulted S.every P T k f X = subst (λ (h : Failure). IsFaulted S.every P T k h X) (sym fault) (subst (λ (n : ℕ). IsFaulted S.every P T n g X) (sym place) r_there) in
      let programs : R ≡ X = same_faulted determined S.every P T k f R X q r_here in
      let rest_same : rest ≡ others = hypothesis (suc j) others (subst (λ (Z : Program). Goes S seed (suc j) Z others end Q) (sym programs) after) in
      λ i. record { at = place i; failure = fault i } ∷ rest_same i

  tell : (from start to end : ℕ) (P Q : Program) (xs ys : List Entry) → Sound P → Goes S seed from P xs to Q → Goes S seed start P ys end Q → xs ≡ ys
  tell from start to end P Q xs ys sound stays other = stays_alone start end P P ys other refl
  tell from start to end P Q xs ys sound (goes {k = k} {Q = R} {T = T} {f = f} {faults = rest} s low q more) other =
      tell_first k start to end P R Q T f rest ys sound s q more (λ n zs g. tell (suc k) n to end R Q rest zs (sound_faulted S.every P T k f R sound q) more g) other

  pub told : (O P : Program) (from start : ℕ) (faults others : List Entry) → Sound O → Storms O S seed from faults P → Storms O S seed start others P → faults ≡ others
  told O P from start faults others sound a b = tell 0 0 from start O P faults others sound (goes_to O S seed from faults P a) (goes_to O S seed start others P b)
