-- With one fault more a program has the serial run from before up to the fault, and then the fault's step.
use Rattle.std.proofs.Common.{◌≡◌, inl, inr, ⊎_elim, ℕ, suc, ◌<◌, ◌≤◌, Option, Some, None, refl, sym, ap, ◌∙◌, subst, arith}
use Rattle.std.proofs.lemmas.Bool.{cases_lt}
use Rattle.rand_pcg.specs.Lcg.{Lcg}
use Rattle.tau_tree.specs.declared.entries.Entry.{Entry}
use Rattle.tau_tree.specs.declared.entries.Failure.{Failure}
use Rattle.tau_tree.specs.declared.programs.Program.{Program}
use Rattle.tau_trace.specs.declared.step.Step.{Step}
use Rattle.tau_trace.specs.Run.{Run, Agree, len, step_at, appended}
use Rattle.tau_trace.proofs.Agreement.{agree_sym, agree_below, agree_appended, step_at-appended}
use Rattle.tau_trace.proofs.Indexing.{len-appended}
use Rattle.tau_trace.proofs.Sequences.{cases_last}
use Rattle.tau_script.specs.declared.cursor.Cursor.{Cursor}
use Rattle.tau_script.specs.Cursors.{IsDueAs, IsRipe, CursorAt}
use Rattle.tau_script.specs.Scripts.{IsDue}
use Rattle.tau_script.specs.Laws.{ScriptsAreDetermined, ScriptsAreLocal}
use Rattle.tau_legal.specs.Traces.{Complete}
use Rattle.tau_revival.proofs.Legality.{fits_other}
use Rattle.tau_book.specs.SerialRun.{IsSerialRun, ComesAbout, begins, due, chooses, Choosable, IsStepOf, of_turn, of_message}
use Rattle.tau_book.specs.Laws.{SerialRunIsUnique}
use Rattle.tau_faults.specs.Faults.{IsFaulted, with_entry}
use Rattle.tau_faults.specs.Laws.{HasFaultAt}
use Rattle.tau_faults.proofs.Inserted.{same_below, due_there, not_passed}

pub agree_then : (T U V : Run) (k : ℕ) → Agree T U k → Agree U V k → Agree T V k
agree_then T U V k a b = record { opening = a.opening ∙ b.opening; steps = λ j l. a.steps j l ∙ b.steps j l }

pub agree_shorter : (V T : Run) (s : Step) → Agree (appended V s) T (len (appended V s)) → Agree V T (len V)
agree_shorter V T s a = record { opening = a.opening; steps = λ j l. (agree_appended V s).steps j l ∙ a.steps j (omega (arith, l, len-appended V s)) }

-- the first k steps of a run come about
pub record FirstSteps (P : Program) (jobs seed : ℕ) (T : Run) (k : ℕ) : Type 0 where
  pub run : Run
  pub generator : Lcg
  pub comes : ComesAbout P jobs seed run generator
  pub long : len run ≡ k
  pub agree : Agree run T k

module _ (P : Program) (jobs seed : ℕ) where
  whole : (T : Run) (g : Lcg) (k : ℕ) → ComesAbout P jobs seed T g → k ≡ len T → FirstSteps P jobs seed T k
  whole T g k c e = record { run = T; generator = g; comes = c; long = sym e; agree = record { opening = refl; steps = λ j l. refl } }

  longer : (T : Run) (s : Step) (k : ℕ) → k ≤ len T → FirstSteps P jobs seed T k → FirstSteps P jobs seed (appended T s) k
  longer T s k le f = record { run = f.run; generator = f.generator; comes = f.comes; long = f.long; agree = agree_then f.run T (appended T s) k f.agree (agree_below k le (agree_appended T s)) }

  pub first_steps : (T : Run) (g : Lcg) (k : ℕ) → ComesAbout P jobs seed T g → k ≤ len T → FirstSteps P jobs seed T k
  first_steps T g k begins le = whole T g k begins (omega (arith, le))
  first_steps T g k (due {T = U} {g = h} {s = s} c d) le =
      ⊎_elim
      (λ (e : k ≡ suc (len U)). whole T g k (due c d) (omega (arith, e, len-appended U s)))
      (λ (l : k < suc (len U)). longer U s k (omega (arith, l)) (first_steps U h k c (omega (arith, l))))
      (cases_last k (suc (len U)) (omega (arith, le, len-appended U s)))
  first_steps T g k (chooses {T = U} {g = h} {s = s} c n o got is) le =
      ⊎_elim
      (λ (e : k ≡ suc (len U)). whole T g k (chooses c n o got is) (omega (arith, e, len-appended U s)))
      (λ (l : k < suc (len U)). longer U s k (omega (arith, l)) (first_steps U h k c (omega (arith, l))))
      (cases_last k (suc (len U)) (omega (arith, le, len-appended U s)))

  -- of each length one run comes about, and none after a complete one
  pub same_length : SerialRunIsUnique → (U V : Run) (g h : Lcg) → ComesAbout P jobs seed U g → ComesAbout P jobs seed V h → len U ≡ len V → U ≡ V
  same_length law U V g h a b e =
      law P jobs seed (len V) U V (record { generator = g; comes_about = a; within = omega (arith, e); ends = inr e }) (record { generator = h; comes_about = b; within = omega arith; ends = inr refl })

  pub none_longer : SerialRunIsUnique → (U V : Run) (g h : Lcg) → ComesAbout P jobs seed U g → Complete P U → ComesAbout P jobs seed V h → ¬ (len U < len V)
  none_longer law U V g h a all b lt =
      let same : U ≡ V = law P jobs seed (len V) U V (record { generator = g; comes_about = a; within = omega (arith, lt); ends = inl all }) (record { generator = h; comes_about = b; within = omega arith; ends = inr refl }) in
      omega (arith, lt, ap len same)

module _ (determined : ScriptsAreDetermined) (local : ScriptsAreLocal) (P : Program) (jobs seed : ℕ) (T : Run) (k : ℕ) (f : Failure) (c : Cursor) (at : CursorAt P.script T k c) (none : (e : Entry) → ¬ IsRipe P.script k c e) where
  abbrev faulted : Program
  faulted = with_entry P c.entry (record { at = k; failure = f })

  due_other : (V : Run) (s : Option Step) → Agree V T (len V) → len V < k → IsDue P.script V (len V) s → IsDue faulted.script V (len V) s
  due_other V s agree lt is =
      let old = (local P.script V T (len V) agree).step s in
      let new = (local faulted.script V T (len V) agree).step s in
      new.1 ((same_below determined P.script T k f c at none (len V) s lt).0 (old.0 is))

  step_other : (V : Run) (o : Choosable) (s : Step) → IsStepOf P V o s → IsStepOf faulted V o s
  step_other V o s (of_turn u h) = of_turn u (record { by = h.by; of_turn = h.of_turn; fits = fits_other P faulted.script V (len V) s h.fits })
  step_other V o s (of_message r h) = of_message r (fits_other P faulted.script V (len V) s h)

  -- what comes about before the fault's place comes about with the fault
  pub comes_other : (V : Run) (g : Lcg) → ComesAbout P jobs seed V g → Agree V T (len V) → len V ≤ k → ComesAbout faulted jobs seed V g
  comes_other V g begins agree le = begins
  comes_other V g (due {T = U} {g = h} {s = s} b d) agree le =
      due (comes_other U h b (agree_shorter U T s agree) (omega (arith, le, len-appended U s))) (due_other U (Some s) (agree_shorter U T s agree) (omega (arith, le, len-appended U s)) d)
  comes_other V g (chooses {T = U} {g = h} {s = s} {options = options} {chosen = chosen} b n o got is) agree le =
      chooses (comes_other U h b (agree_shorter U T s agree) (omega (arith, le, len-appended U s))) (due_other U None (agree_shorter U T s agree) (omega (arith, le, len-appended U s)) n) o got
      (step_other U chosen s is)

  module _ (not : ¬ IsDueAs T k 0 f None) where
    -- the front with the fault's step
    pub record FrontAndFault : Type 0 where
      pub run : Run
      pub generator : Lcg
      pub step : Step
      pub comes : ComesAbout faulted jobs seed (appended run step) generator
      pub long : len run ≡ k
      pub agree : Agree run T k
      pub of_fault : IsDueAs T k 0 f (Some step)

    pub front_and_fault : (g : Lcg) → ComesAbout P jobs seed T g → k < len T → FrontAndFault
    front_and_fault g comes lt =
        let front = first_steps P jobs seed T g k comes (omega (arith, lt)) in
        let agree : Agree front.run T (len front.run) = agree_below (len front.run) (omega (arith, front.long)) front.agree in
        let d = due_there determined P.script T k f c at none not in
        let there : IsDue faulted.script T (len front.run) (Some d.0) = subst (λ (n : ℕ). IsDue faulted.script T n (Some d.0)) (sym front.long) d.1 in
        record {
          run = front.run;
          generator = front.generator;
          step = d.0;
          comes = due (comes_other front.run front.generator front.comes agree (omega (arith, front.long))) (((local faulted.script front.run T (len front.run) agree).step (Some d.0)).1 there);
          long = front.long;
          agree = front.agree;
          of_fault = d.2;
        }

    in_longer : (unique : SerialRunIsUnique) (limit : ℕ) (U : Run) → FrontAndFault → IsSerialRun faulted jobs seed limit U → k < len U → HasFaultAt T U k f
    in_longer unique limit U front u lt =
        let first = first_steps faulted jobs seed U u.generator (suc k) u.comes_about (omega (arith, lt)) in
        let same : appended front.run front.step ≡ first.run =
        same_length faulted jobs seed unique (appended front.run front.step) first.run front.generator first.generator front.comes first.comes (omega (arith, len-appended front.run front.step, front.long, first.long)) in
        let here : step_at (appended front.run front.step) k ≡ Some front.step = subst (λ (n : ℕ). step_at (appended front.run front.step) n ≡ Some front.step) front.long (step_at-appended front.run front.step) in
        let so_far : Agree front.run (appended front.run front.step) k = agree_below k (omega (arith, front.long)) (agree_appended front.run front.step) in
        let on : Agree (appended front.run front.step) U (suc k) = subst (λ (X : Run). Agree X U (suc k)) (sym same) first.agree in
        record {
          front = agree_then T front.run U k (agree_sym front.agree) (agree_then front.run (appended front.run front.step) U k so_far (agree_below k (omega arith) on));
          step = front.step;
          stands = sym (on.steps k (omega arith)) ∙ here;
          of_fault = front.of_fault;
        }

    not_shorter : (unique : SerialRunIsUnique) (limit : ℕ) (U : Run) → FrontAndFault → IsSerialRun faulted jobs seed limit U → k < limit → len U ≤ k → ⊥
    not_shorter unique limit U front u room le =
        ⊎_elim
        (λ (all : Complete faulted U). none_longer faulted jobs seed unique U (appended front.run front.step) u.generator front.generator u.comes_about all front.comes (omega (arith, le, len-appended front.run front.step, front.long)))
        (λ (e : len U ≡ limit). omega (arith, e, room, le))
        u.ends

    has_fault : (unique : SerialRunIsUnique) (limit : ℕ) (U : Run) → FrontAndFault → IsSerialRun faulted jobs seed limit U → k < limit → HasFaultAt T U k f
    has_fault unique limit U front u room =
        ⊎_elim
        (λ (lt : k < len U). in_longer unique limit U front u lt)
        (λ (le : len U ≤ k). absurd (not_shorter unique limit U front u room le))
        (cases_lt k (len U))

-- at the cursor no entry is ripe
pub none_ripe : ScriptsAreDetermined → (every : ℕ) (P : Program) (T : Run) (k : ℕ) (f : Failure) (Q : Program) → (is : IsFaulted every P T k f Q) → (e : Entry) → ¬ IsRipe P.script k is.cursor e
none_ripe law every P T k f Q is =
    let there = law P.script T k in
    let same : is.none_due.cursor ≡ is.cursor = (there.cursor_is is.none_due.cursor).0 is.none_due.stands ∙ sym ((there.cursor_is is.cursor).0 is.stands) in
    subst (λ (c : Cursor). (e : Entry) → ¬ IsRipe P.script k c e) same is.none_due.due

pub fault_comes : SerialRunIsUnique → ScriptsAreDetermined → ScriptsAreLocal → (P Q : Program) (jobs seed limit every k : ℕ) (f : Failure) (T U : Run) → IsSerialRun P jobs seed limit T → IsFaulted every P T k f Q → IsSerialRun Q jobs seed limit U → HasFaultAt T U k f
fault_comes unique determined local P Q jobs seed limit every k f T U t is u =
    let none = none_ripe determined every P T k f Q is in
    let not = not_passed P T k f is.effective in
    let front = front_and_fault determined local P jobs seed T k f is.cursor is.stands none not t.generator t.comes_about is.step in
    has_fault determined local P jobs seed T k f is.cursor is.stands none not unique limit U front (subst (λ (X : Program). IsSerialRun X jobs seed limit U) is.faulted u) (omega (arith, is.step, t.within))
