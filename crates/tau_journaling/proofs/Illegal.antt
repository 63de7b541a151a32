-- The first step of a run that isn't legal for its last program is the first that isn't legal in the order of the records.
use Rattle.std.proofs.Common.{◌≡◌, ◌⊎◌, ⊎_elim, inl, inr, ℕ, ◌+◌, ◌<◌, ◌≤◌, List, take, Option, Some, None, refl, sym, ap, ap₂, ◌∙◌, subst, arith, length-take}
use Rattle.std.specs.Prelude.{Result, Ok, Err, Bool, IsErrAnd, IsTrue, ◌↔◌}
use Rattle.std.proofs.lemmas.List.{take-take}
use Rattle.std.proofs.lemmas.Option.{slice_get_within}
use Rattle.tau_tree.specs.declared.programs.Program.{Program}
use Rattle.tau_trace.specs.declared.step.Step.{Step}
use Rattle.tau_trace.specs.Run.{Run, len, step_at, appended}
use Rattle.tau_trace.specs.Known.{WellFormed}
use Rattle.tau_trace.proofs.Lists.{slice_get-take}
use Rattle.tau_trace.proofs.Agreement.{agree_sym, agree_appended, step_at-appended}
use Rattle.tau_trace.proofs.Indexing.{len-appended, well_formed_appended}
use Rattle.tau_legal.specs.Traces.{IsLegal, Legal, Complete}
use Rattle.tau_legal.proofs.TraceLemmas.{legal_same, known_at_end}
use Rattle.tau_check.specs.Legality.{IsFirstIllegal, IsLegality}
use Rattle.tau_check.specs.declared.checking.Legality.{Legality}
use Rattle.tau_check.specs.declared.checking.Legality.TheVariants as answers
use Rattle.tau_journal.specs.Records.{going_on}
use Rattle.tau_journal.specs.Room.{IsFaultOrFailure}
use Rattle.tau_journal.specs.declared.errors.JournalError.{JournalError}
use Rattle.tau_journal.specs.declared.errors.JournalError.TheVariants.{Fault, NoMemory}
use Rattle.tau_revival.specs.Laws.{RevivalKeepsSteps}
use Rattle.tau_run_journal.specs.declared.faults.RecordFault.{RecordFault}
use Rattle.tau_run_journal.specs.declared.faults.RecordFault.TheVariants.{Item, ScriptFull}
use Rattle.tau_run_journal.specs.Standing.{StandsFor}
use Rattle.tau_run_journal.specs.Reading.{HasNoProgram, IsReadAs, error_of}
use Rattle.tau_run_journal.proofs.Runs.{run_of}
use Rattle.tau_run_journal.proofs.Unique.{some_stand}
use Rattle.tau_run_journal.proofs.Once.{one_fault, no_fault, no_program}
use Rattle.tau_run_journal.proofs.Finds.{failed_or}
use Rattle.tau_journaling.specs.Found.Faults.{HasIllegalStep, IsRunFault, in_first, in_later, in_step}
use Rattle.tau_journaling.proofs.FoundFronts.{Extends, extends}
use Rattle.tau_journaling.proofs.Places.{StandsIn, stands_in, stands_with, to_front, to_all}

within_or_past : (k n : ℕ) → (k < n) ⊎ (n ≤ k)
within_or_past k n = grind arith

sorted : (a b : ℕ) → (a < b) ⊎ ((b < a) ⊎ (a ≡ b))
sorted a b = grind arith

-- one step is the first that isn't legal
pub one_first : (P : Program) (T : Run) (a b : ℕ) → IsFirstIllegal P T a → IsFirstIllegal P T b → a ≡ b
one_first P T a b one two =
    ⊎_elim (λ lt. absurd (one.illegal (two.earlier a one.step lt one.stands))) (⊎_elim (λ lt. absurd (two.illegal (one.earlier b two.step lt two.stands))) (λ e. e)) (sorted a b)

pub none_first : (P : Program) (T : Run) (a : ℕ) → Legal P T → ¬ IsFirstIllegal P T a
none_first P T a legal f = f.illegal (legal.steps a f.step f.stands)

-- a step is legal behind a run where it is at the end of the run with it
module _ (Q : Program) (U : Run) (s : Step) (well : WellFormed U) (longer : WellFormed (appended U s)) where
  legal_with : IsLegal Q U (len U) s → IsLegal Q (appended U s) (len U) s
  legal_with l = legal_same Q U (appended U s) (len U) s well longer (agree_appended U s) (known_at_end U s longer) l

  legal_without : IsLegal Q (appended U s) (len U) s → IsLegal Q U (len U) s
  legal_without l = legal_same Q (appended U s) U (len U) s longer well (agree_sym (agree_appended U s)) (longer.known (len U) s (step_at-appended U s)) l

module _ (law : RevivalKeepsSteps) where
  -- the first step that isn't legal stands in a record
  module _ (rs : List (List ℕ)) (P : Program) (T : Run) (stand : StandsFor rs P T) (at : ℕ) (f : IsFirstIllegal P T at) (b : StandsIn rs at f.step) where
    earlier_legal : Legal b.program b.run
    earlier_legal = record { opening = (run_of (take b.place rs) b.program b.run b.stand.stand).opening; steps = steps } where
      steps : (j : ℕ) (s : Step) → step_at b.run j ≡ Some s → IsLegal b.program b.run j s
      steps j s stands =
          let e : Extends b.program b.run P T = extends law rs P T stand b.place b.program b.run b.stand.stand in
          let lt : j < len b.run = slice_get_within b.run.steps j s stands in
          (e.same j s stands).1 (f.earlier j s (omega (arith, lt, b.count)) (sym (e.agree.steps j lt) ∙ stands))

    there_illegal : ¬ IsLegal b.program b.run (len b.run) f.step
    there_illegal l =
        let well : WellFormed b.run = (run_of (take b.place rs) b.program b.run b.stand.stand).well_formed in
        let longer : WellFormed (appended b.run f.step) = well_formed_appended b.run f.step well b.is_text.may in
        let e : Extends b.program (appended b.run f.step) P T = extends law rs P T stand (b.place + 1) b.program (appended b.run f.step) (stands_with rs b.place b.program b.run b.text f.step b.stand b.is_text) in
        let here : IsLegal P T (len b.run) f.step = (e.same (len b.run) f.step (step_at-appended b.run f.step)).0 (legal_with b.program b.run f.step well longer l) in
        f.illegal (subst (λ (n : ℕ). IsLegal P T n f.step) b.count here)

    illegal_in : HasIllegalStep rs b.program b.run
    illegal_in = record { place = b.place; text = b.text; step = f.step; stand = b.stand; is_text = b.is_text; legal = earlier_legal; illegal = there_illegal }

  -- a step that isn't legal in a record is the first that isn't in the run
  pub first_there : (rs : List (List ℕ)) (P : Program) (T : Run) → StandsFor rs P T → (Q : Program) (U : Run) → HasIllegalStep rs Q U → IsFirstIllegal P T (len U)
  first_there rs P T stand Q U h = record {
    step = h.step;
    stands = sym (long.agree.steps (len U) (omega (arith, len-appended U h.step))) ∙ step_at-appended U h.step;
    illegal = λ l. h.illegal (legal_without Q U h.step well (well_formed_appended U h.step well h.is_text.may) ((long.same (len U) h.step (step_at-appended U h.step)).1 l));
    earlier = earlier;
  } where
    short : Extends Q U P T
    short = extends law rs P T stand h.place Q U h.stand.stand

    long : Extends Q (appended U h.step) P T
    long = extends law rs P T stand (h.place + 1) Q (appended U h.step) (stands_with rs h.place Q U h.text h.step h.stand h.is_text)

    well : WellFormed U
    well = (run_of (take h.place rs) Q U h.stand.stand).well_formed

    earlier : (j : ℕ) (s : Step) → j < len U → step_at T j ≡ Some s → IsLegal P T j s
    earlier j s lt stands =
        let here : step_at U j ≡ Some s = short.agree.steps j lt ∙ stands in
        (short.same j s here).0 (h.legal.steps j s here)

-- the same of the first records
illegal_front : (rs : List (List ℕ)) (n : ℕ) (Q : Program) (U : Run) (h : HasIllegalStep rs Q U) → h.place < n → HasIllegalStep (take n rs) Q U
illegal_front rs n Q U h lt = record { place = h.place; text = h.text; step = h.step; stand = to_front rs n h.place Q U h.text lt h.stand; is_text = h.is_text; legal = h.legal; illegal = h.illegal }

illegal_all : (rs : List (List ℕ)) (n : ℕ) (Q : Program) (U : Run) → HasIllegalStep (take n rs) Q U → HasIllegalStep rs Q U
illegal_all rs n Q U h = record { place = h.place; text = h.text; step = h.step; stand = to_all rs n h.place Q U h.text h.stand; is_text = h.is_text; legal = h.legal; illegal = h.illegal }

-- a fault is read of the first n records too, where it is of one of them
abbrev place_of : (rs : List (List ℕ)) (P : Program) (T : Run) (e : RecordFault) → IsReadAs rs P T (Some e) → ℕ
place_of rs P T (Item k) one = k
place_of rs P T (ScriptFull m) one = one.0

read_front : (rs : List (List ℕ)) (n : ℕ) (P : Program) (T : Run) (e : RecordFault) (one : IsReadAs rs P T (Some e)) → place_of rs P T e one < n → IsReadAs (take n rs) P T (Some e)
read_front rs n P T (Item k) one lt = (one.0, to_front rs n k P T one.0 lt one.1, one.2)
read_front rs n P T (ScriptFull m) one lt = (one.0, to_front rs n one.0 P T going_on lt one.1, one.2)

read_stands : (rs : List (List ℕ)) (P : Program) (T : Run) (e : RecordFault) (one : IsReadAs rs P T (Some e)) → StandsFor (take (place_of rs P T e one) rs) P T
read_stands rs P T (Item k) one = one.1.stand
read_stands rs P T (ScriptFull m) one = one.1.stand

module _ (law : RevivalKeepsSteps) (rs : List (List ℕ)) (P : Program) (T : Run) where
  -- what was read up to a fault, and a step that isn't legal
  first_before : (e : RecordFault) (one : IsReadAs rs P T (Some e)) (Q : Program) (U : Run) → HasIllegalStep rs Q U → IsFirstIllegal P T (len U)
  first_before e one Q U h = ⊎_elim within behind (within_or_past h.place (place_of rs P T e one)) where
    within : h.place < place_of rs P T e one → IsFirstIllegal P T (len U)
    within lt = first_there law (take (place_of rs P T e one) rs) P T (read_stands rs P T e one) Q U (illegal_front rs (place_of rs P T e one) Q U h lt)

    behind : place_of rs P T e one ≤ h.place → IsFirstIllegal P T (len U)
    behind le =
        absurd (no_fault (take (h.place + 1) rs) P Q T (appended U h.step) e (stands_with rs h.place Q U h.text h.step h.stand h.is_text) (read_front rs (h.place + 1) P T e one (omega (arith, le))))

  pub first_read : (o : Option RecordFault) → IsReadAs rs P T o → (Q : Program) (U : Run) → HasIllegalStep rs Q U → IsFirstIllegal P T (len U)
  first_read None stand Q U h = first_there law rs P T stand Q U h
  first_read (Some e) one Q U h = first_before e one Q U h

  -- the first step that isn't legal, among those read
  pub illegal_read : (o : Option RecordFault) → IsReadAs rs P T o → (at : ℕ) → IsFirstIllegal P T at → IsRunFault rs 5 at
  illegal_read None stand at f =
      let b : StandsIn rs at f.step = stands_in rs P T stand at f.step f.stands in
      in_step b.program b.run refl (sym b.count) (illegal_in law rs P T stand at f b)
  illegal_read (Some e) one at f =
      let n : ℕ = place_of rs P T e one in
      let stand : StandsFor (take n rs) P T = read_stands rs P T e one in
      let b : StandsIn (take n rs) at f.step = stands_in (take n rs) P T stand at f.step f.stands in
      in_step b.program b.run refl (sym b.count) (illegal_all rs n b.program b.run (illegal_in law (take n rs) P T stand at f b))

  -- no fault of a record comes behind it
  fault_behind : (n : ℕ) → StandsFor (take n rs) P T → (at : ℕ) → IsFirstIllegal P T at → (Q : Program) (U : Run) (e : RecordFault) → Legal Q U → (one : IsReadAs rs Q U (Some e)) → ⊥
  fault_behind n stand at f Q U e legal one = ⊎_elim before behind (within_or_past (place_of rs Q U e one) n) where
    before : place_of rs Q U e one < n → ⊥
    before lt = no_fault (take n rs) Q P U T e stand (read_front rs n Q U e one lt)

    behind : n ≤ place_of rs Q U e one → ⊥
    behind le =
        let k : ℕ = place_of rs Q U e one in
        let front : StandsFor (take n (take k rs)) P T = subst (λ (l : List (List ℕ)). StandsFor l P T) (sym (take-take n k rs le)) stand in
        let x : Extends P T Q U = extends law (take k rs) Q U (read_stands rs Q U e one) n P T front in
        let there : step_at U at ≡ Some f.step = sym (x.agree.steps at (slice_get_within T.steps at f.step f.stands)) ∙ f.stands in
        f.illegal ((x.same at f.step f.stands).1 (legal.steps at f.step there))

  none_behind : (o : Option RecordFault) → IsReadAs rs P T o → (at : ℕ) → IsFirstIllegal P T at → (Q : Program) (U : Run) (e : RecordFault) → Legal Q U → IsReadAs rs Q U (Some e) → ⊥
  none_behind None stand at f Q U e legal one = no_fault rs Q P U T e stand one
  none_behind (Some d) read at f Q U e legal one = fault_behind (place_of rs P T d read) (read_stands rs P T d read) at f Q U e legal one

-- the fault of records with such a step
pub illegal_faulty : {X : Type 0} → RevivalKeepsSteps → (rs : List (List ℕ)) (P : Program) (T : Run) (o : Option RecordFault) → IsReadAs rs P T o → (place : ℕ) → IsFirstIllegal P T place → (fault at : ℕ) → IsRunFault rs fault at
    → IsFaultOrFailure {X = X} fault at (Err (Fault 5 place))
illegal_faulty law rs P T o read place f fault at (in_first x y lacks) = absurd (no_program rs P T o read lacks)
illegal_faulty law rs P T o read place f fault at (in_later Q U e same legal one) = absurd (none_behind law rs P T o read place f Q U e legal one)
illegal_faulty law rs P T o read place f fault at (in_step Q U five is h) =
    inl (ap₂ (λ (m n : ℕ). Err (Fault m n)) (sym five) (one_first P T place (len U) f (first_read law rs P T o read Q U h) ∙ sym is))

-- and of records without
pub legal_faulty : {X : Type 0} → RevivalKeepsSteps → (rs : List (List ℕ)) (P : Program) (T : Run) → StandsFor rs P T → Legal P T → (r : Result X JournalError) (fault at : ℕ) → IsRunFault rs fault at → IsFaultOrFailure fault at r
legal_faulty law rs P T stand legal r fault at (in_first x y lacks) = absurd (no_program rs P T None stand lacks)
legal_faulty law rs P T stand legal r fault at (in_later Q U e same other one) = absurd (no_fault rs Q P U T e stand one)
legal_faulty law rs P T stand legal r fault at (in_step Q U five is h) = absurd (none_first P T (len U) legal (first_read law rs P T None stand Q U h))

pub read_faulty : {X : Type 0} → RevivalKeepsSteps → (rs : List (List ℕ)) (P : Program) (T : Run) (d : RecordFault) → IsReadAs rs P T (Some d) → Legal P T → (r : Result X JournalError) → r ≡ Err (error_of d) → (fault at : ℕ) → IsRunFault rs fault at
    → IsFaultOrFailure fault at r
read_faulty law rs P T d one legal r is fault at (in_first x y lacks) = absurd (no_program rs P T (Some d) one lacks)
read_faulty law rs P T d one legal r is fault at (in_later Q U e same other two) = inl (is ∙ ap (λ (g : RecordFault). Err (error_of g)) (one_fault rs P Q T U d e one two) ∙ ap Err same)
read_faulty law rs P T d one legal r is fault at (in_step Q U five is_at h) = absurd (none_first P T (len U) legal (first_read law rs P T (Some d) one Q U h))

-- a first record that is no program
lacks_front : (rs : List (List ℕ)) (n : ℕ) (P : Program) (T : Run) → StandsFor (take n rs) P T → HasNoProgram rs → ⊥
lacks_front rs n P T stand lacks =
    let some : 1 ≤ n = omega (arith, length-take n rs, some_stand (take n rs) P T stand) in
    no_program (take n rs) P T None stand (record { first = lacks.first; is_first = slice_get-take n rs 0 (omega (arith, some)) ∙ lacks.is_first; none = lacks.none })

lacks_faulty : {X : Type 0} (rs : List (List ℕ)) (f a : ℕ) → (f ≡ 3) × (a ≡ 0) × HasNoProgram rs → (fault at : ℕ) → IsRunFault rs fault at → IsFaultOrFailure {X = X} fault at (Err (Fault f a))
lacks_faulty rs f a now fault at (in_first x y other) = inl (ap₂ (λ (m n : ℕ). Err (Fault m n)) (now.0 ∙ sym x) (now.1 ∙ sym y))
lacks_faulty rs f a now fault at (in_later P T e same legal one) = absurd (no_program rs P T (Some e) one now.2)
lacks_faulty rs f a now fault at (in_step P T five is h) = absurd (lacks_front rs h.place P T h.stand.stand now.2)

-- or whose reading failed
pub first_faulty : {X : Type 0} (rs : List (List ℕ)) (r : Result X JournalError) (e : JournalError) → r ≡ Err e → ((f a : ℕ) → e ≡ Fault f a → (f ≡ 3) × (a ≡ 0) × HasNoProgram rs) → (fault at : ℕ) → IsRunFault rs fault at → IsFaultOrFailure fault at r
first_faulty {X = X} rs r e is told fault at found =
    subst (λ q. IsFaultOrFailure fault at q) (sym is)
    (failed_or r e is (λ d. IsFaultOrFailure {X = X} fault at (Err d)) (inr (inl refl)) (inr (inr refl)) (λ f a same. lacks_faulty rs f a (told f a same) fault at found))

-- or the check failed
pub no_memory_told : {X : Type 0} (r : Result X JournalError) → IsErrAnd r (λ e. e ≡ NoMemory) → (fault at : ℕ) → IsFaultOrFailure fault at r
no_memory_told (Ok x) is fault at = absurd is
no_memory_told (Err e) is fault at = inr (inr (ap Err is))

-- what the check answers
pub is_legal : (P : Program) (T : Run) (l : Legality) (complete : Bool) → l ≡ answers.Legal complete → IsLegality P T l → Legal P T × (IsTrue complete ↔ Complete P T)
is_legal P T l complete is told = subst (IsLegality P T) is told

pub is_bad : (P : Program) (T : Run) (l : Legality) (place : ℕ) → l ≡ answers.Bad place → IsLegality P T l → IsFirstIllegal P T place
is_bad P T l place is told = subst (IsLegality P T) is told

-- what is told is the fault of that step
same_fault : {X : Type 0} (f a g b : ℕ) → ◌≡◌ {A = Result X JournalError} (Err (Fault f a)) (Err (Fault g b)) → (f ≡ g) × (a ≡ b)
same_fault f a g b same = (let first : f ≡ g = cc in first, let second : a ≡ b = cc in second)

pub fault_told : {X : Type 0} (rs : List (List ℕ)) (place fault at : ℕ) → ◌≡◌ {A = Result X JournalError} (Err (Fault 5 place)) (Err (Fault fault at)) → IsRunFault rs 5 place → IsRunFault rs fault at
fault_told {X = X} rs place fault at is found =
    let same = same_fault {X = X} 5 place fault at is in
    subst (λ (n : ℕ). IsRunFault rs n at) same.0 (subst (λ (n : ℕ). IsRunFault rs 5 n) same.1 found)
