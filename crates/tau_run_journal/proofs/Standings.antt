-- What records stand for, one after another.
use Rattle.std.proofs.Common.{◌≡◌, ◌≢◌, true, false, is_some, ℕ, ◌+◌, ◌≤◌, List, [], ◌∷◌, ◌++◌, length, take, Option, Some, None, refl, sym, ap, ◌∙◌, subst, arith}
use Rattle.std.specs.Prelude.{slice_get}
use Rattle.std.proofs.lemmas.List.{take_more, take_all}
use Rattle.std.proofs.lemmas.Option.{slice_get_within, get_or_from_slice_get}
use Rattle.tau_tree.specs.declared.programs.Program.{Program}
use Rattle.tau_tree.specs.Sound.{Sound}
use Rattle.tau_trace.specs.Run.{Run, appended}
use Rattle.tau_trace.proofs.Lists.{same_some}
use Rattle.tau_trace.proofs.Reading.{element}
use Rattle.tau_script.specs.declared.cursor.Cursor.{Cursor}
use Rattle.tau_journal.specs.Records.{going_on}
use Rattle.tau_revival.specs.Revival.{IsScriptFull, LeadsOn}
use Rattle.tau_run_journal.specs.Standing.{IsProgramText, opened, StandsFor, begins, stepped, resumed}
use Rattle.tau_run_journal.specs.declared.faults.RecordFault.{RecordFault}
use Rattle.tau_run_journal.specs.declared.faults.RecordFault.TheVariants.{Item, ScriptFull}
use Rattle.tau_run_journal.specs.Laws.{IsRunOf}
use Rattle.tau_run_journal.specs.Reading.{HasNoProgram, IsNoItem, IsReadAs}
use Rattle.tau_run_journal.specs.Inner.Items.{TakesMark, TakesItem, TellsProgram, IsFaultyAt, IsPassed}
use Rattle.tau_run_journal.proofs.Runs.{run_of as run_of_records}
use Rattle.tau_run_journal.proofs.Unique.{stands_once}
use Rattle.tau_run_journal.proofs.Once.{one_fault, some_front}

-- one record more is taken
taken_more : (rs : List (List ℕ)) (k : ℕ) (r : List ℕ) → slice_get rs k ≡ Some r → take (k + 1) rs ≡ take k rs ++ r ∷ []
taken_more rs k r at = take_more rs k r (slice_get_within rs k r at) ∙ ap (λ (q : List ℕ). take k rs ++ q ∷ []) (get_or_from_slice_get rs k r r at)

-- the first
first_taken : (rs : List (List ℕ)) (r : List ℕ) → slice_get rs 0 ≡ Some r → take 1 rs ≡ r ∷ []
first_taken [] r at = absurd (cc)
first_taken (q ∷ qs) r at = ap (λ (l : List ℕ). l ∷ []) (same_some at)

pub stands_first : (rs : List (List ℕ)) (P : Program) (U : Run) → 1 ≤ length rs → ((r : List ℕ) → slice_get rs 0 ≡ Some r → IsProgramText P r) → U ≡ opened P → StandsFor (take 1 rs) P U
stands_first rs P U some first is =
    let r = element rs 0 (omega (arith, some)) in
    subst (λ (V : Run). StandsFor (take 1 rs) P V) (sym is) (subst (λ (l : List (List ℕ)). StandsFor l P (opened P)) (sym (first_taken rs r.0 r.1)) (begins (first r.0 r.1)))

-- a record is taken, by what is made of it
module _ (rs : List (List ℕ)) (k : ℕ) (P : Program) (U : Run) (stand : StandsFor (take k rs) P U) (r : List ℕ) (at : slice_get rs k ≡ Some r) where
  pub mark_passed : r ≡ going_on → (Q : Program) (c : Cursor) (o : Option RecordFault) → TakesMark P U Q o → LeadsOn Q.script U c → IsPassed rs (k + 1) Q U c o
  mark_passed is Q c None revival leads = (subst (λ (l : List (List ℕ)). StandsFor l Q U) (sym (taken_more rs k r at)) (resumed stand is revival), leads)
  mark_passed is Q c (Some (ScriptFull n)) full leads =
      ((k, record { stand = subst (λ (X : Program). StandsFor (take k rs) X U) (sym full.0) stand; next = at ∙ ap Some is }, subst (λ (X : Program). IsScriptFull X n) (sym full.0) full.1), leads)
  mark_passed is Q c (Some (Item j)) none leads = absurd none

  pub item_passed : (V : Run) (c : Cursor) → TakesItem U r V true → LeadsOn P.script V c → IsPassed rs (k + 1) P V c None
  item_passed V c taken leads =
      (subst (λ (W : Run). StandsFor (take (k + 1) rs) P W) (sym taken.2) (subst (λ (l : List (List ℕ)). StandsFor l P (appended U taken.0)) (sym (taken_more rs k r at)) (stepped stand taken.1)), leads)

  pub item_left : r ≢ going_on → (V : Run) → TakesItem U r V false → IsFaultyAt rs k
  item_left other V none = (P, U, (r, record { stand = stand; next = at }, record { no_mark = other; no_step = none }))

-- without a fault
pub passed_none : (rs : List (List ℕ)) (n : ℕ) (P : Program) (T : Run) (c : Cursor) (o : Option RecordFault) → is_some o ≡ false → IsPassed rs n P T c o → IsPassed rs n P T c None
passed_none rs n P T c None other passed = passed
passed_none rs n P T c (Some e) other passed = cc

-- with one, among more records
pub passed_some : (rs : List (List ℕ)) (k n : ℕ) (P : Program) (T : Run) (c : Cursor) (o : Option RecordFault) → k ≤ n → is_some o ≡ true → IsPassed rs k P T c o → IsPassed rs n P T c o
passed_some rs k n P T c None le holds passed = cc
passed_some rs k n P T c (Some (Item j)) le holds passed = (omega (arith, le, passed.0), passed.1)
passed_some rs k n P T c (Some (ScriptFull m)) le holds passed = passed

-- all records
module _ (rs : List (List ℕ)) (n : ℕ) (all : length rs ≤ n) (P : Program) (T : Run) (c : Cursor) (o : Option RecordFault) (passed : IsPassed rs n P T c o) where
  pub all_stand : o ≡ None → IsReadAs rs P T o × LeadsOn P.script T c
  all_stand is =
      let both = subst (IsPassed rs n P T c) is passed in
      (subst (IsReadAs rs P T) (sym is) (subst (λ (l : List (List ℕ)). StandsFor l P T) (take_all n rs all) both.0), both.1)

  pub all_full : (e : RecordFault) (m : ℕ) → o ≡ Some e → e ≡ ScriptFull m → IsReadAs rs P T o × LeadsOn P.script T c
  all_full e m some full =
      let is : o ≡ Some (ScriptFull m) = some ∙ ap Some full in
      let both = subst (IsPassed rs n P T c) is passed in
      (subst (IsReadAs rs P T) (sym is) both.0, both.1)

  pub all_faulty : (e : RecordFault) (k : ℕ) → o ≡ Some e → e ≡ Item k → IsFaultyAt rs k
  all_faulty e k some item = (subst (IsPassed rs n P T c) (some ∙ ap Some item) passed).1

-- those before the first that can't stand where it does
module _ (rs : List (List ℕ)) (k : ℕ) (faulty : IsFaultyAt rs k) where
  pub faulty_behind : 1 ≤ k
  faulty_behind = some_front rs k faulty.0 faulty.1 faulty.2.1.stand

  pub faulty_within : k ≤ length rs
  faulty_within = omega (arith, slice_get_within rs k faulty.2.0 faulty.2.1.next)

  pub passed_again : (P : Program) (T : Run) (c : Cursor) (o : Option RecordFault) → IsPassed rs k P T c o → IsReadAs rs P T (Some (Item k)) × LeadsOn P.script T c
  passed_again P T c None passed =
      let same = stands_once (take k rs) (take k rs) P faulty.0 T faulty.1 passed.0 faulty.2.1.stand refl in
      ((faulty.2.0, record { stand = passed.0; next = faulty.2.1.next }, subst (λ (W : Run). IsNoItem W faulty.2.0) (sym same.1) faulty.2.2), passed.1)
  passed_again P T c (Some (Item j)) passed =
      let e : Item j ≡ Item k = one_fault rs passed.1.0 faulty.0 passed.1.1 faulty.1 (Item j) (Item k) passed.1.2 faulty.2 in
      let same : j ≡ k = cc in
      absurd (omega (arith, same, passed.0))
  passed_again P T c (Some (ScriptFull m)) passed =
      let e : ScriptFull m ≡ Item k = one_fault rs P faulty.0 T faulty.1 (ScriptFull m) (Item k) passed.0 faulty.2 in
      absurd (cc)

-- what is read is a run of a sound program
pub run_read : (rs : List (List ℕ)) (P : Program) (T : Run) (o : Option RecordFault) → IsReadAs rs P T o → IsRunOf P T
run_read rs P T None stand = run_of_records rs P T stand
run_read rs P T (Some (Item k)) one = run_of_records (take k rs) P T one.1.stand
run_read rs P T (Some (ScriptFull n)) one = run_of_records (take one.0 rs) P T one.1.stand

-- the first record
pub first_told : (rs : List (List ℕ)) (q : List ℕ) (o : Option Program) → Some q ≡ slice_get rs 0 → TellsProgram q o → (r : List ℕ) → slice_get rs 0 ≡ Some r → TellsProgram r o
first_told rs q o at told r first = subst (λ (l : List ℕ). TellsProgram l o) (same_some (at ∙ first)) told

pub sound_first : (rs : List (List ℕ)) (P : Program) → 1 ≤ length rs → ((r : List ℕ) → slice_get rs 0 ≡ Some r → IsProgramText P r) → Sound P
sound_first rs P some first = let r = element rs 0 (omega (arith, some)) in (first r.0 r.1).sound

pub no_text : (rs : List (List ℕ)) → 1 ≤ length rs → ((r : List ℕ) → slice_get rs 0 ≡ Some r → TellsProgram r None) → HasNoProgram rs
no_text rs some first = let r = element rs 0 (omega (arith, some)) in record { first = r.0; is_first = r.1; none = first r.0 r.1 }

pub some_text : (rs : List (List ℕ)) (P : Program) (o : Option Program) → o ≡ Some P → ((r : List ℕ) → slice_get rs 0 ≡ Some r → TellsProgram r o) → (r : List ℕ) → slice_get rs 0 ≡ Some r → IsProgramText P r
some_text rs P o is told r first = subst (TellsProgram r) is (told r first)
