-- Records are read in one way.
use Rattle.std.proofs.Common.{◌≡◌, ◌⊎◌, ⊎_elim, ℕ, ◌<◌, ◌≤◌, List, length, take, Option, Some, None, refl, sym, ap, ◌∙◌, subst, arith, length-take}
use Rattle.std.specs.Prelude.{slice_get}
use Rattle.std.proofs.lemmas.List.{take-take}
use Rattle.std.proofs.lemmas.Option.{slice_get_within}
use Rattle.tau_tree.specs.declared.programs.Program.{Program}
use Rattle.tau_trace.specs.Run.{Run}
use Rattle.tau_trace.proofs.Lists.{same_some, slice_get-take}
use Rattle.tau_journal.specs.Records.{going_on}
use Rattle.tau_revival.specs.Revival.{IsScriptFull}
use Rattle.tau_run_journal.specs.declared.faults.RecordFault.{RecordFault}
use Rattle.tau_run_journal.specs.declared.faults.RecordFault.TheVariants.{Item, ScriptFull}
use Rattle.tau_run_journal.specs.Standing.{IsProgramText, StandsFor}
use Rattle.tau_run_journal.specs.Reading.{HasNoProgram, StandsTo, IsNoItem, IsReadAs}
use Rattle.tau_run_journal.proofs.Unique.{no_step_going_on, Follows, by_step, by_mark, some_stand, stands_once, stands_before, begins_with}

-- nothing is made of a program and a run by this record
abbrev pub NoneFollows : Program → Run → List ℕ → Type 0
NoneFollows P T r = (Q : Program) (U : Run) → ¬ Follows P T r Q U

none_by_item : (P : Program) (T : Run) (r : List ℕ) → IsNoItem T r → NoneFollows P T r
none_by_item P T r lacks Q U (by_step s text p u) = lacks.no_step s text
none_by_item P T r lacks Q U (by_mark is revival u) = lacks.no_mark is

none_by_mark : (P : Program) (T : Run) (n : ℕ) → IsScriptFull P n → NoneFollows P T going_on
none_by_mark P T n full Q U (by_step s text p u) = no_step_going_on T s text
none_by_mark P T n full Q U (by_mark is revival u) = omega (arith, full.1, revival.few)

-- the first of records that stand for something
pub some_front : (rs : List (List ℕ)) (k : ℕ) (P : Program) (T : Run) → StandsFor (take k rs) P T → 1 ≤ k
some_front rs k P T stand = omega (arith, length-take k rs, some_stand (take k rs) P T stand)

-- no records that stand for something go past such a record
never_past : (rs : List (List ℕ)) (Q : Program) (U : Run) → StandsFor rs Q U → (k : ℕ) (P : Program) (T : Run) (r : List ℕ) → StandsTo rs k P T r → NoneFollows P T r → ⊥
never_past rs Q U stand k P T r to none =
    let b = stands_before rs Q U stand k (some_front rs k P T to.stand) (slice_get_within rs k r to.next) in
    let same = stands_once (take k rs) (take k rs) b.program P b.run T b.stand to.stand refl in
    let here : b.next ≡ r = same_some (sym b.next_is ∙ to.next) in
    none b.after b.run_after
    (subst (λ (l : List ℕ). Follows P T l b.after b.run_after) here
    (subst (λ (X : Run). Follows P X b.next b.after b.run_after) same.1 (subst (λ (X : Program). Follows X b.run b.next b.after b.run_after) same.0 b.follows)))

-- two such records
module _ (rs : List (List ℕ)) where
  no_earlier : (k j : ℕ) (P Q : Program) (T U : Run) (r q : List ℕ) → StandsTo rs k P T r → StandsTo rs j Q U q → NoneFollows P T r → k < j → ⊥
  no_earlier k j P Q T U r q one two none lt =
      never_past (take j rs) Q U two.stand k P T r
      (record { stand = subst (λ (l : List (List ℕ)). StandsFor l P T) (sym (take-take k j rs (omega (arith, lt)))) one.stand; next = slice_get-take j rs k lt ∙ one.next }) none

  sorted : (k j : ℕ) → (k < j) ⊎ ((j < k) ⊎ (k ≡ j))
  sorted k j = grind arith

  same_place : (k j : ℕ) (P Q : Program) (T U : Run) (r q : List ℕ) → StandsTo rs k P T r → StandsTo rs j Q U q → NoneFollows P T r → NoneFollows Q U q → k ≡ j
  same_place k j P Q T U r q one two none other =
      ⊎_elim (λ l. absurd (no_earlier k j P Q T U r q one two none l)) (⊎_elim (λ l. absurd (no_earlier j k Q P U T q r two one other l)) (λ e. e)) (sorted k j)

  same_next : (k j : ℕ) (P Q : Program) (T U : Run) (r q : List ℕ) → StandsTo rs k P T r → StandsTo rs j Q U q → k ≡ j → r ≡ q
  same_next k j P Q T U r q one two e = same_some (sym one.next ∙ ap (slice_get rs) e ∙ two.next)

  -- one fault
  pub one_fault : (P Q : Program) (T U : Run) (e f : RecordFault) → IsReadAs rs P T (Some e) → IsReadAs rs Q U (Some f) → e ≡ f
  one_fault P Q T U (Item k) (Item j) one two = ap Item (same_place k j P Q T U one.0 two.0 one.1 two.1 (none_by_item P T one.0 one.2) (none_by_item Q U two.0 two.2))
  one_fault P Q T U (Item k) (ScriptFull m) one two =
      let place = same_place k two.0 P Q T U one.0 going_on one.1 two.1 (none_by_item P T one.0 one.2) (none_by_mark Q U m two.2) in
      absurd (one.2.no_mark (same_next k two.0 P Q T U one.0 going_on one.1 two.1 place))
  one_fault P Q T U (ScriptFull n) (Item j) one two =
      let place = same_place j one.0 Q P U T two.0 going_on two.1 one.1 (none_by_item Q U two.0 two.2) (none_by_mark P T n one.2) in
      absurd (two.2.no_mark (same_next j one.0 Q P U T two.0 going_on two.1 one.1 place))
  one_fault P Q T U (ScriptFull n) (ScriptFull m) one two =
      let place = same_place one.0 two.0 P Q T U going_on going_on one.1 two.1 (none_by_mark P T n one.2) (none_by_mark Q U m two.2) in
      let same = stands_once (take one.0 rs) (take two.0 rs) P Q T U one.1.stand two.1.stand (ap (λ (k : ℕ). take k rs) place) in
      ap ScriptFull (one.2.0 ∙ ap (λ (X : Program). length X.script) same.0 ∙ sym two.2.0)

  -- or none
  pub no_fault : (P Q : Program) (T U : Run) (e : RecordFault) → StandsFor rs Q U → IsReadAs rs P T (Some e) → ⊥
  no_fault P Q T U (Item k) stand one = never_past rs Q U stand k P T one.0 one.1 (none_by_item P T one.0 one.2)
  no_fault P Q T U (ScriptFull n) stand one = never_past rs Q U stand one.0 P T going_on one.1 (none_by_mark P T n one.2)

  -- a record with a program's text comes first
  no_program_front : (k : ℕ) (P : Program) (T : Run) → StandsFor (take k rs) P T → HasNoProgram rs → ⊥
  no_program_front k P T stand lacks =
      let b = begins_with (take k rs) P T stand in
      let same : b.first ≡ lacks.first = same_some (sym b.first_is ∙ slice_get-take k rs 0 (omega (arith, some_front rs k P T stand)) ∙ lacks.is_first) in
      lacks.none b.program (subst (IsProgramText b.program) same b.text)

  pub no_program : (P : Program) (T : Run) (o : Option RecordFault) → IsReadAs rs P T o → HasNoProgram rs → ⊥
  no_program P T None stand lacks =
      let b = begins_with rs P T stand in
      lacks.none b.program (subst (IsProgramText b.program) (same_some (sym b.first_is ∙ lacks.is_first)) b.text)
  no_program P T (Some (Item k)) one lacks = no_program_front k P T one.1.stand lacks
  no_program P T (Some (ScriptFull n)) one lacks = no_program_front one.0 P T one.1.stand lacks
