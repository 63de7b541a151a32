-- Laws of storms, each the contract of a function of the crate.
use Rattle.std.specs.Prelude.{◌≡◌, ◌≢◌, ◌⊎◌, ◌↔◌, ◌≤◌, ◌∷◌, ℕ, List, [], Some, Contains}
use Rattle.std.specs.List.{AllPairs}
use Rattle.tau_value.specs.declared.limits.TheConstants.{STEP_LIMIT}
use Rattle.tau_tree.specs.declared.entries.Entry.{Entry}
use Rattle.tau_tree.specs.declared.entries.Failure.{Failure}
use Rattle.tau_tree.specs.declared.programs.Program.{Program}
use Rattle.tau_tree.specs.Sound.{Sound}
use Rattle.tau_trace.specs.declared.step.Step.{Step}
use Rattle.tau_trace.specs.Run.{Run, Agree, len, step_at}
use Rattle.tau_trace.specs.Known.{WellFormed}
use Rattle.tau_past.specs.Safety.{Safe}
use Rattle.tau_script.specs.Cursors.{IsDueAs}
use Rattle.tau_legal.specs.Traces.{Legal, Complete}
use Rattle.tau_book.specs.SerialRun.{IsSerialRun}
use Rattle.tau_faults.specs.declared.setting.Setting.{Setting}
use Rattle.tau_faults.specs.Faults.{IsFaulted}
use Rattle.tau_faults.specs.Ends.{End, Storms, IsEnd, AreEnds}

-- the entries of the first two lists, each in its order, are those of the third
pub data AreMerged : List Entry → List Entry → List Entry → Type 0 where
  none : AreMerged [] [] []
  of_first : {e : Entry} {one other both : List Entry} → AreMerged one other both → AreMerged (e ∷ one) other (e ∷ both)
  of_other : {e : Entry} {one other both : List Entry} → AreMerged one other both → AreMerged one (e ∷ other) (e ∷ both)

-- the program of an end is O but for its script, which is that of O and the faults, both in their order
pub record IsProgramOf (O : Program) (e : End) : Type 0 where
  pub sound : Sound e.program
  pub parts : e.program ≡ record O { script = e.program.script }
  pub script : AreMerged O.script e.faults e.program.script

-- the run of an end is a run as every other: each step names what exists before it, and is legal; it is complete or has as many steps as
-- the limit; and it is safe
pub record IsRunOf (limit : ℕ) (e : End) : Type 0 where
  pub well_formed : WellFormed e.run
  pub legal : Legal e.program e.run
  pub within : len e.run ≤ limit
  pub ends : Complete e.program e.run ⊎ (len e.run ≡ limit)
  pub safe : Safe e.run

-- so it is where the limit is one that a trace can have
abbrev pub EndsAreRuns : Type 0
EndsAreRuns = (O : Program) (S : Setting) (e : End) → Sound O → S.steps ≤ STEP_LIMIT → IsEnd O S e → IsProgramOf O e × IsRunOf S.steps e

-- the serial run of a program with one fault more has the steps before the fault, and then the fault's
pub record HasFaultAt (T U : Run) (k : ℕ) (f : Failure) : Type 0 where
  pub front : Agree T U k
  pub step : Step
  pub stands : step_at U k ≡ Some step
  pub of_fault : IsDueAs T k 0 f (Some step)

abbrev pub FaultsComeWhereTheyArePut : Type 0
FaultsComeWhereTheyArePut = (P Q : Program) (jobs seed limit every k : ℕ) (f : Failure) (T U : Run) → Sound P → IsSerialRun P jobs seed limit T → IsFaulted every P T k f Q
    → IsSerialRun Q jobs seed limit U → HasFaultAt T U k f

-- so no two programs of a storm are the same but where they have the same faults
abbrev pub ProgramsTellTheirFaults : Type 0
ProgramsTellTheirFaults = (O P : Program) (S : Setting) (seed from start : ℕ) (faults others : List Entry) → Sound O → Storms O S seed from faults P → Storms O S seed start others P → faults ≡ others

-- the list of the ends with a seed holds each end once, and nothing else
pub record AreAllEnds (O : Program) (S : Setting) (seed : ℕ) (ends : List End) : Type 0 where
  pub all : (e : End) → Contains ends e ↔ ((e.seed ≡ seed) × IsEnd O S e)
  pub once : AllPairs (λ a b. a.faults ≢ b.faults) ends

abbrev pub EndsAreListed : Type 0
EndsAreListed = (O : Program) (S : Setting) (seed : ℕ) (ends : List End) → Sound O → AreEnds S seed O ends → AreAllEnds O S seed ends

-- and there is one such list at most
abbrev pub EndsAreUnique : Type 0
EndsAreUnique = (O : Program) (S : Setting) (seed : ℕ) (ends others : List End) → AreEnds S seed O ends → AreEnds S seed O others → ends ≡ others
