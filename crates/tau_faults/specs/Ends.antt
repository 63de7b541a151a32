-- The ends of a storm (docs/definitions.md, "Storm").
use Rattle.std.specs.Prelude.{◌<◌, ◌≤◌, ◌++◌, ◌∷◌, ℕ, suc, Bool, true, false, List, [], count_by}
use Rattle.tau_tree.specs.declared.entries.Entry.{Entry}
use Rattle.tau_tree.specs.declared.entries.Failure.{Failure}
use Rattle.tau_tree.specs.declared.entries.Failure.TheVariants.{Fail, Lose, Repeat}
use Rattle.tau_tree.specs.declared.programs.Program.{Program}
use Rattle.tau_trace.specs.Run.{Run, len}
use Rattle.tau_book.specs.SerialRun.{IsSerialRun}
use Rattle.tau_faults.specs.declared.setting.FaultCounts.{FaultCounts}
use Rattle.tau_faults.specs.declared.setting.Setting.{Setting}
use Rattle.tau_faults.specs.Faults.{IsFaulted, AreFaultsAt, fewer}

-- an end of a storm: a seed, the program with some faults in its script, these faults in the order in which they come, and the
-- program's serial run
pub record End : Type 0 where
  pub seed : ℕ
  pub program : Program
  pub faults : List Entry
  pub run : Run

-- the programs of the storm of O with a seed: O itself, and each with one fault more, behind those that it has; `from` is the first
-- place at which the next one may come
pub data Storms (O : Program) (S : Setting) (seed : ℕ) : (from : ℕ) → List Entry → Program → Type 0 where
  itself : Storms O S seed 0 [] O
  further : {from k : ℕ} {faults : List Entry} {P Q : Program} {T : Run} {f : Failure} → Storms O S seed from faults P → IsSerialRun P S.jobs seed S.steps T → from ≤ k
      → IsFaulted S.every P T k f Q → Storms O S seed (suc k) (faults ++ record { at = k; failure = f } ∷ []) Q

-- whether an entry is of each kind
abbrev pub is_failing : Failure → Bool
is_failing (Fail n) = true
is_failing f = false

abbrev pub is_losing : Failure → Bool
is_losing (Lose m) = true
is_losing f = false

abbrev pub is_repeating : Failure → Bool
is_repeating (Repeat m) = true
is_repeating f = false

-- of each kind there are at most so many
pub record IsWithin (most : FaultCounts) (faults : List Entry) : Type 0 where
  pub fails : count_by (λ e. is_failing e.failure) faults ≤ most.fails
  pub losses : count_by (λ e. is_losing e.failure) faults ≤ most.losses
  pub repeats : count_by (λ e. is_repeating e.failure) faults ≤ most.repeats

-- an end of the storm of O: its program is one of the storm with its seed, with at most so many faults, and its run is that one's serial run
pub record IsEnd (O : Program) (S : Setting) (e : End) : Type 0 where
  pub from : ℕ
  pub comes : Storms O S e.seed from e.faults e.program
  pub few : IsWithin S.faults e.faults
  pub serial : IsSerialRun e.program S.jobs e.seed S.steps e.run

mutual
  -- the ends that come from a program with these faults, where so many are left and the next one comes at place `from` at the
  -- earliest: that of its own serial run, and then those with a next fault
  pub data EndsFrom (S : Setting) (seed : ℕ) : FaultCounts → ℕ → List Entry → Program → List End → Type 0 where
    run : {left : FaultCounts} {from : ℕ} {faults : List Entry} {P : Program} {T : Run} {later : List End} → IsSerialRun P S.jobs seed S.steps T
        → EndsBelow S seed left from faults P T (len T) later
        → EndsFrom S seed left from faults P (record { seed = seed; program = P; faults = faults; run = T } ∷ later)

  -- those whose next fault comes before place k of the program's run, by place
  pub data EndsBelow (S : Setting) (seed : ℕ) : FaultCounts → ℕ → List Entry → Program → Run → ℕ → List End → Type 0 where
    none : {left : FaultCounts} {from : ℕ} {faults : List Entry} {P : Program} {T : Run} → EndsBelow S seed left from faults P T 0 []
    early : {left : FaultCounts} {from k : ℕ} {faults : List Entry} {P : Program} {T : Run} {ends : List End} → k < from → EndsBelow S seed left from faults P T k ends
        → EndsBelow S seed left from faults P T (suc k) ends
    at : {left : FaultCounts} {from k : ℕ} {faults : List Entry} {P : Program} {T : Run} {here : List Failure} {before ends : List End} → from ≤ k
        → EndsBelow S seed left from faults P T k before → AreFaultsAt S.every left P T k here → EndsWith S seed left faults P T k here ends
        → EndsBelow S seed left from faults P T (suc k) (before ++ ends)

  -- those whose next fault is one of these at place k, one fault after another
  pub data EndsWith (S : Setting) (seed : ℕ) : FaultCounts → List Entry → Program → Run → ℕ → List Failure → List End → Type 0 where
    no_fault : {left : FaultCounts} {faults : List Entry} {P : Program} {T : Run} {k : ℕ} → EndsWith S seed left faults P T k [] []
    more : {left : FaultCounts} {faults : List Entry} {P Q : Program} {T : Run} {k : ℕ} {f : Failure} {others : List Failure} {ends later : List End}
        → IsFaulted S.every P T k f Q → EndsFrom S seed (fewer left f) (suc k) (faults ++ record { at = k; failure = f } ∷ []) Q ends
        → EndsWith S seed left faults P T k others later → EndsWith S seed left faults P T k (f ∷ others) (ends ++ later)

-- the ends of the storm of O with a seed, in their order
abbrev pub AreEnds : Setting → ℕ → Program → List End → Type 0
AreEnds S seed O ends = EndsFrom S seed S.faults 0 [] O ends
