-- What is left of a disk on which a program is revived, and why it isn't (docs/journal.md, "Going on").
use Rattle.std.specs.Prelude.{◌≡◌, ◌⊎◌, ℕ, List, Option}
use Rattle.tau_tree.specs.declared.programs.Program.{Program}
use Rattle.tau_trace.specs.Run.{Run}
use Rattle.tau_journal.specs.Room.{IsTooLarge}
use Rattle.tau_journal.specs.declared.errors.JournalError.TheVariants.{Fault}
use Rattle.tau_revival.specs.Revival.{IsRevival, IsScriptFull}
use Rattle.tau_run_journal.specs.Standing.{Stands}

-- bytes stand for the program and the run, or for the program's revival and the run
abbrev pub StandsForRevival : Program → Run → List ℕ → Type 0
StandsForRevival P T file = Stands file P T ⊎ ((Q : Program) × IsRevival P T Q × Stands file Q T)

-- a program isn't revived: its script has no room, or the disk has none for so many bytes
abbrev pub IsReviveFault : Program → Option (List ℕ) → ℕ → ℕ → ℕ → Type 0
IsReviveFault P told need fault at = ((fault ≡ 6) × IsScriptFull P at)
    ⊎ (((n : ℕ) → ¬ IsScriptFull P n) × IsTooLarge told need (Fault fault at))
