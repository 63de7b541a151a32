-- What the command `check` writes.
use Rattle.std.specs.Prelude.{◌≡◌, ◌⊎◌, ℕ, List, ◌++◌, codes}
use Rattle.std.specs.Fmt.{decimal}
use Rattle.tau_tree.specs.declared.programs.Program.{Program}
use Rattle.tau_trace.specs.Run.{Run}
use Rattle.tau_past.specs.Safety.{Safe}
use Rattle.tau_legal.specs.Traces.{Legal, Complete}
use Rattle.tau_check.specs.Legality.{IsFirstIllegal}
use Rattle.tau_text.specs.Meaning.{IsRunInput}
use Rattle.tau_output.specs.declared.outputs.End.{End}
use Rattle.tau_output.specs.declared.outputs.End.TheVariants.{Done, Bad}

-- the line for a legal run, by whether it is complete
abbrev pub IsLegalLine : Program → Run → List ℕ → Type 0
IsLegalLine P T text = (Complete P T × (text ≡ codes "legal complete\n")) ⊎ ((¬ Complete P T) × (text ≡ codes "legal open\n"))

-- the line for a first illegal step
abbrev pub bad_line : ℕ → List ℕ
bad_line place = codes "bad step " ++ decimal place ++ codes "\n"

-- with Done each step of the run is legal after the steps before it, so the run is safe; with Bad the step at the place is the
-- first that isn't legal
abbrev pub IsChecked : Program → Run → End → List ℕ → Type 0
IsChecked P T Done text = Legal P T × Safe T × IsLegalLine P T text
IsChecked P T (Bad place) text = IsFirstIllegal P T place × (text ≡ bad_line place)
IsChecked P T end text = ⊥

-- for an input of these bytes `check` writes this text and ends so
pub record ChecksAs (bytes : List ℕ) (end : End) (text : List ℕ) : Type 0 where
  pub program : Program
  pub run : Run
  pub read : IsRunInput bytes program run
  pub checked : IsChecked program run end text
