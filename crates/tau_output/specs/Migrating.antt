-- What the command `migrate` writes (docs/formats.md, "Migration").
use Rattle.std.specs.Prelude.{◌≡◌, ℕ, List}
use Rattle.tau_tree.specs.declared.programs.Program.{Program}
use Rattle.tau_trace.specs.Run.{Run, second}
use Rattle.tau_trace.specs.Known.{WellFormed}
use Rattle.tau_past.specs.Safety.{Safe}
use Rattle.tau_legal.specs.Traces.{Legal}
use Rattle.tau_check.specs.Legality.{IsFirstIllegal}
use Rattle.tau_text.specs.Meaning.{IsRunInput}
use Rattle.tau_text.specs.RunText.{IsRunText, IsReadBack}
use Rattle.tau_output.specs.declared.outputs.End.{End}
use Rattle.tau_output.specs.declared.outputs.End.TheVariants.{Done, Bad}
use Rattle.tau_output.specs.Checks.{bad_line}

-- the same program in version 2
abbrev pub second_program : Program → Program
second_program P = record P { version = 2 }

-- the text is the run text of the program and the run, from which both can be read back, and each step of the run is legal after
-- the steps before it, so that the run is safe
pub record IsLegalText (P : Program) (T : Run) (text : List ℕ) : Type 0 where
  pub well_formed : WellFormed T
  pub legal : Legal P T
  pub safe : Safe T
  pub is_text : IsRunText P T text
  pub read_back : IsReadBack P T text

-- with Done the text is that of the program and the run, which is legal; with Bad the step at the place is the first that isn't
abbrev pub IsRewritten : Program → Run → End → List ℕ → Type 0
IsRewritten P T Done text = IsLegalText P T text
IsRewritten P T (Bad place) text = IsFirstIllegal P T place × (text ≡ bad_line place)
IsRewritten P T end text = ⊥

-- for an input of these bytes `migrate` writes this text and ends so: the program is the one that was read, in version 2, and the
-- run has the same steps
pub record MigratesAs (bytes : List ℕ) (end : End) (text : List ℕ) : Type 0 where
  pub program : Program
  pub run : Run
  pub read : IsRunInput bytes program run
  pub migrated : IsRewritten (second_program program) (second run) end text
