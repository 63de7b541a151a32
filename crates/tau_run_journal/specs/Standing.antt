-- What the records of a journal stand for (docs/journal.md, "What the records mean").
use Rattle.std.specs.Prelude.{◌≡◌, ℕ, List, [], ◌∷◌, ◌++◌, ◌⊎◌, Option}
use Rattle.tau_sexpr.specs.Tree.{Tree}
use Rattle.tau_sexpr.specs.Printing.{printed}
use Rattle.tau_sexpr.specs.Spelling.{IsSpelling}
use Rattle.tau_tree.specs.declared.programs.Program.{Program}
use Rattle.tau_tree.specs.Sound.{Sound}
use Rattle.tau_forms.specs.Printed as forms
use Rattle.tau_trace.specs.declared.step.Step.{Step}
use Rattle.tau_trace.specs.Run.{Run, len, appended}
use Rattle.tau_trace.specs.Numbering.{born, sent, number_made}
use Rattle.tau_trace.specs.Known.{MayFollow}
use Rattle.tau_script.specs.Openings.{program_opening}
use Rattle.tau_steps.specs.Meaning.{MeansStep}
use Rattle.tau_steps.specs.StepForms.{step_form}
use Rattle.tau_text.specs.Meaning.{IsProgram}
use Rattle.tau_journal.specs.Records.{AreRecords, TellsRecords, going_on}
use Rattle.tau_journal.specs.Found.{IsBlank}
use Rattle.tau_revival.specs.Revival.{IsRevival}

-- the form of step s behind the run T
abbrev pub form_behind : Run → Step → Tree
form_behind T s = step_form T.opening (number_made s (born T (len T)) (sent T (len T))) s

-- the record is the text of a sound program: its forms as they are printed, which are read back as it
pub record IsProgramText (P : Program) (r : List ℕ) : Type 0 where
  pub sound : Sound P
  pub is : r ≡ printed (forms.printed P)
  pub read_back : IsProgram r P

-- the record is the text of step s behind the run T: its form as it is printed, with a line feed, which is read back as
-- that form and means s there
pub record IsStepText (T : Run) (s : Step) (r : List ℕ) : Type 0 where
  pub may : MayFollow T s
  pub is : r ≡ printed (form_behind T s ∷ [])
  pub spelled : IsSpelling r (form_behind T s ∷ [])
  pub means : MeansStep T.opening (born T (len T)) (sent T (len T)) (form_behind T s) s

-- the step has a text there
abbrev pub HasStepText : Run → Step → Type 0
HasStepText T s = (r : List ℕ) × IsStepText T s r

-- the run of a program before its first step
abbrev pub opened : Program → Run
opened P = record { opening = program_opening P; steps = [] }

-- records stand for a program and a run: the first is the program's text, and then each is the text of the next step, or
-- says that the run went on after a stop, by the revival of the program
pub data StandsFor : List (List ℕ) → Program → Run → Type 0 where
  begins : {P : Program} {r : List ℕ} → IsProgramText P r → StandsFor (r ∷ []) P (opened P)
  stepped : {rs : List (List ℕ)} {P : Program} {T : Run} {s : Step} {r : List ℕ} → StandsFor rs P T → IsStepText T s r → StandsFor (rs ++ r ∷ []) P (appended T s)
  resumed : {rs : List (List ℕ)} {P Q : Program} {T : Run} {r : List ℕ} → StandsFor rs P T → r ≡ going_on → IsRevival P T Q → StandsFor (rs ++ r ∷ []) Q T

-- bytes stand for a program and a run
pub record Stands (file : List ℕ) (P : Program) (T : Run) : Type 0 where
  pub records : List (List ℕ)
  pub are : AreRecords records file
  pub stand : StandsFor records P T

-- a disk tells records, which end at the gate, and they stand for a program and a run
pub record StandsAt (bytes : Option (List ℕ)) (gate : ℕ) (P : Program) (T : Run) : Type 0 where
  pub records : List (List ℕ)
  pub told : TellsRecords bytes records gate
  pub stand : StandsFor records P T

-- bytes stand for a program and a run, or for another of them
abbrev pub StandsForEither : Program → Run → Program → Run → List ℕ → Type 0
StandsForEither P T Q U file = Stands file P T ⊎ Stands file Q U

-- there is no journal, or its one record is the text of the program
abbrev pub IsBlankOrBegins : Program → List ℕ → Type 0
IsBlankOrBegins P file = IsBlank file ⊎ ((r : List ℕ) × IsProgramText P r × AreRecords (r ∷ []) file)
