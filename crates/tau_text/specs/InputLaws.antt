-- What holds of all inputs.
use Rattle.std.specs.Prelude.{◌≡◌, ℕ, List}
use Rattle.tau_tree.specs.declared.programs.Program.{Program}
use Rattle.tau_trace.specs.Run.{Run}
use Rattle.tau_text.specs.Laws as texts
use Rattle.tau_text.specs.Meaning.{IsRunInput, IsPrintInput}

-- bytes have one meaning at most, one fault at most, and not both
pub record IsUnique {A : Type 0} (M : A → Type 0) (F : ℕ → ℕ → Type 0) : Type 0 where
  pub one_meaning : (x y : A) → M x → M y → x ≡ y
  pub one_fault : (a b c d : ℕ) → F a b → F c d → (a ≡ c) × (b ≡ d)
  pub not_both : (x : A) (a b : ℕ) → M x → ¬ F a b

-- the bytes mean the program and the run of a pair
abbrev pub IsRunInputOf : List ℕ → Program × Run → Type 0
IsRunInputOf bytes x = IsRunInput bytes x.0 x.1

-- the run text of a program and a run means the two, and with `print` the program
abbrev pub RunTextsAreReadBack : Type 0
RunTextsAreReadBack = (p : Program) (T : Run) (text : List ℕ) → texts.TellsRun p T text → IsRunInput text p T × IsPrintInput text p
