-- What the commands `print` and `gen` write.
use Rattle.std.specs.Prelude.{◌≡◌, ℕ, List}
use Rattle.tau_sexpr.specs.Printing.{printed}
use Rattle.tau_tree.specs.declared.programs.Program.{Program}
use Rattle.tau_forms.specs.Printed as forms
use Rattle.tau_gen.specs.Generated.{generated}
use Rattle.tau_text.specs.Meaning.{IsProgram, IsPrintInput}

-- for an input of these bytes `print` writes this text: the printed forms of its program
pub record PrintsAs (bytes text : List ℕ) : Type 0 where
  pub program : Program
  pub read : IsPrintInput bytes program
  pub is_text : text ≡ printed (forms.printed program)

-- `gen` writes this text: the printed forms of the generated program of the number, which are read back as that program
pub record GeneratesAs (number : ℕ) (text : List ℕ) : Type 0 where
  pub is_text : text ≡ printed (forms.printed (generated number))
  pub read_back : IsProgram text (generated number)
