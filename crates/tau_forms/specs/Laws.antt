-- What holds of all forms.
use Rattle.std.specs.Prelude.{◌≡◌, List}
use Rattle.tau_sexpr.specs.Tree.{Tree}
use Rattle.tau_tree.specs.declared.programs.Program.{Program}
use Rattle.tau_forms.specs.Meaning.{Means}

-- forms mean one program at most
abbrev pub MeanOneProgram : Type 0
MeanOneProgram = (ts : List Tree) (p q : Program) → Means ts p → Means ts q → p ≡ q
