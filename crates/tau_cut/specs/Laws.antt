-- Laws of cuts, each the contract of a function of the crate.
use Rattle.std.specs.Prelude.{◌≡◌, ℕ, List}
use Rattle.tau_tree.specs.declared.programs.Program.{Program}
use Rattle.tau_trace.specs.Run.{Run}
use Rattle.tau_cut.specs.declared.cut.Marked.{Marked}
use Rattle.tau_cut.specs.Cuts.{IsCut}
use Rattle.tau_cut.specs.Texts.{IsCutText}

-- a trace has one cut
abbrev pub CutsAreUnique : Type 0
CutsAreUnique = (T : Run) (marks others : List Marked) → IsCut T marks → IsCut T others → marks ≡ others

-- and with a program it has one text
abbrev pub CutTextsAreUnique : Type 0
CutTextsAreUnique = (P : Program) (T : Run) (bytes others : List ℕ) → IsCutText P T bytes → IsCutText P T others → bytes ≡ others
