-- Laws of markup, each the contract of a function of the crate.
use Rattle.std.specs.Prelude.{◌≡◌, ℕ, List, ◌++◌}
use Rattle.tau_svg.specs.Markup.Lines.{Line, text_of, with_lines}

-- lines that are written one after another stand behind what was written
abbrev pub LinesAreAppended : Type 0
LinesAreAppended = (out : List ℕ) (ls : List Line) → with_lines out ls ≡ out ++ text_of ls

-- and one behind the other
abbrev pub LinesAreJoined : Type 0
LinesAreJoined = (out : List ℕ) (ls ks : List Line) → with_lines out (ls ++ ks) ≡ with_lines (with_lines out ls) ks
