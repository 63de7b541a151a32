-- Lists of lines are written one behind the other.
use Rattle.std.proofs.Common.{◌≡◌, ℕ, List, ◌++◌}
use Rattle.tau_svg.specs.Markup.Lines.{Line, with_lines}
use Rattle.tau_svg.proofs.LineLemmas.{lines_joined}

pub joined : (out : List ℕ) (ls ks : List Line) → with_lines out (ls ++ ks) ≡ with_lines (with_lines out ls) ks
joined out ls ks = lines_joined out ls ks
