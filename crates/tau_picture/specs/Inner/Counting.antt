-- The marks that are In, and the line of the counts.
use Rattle.std.specs.Prelude.{ℕ, ◌++◌, codes}
use Rattle.tau_report.specs.declared.counts.Counts.{Counts}
use Rattle.tau_svg.specs.Markup.Lines.{Line}
use Rattle.tau_svg.specs.Shapes.Shapes.{text_at}
use Rattle.tau_cut.specs.declared.cut.Marked.{Marked}
use Rattle.tau_cut.specs.declared.cut.Marked.TheVariants.{In, Out}
use Rattle.tau_picture.specs.Headings.{counts_pieces, left_out_pieces}

-- 1 where a mark is In
abbrev pub one_in : Marked → ℕ
one_in (In k) = 1
one_in (Out k chain) = 0

-- the line of the counts, of a run of so many steps
abbrev pub counts_text : Counts → ℕ → ℕ → Line
counts_text c kept steps = text_at (codes "row") 16 50 (counts_pieces c.checkpoints kept c.holds c.drops c.falls c.losses ++ left_out_pieces steps)
