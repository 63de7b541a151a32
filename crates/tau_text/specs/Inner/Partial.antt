-- What the bytes of a run text mean up to a place, where it is read in parts.
use Rattle.std.specs.Prelude.{◌≡◌, ℕ, List, [], ◌∷◌, codes}
use Rattle.tau_sexpr.specs.Tree.{Tree}
use Rattle.tau_sexpr.specs.Spelling.{IsSpelling}
use Rattle.tau_tree.specs.Sound.{Sound}
use Rattle.tau_text.specs.Meaning.{MeansMarkedRun}
use Rattle.tau_text.specs.Parts.{is_marked, behind}
use Rattle.tau_text.specs.declared.by_parts.PartialText.{PartialText}

-- what ends behind this byte ends with a line feed
abbrev pub EndsAfter : ℕ → List ℕ → Type 0
EndsAfter last [] = last ≡ 10
EndsAfter last (b ∷ bs) = EndsAfter b bs

-- bytes that are none, or end with a line feed
abbrev pub AreLines : List ℕ → Type 0
AreLines bs = EndsAfter 10 bs

-- the bytes mean the program and the run so far, with `(trace)` between them, and it is known whether `(report)` stands behind it
pub record IsReadFrom (bytes : List ℕ) (t : PartialText) : Type 0 where
  pub forms : List Tree
  pub spelled : IsSpelling bytes forms
  pub means : MeansMarkedRun forms t.text.program t.text.trace.run
  pub sound : Sound t.text.program
  pub over : t.has_report ≡ is_marked (codes "report") (behind (codes "trace") forms)
