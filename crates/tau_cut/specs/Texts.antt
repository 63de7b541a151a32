-- The lines that tell a cut (docs/formats.md, "Cuts").
use Rattle.std.specs.Prelude.{◌≡◌, ℕ, List, [], ◌∷◌, ◌++◌, map, codes}
use Rattle.tau_sexpr.specs.Tree.{Tree, headed}
use Rattle.tau_sexpr.specs.Printing.{printed}
use Rattle.tau_value.specs.Written.{count_form}
use Rattle.tau_tree.specs.declared.programs.Program.{Program}
use Rattle.tau_trace.specs.declared.opening.Opening.{Opening}
use Rattle.tau_trace.specs.Run.{Run, len}
use Rattle.tau_trace.specs.Numbering.{born}
use Rattle.tau_explain.specs.Texts.{chain_forms}
use Rattle.tau_cut.specs.declared.cut.Marked.{Marked}
use Rattle.tau_cut.specs.declared.cut.Marked.TheVariants.{In, Out}
use Rattle.tau_cut.specs.Cuts.{places_in, IsCut}
use Rattle.tau_cut.specs.KeptStates.{StateForms}

-- the form of a mark: the place of a Checkpoint that is In; or that of one that is Out, and the points of its chain
abbrev pub mark_form : Opening → Marked → Tree
mark_form o (In k) = headed (codes "in") (count_form k ∷ [])
mark_form o (Out k chain) = headed (codes "out") (count_form k ∷ chain_forms o chain)

-- the forms of marks
abbrev pub mark_forms : Opening → List Marked → List Tree
mark_forms o marks = map (mark_form o) marks

-- the bytes are the printed marks of the cut, and then the states that are kept with the steps marked In
pub record IsCutText (P : Program) (T : Run) (bytes : List ℕ) : Type 0 where
  pub marks : List Marked
  pub is_cut : IsCut T marks
  pub states : List Tree
  pub states_are : StateForms P T (places_in marks) (born T (len T)) states
  pub is : bytes ≡ printed (mark_forms T.opening marks ++ states)
