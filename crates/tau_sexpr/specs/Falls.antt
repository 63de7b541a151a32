-- The measure of a recursion over forms: what a list holds is smaller than the list.
use Rattle.std.specs.Prelude.{◌≤◌, List, [], ◌∷◌, map}
use Rattle.std.proofs.Common.{arith}
use denote.Param.Weighed.{most}
use Rattle.tau_sexpr.specs.Tree.{size_of, sizes, size_of_all-inside}
use Rattle.tau_sexpr.specs.Form.{tree_of}
use Rattle.tau_sexpr.specs.declared.trees.Form.{Form}
use Rattle.tau_sexpr.specs.declared.trees.Form.TheVariants as forms
use Rattle.tau_sexpr.specs.declared.trees.Forms.TheDeep.{deep-Form}

pub deep_le_size : (f : Form) → deep-Form f ≤ size_of (tree_of f)
deep_le_size (forms.Word w) = omega arith
deep_le_size (forms.Text t) = omega arith
deep_le_size (forms.List ts) = omega (arith, size_of_all-inside ts)

pub most_le_sizes : (fs : List Form) → most deep-Form fs ≤ sizes (map tree_of fs)
most_le_sizes [] = omega arith
most_le_sizes (f ∷ fs) = omega (arith, deep_le_size f, most_le_sizes fs)
