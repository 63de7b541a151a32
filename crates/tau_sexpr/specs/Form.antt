-- The plain data that a form of the program stands for.
use Rattle.tau_sexpr.specs.Tree.{Tree, word, text, list, inside}
use Rattle.tau_sexpr.specs.declared.trees.Form.{Form}
use Rattle.tau_sexpr.specs.declared.trees.Form.TheVariants.{Word, Text, List}

-- contracts see Word and Text as their bytes, and Forms as a list of plain data
abbrev pub tree_of : Form → Tree
tree_of (Word w) = word w
tree_of (Text t) = text t
tree_of (List ts) = list (inside ts)
