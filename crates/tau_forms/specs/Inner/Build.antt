-- How the builder of expressions takes the items of a list apart.
use Rattle.std.specs.Prelude.{◌≡◌, ℕ, List, Option, Some, None}
use Rattle.tau_sexpr.specs.Form.{tree_of}
use Rattle.tau_sexpr.specs.Tree.{Tree, Trees, word, list, none, more}
use Rattle.tau_forms.specs.declared.build.Parts.{Parts}
use Rattle.tau_forms.specs.declared.build.Parts.TheVariants as parts

-- more than four items
abbrev pub IsLong : Trees → Type 0
IsLong (more a (more b (more c (more d (more e ts))))) = Unit {0}
IsLong ts = ⊥

-- the items, where there are up to four
abbrev pub HasParts : Trees → Parts → Type 0
HasParts ts parts.Zero = ts ≡ none
HasParts ts (parts.One a) = ts ≡ more (tree_of a.now) none
HasParts ts (parts.Two a b) = ts ≡ more (tree_of a.now) (more (tree_of b.now) none)
HasParts ts (parts.Three a b c) = ts ≡ more (tree_of a.now) (more (tree_of b.now) (more (tree_of c.now) none))
HasParts ts (parts.Four a b c d) =
    ts ≡ more (tree_of a.now) (more (tree_of b.now) (more (tree_of c.now) (more (tree_of d.now) none)))
HasParts ts parts.Other = IsLong ts

-- the two words of a list of two words
abbrev pub two_words_in : Tree → Option (List ℕ × List ℕ)
two_words_in (list (more (word s) (more (word i) none))) = Some (s, i)
two_words_in t = None

-- the word that begins a list, and the other items
abbrev pub head_in : Trees → Option (List ℕ × Trees)
head_in (more (word h) ts) = Some (h, ts)
head_in ts = None
