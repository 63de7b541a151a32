-- The variables of a scope.
use Rattle.std.specs.Prelude.{ℕ, List, [], ◌++◌, map}
use Rattle.tau_sexpr.specs.Form.{tree_of}
use Rattle.tau_sexpr.specs.Tree.{inside}
use Rattle.tau_forms.specs.declared.scopes.Scope.{Scope, Empty, Inner'}
use Rattle.tau_forms.specs.Roles.{words_of}

-- the variables that are bound, the nearest last
abbrev pub names_of : Scope → List (List ℕ)
names_of Empty = []
names_of (Inner' names p outer) = names_of outer ++ words_of (inside (map tree_of names.now))
