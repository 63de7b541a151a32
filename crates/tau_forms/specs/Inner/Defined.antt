-- What the forms at the top up to a place define, as the reader keeps it.
use Rattle.std.specs.Prelude.{◌≡◌, ℕ, List, Option, Some, None, if◌then◌else◌}
use Rattle.std.specs.List.{list_any}
use Rattle.tau_sexpr.specs.Tree.{Tree, Trees, word, none, more}
use Rattle.tau_value.specs.Numbers.{count_in}
use Rattle.tau_forms.specs.declared.tables.Defined.{Defined}
use Rattle.tau_forms.specs.declared.tables.Definition.{Definition}
use Rattle.tau_forms.specs.declared.tables.Definition.TheVariants as definitions
use Rattle.tau_forms.specs.Tops.{is_behaviour, is_start, named_by, name_in, nodes_in, version_in, is_count_in, behaviours_of, starts_of, nodes_of, version_of, is_second}

-- the names, the number of nodes and the version that forms at the top define
pub record IsDefined (before : List Tree) (d : Defined) : Type 0 where
  pub behaviours : d.behaviours ≡ behaviours_of before
  pub starts : d.starts ≡ starts_of before
  pub nodes : d.nodes ≡ nodes_of before
  pub version : d.version ≡ version_of before
  pub second : d.second ≡ list_any is_second before

-- the name with which the items of a list go on behind its first word
abbrev pub name_told : Trees → Option (List ℕ)
name_told (more (word w) ts) = name_in w
name_told ts = None

-- the number of nodes that the items of a list tell behind its first word
abbrev pub nodes_told : Trees → Option ℕ
nodes_told (more (word k) none) = if is_count_in 1 65 k then count_in k else None
nodes_told ts = None

-- the version that the items of a list tell behind its first word
abbrev pub version_items : Trees → Option ℕ
version_items (more (word k) none) = if is_count_in 1 3 k then count_in k else None
version_items ts = None

abbrev pub behaviour_name : Definition → Option (List ℕ)
behaviour_name (definitions.Behaviour w) = Some w.now
behaviour_name d = None

abbrev pub start_name : Definition → Option (List ℕ)
start_name (definitions.Start w) = Some w.now
start_name d = None

abbrev pub nodes_number : Definition → Option ℕ
nodes_number (definitions.Nodes n) = Some n
nodes_number d = None

abbrev pub version_number : Definition → Option ℕ
version_number (definitions.Version n) = Some n
version_number d = None

-- what one form at the top defines
pub record Defines (t : Tree) (d : Definition) : Type 0 where
  pub behaviour : named_by is_behaviour t ≡ behaviour_name d
  pub start : named_by is_start t ≡ start_name d
  pub nodes : nodes_in t ≡ nodes_number d
  pub version : version_in t ≡ version_number d
