-- What the lists at the top define, and how many there may be.
use Rattle.std.specs.Prelude.{ℕ, ◌==◌, ◌&&◌, Bool, true, false, nat_le, nat_lt, List, [], ◌∷◌, ◌++◌, length, filter, Option, Some, None, unwrap_or, if◌then◌else◌}
use Rattle.std.specs.Option.{option_or, option_map_or}
use Rattle.std.specs.List.{list_any}
use Rattle.std.specs.Str.{bytes_eq}
use Rattle.tau_value.specs.declared.limits.TheConstants.{NODE_LIMIT, BEHAVIOUR_LIMIT, START_LIMIT, POST_LIMIT, ENTRY_LIMIT}
use Rattle.tau_sexpr.specs.Tree.{Tree, word, list, none, more}
use Rattle.tau_value.specs.Names.{is_name}
use Rattle.tau_value.specs.Numbers.{count_in}
use Rattle.tau_forms.specs.declared.keywords.Sort.{Sort}
use Rattle.tau_forms.specs.declared.keywords.Sort.TheVariants as sorts
use Rattle.tau_forms.specs.declared.tables.Tables.{Tables}
use Rattle.tau_forms.specs.Keywords.{sort_in}

-- what a form at the top is, by the word that begins it
abbrev pub sort_of : Tree → Sort
sort_of (list (more (word h) ts)) = sort_in h
sort_of t = sorts.Other

abbrev pub is_nodes : Sort → Bool
is_nodes sorts.Nodes = true
is_nodes s = false

abbrev pub is_version : Sort → Bool
is_version sorts.Version = true
is_version s = false

abbrev pub is_behaviour : Sort → Bool
is_behaviour sorts.Behaviour = true
is_behaviour s = false

abbrev pub is_start : Sort → Bool
is_start sorts.Start = true
is_start s = false

abbrev pub is_post : Sort → Bool
is_post sorts.Post = true
is_post s = false

abbrev pub is_entry : Sort → Bool
is_entry sorts.At = true
is_entry s = false

-- a form that no program has at the top
abbrev pub is_other : Sort → Bool
is_other sorts.Other = true
is_other s = false

-- whether a word is one of these
abbrev pub has : List (List ℕ) → List ℕ → Bool
has ws w = list_any (bytes_eq w) ws

-- the word, if it is a name
abbrev pub name_in : List ℕ → Option (List ℕ)
name_in w = if is_name w then Some w else None

-- the name that a list of one sort defines: its second item, whatever follows
abbrev pub named_by : (Sort → Bool) → Tree → Option (List ℕ)
named_by is (list (more (word h) (more (word w) ts))) = if is (sort_in h) then name_in w else None
named_by is t = None

-- these names and one more, if it is there and isn't among them
abbrev pub with_name : List (List ℕ) → Option (List ℕ) → List (List ℕ)
with_name ws None = ws
with_name ws (Some w) = if has ws w then ws else ws ++ w ∷ []

-- the names that lists of one sort define beside these, each once, by first sight
abbrev pub defined_after : (Sort → Bool) → List (List ℕ) → List Tree → List (List ℕ)
defined_after is ws [] = ws
defined_after is ws (t ∷ ts) = defined_after is (with_name ws (named_by is t)) ts

abbrev pub behaviours_of : List Tree → List (List ℕ)
behaviours_of ts = defined_after is_behaviour [] ts

abbrev pub starts_of : List Tree → List (List ℕ)
starts_of ts = defined_after is_start [] ts

-- whether a word is a count, at least `low` and below `end`
abbrev pub is_count_in : ℕ → ℕ → List ℕ → Bool
is_count_in low end w = option_map_or (λ n. nat_le low n && nat_lt n end) (count_in w) false

-- the number K of a form (nodes K) with K from 1 to 64
abbrev pub nodes_in : Tree → Option ℕ
nodes_in (list (more (word h) (more (word k) none))) = if is_nodes (sort_in h) && is_count_in 1 65 k then count_in k else None
nodes_in t = None

-- the number K of the first such form
abbrev pub nodes_of : List Tree → Option ℕ
nodes_of [] = None
nodes_of (t ∷ ts) = option_or (nodes_in t) (nodes_of ts)

-- the number K of a form (version K) with K 1 or 2
abbrev pub version_in : Tree → Option ℕ
version_in (list (more (word h) (more (word k) none))) = if is_version (sort_in h) && is_count_in 1 3 k then count_in k else None
version_in t = None

-- the number K of the first such form
abbrev pub version_of : List Tree → Option ℕ
version_of [] = None
version_of (t ∷ ts) = option_or (version_in t) (version_of ts)

-- whether a version is 2
abbrev pub is_two : Option ℕ → Bool
is_two told = option_map_or (λ v. v == 2) told false

-- whether a form is (version 2)
abbrev pub is_second : Tree → Bool
is_second t = is_two (version_in t)

-- the version of a program: 2 where a form (version 2) stands among its forms, wherever
abbrev pub version_told : List Tree → ℕ
version_told ts = if list_any is_second ts then 2 else 1

-- what a program's forms define; 64 nodes where no number of nodes stands there
abbrev pub tables_of : List Tree → Tables
tables_of ts =
    record { behaviours = behaviours_of ts; starts = starts_of ts; nodes = unwrap_or (nodes_of ts) NODE_LIMIT; version = version_told ts }

-- how many lists of one sort there are
abbrev pub count_of : (Sort → Bool) → List Tree → ℕ
count_of is ts = length (filter (λ t. is (sort_of t)) ts)

-- the least number of a sort of which there are too many: 1 of behaviours, 2 of starts, 3 of posts, 4 of script entries
abbrev pub limit_of : List Tree → Option ℕ
limit_of ts =
    if nat_lt BEHAVIOUR_LIMIT (count_of is_behaviour ts) then Some 1
    else (if nat_lt START_LIMIT (count_of is_start ts) then Some 2
    else (if nat_lt POST_LIMIT (count_of is_post ts) then Some 3
    else (if nat_lt ENTRY_LIMIT (count_of is_entry ts) then Some 4
    else None)))
