-- What is wanted at each place of a program's forms.
use Rattle.std.specs.Prelude.{ℕ, ◌+◌, ◌^◌, ◌==◌, Bool, true, false, nat_le, is_some, List, [], ◌∷◌, ◌++◌, Option, Some, None, if◌then◌else◌}
use Rattle.tau_sexpr.specs.Tree.{Tree, Trees, word, list, none, more}
use Rattle.tau_tree.specs.Parts.{arity}
use Rattle.tau_forms.specs.declared.keywords.Sort.{Sort}
use Rattle.tau_forms.specs.declared.keywords.Sort.TheVariants as sorts
use Rattle.tau_forms.specs.declared.keywords.Keyword.{Keyword}
use Rattle.tau_forms.specs.declared.keywords.Keyword.TheVariants as keywords
use Rattle.tau_forms.specs.declared.keywords.FailureWord.{FailureWord}
use Rattle.tau_forms.specs.declared.keywords.FailureWord.TheVariants as failures
use Rattle.tau_forms.specs.declared.tables.Tables.{Tables}
use Rattle.tau_forms.specs.Keywords.{sort_in, failure_in, keyword_in}
use Rattle.tau_forms.specs.Tops.{behaviours_of, starts_of, nodes_in, nodes_of, version_in, version_of}

pub data Role : Type 0 where
  -- a form at the top, after these forms
  top : List Tree → Role
  -- the word that begins a list
  first : Role
  -- the word that begins a list (nodes K) or (version K); whether such a list stands before it
  mark : Bool → Role
  -- a name that is defined: one of these
  known : List (List ℕ) → Role
  -- a name that isn't one of these
  fresh : List (List ℕ) → Role
  -- a count, at least the first number and below the second
  count : ℕ → ℕ → Role
  -- what a script entry does
  failure : Role
  -- a value
  value : Role
  -- an expression, in which these variables are bound
  expression : List (List ℕ) → Role
  -- the two names of a fold
  two_names : Role

-- the same role for each form
abbrev pub every : Role → Trees → List Role
every r none = []
every r (more t ts) = r ∷ every r ts

-- how many forms there are
abbrev pub count_of : Trees → ℕ
count_of none = 0
count_of (more t ts) = 1 + count_of ts

-- the word of a form, if it is one
abbrev pub word_of : Tree → List (List ℕ)
word_of (word w) = w ∷ []
word_of t = []

abbrev pub words_of : Trees → List (List ℕ)
words_of none = []
words_of (more t ts) = word_of t ++ words_of ts

-- the words of the items of a form
abbrev pub names_in : Tree → List (List ℕ)
names_in (list ts) = words_of ts
names_in t = []

-- the items of a list at the top of one sort, its first word aside
abbrev pub top_items : Tables → List Tree → Sort → Trees → Option (List Role)
top_items tb before sorts.Nodes (more k none) = Some (count 1 65 ∷ [])
top_items tb before sorts.Behaviour (more n (more e none)) = Some (fresh (behaviours_of before) ∷ expression [] ∷ [])
top_items tb before sorts.Start (more n (more b (more k (more v none)))) =
    Some (fresh (starts_of before) ∷ known tb.behaviours ∷ count 0 tb.nodes ∷ value ∷ [])
top_items tb before sorts.Post (more s (more v none)) = Some (known tb.starts ∷ value ∷ [])
top_items tb before sorts.At (more p (more f none)) = Some (count 0 (2 ^ 32) ∷ failure ∷ [])
top_items tb before sorts.Version (more k none) = Some (count 1 3 ∷ [])
top_items tb before s ts = None

-- what the first word of a list at the top is: a mark where the list is a (nodes K) or a (version K)
abbrev pub top_first : List Tree → Tree → Role
top_first before t =
    if is_some (nodes_in t) then mark (is_some (nodes_of before))
    else (if is_some (version_in t) then mark (is_some (version_of before)) else first)

abbrev pub with_first : Role → Option (List Role) → Option (List Role)
with_first r None = None
with_first r (Some rs) = Some (r ∷ rs)

-- the item of a failure, its first word aside
abbrev pub failure_items : Tables → FailureWord → Trees → Option (List Role)
failure_items tb failures.Fail (more n none) = Some (count 0 tb.nodes ∷ [])
failure_items tb failures.Lose (more m none) = Some (count 0 (2 ^ 32) ∷ [])
failure_items tb failures.Repeat (more m none) = if tb.version == 2 then Some (count 0 (2 ^ 32) ∷ []) else None
failure_items tb f ts = None

-- whether an expression has this many items, its first word aside
abbrev pub has_items : Keyword → ℕ → Bool
has_items keywords.Name n = n == 1
has_items keywords.List n = true
has_items keywords.Let n = n == 3
has_items keywords.If n = n == 3
has_items keywords.Seq n = nat_le 1 n
has_items keywords.Fold n = n == 4
has_items (keywords.Apply p) n = n == arity p
has_items keywords.Get n = n == 0
has_items keywords.Set n = n == 1
has_items keywords.Send n = n == 2
has_items keywords.New n = n == 3
has_items keywords.Stabilize n = n == 0
has_items keywords.Checkpoint n = n == 0
has_items keywords.Rollback n = n == 0
has_items keywords.Dependent n = n == 0
has_items keywords.Other n = false

-- the items of an expression in which these variables are bound, its first word aside; a let binds its name in its last item,
-- a fold its two names
abbrev pub parts_of : Tables → List (List ℕ) → Keyword → Trees → List Role
parts_of tb scope keywords.Name ts = every (known tb.starts) ts
parts_of tb scope keywords.New (more b ts) = known tb.behaviours ∷ every (expression scope) ts
parts_of tb scope keywords.Let (more x (more v ts)) = fresh [] ∷ expression scope ∷ every (expression (scope ++ word_of x)) ts
parts_of tb scope keywords.Fold (more l (more f (more xs ts))) =
    expression scope ∷ expression scope ∷ two_names ∷ every (expression (scope ++ names_in xs)) ts
parts_of tb scope k ts = every (expression scope) ts

abbrev pub expression_items : Tables → List (List ℕ) → Keyword → Trees → Option (List Role)
expression_items tb scope k ts = if has_items k (count_of ts) then Some (parts_of tb scope k ts) else None

-- what is wanted of the items of a list, by what is wanted of the list; none where no such list is wanted
abbrev pub row : Tables → Role → Trees → Option (List Role)
row tb (top before) (more (word h) ts) = with_first (top_first before (list (more (word h) ts))) (top_items tb before (sort_in h) ts)
row tb failure (more (word h) ts) = with_first first (failure_items tb (failure_in h) ts)
row tb (expression scope) (more (word h) ts) = with_first first (expression_items tb scope (keyword_in h) ts)
row tb two_names (more s (more i none)) = Some (fresh [] ∷ fresh (word_of s) ∷ [])
row tb r ts = None
