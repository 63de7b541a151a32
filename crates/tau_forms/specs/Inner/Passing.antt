-- What the checks tell of a part of the forms: it has no fault, or its first fault.
use Rattle.std.specs.Prelude.{◌≡◌, ℕ, ◌+◌, ◌==◌, Bool, true, false, is_some, if◌then◌else◌, List, [], ◌∷◌, map, Option, Some, None, option_map, Result, Ok, Err}
use Rattle.tau_sexpr.specs.Form.{tree_of}
use Rattle.tau_sexpr.specs.Tree.{Tree, Trees, word, none, more, inside}
use Rattle.tau_forms.specs.declared.checking.Parts.{Parts}
use Rattle.tau_forms.specs.declared.faults.ProgramError.{ProgramError}
use Rattle.tau_forms.specs.declared.faults.ProgramError.TheVariants as errors
use Rattle.tau_forms.specs.declared.keywords.Keyword.{Keyword}
use Rattle.tau_forms.specs.declared.keywords.Keyword.TheVariants as keywords
use Rattle.tau_forms.specs.declared.keywords.Sort.{Sort}
use Rattle.tau_forms.specs.declared.keywords.Sort.TheVariants as sorts
use Rattle.tau_forms.specs.declared.rows.Headed.{Headed}
use Rattle.tau_forms.specs.declared.rows.Row.{Row}
use Rattle.tau_forms.specs.declared.tables.Tables.{Tables}
use Rattle.tau_forms.specs.declared.wanted.FaultKind.{FaultKind}
use Rattle.tau_forms.specs.declared.wanted.FaultKind.TheVariants as kinds
use Rattle.tau_forms.specs.declared.wanted.Wanted.{Wanted}
use Rattle.tau_forms.specs.Faults.{Fault, shape, unknown, twice, IsClean, IsFirst, ProgramFaultAt}
use Rattle.tau_forms.specs.Keywords.{keyword_in}
use Rattle.tau_forms.specs.Roles.{Role, first, mark, expression, row, count_of, has_items, word_of, names_in}
use Rattle.tau_forms.specs.Tops.{nodes_of, version_of, limit_of, tables_of}
use Rattle.tau_forms.specs.Inner.Wanted.{role_of}

-- an error tells the first fault of a part whose own first node is `at`; want of memory tells nothing
abbrev pub TellsFault : (ℕ → Fault → Type 0) → ℕ → ProgramError → Type 0
TellsFault F at (errors.Shape node) = (n : ℕ) × (node ≡ at + n) × IsFirst F n shape
TellsFault F at (errors.Unknown node) = (n : ℕ) × (node ≡ at + n) × IsFirst F n unknown
TellsFault F at (errors.Twice node) = (n : ℕ) × (node ≡ at + n) × IsFirst F n twice
TellsFault F at (errors.Limit which) = ⊥
TellsFault F at errors.NoMemory = Unit {0}

-- a part of so many nodes is passed from node `at` to node `next` and has no fault, or its first fault is told
abbrev pub Passes : {A : Type 0} → (ℕ → Fault → Type 0) → ℕ → ℕ → ℕ → Result A ProgramError → Type 0
Passes F size at next (Ok x) = IsClean F × (next ≡ at + size)
Passes F size at next (Err e) = TellsFault F at e

-- the error for a fault at a node
abbrev pub error_at : FaultKind → ℕ → ProgramError
error_at kinds.Shape n = errors.Shape n
error_at kinds.Unknown n = errors.Unknown n
error_at kinds.Twice n = errors.Twice n

-- a single node is passed, unless it has a fault
abbrev pub PassesNode : {A : Type 0} → Option FaultKind → ℕ → ℕ → Result A ProgramError → Type 0
PassesNode None at next (Ok x) = next ≡ at + 1
PassesNode None at next (Err e) = ⊥
PassesNode (Some k) at next (Ok x) = ⊥
PassesNode (Some k) at next (Err e) = e ≡ error_at k at

-- the roles of forms: the first have these, and those after them all the same
abbrev pub roles_along : List Wanted → Wanted → Trees → List Role
roles_along ws rest none = []
roles_along [] rest (more t ts) = role_of rest ∷ roles_along [] rest ts
roles_along (w ∷ ws) rest (more t ts) = role_of w ∷ roles_along ws rest ts

abbrev pub roles_of : Row → Trees → List Role
roles_of w ts = roles_along w.leading w.rest ts

-- what is wanted of the items of a list
abbrev pub IsRow : Tables → Role → Trees → Option Row → Type 0
IsRow tb r ts o = option_map (λ w. roles_of w ts) o ≡ row tb r ts

-- whether a list begins with a word
abbrev pub is_headed : Trees → Bool
is_headed (more (word h) ts) = true
is_headed ts = false

-- the first word of a list and its other items; none where it doesn't begin with a word
abbrev pub IsHeaded : Trees → Option Headed → Type 0
IsHeaded ts None = is_headed ts ≡ false
IsHeaded ts (Some l) = ts ≡ more (word l.head.now) (inside (map tree_of l.rest.now))

-- the variables that an expression binds in its last item
abbrev pub bound_by : Keyword → Trees → List (List ℕ)
bound_by keywords.Let (more x ts) = word_of x
bound_by keywords.Fold (more l (more f (more xs ts))) = names_in xs
bound_by k ts = []

-- what a list is as an expression: its keyword and its other items; none where no list is wanted that begins so or has as
-- many items
abbrev pub IsExpression : Trees → Option Parts → Type 0
IsExpression ts None = (tb : Tables) (scope : List (List ℕ)) → row tb (expression scope) ts ≡ None
IsExpression ts (Some p) =
    (h : List ℕ) × (ts ≡ more (word h) (inside (map tree_of p.items.now))) × (p.keyword ≡ keyword_in h) × (has_items p.keyword (count_of (inside (map tree_of p.items.now))) ≡ true)

-- whether a list at the top has this many items, its first word aside
abbrev pub has_top_items : Sort → ℕ → Bool
has_top_items sorts.Nodes n = n == 1
has_top_items sorts.Behaviour n = n == 2
has_top_items sorts.Start n = n == 4
has_top_items sorts.Post n = n == 2
has_top_items sorts.At n = n == 2
has_top_items sorts.Version n = n == 1
has_top_items sorts.Other n = false

-- what the first word of a list of nodes is, after these forms: a mark where the list tells a number of nodes
abbrev pub nodes_first : List Tree → Option ℕ → Role
nodes_first before told = if is_some told then mark (is_some (nodes_of before)) else first

-- the same of a list of a version
abbrev pub version_first : List Tree → Option ℕ → Role
version_first before told = if is_some told then mark (is_some (version_of before)) else first

-- all forms at the top are passed and have no fault, or the first fault is told
abbrev pub PassesForms : {A : Type 0} → List Tree → Result A ProgramError → Type 0
PassesForms ts (Ok x) = IsClean (ProgramFaultAt ts)
PassesForms ts (Err e) = TellsFault (ProgramFaultAt ts) 0 e

-- what forms define that keep the limits and have no fault
pub record AreAdmitted (ts : List Tree) (tb : Tables) : Type 0 where
  pub limits : limit_of ts ≡ None
  pub faultless : IsClean (ProgramFaultAt ts)
  pub tables : tb ≡ tables_of ts
