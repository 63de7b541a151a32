-- Which value a form means, read with the names of the starts and a bound, and which of its nodes are faulty.
use Rattle.std.specs.Prelude.{◌≡◌, ℕ, ◌+◌, ◌≤◌, Bool, true, false, ◌||◌, ◌&&◌, nat_le, nat_lt, is_some, List, length, codes, Option, Some, None, option_map, option_and_then, unwrap_or, if◌then◌else◌}
use Rattle.std.specs.Option.{option_or, option_map_or}
use Rattle.std.specs.Str.{bytes_eq}
use Rattle.tau_sexpr.specs.Tree.{Tree, Trees, word, text, list, none, more, size_of}
use Rattle.tau_value.specs.Val as val
use Rattle.tau_value.specs.Val.{Val, Vals}
use Rattle.tau_value.specs.Sizes.{IsInBounds}
use Rattle.tau_value.specs.Names.{is_name, place_of}
use Rattle.tau_value.specs.Numbers.{count_in, integer_in}
use Rattle.tau_value.specs.declared.faults.ValueError.{ValueError}
use Rattle.tau_value.specs.declared.faults.ValueError.TheVariants as errors

-- the words that begin the forms of names and lists
abbrev pub name_word : List ℕ
name_word = codes "name"

abbrev pub list_word : List ℕ
list_word = codes "list"

-- the value of a word: a constant or an integer
abbrev pub word_value : List ℕ → Option Val
word_value w =
    if bytes_eq w (codes "unit") then Some val.unit
    else (if bytes_eq w (codes "true") then Some (val.truth true)
    else (if bytes_eq w (codes "false") then Some (val.truth false)
    else option_map val.int (integer_in w)))

-- the number, if it is at least `low` and below `high`
abbrev pub between : ℕ → ℕ → ℕ → Option ℕ
between low high n = if nat_le low n && nat_lt n high then Some n else None

-- the number that X of (name X) means: a start's by its name, or another's by a count below the bound
abbrev pub number_named : List (List ℕ) → ℕ → List ℕ → Option ℕ
number_named names bound x = option_or (place_of names x) (option_and_then (between (length names) bound) (count_in x))

-- the value of (name X), and unit where X means no number
abbrev pub named : List (List ℕ) → ℕ → Trees → Val
named names bound (more (word x) none) = option_map_or val.name (number_named names bound x) val.unit
named names bound ts = val.unit

-- the value that a form counts as: its value; for a list after the word `list` the list of what its other items count as,
-- whatever faults they have; for any other form unit, which has 1 part and 0 levels
abbrev mutual
  pub counted : List (List ℕ) → ℕ → Tree → Val
  counted names bound (word w) = unwrap_or (word_value w) val.unit
  counted names bound (text t) = val.text t
  counted names bound (list ts) = counted_list names bound ts

  pub counted_list : List (List ℕ) → ℕ → Trees → Val
  counted_list names bound (more (word h) ts) =
      if bytes_eq h list_word then val.list (counted_all names bound ts)
      else (if bytes_eq h name_word then named names bound ts
      else val.unit)
  counted_list names bound ts = val.unit

  pub counted_all : List (List ℕ) → ℕ → Trees → Vals
  counted_all names bound none = val.none
  counted_all names bound (more t ts) = val.more (counted names bound t) (counted_all names bound ts)

-- whether there is one form
abbrev pub is_one : Trees → Bool
is_one (more t none) = true
is_one ts = false

-- whether a form is in the table: a word with a value, a text, (name X) or (list ..), whatever X and the items are
abbrev pub has_row : Tree → Bool
has_row (word w) = is_some (word_value w)
has_row (text t) = true
has_row (list (more (word h) ts)) = bytes_eq h list_word || (bytes_eq h name_word && is_one ts)
has_row (list ts) = false

-- a fault of a node
pub data Fault : Type 0 where
  shape : Fault
  unknown : Fault

-- the fault of X in (name X), if it has one: unknown for a name or a count that means no number, shape for anything else
abbrev pub name_fault : List (List ℕ) → ℕ → Tree → Option Fault
name_fault names bound (word x) =
    if is_some (number_named names bound x) then None
    else Some (if is_name x || is_some (count_in x) then unknown else shape)
name_fault names bound t = Some shape

-- node n of a form has a fault; nodes are numbered in preorder from 0
mutual
  pub data FaultAt (names : List (List ℕ)) (bound : ℕ) : Tree → ℕ → Fault → Type 0 where
    too_large : {t : Tree} {n : ℕ} → n ≡ 0 → ¬ IsInBounds (counted names bound t) → FaultAt names bound t n shape
    no_row : {t : Tree} {n : ℕ} → n ≡ 0 → has_row t ≡ false → FaultAt names bound t n shape
    in_name : {t x : Tree} {n : ℕ} {f : Fault} → t ≡ list (more (word name_word) (more x none)) → n ≡ 2 → name_fault names bound x ≡ Some f → FaultAt names bound t n f
    in_list : {t : Tree} {ts : Trees} {n m : ℕ} {f : Fault} → t ≡ list (more (word list_word) ts) → n ≡ 2 + m → FaultIn names bound ts m f → FaultAt names bound t n f

  pub data FaultIn (names : List (List ℕ)) (bound : ℕ) : Trees → ℕ → Fault → Type 0 where
    here : {t : Tree} {ts : Trees} {n : ℕ} {f : Fault} → FaultAt names bound t n f → FaultIn names bound (more t ts) n f
    later : {t : Tree} {ts : Trees} {n m : ℕ} {f : Fault} → n ≡ size_of t + m → FaultIn names bound ts m f → FaultIn names bound (more t ts) n f

-- a form means a value: it has no fault, and counts as this value
pub record Means (names : List (List ℕ)) (bound : ℕ) (t : Tree) (v : Val) : Type 0 where
  pub value : counted names bound t ≡ v
  pub faultless : (n : ℕ) (f : Fault) → ¬ FaultAt names bound t n f

-- the first fault of a form: at the least faulty node, which has no other
pub record IsFirstFault (names : List (List ℕ)) (bound : ℕ) (t : Tree) (n : ℕ) (f : Fault) : Type 0 where
  pub fault : FaultAt names bound t n f
  pub least : (m : ℕ) (g : Fault) → FaultAt names bound t m g → n ≤ m
  pub only : (g : Fault) → FaultAt names bound t n g → f ≡ g

-- an error tells the first fault of a form; want of memory tells nothing
abbrev pub IsFault : List (List ℕ) → ℕ → Tree → ValueError → Type 0
IsFault names bound t (errors.Shape node) = IsFirstFault names bound t node shape
IsFault names bound t (errors.Unknown node) = IsFirstFault names bound t node unknown
IsFault names bound t errors.NoMemory = Unit {0}
