-- The form that a value is written as.
use Rattle.std.specs.Prelude.{◌≡◌, ℕ, ◌^◌, ◌<◌, List, Some, codes, unwrap_or, slice_get, if◌then◌else◌}
use Rattle.std.specs.Fmt.{decimal, signed_decimal}
use Rattle.tau_sexpr.specs.Tree.{Tree, Trees, word, text, list, none, more, depth_of, HasWords}
use Rattle.tau_value.specs.Val as val
use Rattle.tau_value.specs.Val.{Val, Vals}
use Rattle.tau_value.specs.Numbers.{in_i64}
use Rattle.tau_value.specs.Sizes.{IsInBounds, NamesBelow, levels_of}
use Rattle.tau_value.specs.Meaning.{name_word, list_word, Means}

-- the word for the name of transactor n: the start's name, or the number where n is no start
abbrev pub name_written : List (List ℕ) → ℕ → List ℕ
name_written names n = unwrap_or (slice_get names n) (decimal n)

-- the form of a value
abbrev mutual
  pub written : List (List ℕ) → Val → Tree
  written names val.unit = word (codes "unit")
  written names (val.truth b) = word (if b then codes "true" else codes "false")
  written names (val.int z) = word (signed_decimal z)
  written names (val.text t) = text t
  written names (val.name n) = list (more (word name_word) (more (word (name_written names n)) none))
  written names (val.list vs) = list (more (word list_word) (written_all names vs))

  pub written_all : List (List ℕ) → Vals → Trees
  written_all names val.none = none
  written_all names (val.more v vs) = more (written names v) (written_all names vs)

-- each number in the value fits its type: an integer i64, the number of a name u32
abbrev mutual
  pub NumbersFit : Val → Type 0
  NumbersFit val.unit = Unit {0}
  NumbersFit (val.truth b) = Unit {0}
  NumbersFit (val.int z) = in_i64 z ≡ Some z
  NumbersFit (val.text t) = Unit {0}
  NumbersFit (val.name n) = n < 2 ^ 32
  NumbersFit (val.list vs) = AllNumbersFit vs

  pub AllNumbersFit : Vals → Type 0
  AllNumbersFit val.none = Unit {0}
  AllNumbersFit (val.more v vs) = NumbersFit v × AllNumbersFit vs

-- a form is read back as a value that is in bounds, under any bound that its names are below
abbrev pub ReadsBack : List (List ℕ) → Val → Tree → Type 0
ReadsBack names v t = (bound : ℕ) → IsInBounds v → NamesBelow bound v → Means names bound t v

-- the form that is written of a value is read back as the value, has words, and is as deep as the value has levels
pub record IsWritten (names : List (List ℕ)) (v : Val) : Type 0 where
  pub read_back : ReadsBack names v (written names v)
  pub depth : depth_of (written names v) ≡ levels_of v
  pub words : HasWords (written names v)

-- the form of a number
abbrev pub count_form : ℕ → Tree
count_form n = word (decimal n)
