-- What the parts of the reader do: they pass a form and tell its value, or its first fault.
use Rattle.std.specs.Prelude.{◌≡◌, ℕ, ◌+◌, false, is_some, List, map, Option, Some, None, option_map, Result, Ok, Err, if◌then◌else◌}
use Rattle.std.specs.Option.{option_or}
use Rattle.std.specs.Str.{bytes_eq}
use Rattle.tau_sexpr.specs.Tree.{Tree, Trees, word, text, list, none, more, inside, size_of, size_of_all}
use Rattle.tau_sexpr.specs.Form.{tree_of}
use Rattle.tau_value.specs.Val as val
use Rattle.tau_value.specs.Val.{Val}
use Rattle.tau_value.specs.Value.{val_of}
use Rattle.tau_value.specs.Numbers.{capped}
use Rattle.tau_value.specs.Meaning.{name_word, list_word, word_value, counted, counted_all, has_row, name_fault, Fault, shape, unknown}
use Rattle.tau_value.specs.declared.shared.Value.{Value}
use Rattle.tau_value.specs.declared.faults.ValueError.{ValueError}
use Rattle.tau_value.specs.declared.faults.ValueError.TheVariants as faults
use Rattle.tau_value.specs.declared.reading.Head.{Head}
use Rattle.tau_value.specs.declared.reading.Head.TheVariants as heads

-- a fault that stands k nodes later
abbrev pub later_by : ℕ → ℕ × Fault → ℕ × Fault
later_by k p = (k + p.0, p.1)

-- the first fault of a form that is in bounds, with its node
abbrev mutual
  pub scan : List (List ℕ) → ℕ → Tree → Option (ℕ × Fault)
  scan names bound (word w) = if is_some (word_value w) then None else Some (0, shape)
  scan names bound (text t) = None
  scan names bound (list ts) = scan_list names bound ts

  pub scan_list : List (List ℕ) → ℕ → Trees → Option (ℕ × Fault)
  scan_list names bound (more (word h) ts) =
      if bytes_eq h list_word then option_map (later_by 2) (scan_all names bound ts)
      else (if bytes_eq h name_word then scan_name names bound ts
      else Some (0, shape))
  scan_list names bound ts = Some (0, shape)

  pub scan_all : List (List ℕ) → ℕ → Trees → Option (ℕ × Fault)
  scan_all names bound none = None
  scan_all names bound (more t ts) = option_or (scan names bound t) (option_map (later_by (size_of t)) (scan_all names bound ts))

  pub scan_name : List (List ℕ) → ℕ → Trees → Option (ℕ × Fault)
  scan_name names bound (more x none) = option_map (λ f. (2, f)) (name_fault names bound x)
  scan_name names bound ts = Some (0, shape)

-- how the items of a list begin
abbrev pub HasHead : Trees → Head → Type 0
HasHead ts (heads.List rest) = ts ≡ more (word list_word) (inside (map tree_of rest.now))
HasHead ts (heads.Name x) = ts ≡ more (word name_word) (more (tree_of x.now) none)
HasHead ts heads.Other = has_row (list ts) ≡ false

-- the error for a fault at node n of a form whose own node is `at`
abbrev pub TellsValueFault : Option (ℕ × Fault) → ℕ → ValueError → Type 0
TellsValueFault found at (faults.Shape node) = (n : ℕ) × (found ≡ Some (n, shape)) × (node ≡ capped (at + n))
TellsValueFault found at (faults.Unknown node) = (n : ℕ) × (found ≡ Some (n, unknown)) × (node ≡ capped (at + n))
TellsValueFault found at faults.NoMemory = Unit {0}

-- a form is passed from node `at` to node `next` and its value told, or its first fault
abbrev pub Reads : List (List ℕ) → ℕ → Tree → ℕ → ℕ → Result Value ValueError → Type 0
Reads names bound t at next (Ok v) = (scan names bound t ≡ None) × (val_of v ≡ counted names bound t) × (next ≡ capped (at + size_of t))
Reads names bound t at next (Err e) = TellsValueFault (scan names bound t) at e

-- the same for the items of a list
abbrev pub ReadsAll : List (List ℕ) → ℕ → Trees → ℕ → ℕ → Result (List Val) ValueError → Type 0
ReadsAll names bound ts at next (Ok vs) = (scan_all names bound ts ≡ None) × (val.inside vs ≡ counted_all names bound ts) × (next ≡ capped (at + size_of_all ts))
ReadsAll names bound ts at next (Err e) = TellsValueFault (scan_all names bound ts) at e
