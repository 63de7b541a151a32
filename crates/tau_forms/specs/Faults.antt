-- Which nodes of a program's forms are faulty, and the first fault.
use Rattle.std.specs.Prelude.{◌≡◌, ℕ, ◌+◌, ◌≤◌, ◌||◌, Bool, nat_le, is_some, List, [], ◌∷◌, ◌++◌, length, Option, Some, None, if◌then◌else◌, codes}
use Rattle.std.specs.Str.{bytes_eq}
use Rattle.tau_sexpr.specs.Tree.{Tree, Trees, word, text, list, more, inside, size_of, sizes}
use Rattle.tau_value.specs.Names.{is_name}
use Rattle.tau_value.specs.Numbers.{integer_in}
use Rattle.tau_value.specs.Meaning as values
use Rattle.tau_forms.specs.declared.faults.ProgramError.{ProgramError}
use Rattle.tau_forms.specs.declared.faults.ProgramError.TheVariants as errors
use Rattle.tau_forms.specs.declared.tables.Tables.{Tables}
use Rattle.tau_forms.specs.Tops.{has, is_count_in, nodes_of, tables_of, limit_of}
use Rattle.tau_forms.specs.Roles.{Role, top, first, mark, known, fresh, count, value, expression, row}

-- a fault of a node
pub data Fault : Type 0 where
  shape : Fault
  unknown : Fault
  twice : Fault

-- the fault of a value, as one of a program
abbrev pub of_value : values.Fault → Fault
of_value values.shape = shape
of_value values.unknown = unknown

-- a fault, unless a test holds
abbrev pub unless : Bool → Fault → Option Fault
unless b f = if b then None else Some f

-- the words that are expressions: the constants, the message, the own name and the integers
abbrev pub is_constant : List ℕ → Bool
is_constant w =
    bytes_eq w (codes "unit") || bytes_eq w (codes "true") || bytes_eq w (codes "false") || bytes_eq w (codes "msg") || bytes_eq w (codes "self") || is_some (integer_in w)

-- the fault of a word; shape comes before unknown, and unknown before twice
abbrev pub word_fault : Role → List ℕ → Option Fault
word_fault first w = None
word_fault (mark again) w = if again then Some twice else None
word_fault (known names) w = if is_name w then unless (has names w) unknown else Some shape
word_fault (fresh names) w = if is_name w then (if has names w then Some twice else None) else Some shape
word_fault (count low end) w = unless (is_count_in low end w) shape
word_fault (expression scope) w = if is_constant w then None else (if is_name w then unless (has scope w) unknown else Some shape)
word_fault value w = None
word_fault r w = Some shape

-- the fault of a text in quotes
abbrev pub text_fault : Role → List ℕ → Option Fault
text_fault (expression scope) t = unless (nat_le (length t) 65535) shape
text_fault value t = None
text_fault r t = Some shape

-- the fault of a list, its items aside
abbrev pub list_fault : Tables → Role → Trees → Option Fault
list_fault tb value ts = None
list_fault tb r ts = unless (is_some (row tb r ts)) shape

-- the fault of the node that a form itself is
abbrev pub own_fault : Tables → Role → Tree → Option Fault
own_fault tb r (word w) = word_fault r w
own_fault tb r (text t) = text_fault r t
own_fault tb r (list ts) = list_fault tb r ts

-- node n of a form has a fault; nodes are numbered in preorder from 0
mutual
  pub data FaultAt (tb : Tables) : Role → Tree → ℕ → Fault → Type 0 where
    itself : {r : Role} {t : Tree} {n : ℕ} {f : Fault} → n ≡ 0 → own_fault tb r t ≡ Some f → FaultAt tb r t n f
    in_value : {r : Role} {t : Tree} {n : ℕ} {f : Fault} {g : values.Fault} → r ≡ value → f ≡ of_value g → values.FaultAt tb.starts (length tb.starts) t n g → FaultAt tb r t n f
    in_item : {r : Role} {t : Tree} {ts : Trees} {rs : List Role} {n m : ℕ} {f : Fault} → t ≡ list ts → row tb r ts ≡ Some rs → n ≡ 1 + m → FaultIn tb rs ts m f → FaultAt tb r t n f

  pub data FaultIn (tb : Tables) : List Role → Trees → ℕ → Fault → Type 0 where
    here : {r : Role} {rs : List Role} {t : Tree} {ts : Trees} {n : ℕ} {f : Fault} → FaultAt tb r t n f → FaultIn tb (r ∷ rs) (more t ts) n f
    later : {r : Role} {rs : List Role} {t : Tree} {ts : Trees} {n m : ℕ} {f : Fault} → n ≡ size_of t + m → FaultIn tb rs ts m f → FaultIn tb (r ∷ rs) (more t ts) n f

-- the roles of forms at the top, after others
abbrev pub tops_after : List Tree → List Tree → List Role
tops_after before [] = []
tops_after before (t ∷ ts) = top before ∷ tops_after (before ++ t ∷ []) ts

-- node n of a program's forms has a fault; where no number of nodes stands there, the node behind the last is faulty
pub data ProgramFaultAt (ts : List Tree) : ℕ → Fault → Type 0 where
  in_top : {n : ℕ} {f : Fault} → FaultIn (tables_of ts) (tops_after [] ts) (inside ts) n f → ProgramFaultAt ts n f
  no_nodes : {n : ℕ} → n ≡ sizes ts → nodes_of ts ≡ None → ProgramFaultAt ts n shape

-- no node is faulty
abbrev pub IsClean : (ℕ → Fault → Type 0) → Type 0
IsClean F = (n : ℕ) (f : Fault) → ¬ F n f

-- the first fault: at the least faulty node, which has no other
pub record IsFirst (F : ℕ → Fault → Type 0) (n : ℕ) (f : Fault) : Type 0 where
  pub fault : F n f
  pub least : (m : ℕ) (g : Fault) → F m g → n ≤ m
  pub only : (g : Fault) → F n g → f ≡ g

-- an error tells what is wrong with a program's forms: a limit, and otherwise the first fault; want of memory tells nothing
abbrev pub IsFault : List Tree → ProgramError → Type 0
IsFault ts (errors.Shape node) = (limit_of ts ≡ None) × IsFirst (ProgramFaultAt ts) node shape
IsFault ts (errors.Unknown node) = (limit_of ts ≡ None) × IsFirst (ProgramFaultAt ts) node unknown
IsFault ts (errors.Twice node) = (limit_of ts ≡ None) × IsFirst (ProgramFaultAt ts) node twice
IsFault ts (errors.Limit which) = limit_of ts ≡ Some which
IsFault ts errors.NoMemory = Unit {0}
