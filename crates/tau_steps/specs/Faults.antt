-- Which forms of a list are no steps, and the first of them.
use Rattle.std.specs.Prelude.{◌≡◌, ℕ, ◌+◌, ◌<◌, ◌≤◌, ◌==◌, ◌||◌, ◌&&◌, nat_lt, nat_le, is_some, Bool, false, List, [], ◌∷◌, length, slice_get, Option, Some, None, codes, if◌then◌else◌, ◌⊎◌}
use Rattle.std.specs.Option.{option_map_or}
use Rattle.std.specs.Str.{bytes_eq}
use Rattle.tau_value.specs.declared.limits.TheConstants.{STEP_LIMIT}
use Rattle.tau_sexpr.specs.Tree.{Tree, Trees, word, list, none, more}
use Rattle.tau_value.specs.Names.{is_name, place_of}
use Rattle.tau_value.specs.Numbers.{count_in}
use Rattle.tau_value.specs.Meaning.{Fault, shape, unknown, name_fault, IsFirstFault}
use Rattle.tau_trace.specs.declared.opening.Opening.{Opening}
use Rattle.tau_trace.specs.Places.{count_below}
use Rattle.tau_steps.specs.declared.errors.StepError.{StepError}
use Rattle.tau_steps.specs.declared.errors.StepError.TheVariants as errors
use Rattle.tau_steps.specs.declared.kinds.Kind.{Kind}
use Rattle.tau_steps.specs.declared.kinds.Kind.TheVariants as kinds
use Rattle.tau_steps.specs.Kinds.{kind_in, kind_at}
use Rattle.tau_steps.specs.Meaning.{count_at, truth_at}

-- what is wanted of an item of the form of a step
pub data Role : Type 0 where
  transactor : Role
  message : Role
  -- this number
  next : ℕ → Role
  behaviour : Role
  node : Role
  code : Role
  truth : Role
  value : Role

-- the other items of a form of each kind, where there are so many transactors and messages; none where no step is of the kind
abbrev pub roles_of : ℕ → ℕ → Kind → Option (List Role)
roles_of transactors messages (kinds.OfMessage k) = Some (transactor ∷ message ∷ [])
roles_of transactors messages (kinds.Alone k) = Some (transactor ∷ [])
roles_of transactors messages kinds.Set = Some (transactor ∷ value ∷ [])
roles_of transactors messages kinds.Send = Some (transactor ∷ next messages ∷ transactor ∷ value ∷ [])
roles_of transactors messages kinds.New = Some (transactor ∷ next transactors ∷ behaviour ∷ node ∷ value ∷ [])
roles_of transactors messages kinds.Ask = Some (transactor ∷ truth ∷ [])
roles_of transactors messages kinds.Trap = Some (transactor ∷ code ∷ [])
roles_of transactors messages kinds.Lose = Some (message ∷ [])
roles_of transactors messages kinds.Echo = Some (transactor ∷ next messages ∷ message ∷ [])
roles_of transactors messages kinds.Repeat = Some (next messages ∷ message ∷ [])
roles_of transactors messages kinds.Other = None

-- the fault of a form where a number is wanted: shape if it is no count, and this one if it is a count that fails the test
abbrev pub count_fault : (ℕ → Bool) → Fault → Tree → Option Fault
count_fault test otherwise f = option_map_or (λ n. if test n then None else Some otherwise) (count_at f) (Some shape)

-- the fault of a form where a behaviour is wanted: unknown for a name or a count that isn't a behaviour's, shape for anything else
abbrev pub behaviour_fault : List (List ℕ) → Tree → Option Fault
behaviour_fault names (word w) =
    if is_some (place_of names w) then None
    else Some (if is_name w || is_some (count_in w) then unknown else shape)
behaviour_fault names f = Some shape

abbrev pub truth_fault : Tree → Option Fault
truth_fault f = if is_some (truth_at f) then None else Some shape

-- an item has a fault; that of a value is its first fault
abbrev pub ItemFault : Opening → ℕ → ℕ → Role → Tree → Fault → Type 0
ItemFault o transactors messages transactor f e = name_fault o.names transactors f ≡ Some e
ItemFault o transactors messages message f e = count_fault (λ m. nat_lt m messages) unknown f ≡ Some e
ItemFault o transactors messages (next n) f e = count_fault (λ k. k == n) unknown f ≡ Some e
ItemFault o transactors messages behaviour f e = behaviour_fault o.behaviours f ≡ Some e
ItemFault o transactors messages node f e = count_fault (λ n. nat_lt n o.nodes) shape f ≡ Some e
ItemFault o transactors messages code f e = count_fault (λ c. nat_le 1 c && nat_le c 8) shape f ≡ Some e
ItemFault o transactors messages truth f e = truth_fault f ≡ Some e
ItemFault o transactors messages value f e = (n : ℕ) × IsFirstFault o.names transactors f n e

-- one of the items has a fault, or there is a wrong number of them, which is a shape
abbrev pub FaultIn : Opening → ℕ → ℕ → List Role → Trees → Fault → Type 0
FaultIn o transactors messages [] none e = ⊥
FaultIn o transactors messages [] (more f fs) e = e ≡ shape
FaultIn o transactors messages (r ∷ rs) none e = e ≡ shape
FaultIn o transactors messages (r ∷ rs) (more f fs) e = ItemFault o transactors messages r f e ⊎ FaultIn o transactors messages rs fs e

-- the same, where no step may be of the kind
abbrev pub RowFault : Opening → ℕ → ℕ → Option (List Role) → Trees → Fault → Type 0
RowFault o transactors messages None fs e = e ≡ shape
RowFault o transactors messages (Some rs) fs e = FaultIn o transactors messages rs fs e

-- a form has a fault, where there are so many transactors and messages
abbrev pub FormFault : Opening → ℕ → ℕ → Tree → Fault → Type 0
FormFault o transactors messages (list (more (word h) fs)) e = RowFault o transactors messages (roles_of transactors messages (kind_at o.version (kind_in h))) fs e
FormFault o transactors messages f e = e ≡ shape

-- whether a form begins with this word
abbrev pub begins_with : List ℕ → Tree → Bool
begins_with w (list (more (word h) fs)) = bytes_eq h w
begins_with w f = false

-- how many transactors exist before form k: the starts, and one for each New among the forms before it
abbrev pub transactors_before : Opening → List Tree → ℕ → ℕ
transactors_before o fs k = length o.names + count_below (λ j. option_map_or (begins_with (codes "new")) (slice_get fs j) false) k

-- whether a form begins as that of a step that makes a message
abbrev pub begins_message : Tree → Bool
begins_message f = begins_with (codes "send") f || (begins_with (codes "echo") f || begins_with (codes "repeat") f)

-- how many messages exist before form k: the posts, and one for each Send, Echo and Repeat among the forms before it
abbrev pub messages_before : Opening → List Tree → ℕ → ℕ
messages_before o fs k = length o.targets + count_below (λ j. option_map_or begins_message (slice_get fs j) false) k

-- step k has a fault: form k has it, or it is the 1,000,001st form, which is a shape
pub data StepFault (o : Opening) (fs : List Tree) (k : ℕ) (e : Fault) : Type 0 where
  in_form : {f : Tree} → slice_get fs k ≡ Some f → FormFault o (transactors_before o fs k) (messages_before o fs k) f e → StepFault o fs k e
  too_many : k ≡ STEP_LIMIT → k < length fs → e ≡ shape → StepFault o fs k e

-- the first fault: at the least faulty step, where shape comes before unknown
pub record IsFirst (o : Opening) (fs : List Tree) (k : ℕ) (e : Fault) : Type 0 where
  pub fault : StepFault o fs k e
  pub least : (j : ℕ) (g : Fault) → StepFault o fs j g → k ≤ j
  pub shape_first : StepFault o fs k shape → e ≡ shape

-- an error tells the first fault; want of memory tells nothing
abbrev pub IsFault : Opening → List Tree → StepError → Type 0
IsFault o fs (errors.Shape step) = IsFirst o fs step shape
IsFault o fs (errors.Unknown step) = IsFirst o fs step unknown
IsFault o fs errors.NoMemory = Unit {0}
