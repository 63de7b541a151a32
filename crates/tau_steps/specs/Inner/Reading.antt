-- What the parts of the reader tell: what a form or an item means, or its fault.
use Rattle.std.specs.Prelude.{◌≡◌, ℕ, ◌≤◌, ◌<◌, ◌⊎◌, length, Result, Ok, Err}
use Rattle.tau_value.specs.declared.limits.TheConstants.{STEP_LIMIT}
use Rattle.tau_sexpr.specs.Tree.{Tree, Trees}
use Rattle.tau_value.specs.Meaning.{Fault, shape, unknown}
use Rattle.tau_trace.specs.declared.step.Step.{Step}
use Rattle.tau_trace.specs.Known.{IsSound}
use Rattle.tau_trace.specs.Run.{Run, len, appended}
use Rattle.tau_trace.specs.Numbering.{born, sent}
use Rattle.tau_steps.specs.declared.errors.ItemError.{ItemError}
use Rattle.tau_steps.specs.declared.errors.ItemError.TheVariants as items
use Rattle.tau_steps.specs.declared.errors.StepError.{StepError}
use Rattle.tau_steps.specs.declared.errors.StepError.TheVariants as errors
use Rattle.tau_steps.specs.declared.items.Place.{Place}
use Rattle.tau_steps.specs.declared.kinds.Kind.{Kind}
use Rattle.tau_steps.specs.Kinds.{kind_of}
use Rattle.tau_steps.specs.Meaning.{Item, MeansItem, MeansItems, items_of, MeansStep}
use Rattle.tau_steps.specs.Faults.{Role, ItemFault, RowFault, roles_of, FormFault}

-- the place is one of a trace
pub record IsPlace (p : Place) : Type 0 where
  pub opening : IsSound p.opening.now
  pub starts : length p.opening.now.names ≤ p.transactors

-- what is meant, or the fault; unknown only where there is no shape
abbrev pub TellsMeaning : {X : Type 0} → (X → Type 0) → (Fault → Type 0) → Result X ItemError → Type 0
TellsMeaning M F (Ok x) = M x
TellsMeaning M F (Err items.Shape) = F shape
TellsMeaning M F (Err items.Unknown) = F unknown × ¬ F shape
TellsMeaning M F (Err items.NoMemory) = Unit {0}

-- what an item means that has a role, or its fault
abbrev pub TellsItem : {X : Type 0} → Place → Role → (X → Item) → Tree → Result X ItemError → Type 0
TellsItem p r item f answer = TellsMeaning (λ x. MeansItem p.opening.now p.transactors p.messages (item x) f) (ItemFault p.opening.now p.transactors p.messages r f) answer

-- the step of this kind that the other items of a form mean, or their fault
abbrev pub TellsRow : Place → Kind → Trees → Result Step ItemError → Type 0
TellsRow p k fs answer = TellsMeaning (λ s. (kind_of s ≡ k) × MeansItems p.opening.now p.transactors p.messages (items_of p.transactors p.messages s) fs) (RowFault p.opening.now p.transactors p.messages (roles_of p.transactors p.messages k) fs) answer

-- the step that a form means, or its fault
abbrev pub TellsStep : Place → Tree → Result Step ItemError → Type 0
TellsStep p f answer = TellsMeaning (MeansStep p.opening.now p.transactors p.messages f) (FormFault p.opening.now p.transactors p.messages f) answer

-- of two errors the one that tells more: unknown gives way
abbrev pub stronger : ItemError → ItemError → ItemError
stronger items.Unknown e = e
stronger d e = d

-- both answers; of two errors the one that tells more
abbrev pub both_of : {X Y : Type 0} → Result X ItemError → Result Y ItemError → Result (X × Y) ItemError
both_of (Ok x) (Ok y) = Ok (x, y)
both_of (Ok x) (Err e) = Err e
both_of (Err d) (Ok y) = Err d
both_of (Err d) (Err e) = Err (stronger d e)

-- the step that a form means at the end of a run, or its fault
abbrev pub TellsNext : Run → Tree → Result Step ItemError → Type 0
TellsNext T f answer = TellsMeaning (MeansStep T.opening (born T (len T)) (sent T (len T)) f) (FormFault T.opening (born T (len T)) (sent T (len T)) f) answer

-- the error of a step for that of its form
abbrev pub step_error : ItemError → ℕ → StepError
step_error items.Shape k = errors.Shape k
step_error items.Unknown k = errors.Unknown k
step_error items.NoMemory k = errors.NoMemory

-- a run goes on with the step that a form means
pub record GoesOn (T : Run) (f : Tree) (U : Run) : Type 0 where
  pub step : Step
  pub few : len T < STEP_LIMIT
  pub means : MeansStep T.opening (born T (len T)) (sent T (len T)) f step
  pub appends : U ≡ appended T step

-- a fault of the form behind a run
abbrev pub NextFault : Run → Tree → Fault → Type 0
NextFault T f e = FormFault T.opening (born T (len T)) (sent T (len T)) f e

-- a run goes on with the step that a form means, or the error tells why not
abbrev pub AddsStep : {X : Type 0} → Run → Tree → Run → Result X StepError → Type 0
AddsStep T f U (Ok x) = GoesOn T f U
AddsStep T f U (Err (errors.Shape k)) = (k ≡ len T) × (NextFault T f shape ⊎ (STEP_LIMIT ≤ len T))
AddsStep T f U (Err (errors.Unknown k)) = (k ≡ len T) × NextFault T f unknown × (¬ NextFault T f shape) × (len T < STEP_LIMIT)
AddsStep T f U (Err errors.NoMemory) = Unit {0}
