-- The step that a form means, where there are so many transactors and messages of an opening.
use Rattle.std.specs.Prelude.{◌≡◌, ℕ, ◌<◌, ◌≤◌, Bool, true, false, List, [], ◌∷◌, length, slice_get, Option, Some, None, codes, if◌then◌else◌}
use Rattle.std.specs.Str.{bytes_eq}
use Rattle.tau_value.specs.declared.limits.TheConstants.{STEP_LIMIT}
use Rattle.tau_sexpr.specs.Tree.{Tree, Trees, word, list, none, more}
use Rattle.tau_value.specs.Val.{Val}
use Rattle.tau_value.specs.Value.{val_of}
use Rattle.tau_value.specs.Names.{place_of}
use Rattle.tau_value.specs.Numbers.{count_in}
use Rattle.tau_value.specs.Meaning.{number_named, Means}
use Rattle.tau_trace.specs.declared.opening.Opening.{Opening}
use Rattle.tau_trace.specs.declared.step.Step.{Step}
use Rattle.tau_trace.specs.declared.step.Step.TheVariants.{Take, Drop, Fall, Void, Get, Set, Skip, Send, New, Stabilize, Ask, Checkpoint, Hold, Rollback, Stay, Done, Trap, Fail, Lose, Echo, Heed, Repeat}
use Rattle.tau_trace.specs.Run.{Run, len, step_at}
use Rattle.tau_trace.specs.Numbering.{born, sent}
use Rattle.tau_trace.specs.Known.{IsInVersion}
use Rattle.tau_steps.specs.StepForms.{kind_word}

-- what an item of the form of a step means
pub data Item : Type 0 where
  -- a transactor that exists: a start by its name, another by its number
  transactor : ℕ → Item
  -- a message that exists
  message : ℕ → Item
  -- the number that the step makes
  next : ℕ → Item
  -- a behaviour, by its name
  behaviour : ℕ → Item
  -- a node that is there
  node : ℕ → Item
  -- a code, 1 to 8
  code : ℕ → Item
  truth : Bool → Item
  value : Val → Item

-- the other items of the form of a step, where there are so many transactors and messages
abbrev pub items_of : ℕ → ℕ → Step → List Item
items_of transactors messages (Take t m) = transactor t ∷ message m ∷ []
items_of transactors messages (Drop t m) = transactor t ∷ message m ∷ []
items_of transactors messages (Fall t m) = transactor t ∷ message m ∷ []
items_of transactors messages (Void t m) = transactor t ∷ message m ∷ []
items_of transactors messages (Get t) = transactor t ∷ []
items_of transactors messages (Set t v) = transactor t ∷ value (val_of v) ∷ []
items_of transactors messages (Skip t) = transactor t ∷ []
items_of transactors messages (Send t u v) = transactor t ∷ next messages ∷ transactor u ∷ value (val_of v) ∷ []
items_of transactors messages (New t b n v) = transactor t ∷ next transactors ∷ behaviour b ∷ node n ∷ value (val_of v) ∷ []
items_of transactors messages (Stabilize t) = transactor t ∷ []
items_of transactors messages (Ask t a) = transactor t ∷ truth a ∷ []
items_of transactors messages (Checkpoint t) = transactor t ∷ []
items_of transactors messages (Hold t) = transactor t ∷ []
items_of transactors messages (Rollback t) = transactor t ∷ []
items_of transactors messages (Stay t) = transactor t ∷ []
items_of transactors messages (Done t) = transactor t ∷ []
items_of transactors messages (Trap t c) = transactor t ∷ code c ∷ []
items_of transactors messages (Fail t) = transactor t ∷ []
items_of transactors messages (Lose m) = message m ∷ []
items_of transactors messages (Echo t m) = transactor t ∷ next messages ∷ message m ∷ []
items_of transactors messages (Heed t m) = transactor t ∷ message m ∷ []
items_of transactors messages (Repeat m) = next messages ∷ message m ∷ []

-- the number that a form names a transactor by: a start's by its name, another's by a count below the bound
abbrev pub named_at : List (List ℕ) → ℕ → Tree → Option ℕ
named_at names bound (word w) = number_named names bound w
named_at names bound t = None

-- the place of a name
abbrev pub place_at : List (List ℕ) → Tree → Option ℕ
place_at names (word w) = place_of names w
place_at names t = None

-- the number of a count
abbrev pub count_at : Tree → Option ℕ
count_at (word w) = count_in w
count_at t = None

-- a truth
abbrev pub truth_at : Tree → Option Bool
truth_at (word w) = if bytes_eq w (codes "true") then Some true else (if bytes_eq w (codes "false") then Some false else None)
truth_at t = None

-- a form means an item, where there are so many transactors and messages
abbrev pub MeansItem : Opening → ℕ → ℕ → Item → Tree → Type 0
MeansItem o transactors messages (transactor t) f = named_at o.names transactors f ≡ Some t
MeansItem o transactors messages (message m) f = (count_at f ≡ Some m) × (m < messages)
MeansItem o transactors messages (next n) f = count_at f ≡ Some n
MeansItem o transactors messages (behaviour b) f = place_at o.behaviours f ≡ Some b
MeansItem o transactors messages (node n) f = (count_at f ≡ Some n) × (n < o.nodes)
MeansItem o transactors messages (code c) f = (count_at f ≡ Some c) × (1 ≤ c) × (c ≤ 8)
MeansItem o transactors messages (truth a) f = truth_at f ≡ Some a
MeansItem o transactors messages (value v) f = Means o.names transactors f v

-- forms mean items, one by one
abbrev pub MeansItems : Opening → ℕ → ℕ → List Item → Trees → Type 0
MeansItems o transactors messages [] none = Unit {0}
MeansItems o transactors messages (i ∷ is) (more f fs) = MeansItem o transactors messages i f × MeansItems o transactors messages is fs
MeansItems o transactors messages [] (more f fs) = ⊥
MeansItems o transactors messages (i ∷ is) none = ⊥

-- a form means a step, where there are so many transactors and messages; in version 1 none means a step of a later kind
abbrev pub MeansStep : Opening → ℕ → ℕ → Tree → Step → Type 0
MeansStep o transactors messages (list (more (word h) fs)) s = (h ≡ kind_word s) × MeansItems o transactors messages (items_of transactors messages s) fs × IsInVersion o.version s
MeansStep o transactors messages f s = ⊥

-- forms mean the steps of a run with this opening, one by one
pub record MeansSteps (o : Opening) (fs : List Tree) (T : Run) : Type 0 where
  pub opening : T.opening ≡ o
  pub count : len T ≡ length fs
  pub few : length fs ≤ STEP_LIMIT
  pub each : (k : ℕ) (f : Tree) (s : Step) → slice_get fs k ≡ Some f → step_at T k ≡ Some s → MeansStep o (born T k) (sent T k) f s
