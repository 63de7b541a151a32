-- Claims: behaviours that are to hold at each end of a storm (docs/definitions.md, "Storm").
use Rattle.std.specs.Prelude.{◌≡◌, ◌++◌, ◌∷◌, ℕ, List, [], Option, Some, None, slice_get, length, All}
use Rattle.tau_value.specs.declared.shared.Value.{Value}
use Rattle.tau_value.specs.Val.{Val, list, none, more, inside}
use Rattle.tau_value.specs.Value.{val_of}
use Rattle.tau_value.specs.Sizes.{IsInBounds}
use Rattle.tau_tree.specs.declared.programs.Program.{Program}
use Rattle.tau_tree.specs.Code.{Code}
use Rattle.tau_tree.specs.Sound.{bodies}
use Rattle.tau_trace.specs.Run.{Run}
use Rattle.tau_states.specs.Opening.{opening_states}
use Rattle.tau_states.specs.Answers.{IsSavedAfter}
use Rattle.tau_eval.specs.Eff as eff
use Rattle.tau_eval.specs.Meaning.{next}
use Rattle.tau_cut.specs.declared.states.Kept.{Kept}
use Rattle.tau_cut.specs.KeptStates.{AreKeptStates}
use Rattle.tau_faults.specs.Ends.{End}
use Rattle.tau_storm.specs.declared.outcomes.Outcome.{Outcome}
use Rattle.tau_storm.specs.Order.{AreOrdered}

-- what each start saved last, by number
pub record AreSavedValues (P : Program) (T : Run) (values : List Val) : Type 0 where
  pub count : length values ≡ length P.starts
  pub each : (t : ℕ) (v : Val) → slice_get values t ≡ Some v → (saved : Value) × IsSavedAfter T (opening_states P.starts) t (Some saved) × (val_of saved ≡ v)

-- what is kept of each start with the greatest cut, by number
pub record AreKeptValues (P : Program) (T : Run) (values : List Val) : Type 0 where
  pub kept : List (Option Kept)
  pub kept_are : AreKeptStates P T kept
  pub count : length values ≡ length P.starts
  pub each : (t : ℕ) (v : Val) → slice_get values t ≡ Some v → (k : Kept) × (slice_get kept t ≡ Some (Some k)) × (val_of k.value ≡ v)

-- the message of a claim at an end: the list of what the starts saved, and that of what is kept of them
pub record IsClaimMessage (P : Program) (T : Run) (message : Val) : Type 0 where
  pub saved : List Val
  pub saved_are : AreSavedValues P T saved
  pub kept : List Val
  pub kept_are : AreKeptValues P T kept
  pub is : message ≡ list (more (list (inside saved)) (more (list (inside kept)) none))

-- the behaviour with this number holds as a claim at an end: its message is in bounds, and with no reply its first effect is that it is
-- done
pub record Holds (behaviour : ℕ) (e : End) : Type 0 where
  pub message : Val
  pub is_message : IsClaimMessage e.program e.run message
  pub within : IsInBounds message
  pub body : Code
  pub body_is : slice_get (bodies e.program) behaviour ≡ Some body
  pub done : next body (record { nodes = e.program.nodes; own = 0; message = message }) [] ≡ eff.done

-- those of the ends, in their order, at which the claim is broken
pub data AreBroken (behaviour : ℕ) : List End → List End → Type 0 where
  no_end : AreBroken behaviour [] []
  holds : {e : End} {ends broken : List End} → AreBroken behaviour ends broken → Holds behaviour e → AreBroken behaviour (ends ++ e ∷ []) broken
  breaks : {e : End} {ends broken : List End} → AreBroken behaviour ends broken → ¬ Holds behaviour e → AreBroken behaviour (ends ++ e ∷ []) (broken ++ e ∷ [])

-- the first of the outcomes of the ends at which the claim is broken
pub record IsFirstBroken (behaviour : ℕ) (ends : List End) (first : Outcome) : Type 0 where
  pub broken : List End
  pub broken_are : AreBroken behaviour ends broken
  pub others : List Outcome
  pub outcomes_are : AreOrdered broken (first ∷ others)

-- whether the claim holds at each of the ends: it does, or this is the first of the outcomes of those at which it is broken
abbrev pub IsTried : ℕ → List End → Option Outcome → Type 0
IsTried behaviour ends None = All (Holds behaviour) ends
IsTried behaviour ends (Some first) = IsFirstBroken behaviour ends first
