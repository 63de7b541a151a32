-- What is kept while a claim is tried.
use Rattle.std.specs.Prelude.{◌≡◌, [], ◌∷◌, ℕ, List, Option, Some, None, slice_get}
use Rattle.tau_value.specs.Val.{Val}
use Rattle.tau_tree.specs.declared.programs.Program.{Program}
use Rattle.tau_tree.specs.Code.{Code}
use Rattle.tau_tree.specs.Sound.{bodies}
use Rattle.tau_eval.specs.Eff as eff
use Rattle.tau_eval.specs.Meaning.{next}
use Rattle.tau_faults.specs.Ends.{End}
use Rattle.tau_storm.specs.declared.outcomes.Outcome.{Outcome}
use Rattle.tau_storm.specs.declared.trials.Trial.{Trial}
use Rattle.tau_storm.specs.declared.trials.TrialTold.{TrialTold}
use Rattle.tau_storm.specs.Order.{AreOrdered}
use Rattle.tau_storm.specs.Tables.{IsTable}
use Rattle.tau_storm.specs.Claims.{AreBroken}
use Rattle.tau_storm.specs.Inner.Telling.{TellsEnds}

-- the first effect of a behaviour for a message, with no reply, is that it is done
pub record IsDoneFor (P : Program) (behaviour : ℕ) (message : Val) : Type 0 where
  pub body : Code
  pub body_is : slice_get (bodies P) behaviour ≡ Some body
  pub done : next body (record { nodes = P.nodes; own = 0; message = message }) [] ≡ eff.done

-- the trial of a behaviour has the tables of these ends, and of those at which it is broken
pub record IsTrial (behaviour : ℕ) (ends : List End) (t : Trial) : Type 0 where
  pub number : t.behaviour ≡ behaviour
  pub all : IsTable ends t.all
  pub broken : List End
  pub broken_are : AreBroken behaviour ends broken
  pub broken_table : IsTable broken t.broken

-- of these ends, and of those at which it is broken, this is told
pub record TellsTrial (behaviour : ℕ) (ends : List End) (t : TrialTold) : Type 0 where
  pub all : TellsEnds ends t.all
  pub broken : List End
  pub broken_are : AreBroken behaviour ends broken
  pub broken_told : TellsEnds broken t.broken

-- the first outcome of these ends, if there is one
abbrev pub IsFirstOf : List End → Option Outcome → Type 0
IsFirstOf ends None = AreOrdered ends []
IsFirstOf ends (Some first) = (others : List Outcome) × AreOrdered ends (first ∷ others)
