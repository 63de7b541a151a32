-- The step of an effect (docs/rules.md, "Steps").
use Rattle.std.specs.Prelude.{◌≡◌, ℕ, Bool, true, false, IsTrue, Some, List}
use Rattle.tau_value.specs.Value.{val_of}
use Rattle.tau_tree.specs.declared.programs.Program.{Program}
use Rattle.tau_trace.specs.declared.step.Step.{Step}
use Rattle.tau_trace.specs.declared.step.Step.TheVariants.{Get, Set, Skip, Send, New, Stabilize, Ask, Checkpoint, Hold, Rollback, Stay, Done, Trap}
use Rattle.tau_trace.specs.Steps.{actor, ends_turn}
use Rattle.tau_trace.specs.Run.{Run, len}
use Rattle.tau_states.specs.Opening.{opening_states}
use Rattle.tau_states.specs.Table.{Holds}
use Rattle.tau_states.specs.declared.state_record.StateRecord.{StateRecord}
use Rattle.tau_eval.specs.Eff.{Eff, ask, checkpoint}
use Rattle.tau_legal.specs.Turns.{TurnHas, Replies}
use Rattle.tau_legal.specs.Fits.{Fits, IsStepOfTurn}
use Rattle.tau_legal.specs.declared.choices.Choice.{Choice}
use Rattle.tau_legal.specs.declared.choices.Choice.TheVariants.{GoesOn, Ends}

-- those after which the turn goes on
abbrev pub goes_on : Step → Bool
goes_on (Get t) = true
goes_on (Set t v) = true
goes_on (Skip t) = true
goes_on (Send t u v) = true
goes_on (New t b n v) = true
goes_on (Stabilize t) = true
goes_on (Ask t a) = true
goes_on s = false

-- whether the step of the effect depends on whether its transactor is free
abbrev pub asks_freedom : Eff → Bool
asks_freedom ask = true
asks_freedom checkpoint = true
asks_freedom e = false

-- a step after which the turn goes on, with its reply; or one that ends the turn
abbrev pub IsChoice : Program → Run → ℕ → Choice → Type 0
IsChoice P T t (GoesOn s reply) = IsStepOfTurn P T t s × IsTrue (goes_on s) × Replies T (opening_states P.starts) (len T) s (val_of reply)
IsChoice P T t (Ends s) = IsStepOfTurn P T t s × IsTrue (ends_turn s)

-- in each run of a program in which t's open turn has the effect and the records are the states, the choice is right
abbrev pub IsChoiceOf : Run → List StateRecord → ℕ → Eff → Choice → Type 0
IsChoiceOf T records t e c = (P : Program) → Holds T (opening_states P.starts) records → TurnHas P T t (len T) e → IsChoice P T t c
