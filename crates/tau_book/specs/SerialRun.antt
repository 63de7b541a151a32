-- The serial run (docs/definitions.md, "Serial run").
use Rattle.std.specs.Prelude.{◌≡◌, ◌⊎◌, ◌≤◌, ◌%◌, ℕ, nat_lt, if◌then◌else◌, List, [], ◌++◌, Some, length, map, slice_get}
use Rattle.rand_core.specs.Pcg32Seed.{pcg32_seed}
use Rattle.rand_pcg.specs.Lcg.{Lcg}
use Rattle.rand_pcg.specs.Pcg.{pcg32, pcg32_of_seed}
use Rattle.tau_tree.specs.declared.programs.Program.{Program}
use Rattle.tau_trace.specs.declared.step.Step.{Step}
use Rattle.tau_trace.specs.declared.step.Step.TheVariants.{Take, Drop, Fall, Void, Echo, Heed}
use Rattle.tau_trace.specs.Run.{Run, len, appended}
use Rattle.tau_trace.specs.Turns.{Turn}
use Rattle.tau_script.specs.Openings.{program_opening}
use Rattle.tau_script.specs.Scripts.{DueStep, NoneDue}
use Rattle.tau_legal.specs.Fits.{Fits, IsStepOfTurn}
use Rattle.tau_legal.specs.Traces.{Complete}
use Rattle.tau_queue.specs.OpenTurns.{AreOpenTurns}
use Rattle.tau_queue.specs.Flight.{AreDeliverable}

-- what a serial run goes on with: the open turn from a place, or a message in flight
pub data Choosable : Type 0 where
  turn : ℕ → Choosable
  message : ℕ → Choosable

-- the open turns by the place of their Take, then, where fewer of them than `jobs` are open, the messages in flight whose receiver has
-- no open turn, by number
pub record AreOptions (T : Run) (jobs : ℕ) (options : List Choosable) : Type 0 where
  pub turns : List ℕ
  pub turns_are : AreOpenTurns T turns
  pub messages : List ℕ
  pub messages_are : AreDeliverable T messages
  pub options_are : options ≡ map turn turns ++ (if nat_lt (length turns) jobs then map message messages else [])

-- the step is a receipt of message m by t
pub data IsReceipt (t m : ℕ) : Step → Type 0 where
  take : IsReceipt t m (Take t m)
  drop : IsReceipt t m (Drop t m)
  fall : IsReceipt t m (Fall t m)
  void : IsReceipt t m (Void t m)
  echo : IsReceipt t m (Echo t m)
  heed : IsReceipt t m (Heed t m)

-- the fitting step of an open turn, or of a message
pub data IsStepOf (P : Program) (T : Run) : Choosable → Step → Type 0 where
  of_turn : {place t m : ℕ} {s : Step} → Turn T t (len T) place m → IsStepOfTurn P T t s → IsStepOf P T (turn place) s
  of_message : {t m : ℕ} {s : Step} → IsReceipt t m s → Fits P T (len T) s → IsStepOf P T (message m) s

-- the runs that come about step by step, each with the generator after the words that were drawn: a due step is the next one; otherwise
-- the word chooses an option
pub data ComesAbout (P : Program) (jobs seed : ℕ) : Run → Lcg → Type 0 where
  begins : ComesAbout P jobs seed (record { opening = program_opening P; steps = [] }) (pcg32_of_seed (pcg32_seed 16 seed))
  due : {T : Run} {g : Lcg} {s : Step} → ComesAbout P jobs seed T g → DueStep P.script T (len T) s → ComesAbout P jobs seed (appended T s) g
  chooses : {T : Run} {g : Lcg} {s : Step} {options : List Choosable} {chosen : Choosable} → ComesAbout P jobs seed T g → NoneDue P.script T (len T)
      → AreOptions T jobs options → slice_get options ((pcg32 g).0 % length options) ≡ Some chosen → IsStepOf P T chosen s
      → ComesAbout P jobs seed (appended T s) (pcg32 g).1

-- the serial run of a program with a number of jobs, a seed and a limit: it ends where it is complete, or otherwise where it has as
-- many steps as the limit
pub record IsSerialRun (P : Program) (jobs seed limit : ℕ) (T : Run) : Type 0 where
  pub generator : Lcg
  pub comes_about : ComesAbout P jobs seed T generator
  pub within : len T ≤ limit
  pub ends : Complete P T ⊎ (len T ≡ limit)
