-- The run that one hand makes behind the steps of a run (docs/definitions.md, "Run after a run").
use Rattle.std.specs.Prelude.{◌≡◌, ◌⊎◌, ◌≤◌, ◌%◌, ◌==◌, ℕ, nat_lt, not, if◌then◌else◌, Bool, List, [], ◌++◌, Some, length, map, filter, drop, slice_get}
use Rattle.std.specs.List.{list_any}
use Rattle.rand_core.specs.Pcg32Seed.{pcg32_seed}
use Rattle.rand_pcg.specs.Lcg.{Lcg}
use Rattle.rand_pcg.specs.Pcg.{pcg32, pcg32_of_seed}
use Rattle.tau_tree.specs.declared.programs.Program.{Program}
use Rattle.tau_trace.specs.declared.step.Step.{Step}
use Rattle.tau_trace.specs.Run.{Run, len, appended}
use Rattle.tau_script.specs.Scripts.{DueStep, NoneDue}
use Rattle.tau_legal.specs.Traces.{Complete}
use Rattle.tau_queue.specs.OpenTurns.{AreOpenTurns}
use Rattle.tau_queue.specs.Flight.{AreDeliverable}
use Rattle.tau_book.specs.SerialRun.{Choosable, turn, message, IsStepOf}

-- the number is one of these
abbrev pub is_among : List ℕ → ℕ → Bool
is_among numbers n = list_any (λ k. k == n) numbers

-- of the open turns those that a hand has: all but those that wait for it
abbrev pub own_of : List ℕ → List ℕ → List ℕ
own_of turns waiting = filter (λ place. not (is_among waiting place)) turns

-- which turns wait on where these are open: all that did and are open, but for the earliest of them where the hand has fewer than `jobs`
abbrev pub left_of : List ℕ → ℕ → List ℕ → List ℕ
left_of turns jobs waiting = let still = filter (is_among turns) waiting in if nat_lt (length (own_of turns still)) jobs then drop 1 still else still

-- once the hand has taken up the earliest of the turns that wait for it, where it has room, it chooses among its turns by the place of
-- their Take, then, where they are fewer than `jobs`, the messages in flight whose receiver has no open turn, by number
pub record AreOwnOptions (T : Run) (jobs : ℕ) (waiting left : List ℕ) (options : List Choosable) : Type 0 where
  pub turns : List ℕ
  pub turns_are : AreOpenTurns T turns
  pub messages : List ℕ
  pub messages_are : AreDeliverable T messages
  pub left_is : left ≡ left_of turns jobs waiting
  pub options_are : let own = own_of turns left in options ≡ map turn own ++ (if nat_lt (length own) jobs then map message messages else [])

-- the runs that come about step by step behind those of `start`, each with the turns that wait for the hand, at first all that are open,
-- and the generator after the words that were drawn: a due step is the next one; otherwise the word chooses an option
pub data ComesAfter (P : Program) (jobs seed : ℕ) (start : Run) : Run → List ℕ → Lcg → Type 0 where
  begins : {turns : List ℕ} → AreOpenTurns start turns → ComesAfter P jobs seed start start turns (pcg32_of_seed (pcg32_seed 16 seed))
  due : {T : Run} {waiting : List ℕ} {g : Lcg} {s : Step} → ComesAfter P jobs seed start T waiting g → DueStep P.script T (len T) s
      → ComesAfter P jobs seed start (appended T s) waiting g
  chooses : {T : Run} {waiting left : List ℕ} {g : Lcg} {s : Step} {options : List Choosable} {chosen : Choosable}
      → ComesAfter P jobs seed start T waiting g → NoneDue P.script T (len T) → AreOwnOptions T jobs waiting left options
      → slice_get options ((pcg32 g).0 % length options) ≡ Some chosen → IsStepOf P T chosen s → ComesAfter P jobs seed start (appended T s) left (pcg32 g).1

-- the run of a program that one hand with a number of jobs and a seed makes behind the steps of `start`, up to a limit: it ends where it
-- is complete, or otherwise where it has as many steps as the limit
pub record IsRunAfter (P : Program) (jobs seed limit : ℕ) (start T : Run) : Type 0 where
  pub waiting : List ℕ
  pub generator : Lcg
  pub comes_after : ComesAfter P jobs seed start T waiting generator
  pub within : len T ≤ limit
  pub ends : Complete P T ⊎ (len T ≡ limit)
