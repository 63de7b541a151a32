-- What each message of a fitting trace has, whatever the program.
use Rattle.std.specs.Prelude.{ℕ, ◌<◌}
use Rattle.tau_tree.specs.declared.programs.Program.{Program}
use Rattle.tau_trace.specs.Run.{Run, len}
use Rattle.tau_trace.specs.Numbering.{sent, Receives}
use Rattle.tau_legal.specs.Traces.{Fitting}

-- some transactor receives message m
abbrev pub HasReceiver : Run → ℕ → Type 0
HasReceiver T m = (t : ℕ) × Receives T m t

-- each message of a fitting trace has a receiver
abbrev pub MessagesHaveReceivers : Type 0
MessagesHaveReceivers = (P : Program) (T : Run) (m : ℕ) → Fitting P T → m < sent T (len T) → HasReceiver T m
