-- Each message of a fitting trace has a receiver.
use Rattle.std.proofs.Common.{ℕ, ◌<◌, arith}
use Rattle.tau_tree.specs.declared.programs.Program.{Program}
use Rattle.tau_trace.specs.Run.{Run, len}
use Rattle.tau_trace.specs.Numbering.{sent}
use Rattle.tau_legal.specs.Traces.{Fitting}
use Rattle.tau_legal.specs.Receivers.{HasReceiver}
use Rattle.tau_legal.proofs.TurnLemmas.{receiver_exists}

pub receivers_of_fitting : (P : Program) (T : Run) (m : ℕ) → Fitting P T → m < sent T (len T) → HasReceiver T m
receivers_of_fitting P T m f l = receiver_exists P T f.steps m (len T) (omega arith) l
