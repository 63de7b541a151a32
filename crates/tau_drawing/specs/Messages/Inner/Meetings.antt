-- The messages that the drawn steps before a place receive or lose.
use Rattle.std.specs.Prelude.{ℕ, ◌<◌}
use Rattle.tau_trace.specs.Run.{Run}
use Rattle.tau_svg.specs.declared.shapes.window.Window.{Window}
use Rattle.tau_drawing.specs.Messages.Messages.{IsMet}

-- a drawn step before place k receives or loses message m
pub record IsMetBefore (T : Run) (v : Window) (k m : ℕ) : Type 0 where
  pub is : IsMet T v m
  pub before : is.place < k
