-- What the command `cut` writes.
use Rattle.std.specs.Prelude.{ℕ, List}
use Rattle.tau_tree.specs.declared.programs.Program.{Program}
use Rattle.tau_trace.specs.Run.{Run}
use Rattle.tau_cut.specs.Texts.{IsCutText}
use Rattle.tau_text.specs.Meaning.{IsRunInput}

-- for an input of these bytes `cut` writes this text: that of the greatest consistent set of checkpoints of its run, with the states
-- that are kept
pub record CutsAs (bytes text : List ℕ) : Type 0 where
  pub program : Program
  pub run : Run
  pub read : IsRunInput bytes program run
  pub is_text : IsCutText program run text
