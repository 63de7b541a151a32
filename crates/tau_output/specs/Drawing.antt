-- What the command `draw` writes (docs/formats.md, "Pictures").
use Rattle.std.specs.Prelude.{ℕ, List, Option}
use Rattle.tau_tree.specs.declared.programs.Program.{Program}
use Rattle.tau_trace.specs.Run.{Run}
use Rattle.tau_trace.specs.Known.{WellFormed}
use Rattle.tau_picture.specs.Asking.{Allows}
use Rattle.tau_picture.specs.Pictures.{IsPictureText}
use Rattle.tau_text.specs.Meaning.{IsRunInput}

-- for an input of these bytes `draw` writes this text, from a place up to another
pub record DrawsAs (from to : ℕ) (ask : Option ℕ) (bytes text : List ℕ) : Type 0 where
  pub program : Program
  pub run : Run
  pub read : IsRunInput bytes program run
  -- each step of the run names what exists before it
  pub well_formed : WellFormed run
  -- the step that is asked for, if one is, is a Hold, a Drop, a Fall, or a Checkpoint that can't be kept
  pub asked : Allows run ask
  -- the text is that of the picture of its program and its run, with the cause of that step
  pub is_text : IsPictureText program run from to ask text
