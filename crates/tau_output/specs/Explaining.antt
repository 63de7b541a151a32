-- What the command `why` writes (docs/formats.md, "Chains").
use Rattle.std.specs.Prelude.{◌≡◌, ℕ, List}
use Rattle.tau_sexpr.specs.Printing.{printed}
use Rattle.tau_tree.specs.declared.programs.Program.{Program}
use Rattle.tau_trace.specs.Run.{Run}
use Rattle.tau_explain.specs.Decisions.{IsDecision, IsWhy}
use Rattle.tau_explain.specs.Texts.{why_forms}
use Rattle.tau_explain.specs.declared.answers.Why.{Why}
use Rattle.tau_text.specs.Meaning.{IsRunInput}

-- for an input of these bytes and this place `why` writes this text
pub record ExplainsAs (place : ℕ) (bytes text : List ℕ) : Type 0 where
  pub program : Program
  pub run : Run
  pub read : IsRunInput bytes program run
  -- a Hold, a Drop or a Fall stands at the place
  pub asked : IsDecision run place
  -- the answer is the first of the shortest chains to a cause of it, or that there is none
  pub answer : Why
  pub explains : IsWhy run place answer
  -- the text has the points of the chain, or the word none
  pub is_text : text ≡ printed (why_forms run.opening answer)
