-- What the readings of an input for its program have found.
use Rattle.std.specs.Prelude.{◌≡◌, ◌≤◌, ℕ, true, List, length}
use Rattle.std.specs.List.{flat_map}
use Rattle.tau_sexpr.specs.Tree.{Tree}
use Rattle.tau_sexpr.specs.Spelling.{IsSpelling}
use Rattle.tau_sexpr.specs.Rest.{forms_from, behind}
use Rattle.tau_forms.specs.Readings.{IsOutline, HasTaken}
use Rattle.tau_forms.specs.declared.builder.ProgramBuilder.{ProgramBuilder}
use Rattle.tau_forms.specs.declared.outline.Outline.{Outline}
use Rattle.tau_text.specs.Parts.{has_trace}
use Rattle.tau_text.specs.declared.front.Front.{Front}
use Rattle.tau_text.specs.declared.programs.Survey.{Survey}

-- what forms define, and whether `(trace)` is among them
pub record IsSurvey (ts : List Tree) (s : Survey) : Type 0 where
  pub outline : IsOutline ts s.outline
  pub marked : s.marked ≡ has_trace ts

-- the same of the forms that bytes spell
pub record IsSurveyOf (bytes : List ℕ) (s : Survey) : Type 0 where
  pub forms : List Tree
  pub spelled : IsSpelling bytes forms
  pub survey : IsSurvey forms s

-- bytes spell forms with `(trace)` among them
pub record IsMarkedText (bytes : List ℕ) : Type 0 where
  pub forms : List Tree
  pub spelled : IsSpelling bytes forms
  pub marked : has_trace forms ≡ true

-- the outline of the forms that bytes spell
pub record IsOutlineOf (bytes : List ℕ) (o : Outline) : Type 0 where
  pub forms : List Tree
  pub spelled : IsSpelling bytes forms
  pub outline : IsOutline forms o

-- the forms of pieces, in order
abbrev pub joined : List (List Tree) → List Tree
joined pieces = flat_map (λ forms. forms) pieces

-- the forms that bytes give up to a place
pub record IsFront (bytes : List ℕ) (f : Front) : Type 0 where
  pub within : f.end ≤ length bytes
  pub read : forms_from bytes 0 ≡ behind (joined f.pieces.items) (forms_from bytes f.end)

-- a builder of the program of the forms that bytes spell, which has taken those up to a place
pub record IsBegun (bytes : List ℕ) (start : ℕ) (b : ProgramBuilder) : Type 0 where
  pub forms : List Tree
  pub spelled : IsSpelling bytes forms
  pub front : List Tree
  pub within : start ≤ length bytes
  pub read : forms_from bytes 0 ≡ behind front (forms_from bytes start)
  pub taken : HasTaken forms front b

-- no fault of forms: what is left of the faults of bytes are those that spell none
abbrev pub NoFault : List Tree → ℕ → ℕ → Type 0
NoFault forms fault at = ⊥
