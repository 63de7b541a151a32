-- The notes of steps (docs/formats.md, "Pictures").
use Rattle.std.specs.Prelude.{◌≡◌, ℕ, zero, suc, ◌<◌, ◌≤◌, List, [], ◌∷◌, ◌++◌, Some, None}
use Rattle.tau_value.specs.declared.shared.Value.{Value}
use Rattle.tau_value.specs.Value.{val_of}
use Rattle.tau_points.specs.declared.point.Point.{Point}
use Rattle.tau_explain.specs.declared.chains.chained.Chained.{Chained}
use Rattle.tau_tree.specs.declared.programs.Program.{Program}
use Rattle.tau_trace.specs.declared.step.Step.{Step}
use Rattle.tau_trace.specs.declared.step.Step.TheVariants.{Checkpoint, Drop, Fall}
use Rattle.tau_trace.specs.Run.{Run, len}
use Rattle.tau_trace.specs.Histories.{Falls}
use Rattle.tau_trace.specs.Points.{point_at}
use Rattle.tau_past.specs.States.{SavedWith}
use Rattle.tau_states.specs.Opening.{opening_states}
use Rattle.tau_cut.specs.declared.cut.Marked.{Marked}
use Rattle.tau_scene.specs.Words.Texts.{saves_text, fell_text, needs_text, back_text, ends_text}
use Rattle.tau_scene.specs.Causes.Causes.{IsCauseAt}

-- what is said of the value that a Checkpoint at place k saves; nothing of another step
abbrev pub IsSavesText : Program → Run → ℕ → Step → List ℕ → Type 0
IsSavesText P T k (Checkpoint t) text = (v : Value) × SavedWith T (opening_states P.starts) t (point_at T t k).interval v × (text ≡ saves_text T.opening.names (val_of v))
IsSavesText P T k s text = text ≡ []

-- what is said of the last point of a cause: it fell, or it is needed
abbrev pub cause_text : List (List ℕ) → Step → Point → List ℕ
cause_text names (Drop t m) p = fell_text names p
cause_text names (Fall t m) p = fell_text names p
cause_text names s p = needs_text names p

-- what is said of the cause of the step at place k, in a run of at most 4,000 steps
pub data IsCauseText (T : Run) (cut : List Marked) (k : ℕ) (s : Step) (text : List ℕ) : Type 0 where
  too_many_steps : 4000 < len T → text ≡ [] → IsCauseText T cut k s text
  no_cause : len T ≤ 4000 → IsCauseAt T cut k None → text ≡ [] → IsCauseText T cut k s text
  one_cause : (chain front : List Chained) (last : Chained) → len T ≤ 4000 → IsCauseAt T cut k (Some chain) → chain ≡ front ++ last ∷ [] → text ≡ cause_text T.opening.names s last.point → IsCauseText T cut k s text

-- what is said of a fall at interval i of transactor t: the saved state to which it goes back, or at interval 0 that it ends
abbrev pub IsBackText : Program → Run → ℕ → ℕ → List ℕ → Type 0
IsBackText P T t zero text = text ≡ ends_text
IsBackText P T t (suc i) text = (v : Value) × SavedWith T (opening_states P.starts) t i v × (text ≡ back_text T.opening.names (val_of v))

-- what is said of a falling step at place k; nothing of another
pub data IsFallText (P : Program) (T : Run) (k : ℕ) (text : List ℕ) : Type 0 where
  falls : (t : ℕ) → Falls T t k → IsBackText P T t (point_at T t k).interval text → IsFallText P T k text
  stays : ((t : ℕ) → ¬ Falls T t k) → text ≡ [] → IsFallText P T k text

-- the note of step s, which stands at place k
pub record IsNote (P : Program) (T : Run) (cut : List Marked) (k : ℕ) (s : Step) (note : List ℕ) : Type 0 where
  pub saves : List ℕ
  pub saves_is : IsSavesText P T k s saves
  pub cause : List ℕ
  pub cause_is : IsCauseText T cut k s cause
  pub back : List ℕ
  pub back_is : IsFallText P T k back
  pub is : note ≡ saves ++ (cause ++ back)
