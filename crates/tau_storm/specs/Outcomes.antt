-- How runs end, and the outcomes of ends (docs/definitions.md, "Storm").
use Rattle.std.specs.Prelude.{◌≡◌, ◌≢◌, ◌⊎◌, ◌<◌, ◌+◌, ◌++◌, ◌∷◌, ℕ, suc, List, [], map, sum, length, All, Contains, codes}
use Rattle.std.specs.List.{AllPairs}
use Rattle.tau_sexpr.specs.Tree.{Tree, headed}
use Rattle.tau_sexpr.specs.Printing.{printed}
use Rattle.tau_tree.specs.declared.programs.Program.{Program}
use Rattle.tau_trace.specs.Run.{Run, len}
use Rattle.tau_trace.specs.Numbering.{born}
use Rattle.tau_legal.specs.Traces.{Complete}
use Rattle.tau_report.specs.Report.{SavedForms}
use Rattle.tau_cut.specs.declared.cut.Marked.{Marked}
use Rattle.tau_cut.specs.Cuts.{IsCut, places_in}
use Rattle.tau_cut.specs.KeptStates.{StateForms}
use Rattle.tau_faults.specs.Ends.{End}
use Rattle.tau_storm.specs.declared.outcomes.Outcome.{Outcome}
use Rattle.tau_storm.specs.declared.totals.Totals.{Totals}

-- the line that tells that a run isn't complete
abbrev pub open_form : Tree
open_form = headed (codes "open") []

-- that line, where the run isn't complete, and no line where it is
pub data AreOpenLines (P : Program) (T : Run) : List Tree → Type 0 where
  complete : Complete P T → AreOpenLines P T []
  stopped : ¬ Complete P T → AreOpenLines P T (open_form ∷ [])

-- the lines by which a run ends: that it isn't complete, the saved states of its report, and the states that its cut
-- keeps
pub record EndsWithLines (P : Program) (T : Run) (lines : List ℕ) : Type 0 where
  pub opened : List Tree
  pub opened_are : AreOpenLines P T opened
  pub saved : List Tree
  pub saved_are : SavedForms P T (born T (len T)) saved
  pub marks : List Marked
  pub is_cut : IsCut T marks
  pub kept : List Tree
  pub kept_are : StateForms P T (places_in marks) (born T (len T)) kept
  pub is : lines ≡ printed (opened ++ saved ++ kept)

-- the end has the outcome with these lines
abbrev pub HasLines : List ℕ → End → Type 0
HasLines lines e = EndsWithLines e.program e.run lines

-- so many of the ends pass the test
pub data CountIs (Passes : End → Type 0) : List End → ℕ → Type 0 where
  none : CountIs Passes [] 0
  one_more : {e : End} {ends : List End} {n : ℕ} → CountIs Passes ends n → Passes e → CountIs Passes (ends ++ e ∷ []) (suc n)
  no_more : {e : End} {ends : List End} {n : ℕ} → CountIs Passes ends n → ¬ Passes e → CountIs Passes (ends ++ e ∷ []) n

-- an end is simpler than another where it has fewer faults, or as many and fewer steps
abbrev pub IsSimpler : End → End → Type 0
IsSimpler e d = (length e.faults < length d.faults) ⊎ ((length e.faults ≡ length d.faults) × (len e.run < len d.run))

-- the first of the simplest of the ends that pass the test
pub record IsSimplest (Passes : End → Type 0) (ends : List End) (e : End) : Type 0 where
  pub front : List End
  pub back : List End
  pub stands : ends ≡ front ++ e ∷ back
  pub passes : Passes e
  -- it is simpler than each before it, and none behind it is simpler
  pub first : (d : End) → Contains front d → Passes d → IsSimpler e d
  pub simplest : (d : End) → Contains back d → Passes d → ¬ IsSimpler d e

-- the outcome tells how many of the ends have its lines, and the seed, the faults, the steps and the script of the simplest
-- of these
pub record IsOutcome (ends : List End) (o : Outcome) : Type 0 where
  pub counted : CountIs (HasLines o.lines) ends o.runs
  pub simplest : End
  pub is_simplest : IsSimplest (HasLines o.lines) ends simplest
  pub seed : o.seed ≡ simplest.seed
  pub faults : o.faults ≡ length simplest.faults
  pub steps : o.steps ≡ len simplest.run
  pub script : o.script ≡ simplest.program.script

-- the outcomes of the ends, each once
pub record AreOutcomes (ends : List End) (outcomes : List Outcome) : Type 0 where
  pub each : All (IsOutcome ends) outcomes
  pub once : AllPairs (λ a b. a.lines ≢ b.lines) outcomes
  pub whole : (e : End) → Contains ends e → (o : Outcome) × Contains outcomes o × HasLines o.lines e

-- an end whose run is complete, and one whose run isn't
abbrev pub IsCompleteEnd : End → Type 0
IsCompleteEnd e = Complete e.program e.run

-- how many ends there are, how many of them are complete and how many aren't, and how many steps they have together
pub record AreTotals (ends : List End) (t : Totals) : Type 0 where
  pub runs : t.runs ≡ length ends
  pub complete : CountIs IsCompleteEnd ends t.complete
  pub stopped : t.stopped + t.complete ≡ t.runs
  pub steps : t.steps ≡ sum (map (λ e. len e.run) ends)
