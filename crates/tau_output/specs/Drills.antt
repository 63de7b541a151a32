-- What the command `drill` writes (docs/formats.md, "Drills").
use Rattle.std.specs.Prelude.{◌≡◌, ℕ, List, [], ◌∷◌, codes}
use Rattle.tau_sexpr.specs.Tree.{Tree}
use Rattle.tau_sexpr.specs.Printing.{printed}
use Rattle.tau_trace.specs.Run.{Run, len}
use Rattle.tau_trace.specs.Known.{WellFormed}
use Rattle.tau_past.specs.Safety.{Safe}
use Rattle.tau_legal.specs.Traces.{Legal}
use Rattle.tau_report.specs.Report.{count_of, counts_form}
use Rattle.tau_book.specs.SerialRun.{IsSerialRun}
use Rattle.tau_gen.specs.Generated.{generated}
use Rattle.tau_output.specs.declared.outputs.End.{End}
use Rattle.tau_output.specs.Runs.{EndsAs}

-- the form with a number of steps
abbrev pub steps_form : ℕ → Tree
steps_form n = count_of (codes "steps") n

-- the two lines for a run: how many steps it has, and the counts of its report
abbrev pub drill_lines : Run → List Tree
drill_lines T = steps_form (len T) ∷ counts_form T ∷ []

-- with this number `drill` writes this text and ends so
pub record DrillsAs (number : ℕ) (end : End) (text : List ℕ) : Type 0 where
  -- there is a run, each step of which names what exists before it
  pub run : Run
  pub well_formed : WellFormed run
  -- it is the serial run of the generated program of the number, with one job at most, this seed and at most 200,000 steps
  pub serial : IsSerialRun (generated number) 1 number 200000 run
  -- each step of it is legal after the steps before it, and no checkpoint's causal past holds a point that is rolled back in it
  pub legal : Legal (generated number) run
  pub safe : Safe run
  -- with Done it is complete and has at most 200,000 steps; with Stopped it has exactly so many and is not complete
  pub ends : EndsAs 200000 (generated number) run end
  -- the text is that of the two lines, printed
  pub is_text : text ≡ printed (drill_lines run)
