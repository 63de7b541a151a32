-- What the command `audit` writes.
use Rattle.std.specs.Prelude.{◌≡◌, ℕ, List, ◌++◌, codes}
use Rattle.std.specs.Fmt.{decimal}
use Rattle.tau_points.specs.declared.point.Point.{Point}
use Rattle.tau_value.specs.Written.{name_written}
use Rattle.tau_tree.specs.declared.programs.Program.{Program}
use Rattle.tau_trace.specs.Run.{Run}
use Rattle.tau_past.specs.Safety.{Safe}
use Rattle.tau_past.specs.Audits.{IsBroken}
use Rattle.tau_text.specs.Meaning.{IsRunInput}
use Rattle.tau_output.specs.declared.outputs.End.{End}
use Rattle.tau_output.specs.declared.outputs.End.TheVariants.{Done, Broken}

-- the line for a checkpoint that isn't safe: its place, the point with its transactor by name or number, and where that fell
abbrev pub broken_line : List (List ℕ) → ℕ → Point → ℕ → List ℕ
broken_line names checkpoint point fall =
    codes "broken " ++ decimal checkpoint ++ codes " " ++ name_written names point.who
    ++ (codes " " ++ decimal point.interval ++ codes " " ++ decimal point.incarnation ++ codes " " ++ decimal fall ++ codes "\n")

-- with Done the run is safe; with Broken it isn't, and these are the first checkpoint whose causal past holds a rolled-back point,
-- the least such point, and the first place at which that was rolled back
abbrev pub IsAudited : Run → End → List ℕ → Type 0
IsAudited T Done text = Safe T × (text ≡ codes "safe\n")
IsAudited T (Broken checkpoint point fall) text = (¬ Safe T) × IsBroken T checkpoint point fall × (text ≡ broken_line T.opening.names checkpoint point fall)
IsAudited T end text = ⊥

-- for an input of these bytes `audit` writes this text and ends so
pub record AuditsAs (bytes : List ℕ) (end : End) (text : List ℕ) : Type 0 where
  pub program : Program
  pub run : Run
  pub read : IsRunInput bytes program run
  pub audited : IsAudited run end text
