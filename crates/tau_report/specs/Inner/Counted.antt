-- The counts of steps, kept step by step beside the states.
use Rattle.std.specs.Prelude.{◌≡◌, ℕ, ◌+◌, ◌<◌, Bool, if◌then◌else◌, List}
use Rattle.tau_value.specs.declared.limits.TheConstants.{STEP_LIMIT}
use Rattle.tau_value.specs.declared.shared.Value.{Value}
use Rattle.tau_trace.specs.declared.step.Step.{Step}
use Rattle.tau_trace.specs.Steps.{is_checkpoint}
use Rattle.tau_trace.specs.Run.{Run, appended}
use Rattle.tau_trace.specs.Known.{MayFollow, WellFormed}
use Rattle.tau_states.specs.declared.state_record.StateRecord.{StateRecord}
use Rattle.tau_states.specs.Table.{Holds}
use Rattle.tau_report.specs.declared.counts.Counts.{Counts}
use Rattle.tau_report.specs.Report.{is_hold, is_drop, is_lose, counts_in}

abbrev pub no_counts : Counts
no_counts = record { checkpoints = 0; holds = 0; drops = 0; falls = 0; losses = 0 }

-- one more where the step passes
abbrev pub one_if : Bool → ℕ
one_if b = if b then 1 else 0

-- the counts with one step more
abbrev pub counts_after : Step → Bool → Counts → Counts
counts_after s falls c = record {
  checkpoints = c.checkpoints + one_if (is_checkpoint s);
  holds = c.holds + one_if (is_hold s);
  drops = c.drops + one_if (is_drop s);
  falls = c.falls + one_if falls;
  losses = c.losses + one_if (is_lose s);
}

-- counts of fewer steps than a trace may have
pub record AreFew (c : Counts) : Type 0 where
  pub checkpoints : c.checkpoints < STEP_LIMIT
  pub holds : c.holds < STEP_LIMIT
  pub drops : c.drops < STEP_LIMIT
  pub falls : c.falls < STEP_LIMIT
  pub losses : c.losses < STEP_LIMIT

-- the states and the counts after a run
pub record IsSurvey (T : Run) (opening : List Value) (records : List StateRecord) (counts : Counts) : Type 0 where
  pub holds : Holds T opening records
  pub counts_are : counts ≡ counts_in T

-- whatever run the old ones are of, the new ones are of that run and the step
abbrev pub AdvancesSurvey : Step → List StateRecord → Counts → List StateRecord → Counts → Type 0
AdvancesSurvey s old counts new more =
    (T : Run) (opening : List Value) → WellFormed T → MayFollow T s → IsSurvey T opening old counts → IsSurvey (appended T s) opening new more
