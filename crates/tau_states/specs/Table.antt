-- What a table of states says of a run (docs/definitions.md, "State and saved state").
use Rattle.std.specs.Prelude.{◌≡◌, ◌↔◌, ℕ, zero, suc, Bool, IsTrue, List, [], Some, slice_get, length}
use Rattle.tau_value.specs.declared.shared.Value.{Value}
use Rattle.tau_history.specs.Timeline.{interval}
use Rattle.tau_trace.specs.declared.opening.Opening.{Opening}
use Rattle.tau_trace.specs.declared.step.Step.{Step}
use Rattle.tau_trace.specs.Run.{Run, len, appended}
use Rattle.tau_trace.specs.Numbering.{born, IsNew}
use Rattle.tau_trace.specs.Histories.{history, Ended}
use Rattle.tau_trace.specs.Points.{point_at}
use Rattle.tau_trace.specs.Known.{MayFollow, WellFormed}
use Rattle.tau_past.specs.States.{StateAt, SavedWith}
use Rattle.tau_states.specs.declared.state_record.StateRecord.{StateRecord}

-- the records, and whether one more fits without memory
pub record Table : Type 0 where
  pub records : List StateRecord
  pub ready : Bool

-- the value is the state that its New gave transactor t
pub record IsGiven (T : Run) (t : ℕ) (v : Value) : Type 0 where
  pub place : ℕ
  pub by : ℕ
  pub birth : IsNew T place by t
  pub is : birth.state ≡ v

-- the value to which t falls back in an interval: what it saved with the interval before, or what its New gave
abbrev pub IsBase : Run → List Value → ℕ → ℕ → Value → Type 0
IsBase T opening t zero v = IsGiven T t v
IsBase T opening t (suc i) v = SavedWith T opening t i v

-- the record says what the steps below place k say of transactor t; `opening` has the states of starts
pub record Describes (T : Run) (opening : List Value) (t k : ℕ) (r : StateRecord) : Type 0 where
  pub interval : r.interval ≡ interval (history T t k)
  pub stable : r.stable ≡ (history T t k).stable
  pub ended : IsTrue r.ended ↔ Ended T t k
  pub state : StateAt T opening (point_at T t k) k r.state
  pub base : IsBase T opening t r.interval r.base

-- a record for each transactor that exists after the run
pub record Holds (T : Run) (opening : List Value) (records : List StateRecord) : Type 0 where
  pub count : length records ≡ born T (len T)
  pub each : (t : ℕ) (r : StateRecord) → slice_get records t ≡ Some r → Describes T opening t (len T) r

-- the run of an opening without steps
abbrev pub opened_run : Opening → Run
opened_run o = record { opening = o; steps = [] }

-- whatever run the old records are of, the new ones are of that run and the step
abbrev pub Advances : Step → List StateRecord → List StateRecord → Type 0
Advances s old new =
    (T : Run) (opening : List Value) → WellFormed T → MayFollow T s → Holds T opening old → Holds (appended T s) opening new
