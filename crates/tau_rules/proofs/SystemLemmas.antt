-- What a system keeps after one step more.
use Rattle.std.proofs.Common.{◌≡◌, Option, List, sym, subst}
use Rattle.tau_value.specs.declared.shared.Value.{Value}
use Rattle.tau_tree.specs.declared.programs.Program.{Program}
use Rattle.tau_trace.specs.declared.step.Step.{Step}
use Rattle.tau_trace.specs.Steps.{actor}
use Rattle.tau_trace.specs.Run.{Run, len, appended}
use Rattle.tau_trace.specs.Known.{WellFormed, MayFollow}
use Rattle.tau_trace.proofs.Indexing.{well_formed_appended}
use Rattle.tau_states.specs.declared.state_record.StateRecord.{StateRecord}
use Rattle.tau_states.specs.Opening.{opening_states}
use Rattle.tau_states.specs.Table.{Advances}
use Rattle.tau_legal.specs.Fits.{Fits}
use Rattle.tau_legal.proofs.TraceLemmas.{fitting_grows}
use Rattle.tau_rules.specs.declared.records.Record.{Record}
use Rattle.tau_rules.specs.declared.records.RecordChange.{RecordChange}
use Rattle.tau_rules.specs.Records.{AreRecords, AreValues, Changes, HasChanged, IsNewborn, with_newborn, sent_value, with_sent}
use Rattle.tau_rules.specs.System.{IsSystem}
use Rattle.tau_rules.proofs.RecordLemmas.{records_change}
use Rattle.tau_rules.proofs.MessageLemmas.{values_change}

-- what is kept after a step, from its parts
goes_on : (P : Program) (T : Run) (s : Step) (old new : List StateRecord) (records records_after : List Record) (values values_after : List Value)
    → MayFollow T s → Fits P T (len T) s → IsSystem P T old records values → Advances s old new
    → AreRecords P (appended T s) records_after → AreValues P (appended T s) values_after → IsSystem P (appended T s) new records_after values_after
goes_on P T s old new records records_after values values_after may fits system advances are_records are_values = record {
  sound = system.sound;
  well_formed = well_formed_appended T s system.well_formed may;
  fitting = fitting_grows P T s system.well_formed (well_formed_appended T s system.well_formed may) system.fitting fits;
  states_hold = advances T (opening_states P.starts) system.well_formed may system.states_hold;
  records_are = are_records;
  values_are = are_values;
}

-- a step is appended: the run, the states, the records and the values after it
pub made : (P : Program) (T V : Run) (s : Step) (c : RecordChange) (old new : List StateRecord) (records changed records_after : List Record) (newborn : Option Record) (values values_after : List Value)
    → MayFollow T s → Fits P T (len T) s → Changes P T s c → IsSystem P T old records values
    → V ≡ appended T s → Advances s old new → HasChanged c (actor s) records changed → IsNewborn s newborn → records_after ≡ with_newborn changed newborn → values_after ≡ with_sent values (sent_value values s)
    → IsSystem P V new records_after values_after
made P T V s c old new records changed records_after newborn values values_after may fits changes system run advances has_changed is_newborn after sent =
    let w : WellFormed (appended T s) = well_formed_appended T s system.well_formed may in
    let are_records = records_change P T s system.well_formed w c records changed newborn system.fitting may fits changes has_changed is_newborn system.records_are in
    let are_values = values_change P T s system.well_formed w fits values system.values_are in
    let whole = goes_on P T s old new records (with_newborn changed newborn) values (with_sent values (sent_value values s)) may fits system advances are_records are_values in
    subst (λ (R : Run). IsSystem P R new records_after values_after) (sym run)
    (subst (λ (rs : List Record). IsSystem P (appended T s) new rs values_after) (sym after)
    (subst (λ (vs : List Value). IsSystem P (appended T s) new (with_newborn changed newborn) vs) (sym sent) whole))
