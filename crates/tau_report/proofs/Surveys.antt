-- The states and the counts of the first steps of a run.
use Rattle.std.proofs.Common.{◌≡◌, ℕ, suc, ◌<◌, Bool, List, Some, sym, ap, ◌∙◌, subst, arith}
use Rattle.std.proofs.lemmas.Option.{slice_get_within}
use Rattle.tau_value.specs.declared.shared.Value.{Value}
use Rattle.tau_trace.specs.declared.step.Step.{Step}
use Rattle.tau_trace.specs.Run.{Run, len, step_at, appended}
use Rattle.tau_trace.specs.Known.{MayFollow, WellFormed}
use Rattle.tau_trace.proofs.Prefix.{prefix, len-prefix, may_follow_prefix}
use Rattle.tau_states.specs.declared.state_record.StateRecord.{StateRecord}
use Rattle.tau_states.specs.Table.{Holds, Advances, opened_run}
use Rattle.tau_report.specs.declared.counts.Counts.{Counts}
use Rattle.tau_report.specs.Report.{falls_at}
use Rattle.tau_report.specs.Inner.Counted.{no_counts, counts_after, AreFew, IsSurvey, AdvancesSurvey}
use Rattle.tau_report.proofs.Prefixes.{prefix_next, prefix_whole, well_formed_prefix}
use Rattle.tau_report.proofs.Counting.{counts_next, counts_opened, are_few}

pub advances_survey : (s : Step) (old new : List StateRecord) (c d : Counts) (falls : Bool) → ((T : Run) (opening : List Value) → Holds T opening old → MayFollow T s → falls ≡ falls_at (appended T s) (len T)) → d ≡ counts_after s falls c → Advances s old new → AdvancesSurvey s old c new d
advances_survey s old new c d falls says is advances T opening w may x = record {
  holds = advances T opening w may x.holds;
  counts_are = is ∙ (λ i. counts_after s (says T opening x.holds may i) (x.counts_are i)) ∙ sym (counts_next T s);
}

module _ (T : Run) (w : WellFormed T) (opening : List Value) where
  pub survey_first : (records : List StateRecord) → Holds (opened_run T.opening) opening records → IsSurvey (prefix T 0) opening records no_counts
  survey_first records h = record { holds = h; counts_are = counts_opened T.opening }

  pub survey_next : (k : ℕ) (s : Step) (old new : List StateRecord) (c d : Counts) → step_at T k ≡ Some s → AdvancesSurvey s old c new d → IsSurvey (prefix T k) opening old c → IsSurvey (prefix T (suc k)) opening new d
  survey_next k s old new c d e advances x =
      let below = slice_get_within T.steps k s e in
      let P : Run → Type 0 = λ U. IsSurvey U opening new d in
      subst P (prefix_next T k s e) (advances (prefix T k) opening (well_formed_prefix T k w (omega (arith, below))) (may_follow_prefix T k s w e) x)

  pub survey_few : (k : ℕ) (records : List StateRecord) (c : Counts) → k < len T → IsSurvey (prefix T k) opening records c → AreFew c
  survey_few k records c l x = are_few (prefix T k) c x.counts_are (omega (arith, len-prefix T k (omega arith), w.few_steps))

  pub survey_whole : (k : ℕ) (records : List StateRecord) (c : Counts) → k ≡ len T → IsSurvey (prefix T k) opening records c → IsSurvey T opening records c
  survey_whole k records c e x =
      let P : Run → Type 0 = λ U. IsSurvey U opening records c in
      subst P (ap (prefix T) e ∙ prefix_whole T) x
