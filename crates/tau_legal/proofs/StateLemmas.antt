-- At each place each transactor that exists has a state.
use Rattle.std.proofs.Common.{◌≡◌, ℕ, zero, suc, ◌<◌, ◌≤◌, List, [], ◌∷◌, ◌++◌, length, map, take, Some, refl, sym, ap, ◌∙◌, subst, arith}
use Rattle.std.specs.Prelude.{slice_get}
use Rattle.std.proofs.Math.Seq.{take-suc}
use Rattle.std.proofs.lemmas.Option.{slice_get_within, get_or_from_slice_get}
use Rattle.tau_value.specs.declared.shared.Value.{Value}
use Rattle.tau_tree.specs.declared.starts.Start.{Start}
use Rattle.tau_trace.specs.declared.step.Step.{Step}
use Rattle.tau_trace.specs.Run.{Run, Agree, step_at, len, appended}
use Rattle.tau_trace.specs.Numbering.{born, sent}
use Rattle.tau_trace.specs.Points.{point_at}
use Rattle.tau_trace.specs.Known.{WellFormed, IsKnownAt}
use Rattle.tau_trace.proofs.Lists.{slice_get-take}
use Rattle.tau_trace.proofs.Prefix.{run_of, prefix, agree_prefix, len-prefix, may_follow_prefix}
use Rattle.tau_trace.proofs.Agreement.{agree_sym, agree_below, born-same, sent-same}
use Rattle.tau_trace.proofs.Indexing.{known_same}
use Rattle.tau_past.specs.States.{StateAt}
use Rattle.tau_states.specs.declared.state_record.StateRecord.{StateRecord}
use Rattle.tau_states.specs.Opening.{opening_states}
use Rattle.tau_states.specs.Effects.{started, records_after}
use Rattle.tau_states.specs.Table.{Holds}
use Rattle.tau_states.proofs.Agreement.{describes_same}
use Rattle.tau_states.proofs.Tables.{holds_opened, advances}

-- a list has an item at each place below its length
pub element : {A : Type 0} (xs : List A) (i : ℕ) → i < length xs → (x : A) × (slice_get xs i ≡ Some x)
element [] i l = absurd (omega arith)
element (x ∷ xs) zero l = (x, refl)
element (x ∷ xs) (suc i) l = element xs i (omega arith)

pub prefix_next : (T : Run) (k : ℕ) (s : Step) → step_at T k ≡ Some s → appended (prefix T k) s ≡ prefix T (suc k)
prefix_next T k s e =
    let at = get_or_from_slice_get T.steps k s s e in
    ap (run_of T.opening) (ap (λ x. take k T.steps ++ x ∷ []) (sym at) ∙ sym (take-suc T.steps k s (slice_get_within T.steps k s e)))

pub well_formed_prefix : (T : Run) (k : ℕ) → WellFormed T → k ≤ len T → WellFormed (prefix T k)
well_formed_prefix T k w l = record {
  opening = w.opening;
  known = known;
  versions = λ j s e. let below : j < k = omega (arith, slice_get_within (take k T.steps) j s e, len-prefix T k l) in w.versions j s (sym (slice_get-take k T.steps j below) ∙ e);
  few_steps = omega (arith, len-prefix T k l, w.few_steps);
} where
  known : (j : ℕ) (s : Step) → step_at (prefix T k) j ≡ Some s → IsKnownAt (prefix T k) j s
  known j s e =
      let below : j < k = omega (arith, slice_get_within (take k T.steps) j s e, len-prefix T k l) in
      let agree = agree_below j (omega arith) (agree_prefix T k) in
      known_same T.opening (born T j) (born (prefix T k) j) (sent T j) (sent (prefix T k) j) s (born-same j agree) (sent-same j agree) (w.known j s (sym (slice_get-take k T.steps j below) ∙ e))

module _ (T : Run) (starts : List Start) (w : WellFormed T) (count : length T.opening.names ≡ length starts) where
  -- a table of states for the first steps of the run
  holds_at : (k : ℕ) → k ≤ len T → (rs : List StateRecord) × Holds (prefix T k) (opening_states starts) rs
  holds_at zero l = (map (λ s. started s.state) starts, holds_opened T.opening starts count)
  holds_at (suc k) l =
      let here = element T.steps k (omega arith) in
      let so_far = holds_at k (omega arith) in
      let may = may_follow_prefix T k here.0 w here.1 in
      let after = records_after here.0 so_far.0 in
      let longer = advances here.0 so_far.0 after refl (prefix T k) (opening_states starts) (well_formed_prefix T k w (omega arith)) may so_far.1 in
      (after, subst (λ U. Holds U (opening_states starts) after) (prefix_next T k here.0 here.1) longer)

  pub state_exists : (t k : ℕ) → k ≤ len T → t < born T k → (v : Value) × StateAt T (opening_states starts) (point_at T t k) k v
  state_exists t k l lt =
      let table = holds_at k l in
      let agree = agree_prefix T k in
      let length_is = len-prefix T k l in
      let found = element table.0 t (omega (arith, table.1.count, ap (born (prefix T k)) length_is, born-same k agree)) in
      let all : Agree (prefix T k) T (len (prefix T k)) = subst (Agree (prefix T k) T) (sym length_is) (agree_sym agree) in
      let described = describes_same (prefix T k) T (opening_states starts) all t found.0 (table.1.each t found.0 found.1) in
      let state = (found.0).state in
      (state, subst (λ j. StateAt T (opening_states starts) (point_at T t j) j state) length_is described.state)
