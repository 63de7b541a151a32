-- The first steps of a run, one more, and all of them.
use Rattle.std.proofs.Common.{◌≡◌, ℕ, suc, ◌<◌, ◌≤◌, [], ◌∷◌, ◌++◌, take, Some, sym, ap, ◌∙◌, arith, None, ⊎_elim}
use Rattle.std.proofs.Math.Seq.{take-length, take-suc}
use Rattle.std.proofs.lemmas.Option.{slice_get_within, get_or_from_slice_get, slice_get_cases}
use Rattle.tau_trace.specs.declared.step.Step.{Step}
use Rattle.tau_trace.specs.Run.{Run, step_at, len, appended}
use Rattle.tau_trace.specs.Numbering.{born, sent}
use Rattle.tau_trace.specs.Known.{IsKnownAt, WellFormed}
use Rattle.tau_trace.proofs.Lists.{slice_get-take}
use Rattle.tau_trace.proofs.Prefix.{run_of, prefix, agree_prefix, len-prefix}
use Rattle.tau_trace.proofs.Agreement.{agree_below, born-same, sent-same}
use Rattle.tau_trace.proofs.Indexing.{known_same}

pub prefix_next : (T : Run) (k : ℕ) (s : Step) → step_at T k ≡ Some s → appended (prefix T k) s ≡ prefix T (suc k)
prefix_next T k s e =
    let at = get_or_from_slice_get T.steps k s s e in
    ap (run_of T.opening) (ap (λ x. take k T.steps ++ x ∷ []) (sym at) ∙ sym (take-suc T.steps k s (slice_get_within T.steps k s e)))

pub prefix_whole : (T : Run) → prefix T (len T) ≡ T
prefix_whole T = ap (run_of T.opening) (take-length T.steps)

pub well_formed_prefix : (T : Run) (k : ℕ) → WellFormed T → k ≤ len T → WellFormed (prefix T k)
well_formed_prefix T k w l = record {
  opening = w.opening;
  known = known;
  versions = λ j s e. let below : j < k = omega (arith, slice_get_within (take k T.steps) j s e, len-prefix T k l) in w.versions j s (sym (slice_get-take k T.steps j below) ∙ e);
  few_steps = omega (arith, len-prefix T k l, w.few_steps);
} where
  known : (j : ℕ) (s : Step) → step_at (prefix T k) j ≡ Some s → IsKnownAt (prefix T k) j s
  known j s e =
      let below : j < k = omega (arith, slice_get_within (take k T.steps) j s e, len-prefix T k l) in
      let agree = agree_below j (omega arith) (agree_prefix T k) in
      known_same T.opening (born T j) (born (prefix T k) j) (sent T j) (sent (prefix T k) j) s (born-same j agree) (sent-same j agree) (w.known j s (sym (slice_get-take k T.steps j below) ∙ e))

-- a place without a step is past the last
pub past_last : (T : Run) (k : ℕ) → None ≡ step_at T k → len T ≤ k
past_last T k e = ⊎_elim (λ p. absurd (let both = e ∙ p.2 in cc)) (λ p. p.0) (slice_get_cases T.steps k).1
