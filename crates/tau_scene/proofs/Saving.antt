-- What a transactor saved, by the states behind a step.
use Rattle.std.proofs.Common.{◌≡◌, ◌⊎◌, inl, inr, ⊎_elim, ℕ, zero, suc, ◌+◌, ◌<◌, ◌≤◌, List, [], ◌∷◌, length-append, Option, Some, None, refl, sym, ap, ◌∙◌, subst, arith}
use Rattle.tau_value.specs.declared.shared.Value.{Value}
use Rattle.tau_history.specs.Timeline.{interval, close, moved}
use Rattle.tau_trace.specs.declared.step.Step.{Step}
use Rattle.tau_trace.specs.Run.{Run, len, step_at, ActsAt}
use Rattle.tau_trace.specs.Numbering.{born}
use Rattle.tau_trace.specs.Histories.{history, Falls, Closes}
use Rattle.tau_trace.specs.Known.{WellFormed}
use Rattle.tau_trace.proofs.Agreement.{agree_sym, born-same, born-grows, history-same}
use Rattle.tau_trace.proofs.Counted.{history-suc, closes_move}
use Rattle.tau_trace.proofs.Prefix.{prefix, agree_prefix, len-prefix}
use Rattle.tau_past.specs.States.{SavedWith}
use Rattle.tau_past.proofs.Agreement.{saved-same}
use Rattle.tau_past.proofs.Known.{acts_known}
use Rattle.tau_states.specs.declared.state_record.StateRecord.{StateRecord}
use Rattle.tau_states.specs.Table.{Holds, Advances}
use Rattle.tau_states.specs.Answers.{IsSavedAfter}
use Rattle.tau_report.proofs.Prefixes.{well_formed_prefix}
use Rattle.tau_cut.proofs.KeptLemmas.{holds_next}
use Rattle.tau_scene.specs.Notes.Inner.Noting.{first_steps}

-- what t saved before the interval in which it is at place k; None at interval 0
abbrev pub TellsSaved : Run → List Value → ℕ → ℕ → Option Value → Type 0
TellsSaved T values t k None = interval (history T t k) ≡ 0
TellsSaved T values t k (Some v) = (i : ℕ) × (interval (history T t k) ≡ suc i) × SavedWith T values t i v

module _ (T : Run) (w : WellFormed T) (values : List Value) where
  -- the states, step by step
  pub states_next : (k : ℕ) (s : Step) (old new : List StateRecord) → step_at T k ≡ Some s → Advances s old new → Holds (first_steps T k) values old → Holds (first_steps T (k + 1)) values new
  states_next k s old new e advances h =
      let more : suc k ≡ k + 1 = omega arith in
      subst (λ n. Holds (first_steps T n) values new) more (holds_next T w values [] k s old new e advances h)

  more : (n : ℕ) → n + 1 ≡ suc n
  more n = omega arith

  zero_or_suc : (n : ℕ) → (n ≡ 0) ⊎ ((i : ℕ) × (n ≡ suc i))
  zero_or_suc zero = inl refl
  zero_or_suc (suc i) = inr (i, refl)

  module _ (k t : ℕ) (le : k ≤ len T) (known : t < born T k) where
    there : interval (history (prefix T k) t (len (prefix T k))) ≡ interval (history T t k)
    there = ap (λ n. interval (history (prefix T k) t n)) (len-prefix T k le) ∙ ap interval (history-same t k (agree_sym (agree_prefix T k)))

    exists : t < born (prefix T k) (len (prefix T k))
    exists = omega (arith, known, ap (born (prefix T k)) (len-prefix T k le), born-same k (agree_prefix T k))

    pub told : (o : Option Value) → IsSavedAfter (first_steps T k) values t o → TellsSaved T values t k o
    told None none = ⊎_elim (λ z. z) (λ x. absurd (none (record { exists = exists; closed = omega (arith, there, x.1) }))) (zero_or_suc (interval (history T t k)))
    told (Some v) some = (
      some.0,
      sym there ∙ some.2,
      saved-same values t some.0 k v (well_formed_prefix T k w le) (agree_sym (agree_prefix T k)) (omega (arith, some.2, there, len-prefix T k le, ap (λ n. interval (history (prefix T k) t n)) (len-prefix T k le))) some.3,
    )

  -- behind a step of t
  pub told_behind : (k t : ℕ) (o : Option Value) → ActsAt T t k → k < len T → IsSavedAfter (first_steps T (k + 1)) values t o → TellsSaved T values t (suc k) o
  told_behind k t o a lt h = told (suc k) t (omega (arith, lt)) (omega (arith, acts_known T t k w a, born-grows T k (suc k) (omega arith))) o (subst (λ n. IsSavedAfter (first_steps T n) values t o) (more k) h)

-- how a Checkpoint and a falling step move the interval
pub closes_more : (T : Run) (t k : ℕ) → Closes T t k → interval (history T t (suc k)) ≡ suc (interval (history T t k))
closes_more T t k c =
    let more : history T t (suc k) ≡ moved close (history T t k) = history-suc T t k ∙ ap (λ m. moved m (history T t k)) (closes_move T t k c) in
    omega (arith, ap interval more, length-append (history T t k).closed ((history T t k).last ∷ []))

pub falls_same : (T : Run) (t k : ℕ) → Falls T t k → interval (history T t (suc k)) ≡ interval (history T t k)
falls_same T t k f = ap interval (history-suc T t k ∙ ap (λ m. moved m (history T t k)) f)
