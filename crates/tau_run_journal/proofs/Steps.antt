-- What the steps of a run are read from, and that a form means one step behind it.
use Rattle.std.proofs.Common.{◌≡◌, ◌≢◌, ℕ, ◌+◌, ◌<◌, List, [], ◌∷◌, ◌++◌, length, Some, Err, refl, sym, ap, ◌∙◌, subst, arith}
use Rattle.std.specs.Prelude.{slice_get}
use Rattle.std.proofs.lemmas.List.{length_push}
use Rattle.std.proofs.lemmas.Option.{slice_get_within}
use Rattle.tau_sexpr.specs.Tree.{Tree}
use Rattle.tau_value.specs.declared.limits.TheConstants.{STEP_LIMIT}
use Rattle.tau_trace.specs.declared.step.Step.{Step}
use Rattle.tau_trace.specs.Run.{Run, len, step_at, appended}
use Rattle.tau_trace.specs.Numbering.{born, sent}
use Rattle.tau_trace.proofs.Agreement.{agree_below, born-same, sent-same}
use Rattle.tau_trace.proofs.Lists.{same_some, slice_get-front, slice_get-last, slice_get-take}
use Rattle.tau_trace.proofs.Prefix.{prefix, agree_prefix, len-prefix}
use Rattle.tau_trace.proofs.Reading.{element}
use Rattle.tau_steps.specs.declared.errors.StepError.{StepError}
use Rattle.tau_steps.specs.declared.errors.StepError.TheVariants.{NoMemory}
use Rattle.tau_steps.specs.Meaning.{MeansStep, MeansSteps}
use Rattle.tau_steps.specs.Faults.{IsFault}
use Rattle.tau_steps.proofs.LoopLemmas.{IsReadTo, one_more, read_whole, none_told}
use Rattle.tau_steps.proofs.LawLemmas.{one_run}
use Rattle.tau_revival.proofs.Coming.{prefix_next, prefix_whole}
use Rattle.tau_run_journal.specs.Inner.Items.{IsFormed, MeansNext}

-- with one more
pub means_more : (T : Run) (fs : List Tree) → MeansSteps T.opening fs T → len T < STEP_LIMIT → (f : Tree) (s : Step) → MeansNext T f s → MeansSteps T.opening (fs ++ f ∷ []) (appended T s)
means_more T fs m few f s next =
    let gs = fs ++ f ∷ [] in
    let long : length gs ≡ length fs + 1 = length_push fs f in
    read_whole T.opening gs (length fs + 1) (appended T s) (sym long)
    (one_more T.opening gs (length fs) T (omega (arith, long)) read f (slice_get-last fs f) (appended T s) (record { step = s; few = few; means = next; appends = refl }))
  where
    each : (k : ℕ) (g : Tree) (r : Step) → slice_get (fs ++ f ∷ []) k ≡ Some g → step_at T k ≡ Some r → MeansStep T.opening (born T k) (sent T k) g r
    each k g r at stands = m.each k g r (slice_get-front fs f k (omega (arith, m.count, slice_get_within T.steps k r stands)) ∙ at) stands

    read : IsReadTo T.opening (fs ++ f ∷ []) (length fs) T
    read = record { opening = refl; count = m.count; few = m.few; each = each }

last_step : (T : Run) (r s : Step) → appended T r ≡ appended T s → r ≡ s
last_step T r s same = same_some (sym (slice_get-last T.steps r) ∙ ap (λ (U : Run). step_at U (len T)) same ∙ slice_get-last T.steps s)

-- a form means one step there
pub one_step : (T : Run) → IsFormed T → len T < STEP_LIMIT → (f : Tree) (r s : Step) → MeansNext T f r → MeansNext T f s → r ≡ s
one_step T formed few f r s one two =
    last_step T r s (one_run T.opening (formed.0 ++ f ∷ []) (appended T r) (appended T s) (means_more T formed.0 formed.1 few f r one) (means_more T formed.0 formed.1 few f s two))

-- forms that mean a run, and with one more another
module _ (T : Run) (fs : List Tree) (m : MeansSteps T.opening fs T) (f : Tree) where
  module _ (U : Run) (all : MeansSteps T.opening (fs ++ f ∷ []) U) where
    long : len U ≡ length fs + 1
    long = all.count ∙ length_push fs f

    before_each : (k : ℕ) (g : Tree) (r : Step) → slice_get fs k ≡ Some g → step_at (prefix U (length fs)) k ≡ Some r → MeansStep T.opening (born (prefix U (length fs)) k) (sent (prefix U (length fs)) k) g r
    before_each k g r at stands =
        let lt : k < length fs = slice_get_within fs k g at in
        let agree = agree_below k (omega (arith, lt)) (agree_prefix U (length fs)) in
        let here : step_at U k ≡ Some r = sym (slice_get-take (length fs) U.steps k lt) ∙ stands in
        subst (λ (n : ℕ). MeansStep T.opening (born (prefix U (length fs)) k) n g r) (sent-same k agree)
        (subst (λ (n : ℕ). MeansStep T.opening n (sent U k) g r) (born-same k agree) (all.each k g r (sym (slice_get-front fs f k lt) ∙ at) here))

    -- its front is the run
    front_is : prefix U (length fs) ≡ T
    front_is =
        one_run T.opening fs (prefix U (length fs)) T
        (record { opening = all.opening; count = len-prefix U (length fs) (omega (arith, long)); few = m.few; each = before_each }) m

    -- it goes on with the step that the form means there
    pub next_of : (s : Step) × MeansNext T f s × (U ≡ appended T s)
    next_of =
        let s = element U.steps (length fs) (omega (arith, long)) in
        let agree = agree_prefix U (length fs) in
        let born_is : born U (length fs) ≡ born T (len T) = born-same (length fs) agree ∙ (λ i. born (front_is i) (sym m.count i)) in
        let sent_is : sent U (length fs) ≡ sent T (len T) = sent-same (length fs) agree ∙ (λ i. sent (front_is i) (sym m.count i)) in
        let means : MeansNext T f s.0 =
        subst (λ (n : ℕ). MeansStep T.opening (born T (len T)) n f s.0) sent_is
        (subst (λ (n : ℕ). MeansStep T.opening n (sent U (length fs)) f s.0) born_is (all.each (length fs) f s.0 (slice_get-last fs f) s.1)) in
        let more : appended T s.0 ≡ prefix U (length fs + 1) = prefix_next U T (appended T s.0) (length fs) s.0 (sym front_is) refl s.1 in
        (s.0, means, sym (prefix_whole U (appended T s.0) (length fs + 1) more (sym long)))

  -- where those are faulty, the form means no step there
  pub none_next : (e : StepError) → e ≢ NoMemory → IsFault T.opening (fs ++ f ∷ []) e → (s : Step) → len T < STEP_LIMIT → ¬ MeansNext T f s
  none_next e ne fault s few next = ne (none_told {X = ℕ} T.opening (fs ++ f ∷ []) (appended T s) (Err e) (means_more T fs m few f s next) fault)
