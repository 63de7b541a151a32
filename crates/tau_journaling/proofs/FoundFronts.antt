-- The run of the first records is the beginning of the run of all, and its steps are legal for the program of either.
use Rattle.std.proofs.Common.{◌≡◌, ◌⊎◌, ◌↔◌, ⊎_elim, ℕ, ◌<◌, ◌≤◌, List, [], ◌∷◌, ◌++◌, length, take, Some, refl, sym, ◌∙◌, subst, arith, length-take}
use Rattle.std.proofs.lemmas.List.{length_push, take_all, take-append-le}
use Rattle.std.proofs.lemmas.Option.{slice_get_within}
use Rattle.tau_tree.specs.declared.programs.Program.{Program}
use Rattle.tau_tree.specs.Sound.{Sound}
use Rattle.tau_trace.specs.declared.step.Step.{Step}
use Rattle.tau_trace.specs.Run.{Run, Agree, len, step_at, appended}
use Rattle.tau_trace.specs.Known.{MayFollow, WellFormed}
use Rattle.tau_trace.proofs.Lists.{slice_get-front}
use Rattle.tau_trace.proofs.Agreement.{agree_sym, agree_below, agree_appended}
use Rattle.tau_trace.proofs.Indexing.{len-appended, well_formed_appended}
use Rattle.tau_legal.specs.Traces.{IsLegal}
use Rattle.tau_legal.proofs.TraceLemmas.{legal_same}
use Rattle.tau_revival.specs.Revival.{IsRevival}
use Rattle.tau_revival.specs.Laws.{RevivalKeepsSteps}
use Rattle.tau_run_journal.specs.Standing.{opened, StandsFor, begins, stepped, resumed}
use Rattle.tau_run_journal.proofs.Runs.{run_of}
use Rattle.tau_run_journal.proofs.Unique.{some_stand, stands_once}

-- run U of program Q is the beginning of run T of program P, and each of its steps is legal for both or for none
pub record Extends (Q : Program) (U : Run) (P : Program) (T : Run) : Type 0 where
  pub within : len U ≤ len T
  pub agree : Agree U T (len U)
  pub same : (j : ℕ) (s : Step) → step_at U j ≡ Some s → IsLegal Q U j s ↔ IsLegal P T j s

agree_itself : (T : Run) (k : ℕ) → Agree T T k
agree_itself T k = record { opening = refl; steps = λ j lt. refl }

itself : (P : Program) (T : Run) → Extends P T P T
itself P T = record { within = omega arith; agree = agree_itself T (len T); same = λ j s stands. (λ l. l, λ l. l) }

module _ (Q P : Program) (U T : Run) (e : Extends Q U P T) where
  below : (j : ℕ) (s : Step) → step_at U j ≡ Some s → j < len T
  below j s stands = omega (arith, slice_get_within U.steps j s stands, e.within)

  there : (j : ℕ) (s : Step) → step_at U j ≡ Some s → step_at T j ≡ Some s
  there j s stands = sym (e.agree.steps j (slice_get_within U.steps j s stands)) ∙ stands

  -- with a step more
  module _ (r : Step) (well : WellFormed T) (may : MayFollow T r) where
    longer : WellFormed (appended T r)
    longer = well_formed_appended T r well may

    same_step : (j : ℕ) (s : Step) → step_at U j ≡ Some s → IsLegal Q U j s ↔ IsLegal P (appended T r) j s
    same_step j s stands =
        let lt : j < len T = below j s stands in
        let agree : Agree T (appended T r) j = agree_below j (omega (arith, lt)) (agree_appended T r) in
        let later : step_at (appended T r) j ≡ Some s = sym (slice_get-front T.steps r j lt) ∙ there j s stands in (
          λ l. legal_same P T (appended T r) j s well longer agree (well.known j s (there j s stands)) ((e.same j s stands).0 l),
          λ l. (e.same j s stands).1 (legal_same P (appended T r) T j s longer well (agree_sym agree) (longer.known j s later) l),
        )

    pub with_step : Extends Q U P (appended T r)
    with_step = record {
      within = omega (arith, len-appended T r, e.within);
      agree = record { opening = e.agree.opening; steps = λ j lt. e.agree.steps j lt ∙ slice_get-front T.steps r j (omega (arith, lt, e.within)) };
      same = same_step;
    }

  -- with a mark more
  module _ (law : RevivalKeepsSteps) (R : Program) (sound : Sound P) (revival : IsRevival P T R) where
    same_mark : (j : ℕ) (s : Step) → step_at U j ≡ Some s → IsLegal Q U j s ↔ IsLegal R T j s
    same_mark j s stands =
        let kept : IsLegal P T j s ↔ IsLegal R T j s = law P R T T j s sound revival (agree_itself T (len T)) (below j s stands) in
        (λ l. kept.0 ((e.same j s stands).0 l), λ l. (e.same j s stands).1 (kept.1 l))

    pub with_mark : Extends Q U R T
    with_mark = record { within = e.within; agree = e.agree; same = same_mark }

within_or_past : (k n : ℕ) → (k < n) ⊎ (n ≤ k)
within_or_past k n = grind arith

-- all records
whole : (rs : List (List ℕ)) (P Q : Program) (T U : Run) (k : ℕ) → length rs ≤ k → StandsFor rs P T → StandsFor (take k rs) Q U → Extends Q U P T
whole rs P Q T U k le stand front =
    let same = stands_once (take k rs) rs Q P U T front stand (take_all k rs le) in
    subst (λ (X : Program). Extends X U P T) (sym same.0) (subst (λ (V : Run). Extends P V P T) (sym same.1) (itself P T))

-- all but the last
fewer : (rs : List (List ℕ)) (r : List ℕ) (k : ℕ) (Q : Program) (U : Run) → k < length (rs ++ r ∷ []) → StandsFor (take k (rs ++ r ∷ [])) Q U → StandsFor (take k rs) Q U
fewer rs r k Q U lt front = subst (λ (l : List (List ℕ)). StandsFor l Q U) (take-append-le k rs (r ∷ []) (omega (arith, lt, length_push rs r))) front

pub extends : RevivalKeepsSteps → (rs : List (List ℕ)) (P : Program) (T : Run) → StandsFor rs P T → (k : ℕ) (Q : Program) (U : Run) → StandsFor (take k rs) Q U → Extends Q U P T
extends law all P T (begins {r = r} text) k Q U front =
    let some : 1 ≤ k = omega (arith, length-take k (r ∷ []), some_stand (take k (r ∷ [])) Q U front) in
    whole (r ∷ []) P Q (opened P) U k some (begins text) front
extends law all P T (stepped {rs = rs} {T = V} {s = s} {r = r} before text) k Q U front =
    ⊎_elim (λ lt. with_step Q P U V (extends law rs P V before k Q U (fewer rs r k Q U lt front)) s (run_of rs P V before).well_formed text.may)
    (λ past. whole (rs ++ r ∷ []) P Q (appended V s) U k past (stepped before text) front)
    (within_or_past k (length (rs ++ r ∷ [])))
extends law all P T (resumed {rs = rs} {P = R} {r = r} before is revival) k Q U front =
    ⊎_elim (λ lt. with_mark Q R U T (extends law rs R T before k Q U (fewer rs r k Q U lt front)) law P (run_of rs R T before).sound revival)
    (λ past. whole (rs ++ r ∷ []) P Q T U k past (resumed before is revival) front)
    (within_or_past k (length (rs ++ r ∷ [])))
