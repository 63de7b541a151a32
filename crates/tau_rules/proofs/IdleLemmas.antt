-- A transactor that has ended is in no turn.
use Rattle.std.proofs.Common.{◌≡◌, ◌⊎◌, ⊎_elim, ℕ, ◌<◌, true, false, refl, sym, ap, ◌∙◌, arith}
use Rattle.std.specs.Prelude.{◌||◌, None}
use Rattle.tau_tree.specs.declared.programs.Program.{Program}
use Rattle.tau_trace.specs.declared.step.Step.TheVariants.{Take, Fall, Rollback, Trap, Fail}
use Rattle.tau_trace.specs.Steps.{ends_turn, is_take}
use Rattle.tau_trace.specs.Run.{Run, Does, step_at}
use Rattle.tau_trace.specs.Histories.{Ended, IsFallingStep, by_fall, by_rollback, by_trap, by_fail}
use Rattle.tau_trace.specs.Turns.{IsOpenTurn}
use Rattle.tau_trace.proofs.Lists.{same_some}
use Rattle.tau_trace.proofs.Counted.{falls_falling}
use Rattle.tau_legal.specs.Traces.{Fitting}

-- a falling step ends its transactor's turn
falling_ends : (T : Run) (t k : ℕ) → IsFallingStep T t k → Does ends_turn T t k
falling_ends T t k (by_fall {m = m} e) = record { step = Fall t m; stands = e; by = refl; passes = refl }
falling_ends T t k (by_rollback e) = record { step = Rollback t; stands = e; by = refl; passes = refl }
falling_ends T t k (by_trap {c = c} e v) = record { step = Trap t c; stands = e; by = refl; passes = refl }
falling_ends T t k (by_fail e v) = record { step = Fail t; stands = e; by = refl; passes = refl }

cases : (a b : ℕ) → (a < b) ⊎ ((a ≡ b) ⊎ (b < a))
cases a b = grind arith

-- in a fitting trace an ended transactor took nothing since, and its end ended its turn
pub ended_idle : (P : Program) (T : Run) (t k : ℕ) → Fitting P T → Ended T t k → IsOpenTurn T t k None
ended_idle P T t k f e place m u = ⊎_elim earlier (λ x. ⊎_elim same later x) (cases e.place place) where
  ends : Does ends_turn T t e.place
  ends = falling_ends T t e.place (falls_falling T t e.place e.ends.falls)

  earlier : e.place < place → ⊥
  earlier l = (f.steps place (Take t m) u.takes).0.living e.place l e.ends

  same : e.place ≡ place → ⊥
  same at =
      let is : Take t m ≡ ends.step = same_some (sym u.takes ∙ ap (step_at T) (sym at) ∙ ends.stands) in
      let both : false ≡ true = ap ends_turn is ∙ ends.passes in
      cc

  later : place < e.place → ⊥
  later l = u.goes_on e.place l e.before (record { step = ends.step; stands = ends.stands; by = ends.by; passes = ap (λ b. b || is_take ends.step) ends.passes })
