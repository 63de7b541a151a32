-- Counts of steps, and falling steps, with one step more.
use Rattle.std.proofs.Common.{◌≡◌, ℕ, suc, ◌+◌, ◌^◌, ◌<◌, ◌≤◌, Bool, false, Option, Some, None, sym, ap, ◌∙◌, arith}
use Rattle.std.specs.Prelude.{option_and_then}
use Rattle.std.specs.Option.{option_map_or}
use Rattle.tau_trace.specs.declared.opening.Opening.{Opening}
use Rattle.tau_trace.specs.declared.step.Step.{Step}
use Rattle.tau_trace.specs.Steps.{actor, is_checkpoint}
use Rattle.tau_trace.specs.Places.{count_below}
use Rattle.tau_trace.specs.Run.{Run, len, step_at, appended}
use Rattle.tau_trace.specs.Histories.{history, move_at, move_of, is_fall}
use Rattle.tau_trace.proofs.Counts.{count-suc, count-same, count-le, count-zero}
use Rattle.tau_trace.proofs.Counted.{move_at-own}
use Rattle.tau_trace.proofs.Agreement.{agree_appended, agree_below, step_at-appended, move_at-same, history-same}
use Rattle.tau_trace.proofs.Indexing.{len-appended}
use Rattle.tau_states.specs.Table.{opened_run}
use Rattle.tau_report.specs.declared.counts.Counts.{Counts}
use Rattle.tau_report.specs.Report.{steps_with, is_hold, is_drop, is_lose, falls_at, falling_steps, counts_in}
use Rattle.tau_report.specs.Inner.Counted.{no_counts, one_if, counts_after, AreFew}

abbrev passes : (Step → Bool) → Option Step → Bool
passes test o = option_map_or test o false

counted_next : (T : Run) (s : Step) (test : Step → Bool) → steps_with test (appended T s) ≡ steps_with test T + one_if (test s)
counted_next T s test =
    let f : ℕ → Bool = λ k. option_map_or test (step_at (appended T s) k) false in
    let g : ℕ → Bool = λ k. option_map_or test (step_at T k) false in
    omega (
      arith,
      ap (count_below f) (len-appended T s),
      count-suc f (len T),
      count-same g f (len T) (λ j l. ap (passes test) ((agree_appended T s).steps j l)),
      ap (λ o. one_if (passes test o)) (step_at-appended T s),
    )

falls_same : (T : Run) (s : Step) (j : ℕ) → j < len T → falls_at T j ≡ falls_at (appended T s) j
falls_same T s j l =
    let here = (agree_appended T s).steps j l in
    let agree = agree_below (suc j) l (agree_appended T s) in
    λ i. option_map_or (λ t. is_fall (move_at-same t j agree i)) (option_and_then actor (here i)) false

falls_next : (T : Run) (s : Step) → falling_steps (appended T s) ≡ falling_steps T + one_if (falls_at (appended T s) (len T))
falls_next T s =
    omega (
      arith,
      ap (count_below (falls_at (appended T s))) (len-appended T s),
      count-suc (falls_at (appended T s)) (len T),
      count-same (falls_at T) (falls_at (appended T s)) (len T) (falls_same T s),
    )

pub counts_next : (T : Run) (s : Step) → counts_in (appended T s) ≡ counts_after s (falls_at (appended T s) (len T)) (counts_in T)
counts_next T s = λ i. record {
  checkpoints = counted_next T s is_checkpoint i;
  holds = counted_next T s is_hold i;
  drops = counted_next T s is_drop i;
  falls = falls_next T s i;
  losses = counted_next T s is_lose i;
}

none_counted : (o : Opening) (test : Step → Bool) → steps_with test (opened_run o) ≡ 0
none_counted o test = count-zero (λ k. option_map_or test (step_at (opened_run o) k) false)

pub counts_opened : (o : Opening) → no_counts ≡ counts_in (opened_run o)
counts_opened o = sym (λ i. record {
  checkpoints = none_counted o is_checkpoint i;
  holds = none_counted o is_hold i;
  drops = none_counted o is_drop i;
  falls = count-zero (falls_at (opened_run o)) i;
  losses = none_counted o is_lose i;
})

counted_few : (T : Run) (test : Step → Bool) (n : ℕ) → n ≡ steps_with test T → len T < 1000000 → n < 1000000
counted_few T test n e l = omega (arith, count-le (λ k. option_map_or test (step_at T k) false) (len T))

pub are_few : (T : Run) (c : Counts) → c ≡ counts_in T → len T < 1000000 → AreFew c
are_few T c e l = record {
  checkpoints = counted_few T is_checkpoint c.checkpoints (ap (λ x. x.checkpoints) e) l;
  holds = counted_few T is_hold c.holds (ap (λ x. x.holds) e) l;
  drops = counted_few T is_drop c.drops (ap (λ x. x.drops) e) l;
  falls = omega (arith, ap (λ x. x.falls) e, count-le (falls_at T) (len T));
  losses = counted_few T is_lose c.losses (ap (λ x. x.losses) e) l;
}

counted_fits : (T : Run) (test : Step → Bool) (n : ℕ) → n ≡ steps_with test T → len T ≤ 1000000 → n < 2 ^ 64
counted_fits T test n e l = omega (arith, count-le (λ k. option_map_or test (step_at T k) false) (len T))

pub counts_fit : (T : Run) (c : Counts) → c ≡ counts_in T → len T ≤ 1000000 → (c.checkpoints < 2 ^ 64) × (c.holds < 2 ^ 64) × (c.drops < 2 ^ 64) × (c.falls < 2 ^ 64) × (c.losses < 2 ^ 64)
counts_fit T c e l = (
  counted_fits T is_checkpoint c.checkpoints (ap (λ x. x.checkpoints) e) l,
  counted_fits T is_hold c.holds (ap (λ x. x.holds) e) l,
  counted_fits T is_drop c.drops (ap (λ x. x.drops) e) l,
  omega (arith, ap (λ x. x.falls) e, count-le (falls_at T) (len T)),
  counted_fits T is_lose c.losses (ap (λ x. x.losses) e) l,
)

-- the falling step at the end of a run, by its actor
pub falls_by : (T : Run) (s : Step) (t : ℕ) → actor s ≡ Some t → is_fall (move_of (history T t (len T)).stable s) ≡ falls_at (appended T s) (len T)
falls_by T s t by =
    let U = appended T s in
    let here = step_at-appended T s in
    let at : Option ℕ → Bool = λ o. option_map_or (λ u. is_fall (move_at (appended T s) u (len T))) o false in
    sym (ap (λ o. at (option_and_then actor o)) here
    ∙ ap at by
    ∙ ap is_fall (move_at-own (appended T s) t (len T) s here by)
    ∙ ap (λ h. is_fall (move_of h.stable s)) (sym (history-same t (len T) (agree_appended T s))))

pub falls_by_none : (T : Run) (s : Step) → actor s ≡ None → false ≡ falls_at (appended T s) (len T)
falls_by_none T s by =
    let at : Option ℕ → Bool = λ o. option_map_or (λ u. is_fall (move_at (appended T s) u (len T))) o false in
    sym (ap (λ o. at (option_and_then actor o)) (step_at-appended T s) ∙ ap at by)
