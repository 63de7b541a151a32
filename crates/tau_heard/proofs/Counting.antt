-- Falling steps, counted.
use Rattle.std.proofs.Common.{◌≡◌, inr, ℕ, suc, Bool, true, false, cond, ap, ◌∙◌, arith}
use Rattle.std.specs.Option.{option_map_or}
use Rattle.tau_trace.specs.Run.{Run, ActsAt}
use Rattle.tau_trace.specs.Histories.{move_at, is_fall, Falls}
use Rattle.tau_trace.proofs.Counts.{count-suc, count-grows}
use Rattle.tau_trace.proofs.Quiet.{acts}
use Rattle.tau_heard.specs.Falls.{falls_at}
use Rattle.tau_heard.specs.Laws.{NoneCountedNothingFalls}
use Rattle.tau_heard.proofs.Turns.{leaves_ends}

-- a falling step is one that is counted
pub falls_counted : (T : Run) (t k : ℕ) → Falls T t k → falls_at T k ≡ true
falls_counted T t k f =
    let d = leaves_ends T t k (inr f) in
    let by : ActsAt T t k = acts T t k d.step d.stands d.by in
    ap (λ o. option_map_or (λ u. is_fall (move_at T u k)) o false) by ∙ ap is_fall f

pub none_counted_nothing_falls : NoneCountedNothingFalls
none_counted_nothing_falls T n none t k lt f =
    let F : Bool → ℕ = λ b. cond b 1 0 in
    let one : F (falls_at T k) ≡ 1 = ap F (falls_counted T t k f) in
    omega (arith, none, count-grows (falls_at T) (suc k) n (omega (arith, lt)), count-suc (falls_at T) k, one)
