use Rattle.std.proofs.Common.{◌≡◌, ◌∙◌, ◌<◌, ℕ, List, Option, Some, length, set, subst, arith}
use Rattle.std.specs.Prelude.{slice_get}
use Rattle.tau_eval.specs.Turn as turns
use Rattle.tau_trace.proofs.Lists.{slice_get-set_same, slice_get-set_other}
use Rattle.tau_check.proofs.jobs.keep_job.Goals as goal

pub returns : goal.returns
returns c =
    let items : List (Option turns.TurnSoFar) = c.make_places.new.jobs.items in
    let place : ℕ = c.who-place.result in
    let job : turns.TurnSoFar = c.args.job in
    let at : place ≡ job.who = c.who-place.ensures in
    let lt : place < length items = omega (arith, c.in_ok-make_places.ensures.count) in
    record {
      kept = subst (λ (k : ℕ). slice_get (set items place (Some job)) k ≡ Some (Some job)) at (slice_get-set_same items place (Some job) lt);
      others = λ t o ne e. slice_get-set_other items place t (Some job) (λ x. ne (x ∙ at)) ∙ c.make_places.ensures.kept t o e;
    }
