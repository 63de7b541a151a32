use Rattle.std.proofs.Common.{rules, is_lt}
use Rattle.std.proofs.lemmas.Result.{on_ok_weaker}
use Rattle.std.proofs.lemmas.List.Sorted.{ranks_by, answers_always}
use Rattle.tau_storm.specs.Inner.Ordered.{outcome_cmp}
use Rattle.tau_storm.proofs.Sorting.{outcome_total}
use Rattle.tau_storm.proofs.order.sort.Goals as goal

pub returns-clause-sorted : goal.returns-clause-sorted
returns-clause-sorted c =
    on_ok_weaker c.sort_by.result (λ s. s (λ a b. is_lt (outcome_cmp a b)) (ranks_by outcome_total (λ o. o)) (answers_always _ _ _ (λ f a r g called. search rules))) c.sort_by.ensures.sorted
