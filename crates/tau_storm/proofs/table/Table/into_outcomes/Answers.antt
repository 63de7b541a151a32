use Rattle.std.proofs.Common.{subst, sym, ap}
use Rattle.std.proofs.lemmas.List.Sorted.{IsPermutation-trans}
use Rattle.tau_storm.specs.Inner.Counting.{outcomes_of}
use Rattle.tau_storm.specs.Outcomes.{AreOutcomes}
use Rattle.tau_storm.specs.Order.{AreOrdered}
use Rattle.tau_storm.specs.Tables.{Tally}
use Rattle.tau_storm.proofs.Sorting.{ordered_of}
use Rattle.tau_storm.proofs.table.Table.into_outcomes.Goals as goal

pub returns : goal.returns
returns c = λ ends table.
    let rows = outcomes_of c.self.inside.rows.entries in
    let sorted = c.sort.new.outcomes.items in
    let are : AreOutcomes ends rows = subst (AreOutcomes ends) (sym (ap (λ (t : Tally). t.outcomes) c.self.view_is)) table.outcomes in
    subst (AreOrdered ends) (sym c.from_vec.ensures)
    (ordered_of ends rows sorted (IsPermutation-trans rows c.in_ok-outcomes.outcomes.items sorted c.in_ok-outcomes.ensures c.in_ok-sort.ensures.same) c.in_ok-sort.ensures.sorted are)
