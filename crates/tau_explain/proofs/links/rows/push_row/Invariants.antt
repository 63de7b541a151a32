use Rattle.std.proofs.Common.{ℕ, List, suc}
use Rattle.std.specs.Option.{option_map_or}
use Rattle.tau_explain.specs.Links.Inner.Rows.{IsRow}
use Rattle.tau_explain.proofs.RowLemmas.{Walks}
use Rattle.tau_explain.proofs.links.rows.push_row.Given as goal

abbrev pub invariant-loop-next : goal.invariant-loop-next
invariant-loop-next l = (places : List ℕ) → IsRow l.earlier l.fn.last places → Walks l.earlier places l.fn.into.items l.into.items l.next

abbrev pub decreases-loop-next : goal.decreases-loop-next
decreases-loop-next l = option_map_or suc l.next 0
