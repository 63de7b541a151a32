use Rattle.std.proofs.Common.{◌≡◌, ◌+◌, ◌*◌, ◌^◌, List, length, vec_len}
use Rattle.std.specs.HashMap.{get}
use Rattle.tau_trace.specs.Run.{len}
use Rattle.tau_past.specs.declared.carrying.Carrying.{Carrying}
use Rattle.tau_past.specs.Tables.{same_point}
use Rattle.tau_explain.specs.Links.Inner.Rows.{AreRows}
use Rattle.tau_explain.specs.Links.Inner.Dependents.{IsPassedOn, Spreads}
use Rattle.tau_explain.proofs.DependentLemmas.{open_count}
use Rattle.tau_explain.proofs.links.dependents.push_takers.Given as goal

abbrev pub invariant-loop-place : goal.invariant-loop-place
invariant-loop-place l = (length l.passed ≡ len l.index)
    × ((carrying : List Carrying) → AreRows l.index (len l.index) carrying (get same_point l.rows.last_touching) l.rows.earlier_touching.items l.rows.last_resting.items l.rows.earlier_resting.items → IsPassedOn carrying l.fn.passed
    → Spreads l.index l.marks carrying l.point l.fn.passed l.passed l.left.items l.fn.into.items l.into.items)

abbrev pub decreases-loop-place : goal.decreases-loop-place
decreases-loop-place l = open_count l.passed * 2 ^ 64 + vec_len l.left
