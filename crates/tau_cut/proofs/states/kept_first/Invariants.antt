use Rattle.std.proofs.Common.{◌≡◌, map, take, Some}
use Rattle.tau_cut.specs.Inner.Keeping.{kept_of}
use Rattle.tau_cut.proofs.KeptLemmas.{Firsts}
use Rattle.tau_cut.proofs.states.kept_first.Given as goal

abbrev pub invariant-loop-record : goal.invariant-loop-record
invariant-loop-record l = l.kept.items ≡ map (λ r. Some (kept_of r)) (take l.record-index l.records)

abbrev pub invariant-loop-who : goal.invariant-loop-who
invariant-loop-who l = Firsts l.records l._who l.kept.items
