use Rattle.tau_value.proofs.NameLemmas.{AreFound}
use Rattle.tau_value.proofs.name_list.Names.are_names.Given as goal

abbrev pub invariant-loop-k : goal.invariant-loop-k
invariant-loop-k l = AreFound l.self l.k
