use Rattle.std.proofs.Common.{◌<◌, ◌≤◌, arith, get_or, length, ⊎_elim}
use Rattle.std.proofs.lemmas.List.Sorted.{searched}
use Rattle.tau_trace.proofs.AscendingLemmas.{not_falling}
use Rattle.tau_trace.proofs.ascending.place_of.Goals as goal

pub returns : goal.returns
returns c = searched c.args.numbers.now c.args.number c.binary_search.result c.binary_search.ensures.position (not_falling c.args.numbers.now c.requires)
