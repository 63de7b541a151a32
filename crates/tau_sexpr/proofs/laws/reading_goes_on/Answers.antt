use Rattle.tau_sexpr.proofs.FrontLemmas.{from_start, nothing_behind}
use Rattle.tau_sexpr.proofs.FurtherLemmas.{from_place}
use Rattle.tau_sexpr.proofs.laws.reading_goes_on.Goals as goal

pub returns : goal.returns
returns c =
    let bs = c.args._bytes.now in
    record { place = from_place bs; start = from_start bs; end = nothing_behind bs }
