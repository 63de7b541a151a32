use Rattle.std.proofs.Common.{◌≡◌, sym, subst, arith}
use Rattle.tau_sexpr.specs.Rest.{forms_from, behind}
use Rattle.tau_text.specs.Inner.Surveyed.{joined}
use Rattle.tau_text.proofs.SurveyLemmas.{reads_first}
use Rattle.tau_text.proofs.front.Front.new.Goals as goal

pub returns : goal.returns
returns c bytes =
    let first = subst (λ ps. forms_from bytes 0 ≡ behind (joined ps) (forms_from bytes 0)) (sym c.new.ensures.items) (reads_first bytes 0) in
    record { within = omega arith; read = first }
