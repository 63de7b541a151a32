use Rattle.std.proofs.lemmas.Result.{err_from_is_err_and}
use Rattle.tau_sexpr.proofs.FrontLemmas.{whole_read, whole_told}
use Rattle.tau_sexpr.proofs.reader.read_whole.Goals as goal

pub returns-in_err-forms : goal.returns-in_err-forms
returns-in_err-forms c =
    let p = err_from_is_err_and c.from_residual.result c.from_residual.ensures.1 in
    rw (p.1, p.2) (whole_told c.args.bytes.now _ c.in_err-forms.ensures.fault)

pub returns : goal.returns
returns c =
    let h = c.in_ok-forms.ensures in
    whole_read c.args.bytes.now c.in_ok-forms._end c.in_ok-forms.forms h.read h.least
