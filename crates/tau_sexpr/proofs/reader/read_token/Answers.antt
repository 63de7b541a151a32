use Rattle.std.proofs.Common.{drop, sym, subst, ap, ◌∙◌}
use Rattle.std.proofs.lemmas.Result.{err_from_is_err_and}
use Rattle.tau_sexpr.specs.Inner.Reader.{outside, run, stack_of, TellsFormFault}
use Rattle.tau_sexpr.specs.declared.bytes.ByteKind.TheVariants.{Blank, Opening, Closing, Quote, Other}
use Rattle.tau_sexpr.proofs.PlaceLemmas.{outside_at, comment_read, tells_step, step_on}
use Rattle.tau_sexpr.proofs.reader.read_token.Goals as goal

pub returns-in_err-open-in-Opening-clause-err : goal.returns-in_err-open-in-Opening-clause-err
returns-in_err-open-in-Opening-clause-err c =
    let p = err_from_is_err_and c.from_residual.result c.from_residual.ensures.1 in
    rw (p.1, p.2) (tells_step _ _ _ _ (outside_at c.args.bytes.now c.args.at (stack_of c.args.held.now) Opening c.requires (sym c.kind.ensures ∙ c.in-Opening.is)) c.in_err-open-in-Opening.ensures)

pub returns-in_err-close-in-Closing-clause-err : goal.returns-in_err-close-in-Closing-clause-err
returns-in_err-close-in-Closing-clause-err c =
    let p = err_from_is_err_and c.from_residual-in_err-close-in-Closing.result c.from_residual-in_err-close-in-Closing.ensures.1 in
    rw (p.1, p.2) (tells_step _ _ _ _ (outside_at c.args.bytes.now c.args.at (stack_of c.args.held.now) Closing c.requires (sym c.kind.ensures ∙ c.in-Closing.is)) c.in_err-close-in-Closing.ensures)

pub returns-in_err-text-in-Quote-clause-err : goal.returns-in_err-text-in-Quote-clause-err
returns-in_err-text-in-Quote-clause-err c =
    let p = err_from_is_err_and c.from_residual-in_err-text-in-Quote.result c.from_residual-in_err-text-in-Quote.ensures.1 in
    rw (p.1, p.2)
    (subst (TellsFormFault _) (sym (outside_at c.args.bytes.now c.args.at (stack_of c.args.held.now) Quote c.requires (sym c.kind.ensures ∙ c.in-Quote.is))) (c.in_err-text-in-Quote.ensures.err (stack_of c.args.held.now)))

pub returns-in-Blank-clause-ok : goal.returns-in-Blank-clause-ok
returns-in-Blank-clause-ok c = outside_at c.args.bytes.now c.args.at (stack_of c.args.held.now) Blank c.requires (sym c.kind.ensures ∙ c.in-Blank.is)

pub returns-in-Semicolon-clause-ok : goal.returns-in-Semicolon-clause-ok
returns-in-Semicolon-clause-ok c =
    comment_read c.args.bytes.now c.args.at c.line_end.result c.requires c.line_end.ensures.least c.line_end.ensures.most (sym c.kind.ensures ∙ c.in-Semicolon.is) c.line_end.ensures.line c.line_end.ensures.ends
    (stack_of c.args.held.now)

pub returns-in_ok-open-in-Opening-clause-ok : goal.returns-in_ok-open-in-Opening-clause-ok
returns-in_ok-open-in-Opening-clause-ok c =
    step_on _ _ c.args.at _ _ (outside_at c.args.bytes.now c.args.at (stack_of c.args.held.now) Opening c.requires (sym c.kind.ensures ∙ c.in-Opening.is)) c.in_ok-open-in-Opening.ensures

pub returns-in_ok-close-in-Closing-clause-ok : goal.returns-in_ok-close-in-Closing-clause-ok
returns-in_ok-close-in-Closing-clause-ok c =
    step_on _ _ c.args.at _ _ (outside_at c.args.bytes.now c.args.at (stack_of c.args.held.now) Closing c.requires (sym c.kind.ensures ∙ c.in-Closing.is)) c.in_ok-close-in-Closing.ensures

pub returns-in_ok-add-in-Quote-clause-ok : goal.returns-in_ok-add-in-Quote-clause-ok
returns-in_ok-add-in-Quote-clause-ok c =
    outside_at c.args.bytes.now c.args.at (stack_of c.args.held.now) Quote c.requires (sym c.kind.ensures ∙ c.in-Quote.is)
    ∙ c.in_ok-text-in-Quote.ensures.ok.2 (stack_of c.args.held.now)
    ∙ ap (λ s. run (drop c.in_ok-text-in-Quote.next c.args.bytes.now) c.in_ok-text-in-Quote.next outside s) (sym c.in_ok-add-in-Quote.ensures)

pub returns-in-Other-clause-err : goal.returns-in-Other-clause-err
returns-in-Other-clause-err c = outside_at c.args.bytes.now c.args.at (stack_of c.args.held.now) Other c.requires (sym c.kind.ensures ∙ c.in-Other.is)
