use Rattle.std.proofs.Common.{◌∙◌, drop, sym, ap, arith}
use Rattle.tau_sexpr.specs.Inner.Reader.{stack_of, outside, run}
use Rattle.tau_sexpr.proofs.FrontLemmas.{from_here, gives_behind, told_at_end, told_closed}
use Rattle.std.proofs.lemmas.Result.{err_from_is_err_and}
use Rattle.tau_sexpr.proofs.reader.read_piece.Goals as goal
use Rattle.tau_sexpr.proofs.reader.read_piece.Goals.{then-loop-at-test+else-takes_more, else-loop-at-test}

pub loop-at-init : goal.loop-at-init
loop-at-init c =
    let bs = c.args.bytes.now in
    record {
      low = omega arith;
      high = c.requires;
      read = from_here bs c.args.start ∙ ap (λ s. run (drop c.args.start bs) c.args.start outside s) (sym c.new-held.ensures);
    }

pub returns-in_err-finish-clause-fault : goal.returns-in_err-finish-clause-fault
returns-in_err-finish-clause-fault c =
    let p = err_from_is_err_and c.from_residual-in_err-finish.result c.from_residual-in_err-finish.ensures.1 in
    let s = stack_of c.loop-at.held in
    rw (p.1, p.2)
    (elim c.loop-at-test.branch [
      | then-loop-at-test+else-takes_more w ↦ told_closed _ c.loop-at.at s.lists s.forms _ (w.takes_more.ensures.closed w.if-takes_more.false) c.in_err-finish.ensures
      | else-loop-at-test w ↦ told_at_end _ c.args.bytes.now c.args.start c.loop-at.at s c.loop-at.invariant.read (omega arith) c.in_err-finish.ensures
    ])

pub returns-clause-read : goal.returns-clause-read
returns-clause-read c =
    let s = stack_of c.loop-at.held in
    c.loop-at.invariant.read ∙ gives_behind c.args.bytes.now c.loop-at.at s.lists s.forms c.in_ok-finish.field-0 c.in_ok-finish.ensures
