use Rattle.std.proofs.Common.{◌≡◌, length, ◌∙◌, arith, take, length-take-le}
use Rattle.std.proofs.lemmas.Result.{err_from_is_err_and}
use Rattle.tau_io.proofs.Steps.{Consumes-more, Took-more}
use Rattle.tau_io.proofs.reading.fill.Goals as goal

pub loop-filled-preserved : goal.loop-filled-preserved
loop-filled-preserved g c =
    let read = c.in-Bytes.ensures in
    record {
      in_limit = omega (arith, read.count, read.length);
      in_bytes = omega (arith, read.count);
      in_room = read.length;
      room = read.room;
      came = Consumes-more _ _ _ _ _ c.loop-filled.filled c.in-Bytes.count read.front c.loop-filled.invariant.came read.bytes;
      counted = omega (arith, read.never_falls);
    }

pub returns-in_err-end_of-clause-too_long : goal.returns-in_err-end_of-clause-too_long
returns-in_err-end_of-clause-too_long g c =
    let p = err_from_is_err_and c.from_residual.result c.from_residual.ensures.1 in
    let filled = c.loop-filled.filled in
    let items = c.loop-filled.bytes.items in
    let all : filled ≡ c.args.limit = omega arith in
    let full : length (take filled items) ≡ c.args.limit = length-take-le filled items (omega (arith, c.loop-filled.bytes.ok.0)) ∙ all in
    rw (p.1, p.2) (λ e. Took-more _ _ _ _ _ full c.loop-filled.invariant.came (c.in_err-end_of.ensures.too_long (cc)))
