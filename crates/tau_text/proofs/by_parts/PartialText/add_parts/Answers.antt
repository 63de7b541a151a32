use Rattle.std.proofs.Common.{◌≢◌, [], ◌++◌, refl, rules}
use Rattle.tau_text.proofs.PartialLemmas.{part_more}
use Rattle.tau_text.proofs.by_parts.PartialText.add_parts.Goals as goal

pub loop-rest-init : goal.loop-rest-init
loop-rest-init c before lines read = record { front = before; is = refl; lines = λ some. lines; read = read }

pub loop-rest-preserved : goal.loop-rest-preserved
loop-rest-preserved c before lines read =
    let rest = c.loop-rest.rest.now in
    let some : rest ≢ [] = search rules in
    part_more (before ++ c.args.bytes.now) rest c.split_at.result.0.now c.split_at.result.1.now c.loop-rest.self c.add_part.new.self c.part_len.result c.part_len.ensures.lines c.split_at.ensures.front c.split_at.ensures.back some c.in_ok-add_part.ensures (c.loop-rest.invariant before lines read)
