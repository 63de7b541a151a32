use Rattle.std.proofs.Common.{length, ap, arith}
use Rattle.std.proofs.lemmas.List.Folds.{length-flat_map-take}
use Rattle.tau_mailbox.specs.Letters.{WithRoom}
use Rattle.tau_mailbox.proofs.order.total_len.Goals as goal

pub overflow_add-total : goal.overflow_add-total
overflow_add-total c =
    omega (
      arith,
      c.len-total.ensures.len,
      ap (λ (b : WithRoom). length b.letters) c.block-item.is,
      length-flat_map-take (λ (b : WithRoom). b.letters) c.args.blocks.now c.loop-block.block-index c.block-item.result (omega arith),
    )
