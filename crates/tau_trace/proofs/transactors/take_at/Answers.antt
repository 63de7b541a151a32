use Rattle.std.proofs.Common.{refl, arith}
use Rattle.std.proofs.lemmas.List.{get_or_default}
use Rattle.tau_trace.specs.Living.{Loses}
use Rattle.tau_trace.specs.Ascending.{WithRoom}
use Rattle.tau_trace.proofs.LivingLemmas.{loses_at}
use Rattle.tau_trace.proofs.transactors.take_at.Goals as goal

pub returns : goal.returns
returns c = record {
  part = c.take_out.new.self;
  is = refl;
  related = λ d. loses_at c.args.who _ _ c.index_mut.result.now c.take_out.new.self (get_or_default c.args.lists.now.items c.args.node d c.index_mut.result.now (omega (arith, c.requires, c.args.lists.now.ok.0))) c.index_mut.ensures.value (c.take_out.ensures.members, c.take_out.ensures.room);
}
