use Rattle.tau_picture.proofs.Joins.{chain_parts}
use Rattle.tau_picture.proofs.chain.put_chain.Goals as goal

pub returns : goal.returns
returns c =
    chain_parts c.args.trace.now.run c.args.layout.now c.args.looks.now c.args.place c.args.chain.now
    c.args.out.now.items c.put_frames.new.out.items c.put_headed.new.out.items c.put_ring.new.out.items
    c.in_ok-put_frames.ensures c.in_ok-put_headed.ensures c.in_ok-put_ring.ensures
