use Rattle.std.proofs.Common.{arith}
use Rattle.tau_picture.proofs.Heads.{without_head, with_head}
use Rattle.tau_picture.proofs.chain.put_headed.Goals as goal

pub returns : goal.returns
returns c =
    with_head c.args.trace.now.run c.args.layout.now c.args.looks.now c.args.chain.now c.args.out.now.items c.put_links.new.out.items c.put_head.new.out.items c.in_ok-put_links.ensures
    (omega (arith, c.if-len-before.false)) c.in_ok-put_head.ensures

pub returns-then-len-before : goal.returns-then-len-before
returns-then-len-before c =
    without_head c.args.trace.now.run c.args.layout.now c.args.looks.now c.args.chain.now c.args.out.now.items c.put_links.new.out.items c.in_ok-put_links.ensures (omega (arith, c.if-len-before.true))
