use Rattle.std.proofs.Common.{◌≡◌, length, subst, arith}
use Rattle.tau_cut.specs.Inner.Marking.{AreMarks}
use Rattle.tau_cut.proofs.MarkLemmas.{marks_none, marks_more, left_within}
use Rattle.tau_cut.proofs.marking.marks_of.Goals as goal

pub loop-at-init : goal.loop-at-init
loop-at-init c = marks_none c.args.places.now c.args.chains.now.items c.new-marks.result.items c.new-marks.ensures.items

pub take_chain-chain-requires : goal.take_chain-chain-requires
take_chain-chain-requires c = left_within c.args.places.now c.args.chains.now.items c.loop-at.at c.loop-at.marks.items c.loop-at.chains.items c.requires c.loop-at-test.true c.loop-at.invariant

pub loop-at-preserved : goal.loop-at-preserved
loop-at-preserved c =
    marks_more c.args.places.now c.args.chains.now.items c.loop-at.at _ c.take_chain-chain.result c.mark_of.result c.loop-at.marks.items c.push.new.self.items c.loop-at.chains.items c.take_chain-chain.new.chains.items c.loop-at-test.true c.take_chain-chain.ensures.taken c.mark_of.ensures c.in_ok-push.ensures.items c.take_chain-chain.ensures.left c.loop-at.invariant

pub returns : goal.returns
returns c =
    let all : c.loop-at.at ≡ length c.args.places.now = omega (arith, c.loop-at-test.false, c.loop-at.auto.at-end) in
    subst (λ n. AreMarks c.args.places.now c.args.chains.now.items n c.loop-at.marks.items c.loop-at.chains.items) all c.loop-at.invariant
