use Rattle.std.proofs.Common.{ap, sym, ◌∙◌}
use Rattle.tau_value.specs.Value.{val_of}
use Rattle.tau_eval.proofs.ScopeLemmas.{nearest-item, nearest-sum, nearest-around}
use Rattle.tau_eval.proofs.rounds.find_in_round.Goals as goal

pub returns-then-same : goal.returns-then-same
returns-then-same c =
    sym (nearest-item c.args.name.now c.args.round.sum.now c.args.round.item.now (val_of c.args.sum.now) (val_of c.args.item.now) c.args.scope.now c.same.result c.same.ensures c.if-same.true)

pub returns-then-same-2 : goal.returns-then-same-2
returns-then-same-2 c =
    sym (nearest-sum c.args.name.now c.args.round.sum.now c.args.round.item.now (val_of c.args.sum.now) (val_of c.args.item.now) c.args.scope.now c.same.result c.same-2.result c.same.ensures c.if-same.false c.same-2.ensures c.if-same-2.true)

pub returns : goal.returns
returns c =
    c.find.ensures ∙ sym (nearest-around c.args.name.now c.args.round.sum.now c.args.round.item.now (val_of c.args.sum.now) (val_of c.args.item.now) c.args.scope.now c.same.result c.same-2.result c.same.ensures c.if-same.false c.same-2.ensures c.if-same-2.false)
