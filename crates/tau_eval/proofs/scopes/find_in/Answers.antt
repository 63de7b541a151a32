use Rattle.std.proofs.Common.{◌-◌, Some, ap, arith, sym, ◌∙◌}
use Rattle.tau_value.specs.Value.{val_of}
use Rattle.tau_eval.proofs.ScopeLemmas.{nearest-found, nearest-passed}
use Rattle.tau_eval.proofs.scopes.find_in.Goals as goal

pub returns-then-same : goal.returns-then-same
returns-then-same c =
    sym (nearest-found (λ b. (b.name.now, val_of b.value)) c.args.name.now c.args.bindings.now c.loop-below.below (c.loop-below.below - 1) c.index-bindings-below.result c.same.result (omega arith) (omega arith) c.index-bindings-below.is c.loop-below.invariant.unbound c.same.ensures c.if-same.true)

pub loop-below-preserved : goal.loop-below-preserved
loop-below-preserved c = record {
  within = omega arith;
  unbound = nearest-passed (λ b. (b.name.now, val_of b.value)) c.args.name.now c.args.bindings.now c.loop-below.below (c.loop-below.below - 1) c.index-bindings-below.result c.same.result (omega arith) (omega arith) c.index-bindings-below.is c.loop-below.invariant.unbound c.same.ensures c.if-same.false;
}
