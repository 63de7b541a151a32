use Rattle.std.proofs.Common.{◌≡◌, ◌∙◌, [], ◌∷◌, ◌++◌, Some, None, List, sym, ap, length, arith}
use Rattle.std.specs.Prelude.{slice_get}
use Rattle.tau_value.specs.Value.{val_of}
use Rattle.tau_tree.specs.declared.starts.Start.{Start}
use Rattle.tau_storm.proofs.ClaimLemmas.{starts_are, start_kept, kept_more, element_at}
use Rattle.tau_storm.proofs.claims.kept_values.Goals as goal

pub unreachable-requires : goal.unreachable-requires
unreachable-requires c =
    let P = c.args.program.now in
    let T = c.args.trace.now.run in
    let k = c.loop-who.who in
    let at : slice_get c.in_ok-end.end.kept k ≡ Some c.in-Some-None.field-0.now = element_at c.states.result.now c.in_ok-end.end.kept k c.in-Some-None.field-0.now c.states.ensures c.in-Some-None.ensures.lookup.3.0 c.in-Some-None.ensures.lookup.1 in
    let one = start_kept P T c.in_ok-end.end.kept k (Some None) c.in_ok-end.ensures.kept (omega (arith, starts_are P T c.requires, c.loop-who-test.true, ap (λ (l : List Start). length l) c.items-who-end.ensures)) (sym (at ∙ ap Some c.in-Some-None.field-0-is)) in
    absurd (cc)

pub loop-who-preserved : goal.loop-who-preserved
loop-who-preserved c =
    let k = c.loop-who.who in
    let at : slice_get c.in_ok-end.end.kept k ≡ Some c.in-Some-Some.field-0.now = element_at c.states.result.now c.in_ok-end.end.kept k c.in-Some-Some.field-0.now c.states.ensures c.in-Some-Some.ensures.lookup.3.0 c.in-Some-Some.ensures.lookup.1 in
    kept_more c.in_ok-end.end.kept k c.loop-who.values c.add.new.values c.in-Some-Some.state (c.in_ok-add-in-Some-Some.ensures ∙ ap (λ v. c.loop-who.values ++ val_of v ∷ []) c.in_ok-copy-in-Some-Some.ensures) (at ∙ ap Some c.in-Some-Some.field-0-is) c.loop-who.invariant
