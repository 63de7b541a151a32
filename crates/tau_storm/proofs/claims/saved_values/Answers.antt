use Rattle.std.proofs.Common.{◌≡◌, ◌∙◌, [], ◌∷◌, ◌++◌, Some, List, length, ap, arith}
use Rattle.std.specs.Prelude.{slice_get}
use Rattle.tau_value.specs.Value.{val_of}
use Rattle.tau_tree.specs.declared.starts.Start.{Start}
use Rattle.tau_states.specs.Opening.{opening_states}
use Rattle.tau_storm.proofs.ClaimLemmas.{starts_are, element_at, record_tells, saved_more, start_closed}
use Rattle.tau_storm.proofs.claims.saved_values.Goals as goal

pub loop-who-preserved : goal.loop-who-preserved
loop-who-preserved c =
    let P = c.args.program.now in
    let T = c.args.trace.now.run in
    let k = c.loop-who.who in
    let records = c.in_ok-states.states.records in
    let r = c.in-Some.record.now in
    let at : slice_get records k ≡ Some r = element_at c.records.result.now records k r c.records.ensures c.in-Some.ensures.lookup.3.0 c.in-Some.ensures.lookup.1 in
    let closed = start_closed T k (omega (arith, starts_are P T c.requires, c.loop-who-test.true, ap (λ (l : List Start). length l) c.items-who-end.ensures)) in
    saved_more T (opening_states P.starts) k c.loop-who.values c.add.new.values r.base (c.in_ok-add-in-Some.ensures ∙ ap (λ v. c.loop-who.values ++ val_of v ∷ []) c.in_ok-copy-in-Some.ensures) (record_tells T (opening_states P.starts) records k r c.in_ok-states.ensures.states at closed) c.loop-who.invariant
