use Rattle.std.proofs.Common.{ap, length, ◌∙◌, ◌≡◌, arith}
use Rattle.tau_trace.specs.Run.{starts}
use Rattle.tau_past.proofs.NextTables.{births_start, births_first}
use Rattle.tau_past.proofs.index.starts_births.Goals as goal

pub loop-who-preserved : goal.loop-who-preserved
loop-who-preserved c =
    let T = c.args.trace.now.run in
    births_start T _ c.loop-who._who _ _ (c.len-starts.ensures ∙ ap (λ o. length o.names) c.opening.ensures.value) (omega arith) c.in_ok-push.ensures.items c.loop-who.invariant

pub returns : goal.returns
returns c =
    let T = c.args.trace.now.run in
    let few : c.loop-who._who ≡ starts T = omega (arith, c.loop-who-test.false, c.loop-who.auto._who-end, c.len-starts.ensures, ap (λ o. length o.names) c.opening.ensures.value) in
    births_first T c.loop-who._who _ few c.loop-who.invariant
