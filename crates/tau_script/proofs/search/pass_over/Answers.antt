use Rattle.std.proofs.Common.{◌≡◌, refl, sym, subst}
use Rattle.tau_trace.specs.Run.{len}
use Rattle.tau_script.specs.declared.cursor.Cursor.{Cursor}
use Rattle.tau_script.specs.Cursors.{IsPassedOver, PassesTo, rests, passes}
use Rattle.tau_script.proofs.search.pass_over.Goals as goal

pub entries-preserved : goal.entries-preserved
entries-preserved c = λ d p.
    let S = c.args.script.now in
    let T = c.args.trace.now.run in
    c.entries.invariant d (passes (c.entries-test.ensures.0 refl) (subst (λ b. PassesTo S T (len T) b d) c.next.ensures p))

pub returns-clause-passes : goal.returns-clause-passes
returns-clause-passes c =
    c.entries.invariant c.entries.cursor (rests (λ p. let e = c.entries-test.ensures.1 p in absurd (cc)))

pub returns-clause-rests : goal.returns-clause-rests
returns-clause-rests c = λ p. let e = c.entries-test.ensures.1 p in absurd (cc)
