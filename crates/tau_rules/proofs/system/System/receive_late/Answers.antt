use Rattle.std.proofs.Common.{sym, subst, ◌∙◌}
use Rattle.std.proofs.lemmas.Bool.{false≢true}
use Rattle.tau_trace.specs.Known.{WellFormed}
use Rattle.tau_legal.specs.Traces.{Fitting}
use Rattle.tau_rules.specs.System.{Core}
use Rattle.tau_rules.proofs.DeliverLemmas.{void_follows, echo_follows}
use Rattle.tau_rules.proofs.system.System.receive_late.Goals as goal

pub append-requires-clause-known : goal.append-requires-clause-known
append-requires-clause-known g c =
    let k : Core = c.args.self.now in
    let w : WellFormed k.run = subst WellFormed c.trace-run.ensures.run c.trace-run.ensures.well_formed in
    let f : Fitting k.program k.run = subst (Fitting k.program) c.trace-run.ensures.run c.trace-run.ensures.fitting in
    echo_follows k.program k.run w f c.requires.few c.args.who c.args.message c.requires.late (c.echoes.ensures.0 c.if-echoes.true)

pub append-requires-clause-fits : goal.append-requires-clause-fits
append-requires-clause-fits g c = (c.requires.late, c.echoes.ensures.0 c.if-echoes.true)

pub append-requires-2-clause-known : goal.append-requires-2-clause-known
append-requires-2-clause-known g c =
    let k : Core = c.args.self.now in
    let w : WellFormed k.run = subst WellFormed c.trace-run.ensures.run c.trace-run.ensures.well_formed in
    let f : Fitting k.program k.run = subst (Fitting k.program) c.trace-run.ensures.run c.trace-run.ensures.fitting in
    void_follows k.program k.run w f c.requires.few c.args.who c.args.message c.requires.late

pub append-requires-2-clause-fits : goal.append-requires-2-clause-fits
append-requires-2-clause-fits g c = (c.requires.late, λ e. false≢true (sym c.if-echoes.false ∙ c.echoes.ensures.1 e))
