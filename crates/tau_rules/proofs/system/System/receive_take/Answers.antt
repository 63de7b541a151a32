use Rattle.std.proofs.Common.{sym, subst, ◌∙◌}
use Rattle.std.proofs.lemmas.Bool.{false≢true}
use Rattle.tau_trace.specs.Run.{Run}
use Rattle.tau_trace.specs.Numbering.{IsNotice}
use Rattle.tau_trace.specs.Known.{WellFormed}
use Rattle.tau_legal.specs.Traces.{Fitting}
use Rattle.tau_rules.specs.System.{Core}
use Rattle.tau_rules.proofs.DeliverLemmas.{heed_follows}
use Rattle.tau_rules.proofs.system.System.receive_take.Goals as goal

pub append-requires-clause-known : goal.append-requires-clause-known
append-requires-clause-known g c =
    let k : Core = c.args.self.now in
    let w : WellFormed k.run = subst WellFormed c.trace-run.ensures.run c.trace-run.ensures.well_formed in
    let f : Fitting k.program k.run = subst (Fitting k.program) c.trace-run.ensures.run c.trace-run.ensures.fitting in
    let notice : IsNotice k.run c.args.message = subst (λ (T : Run). IsNotice T c.args.message) c.trace-run.ensures.run (c.is_notice-notice.ensures.0 c.if-notice.true) in
    heed_follows k.program k.run w f c.requires.few c.args.who c.args.message c.requires.arrives notice

pub append-requires-clause-fits : goal.append-requires-clause-fits
append-requires-clause-fits g c =
    let notice : IsNotice c.args.self.now.run c.args.message = subst (λ (T : Run). IsNotice T c.args.message) c.trace-run.ensures.run (c.is_notice-notice.ensures.0 c.if-notice.true) in
    (c.requires.arrives, c.requires.verdict, notice)

pub begin_turn-requires-clause-plain : goal.begin_turn-requires-clause-plain
begin_turn-requires-clause-plain g c = λ n.
    let seen : IsNotice c.trace-run.result.now.run c.args.message = subst (λ (T : Run). IsNotice T c.args.message) (sym c.trace-run.ensures.run) n in
    false≢true (sym c.if-notice.false ∙ c.is_notice-notice.ensures.1 seen)
