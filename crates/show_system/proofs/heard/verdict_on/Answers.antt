use Rattle.std.proofs.Common.{sym, subst}
use Rattle.tau_trace.specs.Run.{Run}
use Rattle.tau_views.specs.Kept.{AreViews, held_of, letters_of}
use Rattle.tau_legal.proofs.SafetyLemmas.{keeps_rules}
use Rattle.show_system.proofs.heard.verdict_on.Goals as goal

pub judge-requires-clause-views : goal.judge-requires-clause-views
judge-requires-clause-views g c =
    subst (λ (r : Run). AreViews g.V.View.drops_edge g.V.View.drops_root r (held_of g.V.View.held c.args.views.now.own.items) (letters_of g.V.View.held c.args.views.now.letters.items))
    (sym c.trace-trace.ensures.run) c.requires

pub judge-requires-clause-rules : goal.judge-requires-clause-rules
judge-requires-clause-rules g c = keeps_rules c.args.system.now.program c.trace-trace.result.now.run c.trace-trace.ensures.fitting
