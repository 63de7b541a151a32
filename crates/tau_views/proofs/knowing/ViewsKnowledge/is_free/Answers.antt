use Rattle.std.proofs.Common.{refl, subst}
use Rattle.tau_trace.specs.Run.{len}
use Rattle.tau_views.specs.DecisionLaws.{IsFreedomOf}
use Rattle.tau_views.specs.Kept.{held_of, letters_of}
use Rattle.tau_views.proofs.Judges.{own_settled, freedom_is}
use Rattle.tau_views.proofs.knowing.ViewsKnowledge.is_free.Goals as goal

pub free_settled-requires : goal.free_settled-requires
free_settled-requires g c = own_settled g.V.View.drops_edge g.V.View.drops_root c.args.trace.now.run (held_of g.V.View.held c.args.self.now.own.items) (letters_of g.V.View.held c.args.self.now.letters.items) c.requires.knows c.len-steps.ensures.well_formed c.requires.rules c.args.who (g.V.View.held c.own_view.result.now) c.requires.exists c.own_view.ensures

pub returns-in-Free : goal.returns-in-Free
returns-in-Free g c =
    let answer = freedom_is g.V.View.drops_edge g.V.View.drops_root c.args.trace.now.run (held_of g.V.View.held c.args.self.now.own.items) (letters_of g.V.View.held c.args.self.now.letters.items) c.requires.knows c.len-steps.ensures.well_formed c.requires.rules c.args.who (g.V.View.held c.own_view.result.now) c.requires.exists c.own_view.ensures g.met.V.View.drops_settled_edges g.met.V.View.drops_closed_roots g.met.V.View.drops_for_good c.own_point-point.result c.in_ok-free_settled.field-0 c.own_point-point.ensures c.in_ok-free_settled.ensures in
    let free = subst (IsFreedomOf c.args.trace.now.run c.args.who (len c.args.trace.now.run)) c.in-Free.is answer in
    (λ _. free, λ _. refl)

pub returns-in-Bound : goal.returns-in-Bound
returns-in-Bound g c =
    let answer = freedom_is g.V.View.drops_edge g.V.View.drops_root c.args.trace.now.run (held_of g.V.View.held c.args.self.now.own.items) (letters_of g.V.View.held c.args.self.now.letters.items) c.requires.knows c.len-steps.ensures.well_formed c.requires.rules c.args.who (g.V.View.held c.own_view.result.now) c.requires.exists c.own_view.ensures g.met.V.View.drops_settled_edges g.met.V.View.drops_closed_roots g.met.V.View.drops_for_good c.own_point-point.result c.in_ok-free_settled.field-0 c.own_point-point.ensures c.in_ok-free_settled.ensures in
    let bound = subst (IsFreedomOf c.args.trace.now.run c.args.who (len c.args.trace.now.run)) c.in-Bound.is answer in
    (λ e. absurd (cc), λ f. absurd (bound f))
