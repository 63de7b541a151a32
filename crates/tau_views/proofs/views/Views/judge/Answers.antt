use Rattle.std.specs.Prelude.{Result, Ok, Err, IfOk}
use Rattle.tau_view.specs.Fate.Decisions.{IsVerdict}
use Rattle.tau_past.specs.Decisions.{Verdict}
use Rattle.tau_trace.specs.Run.{len}
use Rattle.tau_views.specs.DecisionLaws.{judged}
use Rattle.tau_views.specs.NamedPoints.{NamesKnownFallen}
use Rattle.tau_views.specs.Kept.{held_of, letters_of}
use Rattle.tau_views.proofs.Next.{comparable}
use Rattle.tau_views.proofs.Judges.{merged_settled, verdict_is, point_is}
use Rattle.tau_views.proofs.views.Views.judge.Goals as goal

if_ok : {A E : Type 0} (P Q : A → Type 0) (r : Result A E) → ((x : A) → P x → Q x) → IfOk r P → IfOk r Q
if_ok P Q (Ok x) f p = f x p
if_ok P Q (Err e) f p = p

pub after_merge-requires : goal.after_merge-requires
after_merge-requires g c = comparable g.V.View.drops_edge g.V.View.drops_root g.V.View.held c.args.self.now c.args.trace.now.run c.requires.views c.len-steps.ensures.well_formed c.args.who c.args.message (g.V.View.held c.own_view-view.result.now) (g.V.View.held c.letter_view-letter.result.now) c.requires.exists c.requires.in_flight.exists c.own_view-view.ensures c.letter_view-letter.ensures

pub judge_settled-requires : goal.judge_settled-requires
judge_settled-requires g c = merged_settled g.V.View.drops_edge g.V.View.drops_root c.args.trace.now.run (held_of g.V.View.held c.args.self.now.own.items) (letters_of g.V.View.held c.args.self.now.letters.items) c.requires.views c.len-steps.ensures.well_formed c.requires.rules c.args.who (g.V.View.held c.own_view-view.result.now) c.requires.exists c.own_view-view.ensures c.args.message (g.V.View.held c.letter_view-letter.result.now) (g.V.View.held c.in_ok-merged.merged) c.requires.in_flight.exists c.letter_view-letter.ensures c.in_ok-merged.ensures

pub returns-clause-verdict : goal.returns-clause-verdict
returns-clause-verdict g c =
    if_ok
    (IsVerdict (g.V.View.held c.in_ok-merged.merged) c.own_point-point.result (g.V.View.held c.letter_view-letter.result.now).root)
    (λ v. Verdict c.args.trace.now.run c.args.who (len c.args.trace.now.run) c.args.message (judged v))
    c.judge_settled.result
    (λ v is. verdict_is g.V.View.drops_edge g.V.View.drops_root c.args.trace.now.run (held_of g.V.View.held c.args.self.now.own.items) (letters_of g.V.View.held c.args.self.now.letters.items) c.requires.views c.len-steps.ensures.well_formed c.requires.rules c.args.who (g.V.View.held c.own_view-view.result.now) c.requires.exists c.own_view-view.ensures c.args.message (g.V.View.held c.letter_view-letter.result.now) (g.V.View.held c.in_ok-merged.merged) c.requires.in_flight.exists c.letter_view-letter.ensures c.in_ok-merged.ensures g.met.V.View.drops_settled_edges g.met.V.View.drops_closed_roots g.met.V.View.drops_for_good c.own_point-point.result v c.own_point-point.ensures is)
    c.judge_settled.ensures

pub returns-clause-point : goal.returns-clause-point
returns-clause-point g c =
    if_ok
    (IsVerdict (g.V.View.held c.in_ok-merged.merged) c.own_point-point.result (g.V.View.held c.letter_view-letter.result.now).root)
    (NamesKnownFallen c.args.trace.now.run c.args.who (len c.args.trace.now.run) c.args.message)
    c.judge_settled.result
    (λ v is. point_is g.V.View.drops_edge g.V.View.drops_root c.args.trace.now.run (held_of g.V.View.held c.args.self.now.own.items) (letters_of g.V.View.held c.args.self.now.letters.items) c.requires.views c.len-steps.ensures.well_formed c.requires.rules c.args.who (g.V.View.held c.own_view-view.result.now) c.requires.exists c.own_view-view.ensures c.args.message (g.V.View.held c.letter_view-letter.result.now) (g.V.View.held c.in_ok-merged.merged) c.requires.in_flight.exists c.letter_view-letter.ensures c.in_ok-merged.ensures c.own_point-point.result v c.own_point-point.ensures is)
    c.judge_settled.ensures
