use Rattle.std.proofs.Common.{◌≡◌, ℕ, ◌<◌, sym, ap, ◌∙◌, subst}
use Rattle.tau_view.specs.Held.{Held, AllComparable}
use Rattle.tau_trace.specs.Run.{Run, len}
use Rattle.tau_trace.specs.Numbering.{born, sent}
use Rattle.tau_trace.specs.Known.{WellFormed}
use Rattle.tau_views.proofs.HeardLaws.{views_are_comparable}
use Rattle.tau_views.proofs.Trimmed.{comparable_trimmed}
use Rattle.show_system.proofs.viewed.merged_view.Goals as goal

pub merge_facts-requires : goal.merge_facts-requires
merge_facts-requires g c =
    let run = c.args.system.now.run in
    let x = c.in-Some-Some.ensures.view in
    let y = c.in-Some-Some.ensures'.view in
    let formed = subst WellFormed c.trace.ensures.run c.trace.ensures.well_formed in
    let m : c.args.message < c.sent.result = c.if-message-sent.false in
    let t : c.args.who < c.born.result = c.if-who-born.false in
    let is_sent = subst (λ (n : ℕ). c.args.message < n) (c.sent.ensures ∙ ap (λ (r : Run). sent r (len r)) c.trace.ensures.run) m in
    let is_born = subst (λ (n : ℕ). c.args.who < n) (c.born.ensures ∙ ap (λ (r : Run). born r (len r)) c.trace-else-message-sent.ensures.run) t in
    let both = views_are_comparable run c.args.who (len run) c.args.message x.whole y.whole formed is_born is_sent x.is_whole y.is_whole in
    subst (λ (h : Held). AllComparable h.history (g.V.View.held c.in-Some-Some.letter.now).history) (sym c.in_ok-merged.ensures)
    (comparable_trimmed g.V.View.drops_edge g.V.View.drops_root (g.V.View.held c.in-Some-Some.own.now) (g.V.View.held c.in-Some-Some.letter.now) x.whole y.whole x.is y.is both)
