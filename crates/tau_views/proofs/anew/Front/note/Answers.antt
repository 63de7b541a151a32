use Rattle.std.proofs.Common.{◌∙◌, ap, sym, subst}
use Rattle.tau_trace.specs.Run.{Run, appended}
use Rattle.tau_views.specs.Kept.{AreViews, held_of, letters_of}
use Rattle.tau_views.proofs.anew.Front.note.Goals as goal

pub returns-clause-views : goal.returns-clause-views
returns-clause-views g c =
    let views = c.apply.new.self in
    let F : Run → Type 0 = λ R. AreViews g.V.View.drops_edge g.V.View.drops_root R (held_of g.V.View.held views.own.items) (letters_of g.V.View.held views.letters.items) in
    let s = c.args.step.now in
    let run = c.push_spare.ensures ∙ ap (λ R. appended R c.in_ok-copy.copy) c.in_ok-reserve.ensures.run ∙ ap (appended c.args.self.now.trace.run) c.in_ok-copy.ensures in
    subst F (sym run) (c.apply.ensures (appended c.args.self.now.trace.run s) c.in_ok-change.ensures.ok)
