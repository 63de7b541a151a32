use Rattle.std.proofs.Common.{◌≡◌, ◌∙◌, [], ap, sym, subst, length}
use Rattle.tau_trace.specs.declared.opening.Opening.{Opening}
use Rattle.tau_trace.specs.Known.{IsSound}
use Rattle.tau_trace.specs.Run.{Run}
use Rattle.tau_script.specs.Openings.{program_opening}
use Rattle.tau_rules.proofs.OpeningLemmas.{length-map}
use Rattle.tau_views.specs.Kept.{AreViews, held_of, letters_of}
use Rattle.tau_views.proofs.anew.Front.open.Goals as goal

pub returns-clause-views : goal.returns-clause-views
returns-clause-views g c =
    let P = c.args.program.now in
    let opened : Opening → Run = λ o. record { opening = o; steps = [] } in
    let is : c.in_ok-trace.trace.run ≡ opened (program_opening P) = c.in_ok-trace.ensures ∙ ap opened c.in_ok-opening_of.ensures.opening in
    let opening : IsSound (program_opening P) = subst (λ (o : Opening). IsSound o) c.in_ok-opening_of.ensures.opening (c.in_ok-opening_of.ensures.sound c.requires) in
    let starting : length (program_opening P).names ≡ c.len.result = length-map (λ s. s.name) P.starts ∙ sym c.len.ensures in
    let posted : length (program_opening P).targets ≡ c.len-2.result = length-map (λ q. q.to) P.posts ∙ sym c.len-2.ensures in
    let views = c.in_ok-open.field-0 in
    subst (λ (T : Run). AreViews g.V.View.drops_edge g.V.View.drops_root T (held_of g.V.View.held views.own.items) (letters_of g.V.View.held views.letters.items)) (sym is)
    (c.in_ok-open.ensures (program_opening P) opening starting posted)
