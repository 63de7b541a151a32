use Rattle.std.proofs.Common.{ap, ◌∙◌}
use Rattle.std.specs.Prelude.{option_and_then}
use Rattle.tau_views.proofs.views.Views.letter_view.Goals as goal

pub unreachable-requires : goal.unreachable-requires
unreachable-requires g c =
    let found = c.requires.views.in_flight c.args.message c.requires.in_flight in
    let both = c.in-None.ensures ∙ ap (option_and_then (λ o. o)) found.1 in
    cc
