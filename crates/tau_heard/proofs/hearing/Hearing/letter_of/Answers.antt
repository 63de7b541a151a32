use Rattle.std.proofs.Common.{Some, sym, ap, ◌∙◌}
use Rattle.std.specs.Prelude.{option_and_then}
use Rattle.tau_trace.proofs.Lists.{same_some}
use Rattle.tau_heard.proofs.hearing.Hearing.letter_of.Goals as goal

pub unreachable-requires : goal.unreachable-requires
unreachable-requires c = let both = c.in-None.ensures ∙ ap (option_and_then (λ o. o)) (c.requires.knows.in_flight c.args.message c.requires.in_flight).1 in cc

pub returns : goal.returns
returns c =
    let found = c.requires.knows.in_flight c.args.message c.requires.in_flight in
    let same = same_some (c.in-Some.ensures ∙ ap (option_and_then (λ o. o)) found.1) in
    found.1 ∙ ap (λ l. Some (Some l)) (sym same)
