use Rattle.std.proofs.Common.{Some, sym, ap, ◌∙◌}
use Rattle.std.specs.Prelude.{option_and_then}
use Rattle.tau_trace.proofs.Lists.{same_some}
use Rattle.tau_heard.proofs.Leading.{letter_there}
use Rattle.tau_heard.proofs.hearing.Hearing.letter.Goals as goal

pub unreachable-requires : goal.unreachable-requires
unreachable-requires c = let both = c.in-None.ensures ∙ ap (option_and_then (λ o. o)) (letter_there c.args.self.now c.args._trace.now.run c.args._step.now c.requires.next c.args.message c.requires.hears).1 in cc

pub returns : goal.returns
returns c =
    let found = letter_there c.args.self.now c.args._trace.now.run c.args._step.now c.requires.next c.args.message c.requires.hears in
    let same = same_some (c.in-Some.ensures ∙ ap (option_and_then (λ o. o)) found.1) in
    found.1 ∙ ap (λ l. Some (Some l)) (sym same)
