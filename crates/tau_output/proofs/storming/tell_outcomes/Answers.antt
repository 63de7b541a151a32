use Rattle.std.proofs.Common.{◌∙◌}
use Rattle.tau_storm.specs.Lines.{storm_text}
use Rattle.tau_output.proofs.StormLemmas.{tells}
use Rattle.tau_output.proofs.storming.tell_outcomes.Goals as goal

pub returns : goal.returns
returns c = λ P bytes sound told spelled.
    let t = c.args.told.now in
    tells c.args.numbers.now P t.outcomes t.totals bytes c.in_ok-storm_text.field-0.items sound c.requires told
    (c.in_ok-storm_text.ensures ∙ (λ i. storm_text (c.from.ensures i) t.totals t.outcomes)) spelled
