use Rattle.std.proofs.Common.{◌≡◌, Some, length, ap, arith}
use Rattle.std.specs.Prelude.{slice_get}
use Rattle.tau_storm.proofs.ClaimLemmas.{element_at}
use Rattle.tau_output.proofs.StormLemmas.{sound_shown, shows, lacks}
use Rattle.tau_output.proofs.storming.show_outcome.Goals as goal

pub run_text_with-requires-clause-sound : goal.run_text_with-requires-clause-sound
run_text_with-requires-clause-sound c =
    let t = c.args.told.now in
    let shown = c.in-Some.shown.now in
    let at : slice_get t.outcomes c.args.outcome ≡ Some shown = element_at c.items-outcomes.result.now t.outcomes c.args.outcome shown c.items-outcomes.ensures c.in-Some.ensures.lookup.3.0 c.in-Some.ensures.lookup.1 in
    sound_shown c.args.numbers.now c.args.program.now t.outcomes t.totals c.args.outcome shown c.requires.sound c.requires.setting c.requires.told at

pub returns-in_ok-run_text_with-in-Some-clause-shown : goal.returns-in_ok-run_text_with-in-Some-clause-shown
returns-in_ok-run_text_with-in-Some-clause-shown c = λ bytes spelled.
    let t = c.args.told.now in
    let shown = c.in-Some.shown.now in
    let at : slice_get t.outcomes c.args.outcome ≡ Some shown = element_at c.items-outcomes.result.now t.outcomes c.args.outcome shown c.items-outcomes.ensures c.in-Some.ensures.lookup.3.0 c.in-Some.ensures.lookup.1 in
    let text = c.in_ok-run_text_with-in-Some.field-0.items in
    shows c.args.numbers.now c.args.program.now t.outcomes t.totals c.args.outcome shown bytes text c.requires.sound c.requires.setting c.requires.told at c.in_ok-run_text_with-in-Some.ensures spelled

pub returns-in-None-clause-lacks : goal.returns-in-None-clause-lacks
returns-in-None-clause-lacks c = λ none bytes spelled.
    let t = c.args.told.now in
    lacks c.args.numbers.now c.args.program.now t.outcomes t.totals c.args.outcome bytes c.requires.sound c.requires.setting c.requires.told
    (omega (arith, c.in-None.ensures.lookup, ap length c.items-outcomes.ensures)) spelled
