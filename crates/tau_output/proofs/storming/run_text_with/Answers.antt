use Rattle.std.proofs.Common.{List, ap}
use Rattle.tau_tree.specs.declared.entries.Entry.{Entry}
use Rattle.tau_output.proofs.StormLemmas.{serial_text}
use Rattle.tau_output.proofs.storming.run_text_with.Goals as goal

pub returns : goal.returns
returns c =
    let P = c.args.program.now in
    let ran = c.in_ok-ran in
    let output = c.in_ok-output in
    serial_text c.args.numbers.now c.args.seed (record P { script = c.args.script.now }) _ ran.ran.trace.run ran.ran.is_complete output.output.end output.output.text.items
    (ap (λ (s : List Entry). record P { script = s }) c.in_ok-program.ensures) ran.ensures.serial output.ensures.program ran.ensures.ends output.ensures.run
