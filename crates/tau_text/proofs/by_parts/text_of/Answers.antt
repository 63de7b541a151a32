use Rattle.std.proofs.Common.{◌++◌}
use Rattle.tau_text.proofs.PartialLemmas.{run_read}
use Rattle.tau_text.proofs.by_parts.text_of.Goals as goal

pub returns-clause-text : goal.returns-clause-text
returns-clause-text c = run_read (c.args.head.now ++ c.args.steps.now) c.add_parts.new.self (c.in_ok-add_parts.ensures c.args.head.now c.requires c.in_ok-partial.ensures)

pub returns-clause-sound : goal.returns-clause-sound
returns-clause-sound c = (c.in_ok-add_parts.ensures c.args.head.now c.requires c.in_ok-partial.ensures).sound
