use Rattle.std.proofs.Common.{◌≡◌, ◌∙◌, ap, sym, rules}
use Rattle.std.specs.Prelude.{Err}
use Rattle.tau_command.specs.Commands.{command_matched, command_of}
use Rattle.tau_command.proofs.MatchLemmas.{accepted, refused, same_error}
use Rattle.tau_command.proofs.RangeLemmas.{ok_in_range}
use Rattle.tau_command.proofs.commands.read_words.Goals as goal

pub returns-in_err-matches-clause-words : goal.returns-in_err-matches-clause-words
returns-in_err-matches-clause-words c = λ is. refused _ (c.in_err-matches.ensures.words (ap Err (same_error _ _ _ c.from_residual.ensures.1 is)))

pub returns-clause-command : goal.returns-clause-command
returns-clause-command c =
    let matched = c.in_ok-matches.ensures.matched in
    let named : command_of c.args.words.now ≡ c.in_ok-command.command =
    accepted _ matched.0 ∙ (ap command_matched (sym matched.1) ∙ sym c.in_ok-command.ensures) in
    rw named (search rules)

pub returns-clause-words : goal.returns-clause-words
returns-clause-words c =
    let matched = c.in_ok-matches.ensures.matched in
    let named : command_of c.args.words.now ≡ c.in_ok-command.command =
    accepted _ matched.0 ∙ (ap command_matched (sym matched.1) ∙ sym c.in_ok-command.ensures) in
    rw named (search rules)

pub returns-clause-ranges : goal.returns-clause-ranges
returns-clause-ranges c =
    let matched = c.in_ok-matches.ensures.matched in
    let named : command_of c.args.words.now ≡ c.in_ok-command.command =
    accepted _ matched.0 ∙ (ap command_matched (sym matched.1) ∙ sym c.in_ok-command.ensures) in
    ok_in_range c.args.words.now c.in_ok-command.command _ c.ok_or.result c.ok_or.ensures.value named
