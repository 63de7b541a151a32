use Rattle.std.proofs.Common.{◌∙◌, ap}
use Rattle.clap.specs.Words.{found_of}
use Rattle.tau_command.specs.Commands.{is_from_words}
use Rattle.tau_command.proofs.MatchLemmas.{stands_by}
use Rattle.tau_command.proofs.matched.stands.Goals as goal

pub returns : goal.returns
returns c = c.is_from_words.ensures
    ∙ (ap is_from_words c.value_source.ensures ∙ stands_by (found_of c.args.matches.now) c.args.id.now)
