use Rattle.tau_output.proofs.MigrationLemmas.{migrated_texts_accepted}
use Rattle.tau_output.proofs.laws.migrated_texts_are_accepted.Goals as goal

pub returns : goal.returns
returns c = migrated_texts_accepted
