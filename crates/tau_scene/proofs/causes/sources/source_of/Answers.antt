use Rattle.tau_scene.proofs.SourceLemmas.{state_born}
use Rattle.tau_scene.proofs.causes.sources.source_of.Goals as goal

pub source_of_first-requires-clause-exists : goal.source_of_first-requires-clause-exists
source_of_first-requires-clause-exists c = state_born c.args.index.now c.requires.well_formed c.args.state c.requires.state
