use Rattle.tau_rules.proofs.KnownJobs.{open_still, known_longer, open_known}
use Rattle.tau_rules.proofs.laws.known_jobs_are_open.Goals as goal

pub returns-clause-still : goal.returns-clause-still
returns-clause-still c P T job w was at = open_still P T job w was at

pub returns-clause-longer : goal.returns-clause-longer
returns-clause-longer c P T more job was = known_longer P T more job was

pub returns-clause-known : goal.returns-clause-known
returns-clause-known c P T job is = open_known P T job is
