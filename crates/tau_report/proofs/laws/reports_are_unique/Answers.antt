use Rattle.tau_report.proofs.Uniqueness.{report_once as the_law}
use Rattle.tau_report.proofs.laws.reports_are_unique.Goals as goal

pub returns : goal.returns
returns c = the_law
