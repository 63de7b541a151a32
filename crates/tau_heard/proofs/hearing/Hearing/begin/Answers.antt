use Rattle.tau_heard.proofs.Beginnings.{opens_with}
use Rattle.tau_heard.proofs.hearing.Hearing.begin.Goals as goal

pub returns : goal.returns
returns c = λ o sound names targets. opens_with o sound c.args.starts c.args.posts names targets c.in_ok-start_logs.ensures c.in_ok-start_own.ensures c.in_ok-post_letters.ensures
