use Rattle.tau_trace.proofs.Once.{home_once, receives_once}
use Rattle.tau_trace.proofs.laws.each_number_is_made_once.Goals as goal

pub returns : goal.returns
returns c = λ T w. record { home = λ t m n. home_once T t m n w.opening; receiver = receives_once T }
