use Rattle.tau_book.proofs.Works.{comes_after_none}
use Rattle.tau_book.proofs.laws.run_after_none_is_serial.Goals as goal

pub returns : goal.returns
returns c = comes_after_none
