use Rattle.tau_value.proofs.WrittenLemmas.{name_bytes}
use Rattle.tau_value.proofs.printing.form_of_name.Goals as goal

pub form_of_word-requires : goal.form_of_word-requires
form_of_word-requires c = name_bytes
