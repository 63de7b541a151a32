use Rattle.tau_value.proofs.NumberLemmas.{signed_word_bytes, in_i64-signed}
use Rattle.tau_forms.proofs.ValueTexts.{on_ok}
use Rattle.tau_forms.proofs.values.put_integer.Goals as goal

pub returns-clause-bytes : goal.returns-clause-bytes
returns-clause-bytes c = on_ok c.extend_from_slice.result (signed_word_bytes c.args.integer (in_i64-signed c.args.integer c.ranges.integer.sfits))
