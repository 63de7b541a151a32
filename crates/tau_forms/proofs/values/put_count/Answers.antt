use Rattle.tau_value.proofs.NumberLemmas.{digits_are_word_bytes, decimal_digits}
use Rattle.std.specs.Fmt.{decimal}
use Rattle.std.proofs.Common.{arith}
use Rattle.tau_forms.proofs.ValueTexts.{on_ok}
use Rattle.tau_forms.proofs.values.put_count.Goals as goal

pub returns-clause-bytes : goal.returns-clause-bytes
returns-clause-bytes c = on_ok c.extend_from_slice.result (digits_are_word_bytes (decimal c.args.count) (decimal_digits c.args.count (omega arith)))
