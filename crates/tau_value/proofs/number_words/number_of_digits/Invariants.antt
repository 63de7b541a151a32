use Rattle.std.proofs.Common.{◌≡◌, true, take}
use Rattle.std.specs.Str.{all_ascii_digits}
use Rattle.tau_value.specs.Numbers.{number_after, capped}
use Rattle.tau_value.proofs.number_words.number_of_digits.Given as goal

abbrev pub invariant-loop-byte : goal.invariant-loop-byte
invariant-loop-byte l = record {
  digits : all_ascii_digits (take l.byte-index l.bytes) ≡ true;
  number : l.number ≡ capped (number_after 0 (take l.byte-index l.bytes));
}
