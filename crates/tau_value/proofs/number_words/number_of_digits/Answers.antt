use Rattle.std.proofs.Common.{◌≡◌, ◌<◌, false, get_or, length, refl, arith, take}
use Rattle.std.specs.Char.{is_ascii_digit}
use Rattle.std.specs.Str.{all_ascii_digits}
use Rattle.std.proofs.lemmas.List.{take_more}
use Rattle.std.proofs.lemmas.List.Recursion.{and_push, and_fails_at}
use Rattle.tau_value.proofs.NumberLemmas.{number_after-push}
use Rattle.tau_value.proofs.number_words.number_of_digits.Goals as goal

pub returns-then-not-is_ascii_digit : goal.returns-then-not-is_ascii_digit
returns-then-not-is_ascii_digit c =
    let bytes = c.args.bytes.now in
    let k = c.loop-byte.byte-index in
    let lt : k < length bytes = omega arith in
    let no : is_ascii_digit (get_or bytes k 0) ≡ false = cc in
    rw (and_fails_at all_ascii_digits is_ascii_digit refl (λ _ _. refl) bytes k 0 lt no) refl

pub loop-byte-preserved : goal.loop-byte-preserved
loop-byte-preserved c =
    let bytes = c.args.bytes.now in
    let k = c.loop-byte.byte-index in
    let lt : k < length bytes = omega arith in
    let more = take_more bytes k 0 lt in
    record {
      digits = rw (more, and_push all_ascii_digits is_ascii_digit refl (λ _ _. refl) (take k bytes) (get_or bytes k 0), c.loop-byte.invariant.digits) cc;
      number = rw (more, number_after-push 0 (take k bytes) (get_or bytes k 0)) (omega arith);
    }
