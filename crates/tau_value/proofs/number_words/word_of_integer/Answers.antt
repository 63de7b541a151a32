use Rattle.std.proofs.Common.{◌≡◌, ◌∙◌, ap, Some, w64, to_z, of_z, arith}
use Rattle.std.specs.Fmt.{signed_decimal}
use Rattle.std.proofs.lemmas.Int.{ints, to_z-of_z}
use Rattle.std.proofs.lemmas.Result.{IfOk-weaker}
use Rattle.tau_value.specs.Numbers.{integer_in}
use Rattle.tau_value.proofs.NumberLemmas.{signed_word_bytes, in_i64-signed, integer_in-decimal}
use Rattle.tau_value.proofs.number_words.word_of_integer.Goals as goal

pub of-requires : goal.of-requires
of-requires c =
    let z = c.args.integer in
    let same : to_z w64 (of_z w64 z) ≡ z = grind (arith, ints, to_z-of_z) in
    let text : c.as_bytes.result.now ≡ signed_decimal z = c.as_bytes.ensures.value ∙ c.format.ensures.text ∙ ap signed_decimal same in
    rw text (signed_word_bytes z (in_i64-signed z c.ranges.integer.sfits))

pub returns-clause-read_back : goal.returns-clause-read_back
returns-clause-read_back c =
    let z = c.args.integer in
    let same : to_z w64 (of_z w64 z) ≡ z = grind (arith, ints, to_z-of_z) in
    let text : c.as_bytes.result.now ≡ signed_decimal z = c.as_bytes.ensures.value ∙ c.format.ensures.text ∙ ap signed_decimal same in
    IfOk-weaker c.of.result (λ w. w ≡ c.as_bytes.result.now) (λ w. integer_in w ≡ Some z) (λ w e. ap integer_in (e ∙ text) ∙ integer_in-decimal z (in_i64-signed z c.ranges.integer.sfits)) c.of.ensures

pub returns-clause-word : goal.returns-clause-word
returns-clause-word c =
    let z = c.args.integer in
    let same : to_z w64 (of_z w64 z) ≡ z = grind (arith, ints, to_z-of_z) in
    let text : c.as_bytes.result.now ≡ signed_decimal z = c.as_bytes.ensures.value ∙ c.format.ensures.text ∙ ap signed_decimal same in
    IfOk-weaker c.of.result (λ w. w ≡ c.as_bytes.result.now) (λ w. w ≡ signed_decimal c.args.integer) (λ w e. e ∙ text) c.of.ensures
