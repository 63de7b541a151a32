use Rattle.std.proofs.Common.{◌≡◌, ◌∙◌, ap, Some}
use Rattle.std.specs.Fmt.{decimal}
use Rattle.std.proofs.lemmas.Result.{IfOk-weaker}
use Rattle.tau_value.specs.Numbers.{count_in}
use Rattle.tau_value.proofs.NumberLemmas.{digits_are_word_bytes, decimal_digits, count_in-decimal}
use Rattle.tau_value.proofs.number_words.word_of_count.Goals as goal

pub of-requires : goal.of-requires
of-requires c =
    let text : c.as_bytes.result.now ≡ decimal c.args.count = c.as_bytes.ensures.value ∙ c.format.ensures.text in
    rw text (digits_are_word_bytes (decimal c.args.count) (decimal_digits c.args.count c.ranges.count.fits))

pub returns-clause-read_back : goal.returns-clause-read_back
returns-clause-read_back c =
    let text : c.as_bytes.result.now ≡ decimal c.args.count = c.as_bytes.ensures.value ∙ c.format.ensures.text in
    IfOk-weaker c.of.result (λ w. w ≡ c.as_bytes.result.now) (λ w. count_in w ≡ Some c.args.count) (λ w e. ap count_in (e ∙ text) ∙ count_in-decimal c.args.count c.ranges.count.fits) c.of.ensures

pub returns-clause-word : goal.returns-clause-word
returns-clause-word c =
    let text : c.as_bytes.result.now ≡ decimal c.args.count = c.as_bytes.ensures.value ∙ c.format.ensures.text in
    IfOk-weaker c.of.result (λ w. w ≡ c.as_bytes.result.now) (λ w. w ≡ decimal c.args.count) (λ w e. e ∙ text) c.of.ensures
