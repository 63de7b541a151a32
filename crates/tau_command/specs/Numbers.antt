-- The numbers that arguments have.
use Rattle.std.specs.Prelude.{ℕ, ◌&&◌, ◌^◌, List, Option, Some, None, if◌then◌else◌, nat_lt, option_and_then}
use Rattle.std.specs.Str.Parse.{digits_value, without_leading_plus}
use Rattle.clap.specs.ValueTests.{is_numeral}
use Rattle.clap.specs.Words.{Row, Text, one_of}

-- the number of at most so many bits that a text writes
abbrev pub number_in : ℕ → Text → Option ℕ
number_in bits text =
    let digits = without_leading_plus text in
    if is_numeral digits && nat_lt (digits_value 10 digits) (2 ^ bits)
    then Some (digits_value 10 digits) else None

-- the number that an argument has, on the line or by its default
abbrev pub number_of : ℕ → Text → List Row → Option ℕ
number_of bits id rows = option_and_then (number_in bits) (one_of id rows)
