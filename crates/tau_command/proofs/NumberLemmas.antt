-- The number that a text writes, as `parse` reads it.
use Rattle.std.proofs.Common.{◌≡◌, ◌&&◌, ◌<◌, ℕ, Bool, true, false, cond, [], ◌∷◌, Option, Some, None, refl, ap}
use Rattle.std.specs.Prelude.{nat_lt, option_and_then, Result, Ok, Err}
use Rattle.std.specs.List.{list_all}
use Rattle.std.specs.Char.{digit_value}
use Rattle.std.specs.Str.Parse.{AllDigits, IsNumeral, ParsesUnsigned, digits_value}
use Rattle.std.proofs.lemmas.Bool.{lt-ltb, ltb-true}
use Rattle.clap.specs.ValueTests.{is_numeral}
use Rattle.clap.specs.Words.{ReadsOne, Text}
use Rattle.clap.proofs.WalkLemmas.{both}
use Rattle.tau_command.specs.Numbers.{number_in}

-- a text whose bytes pass as digits has digits alone
digits_from : (ds : Text) → list_all (λ d. nat_lt (digit_value d) 10) ds ≡ true → AllDigits 10 ds
digits_from [] e = tt
digits_from (d ∷ ds) e =
    let parts = both _ _ e in
    (ltb-true _ _ parts.0, digits_from ds parts.1)

-- and the bytes of a text of digits pass
digits_back : (ds : Text) → AllDigits 10 ds → list_all (λ d. nat_lt (digit_value d) 10) ds ≡ true
digits_back [] h = refl
digits_back (d ∷ ds) h = rw (lt-ltb (digit_value d) 10 h.0) (digits_back ds h.1)

-- the test of a number in so many bits, where the digits are a numeral below the limit
pub passes : (most : ℕ) (ds : Text) → IsNumeral 10 ds → digits_value 10 ds < most → (is_numeral ds && nat_lt (digits_value 10 ds) most) ≡ true
passes most ds numeral fits = rw (lt-ltb _ _ numeral.0, digits_back ds numeral.1, lt-ltb _ _ fits) refl

-- and what the test says
pub passed : (most : ℕ) (ds : Text) → (is_numeral ds && nat_lt (digits_value 10 ds) most) ≡ true → IsNumeral 10 ds × (digits_value 10 ds < most)
passed most ds e =
    let parts = both _ _ e in
    let numeral = both _ _ parts.0 in
    ((ltb-true _ _ numeral.0, digits_from ds numeral.1), ltb-true _ _ parts.1)

-- a test that can't hold
not_passed : (b : Bool) (n : ℕ) → (b ≡ true → ⊥) → None ≡ cond b (Some n) None
not_passed true n = λ never. absurd (never refl)
not_passed false n = λ never. refl

-- what `parse` makes of a text is the number that it writes
pub number_read : (E : Type 0) (G : Text → Result ℕ E → Type 0) (bits : ℕ) (text : Text) (r : Option ℕ)
    → ((x : Result ℕ E) → G text x → ParsesUnsigned bits 10 text x) → ReadsOne G text r → r ≡ number_in bits text
number_read E G bits text (Some v) parses read =
    let parsed = parses (Ok v) read in
    rw (passes _ _ parsed.0.0 parsed.0.1) (ap Some parsed.1)
number_read E G bits text None parses read =
    not_passed _ _ (λ e. parses (Err read.0) read.1 (passed _ _ e))

-- and so where the text itself may be missing
pub number_got : (E : Type 0) (G : Text → Result ℕ E → Type 0) (bits : ℕ) (o : Option Text) (r : Option ℕ)
    → ((t : Text) (x : Result ℕ E) → G t x → ParsesUnsigned bits 10 t x) → (o ≡ None → r ≡ None)
    → ((t : Text) → o ≡ Some t → ReadsOne G t r) → r ≡ option_and_then (number_in bits) o
number_got E G bits None r parses none some = none refl
number_got E G bits (Some t) r parses none some = number_read E G bits t r (parses t) (some t refl)
