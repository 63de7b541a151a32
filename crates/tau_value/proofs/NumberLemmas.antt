-- Number words: their digits, and that a number is read from the word that is written of it.
use Rattle.std.proofs.Common.{◌≡◌, ℕ, zero, suc, ◌+◌, ◌-◌, ◌*◌, ◌^◌, ◌<◌, ◌≤◌, ℤ, pos, negsuc, Bool, true, false, cond, ◌||◌, nat_lt, List, [], ◌∷◌, ◌++◌, get_or, Some, None, option_map, option_and_then, All, refl, ap, ◌∙◌, arith, rules}
use lib.Signed.{mag}
use Rattle.std.specs.Char.{is_ascii_digit}
use Rattle.std.specs.Fmt.{decimal, signed_decimal}
use Rattle.std.specs.Str.{all_ascii_digits}
use Rattle.std.proofs.lemmas.Bool.{ne_eqb, ltb-true, lt-ltb}
use Rattle.std.proofs.lemmas.Fmt.{decimal_digit, digits_decimal, digits_value-decimal, first_decimal}
use Rattle.std.proofs.lemmas.List.Recursion.{and_at}
use Rattle.std.proofs.lemmas.Str.Parse.{IsNumeralModel, numerals_by_fold, tells_all_ascii_digits}
use Rattle.tau_sexpr.specs.Bytes.{is_word_byte, is_letter_or_digit, is_word_sign, IsWordByte}
use Rattle.tau_value.specs.Numbers.{number_after, count_in, negated, number_in, in_i64, integer_in}

own : IsNumeralModel (λ ds. all_ascii_digits ds ≡ true) (number_after 0)
own = numerals_by_fold _ tells_all_ascii_digits number_after (search rules)

pub number_after-push : (n : ℕ) (ds : List ℕ) (d : ℕ) → number_after n (ds ++ d ∷ []) ≡ 10 * number_after n ds + (d - 48)
number_after-push n [] d = refl
number_after-push n (c ∷ cs) d = number_after-push (10 * n + (c - 48)) cs d

or_right : (a b : Bool) → b ≡ true → (a || b) ≡ true
or_right true b h = refl
or_right false b h = h

or_left : (a b : Bool) → a ≡ true → (a || b) ≡ true
or_left true b h = refl
or_left false b h = cc

digit_is_word_byte : (d : ℕ) → is_ascii_digit d ≡ true → IsWordByte d
unfolding is_word_byte is_letter_or_digit
digit_is_word_byte d h = or_left _ (is_word_sign d) (or_right _ (is_ascii_digit d) h)

minus_is_word_byte : IsWordByte 45
unfolding is_word_byte is_letter_or_digit is_word_sign
minus_is_word_byte = refl

pub digits_are_word_bytes : (ds : List ℕ) → all_ascii_digits ds ≡ true → All IsWordByte ds
digits_are_word_bytes ds h = λ k d lt. digit_is_word_byte (get_or ds k d) (and_at all_ascii_digits is_ascii_digit refl (λ _ _. refl) ds k d lt h)

pub decimal_digits : (n : ℕ) → n < 2 ^ 64 → all_ascii_digits (decimal n) ≡ true
decimal_digits n small = digits_decimal own n small

-- digits that don't begin with 0 are a count
count_in-digits : (ds : List ℕ) → all_ascii_digits ds ≡ true → 48 < get_or ds 0 0 → count_in ds ≡ Some (number_after 0 ds)
count_in-digits [] h first = absurd (omega arith)
count_in-digits (c ∷ cs) h first =
    rw (ne_eqb c 48 (λ e. omega (arith, first)), h) refl

pub count_in-decimal : (n : ℕ) → n < 2 ^ 64 → count_in (decimal n) ≡ Some n
count_in-decimal zero small = rw (decimal_digit 0 (omega arith)) refl
count_in-decimal (suc n) small =
    count_in-digits (decimal (suc n)) (decimal_digits (suc n) small) (first_decimal (suc n) (omega arith) small) ∙ ap Some (digits_value-decimal own (suc n) small)

number_in-digits : (ds : List ℕ) → all_ascii_digits ds ≡ true → number_in ds ≡ option_map pos (count_in ds)
number_in-digits [] h = refl
number_in-digits (c ∷ cs) h =
    let digit : (48 ≤ c) × (c ≤ 57) = (tells_all_ascii_digits.parts c cs h).0 in
    rw (ne_eqb c 45 (λ e. omega arith)) refl

pub pos_fits : (n : ℕ) → in_i64 (pos n) ≡ Some (pos n) → n < 2 ^ 64
pos_fits n h = by (nat_lt n (2 ^ 63)) refl h
  where
    by : (b : Bool) → nat_lt n (2 ^ 63) ≡ b → cond b (Some (pos n)) None ≡ Some (pos n) → n < 2 ^ 64
    by true e h = omega (arith, ltb-true n (2 ^ 63) e)
    by false e h = cc

pub negsuc_fits : (n : ℕ) → in_i64 (negsuc n) ≡ Some (negsuc n) → suc n < 2 ^ 64
negsuc_fits n h = by (nat_lt n (2 ^ 63)) refl h
  where
    by : (b : Bool) → nat_lt n (2 ^ 63) ≡ b → cond b (Some (negsuc n)) None ≡ Some (negsuc n) → suc n < 2 ^ 64
    by true e h = omega (arith, ltb-true n (2 ^ 63) e)
    by false e h = cc

pub integer_in-decimal : (z : ℤ) → in_i64 z ≡ Some z → integer_in (signed_decimal z) ≡ Some z
integer_in-decimal (pos n) fits =
    let small = pos_fits n fits in
    let read : number_in (decimal n) ≡ Some (pos n) = number_in-digits (decimal n) (decimal_digits n small) ∙ ap (option_map pos) (count_in-decimal n small) in
    ap (option_and_then in_i64) read ∙ fits
integer_in-decimal (negsuc n) fits =
    ap (λ o. option_and_then in_i64 (option_and_then negated o)) (count_in-decimal (suc n) (negsuc_fits n fits)) ∙ fits

-- each i64 is in range
pub in_i64-signed : (z : ℤ) → mag z < 2 ^ 63 → in_i64 z ≡ Some z
in_i64-signed (pos n) h = let e : nat_lt n (2 ^ 63) ≡ true = lt-ltb n (2 ^ 63) h in rw e refl
in_i64-signed (negsuc n) h = let e : nat_lt n (2 ^ 63) ≡ true = lt-ltb n (2 ^ 63) h in rw e refl

minus_word_bytes : (ds : List ℕ) → all_ascii_digits ds ≡ true → All IsWordByte (45 ∷ ds)
minus_word_bytes ds h zero d lt = minus_is_word_byte
minus_word_bytes ds h (suc k) d lt = digits_are_word_bytes ds h k d (omega arith)

-- the word that is written of an integer is made of the bytes of words
pub signed_word_bytes : (z : ℤ) → in_i64 z ≡ Some z → All IsWordByte (signed_decimal z)
signed_word_bytes (pos n) fits = digits_are_word_bytes (decimal n) (decimal_digits n (pos_fits n fits))
signed_word_bytes (negsuc n) fits = minus_word_bytes (decimal (suc n)) (decimal_digits (suc n) (negsuc_fits n fits))
