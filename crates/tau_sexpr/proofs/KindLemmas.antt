-- What the kind of a byte tells of it, and the kinds of the bytes that spellings name.
use Rattle.std.proofs.Common.{◌≡◌, ℕ, ◌==◌, Bool, true, false, if◌then◌else◌, IsTrue, refl, sym, subst, arith}
use Rattle.std.proofs.lemmas.Bool.{eqb-true}
use Rattle.std.proofs.lemmas.Bool.Decides.{nat_tests}
use borrow.Author.Tests.{ne_eqb}
use Rattle.tau_sexpr.specs.Bytes.{is_blank, is_letter_or_digit, is_word_sign, is_word_byte, is_text_byte, IsWordByte}
use Rattle.tau_sexpr.specs.Kinds.{kind_of, is_plain}
use Rattle.tau_sexpr.specs.declared.bytes.ByteKind.{ByteKind}
use Rattle.tau_sexpr.specs.declared.bytes.ByteKind.TheVariants.{Blank, Semicolon, Opening, Closing, Quote, OfWord, Other}

-- what a kind tells
abbrev pub IsKind : ℕ → ByteKind → Type 0
IsKind b Blank = IsTrue (is_blank b)
IsKind b Semicolon = b ≡ 59
IsKind b Opening = b ≡ 40
IsKind b Closing = b ≡ 41
IsKind b Quote = b ≡ 34
IsKind b OfWord = IsWordByte b
IsKind b Other = Unit {0}

-- by the two values of a test
by_if : (P : ByteKind → Type 0) (t : Bool) (x y : ByteKind) → (t ≡ true → P x) → P y → P (if t then x else y)
by_if P true x y f g = f refl
by_if P false x y f g = g

pub kind_tells : (b : ℕ) → IsKind b (kind_of b)
unfolding kind_of
kind_tells b =
    by_if (IsKind b) (is_blank b) _ _ (λ h. h)
    (by_if (IsKind b) (b == 59) _ _ (λ h. eqb-true b 59 h)
    (by_if (IsKind b) (b == 40) _ _ (λ h. eqb-true b 40 h)
    (by_if (IsKind b) (b == 41) _ _ (λ h. eqb-true b 41 h)
    (by_if (IsKind b) (b == 34) _ _ (λ h. eqb-true b 34 h)
    (by_if (IsKind b) (is_word_byte b) _ _ (λ h. h) tt)))))

pub kind_is : (b : ℕ) (k : ByteKind) → kind_of b ≡ k → IsKind b k
kind_is b k e = subst (IsKind b) e (kind_tells b)

pub kind_blank : (b : ℕ) → IsTrue (is_blank b) → kind_of b ≡ Blank
unfolding kind_of
kind_blank b h = rw h

not_blank : (b : ℕ) → IsWordByte b → is_blank b ≡ false
unfolding is_blank is_word_byte is_letter_or_digit is_word_sign
not_blank b h = grind (arith, nat_tests)

not_sign : (b c : ℕ) → IsWordByte b → is_word_byte c ≡ false → (b == c) ≡ false
not_sign b c h g = ne_eqb b c (λ e. cc)

pub kind_word : (b : ℕ) → IsWordByte b → kind_of b ≡ OfWord
unfolding kind_of is_word_byte is_letter_or_digit is_word_sign
kind_word b h = rw (not_blank b h, not_sign b 59 h refl, not_sign b 40 h refl, not_sign b 41 h refl, not_sign b 34 h refl, h)

pub kind_semicolon : kind_of 59 ≡ Semicolon
unfolding kind_of is_blank
kind_semicolon = refl

pub kind_opening : kind_of 40 ≡ Opening
unfolding kind_of is_blank
kind_opening = refl

pub kind_closing : kind_of 41 ≡ Closing
unfolding kind_of is_blank
kind_closing = refl

pub kind_quote : kind_of 34 ≡ Quote
unfolding kind_of is_blank
kind_quote = refl

pub kind_line_feed : kind_of 10 ≡ Blank
unfolding kind_of is_blank
kind_line_feed = refl

pub line_feed_blank : (b : ℕ) → b ≡ 10 → IsTrue (is_blank b)
line_feed_blank b e = subst (λ c. IsTrue (is_blank c)) (sym e) (kind_is 10 Blank kind_line_feed)

-- a byte that stands for itself in quotes is neither the quote nor the backslash, and a text may hold it
pub plain_tests : (b : ℕ) → IsTrue (is_plain b) → ((b == 34) ≡ false) × ((b == 92) ≡ false)
unfolding is_plain
plain_tests b h = grind (arith, nat_tests)

pub plain_text : (b : ℕ) → IsTrue (is_plain b) → IsTrue (is_text_byte b)
unfolding is_plain is_text_byte
plain_text b h = grind (arith, nat_tests)
