-- The classes of bytes that texts are made of.
use Rattle.std.specs.Prelude.{ℕ, Bool, ◌==◌, ◌||◌, ◌&&◌, nat_le, IsTrue}

-- a space, a tab, a line feed or a carriage return
unfoldable pub is_blank : ℕ → Bool
is_blank b = (b == 32) || (b == 9) || (b == 10) || (b == 13)

-- a letter of ASCII or a digit
unfoldable pub is_letter_or_digit : ℕ → Bool
is_letter_or_digit b = (nat_le 97 b && nat_le b 122) || (nat_le 65 b && nat_le b 90) || (nat_le 48 b && nat_le b 57)

-- one of - _ + * / % < > = ? ! .
unfoldable pub is_word_sign : ℕ → Bool
is_word_sign b = (b == 45) || (b == 95) || (b == 43) || (b == 42) || (b == 47) || (b == 37) || (b == 60) || (b == 62) || (b == 61) || (b == 63) || (b == 33) || (b == 46)

-- the bytes of a word: letters, digits and twelve signs
unfoldable pub is_word_byte : ℕ → Bool
is_word_byte b = is_letter_or_digit b || is_word_sign b

-- the bytes that a text means: 0x20 to 0x7E, and 0x0A
unfoldable pub is_text_byte : ℕ → Bool
is_text_byte b = (nat_le 32 b && nat_le b 126) || (b == 10)

abbrev pub IsWordByte : ℕ → Type 0
IsWordByte b = IsTrue (is_word_byte b)

abbrev pub IsTextByte : ℕ → Type 0
IsTextByte b = IsTrue (is_text_byte b)
