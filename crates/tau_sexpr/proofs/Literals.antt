-- What shows that the bytes of a literal are those of a word or a text: the test computes.
use Rattle.std.proofs.Common.{◌≡◌, ℕ, true, List}
use Rattle.std.specs.List.{All, list_all}
use Rattle.std.proofs.lemmas.List.Sums.{AllPass-from_list_all}
use Rattle.tau_sexpr.specs.Bytes.{is_word_byte, is_text_byte, IsWordByte, IsTextByte}

pub word_literal : (bytes : List ℕ) → list_all is_word_byte bytes ≡ true → All IsWordByte bytes
word_literal bytes e = AllPass-from_list_all is_word_byte bytes e

pub text_literal : (bytes : List ℕ) → list_all is_text_byte bytes ≡ true → All IsTextByte bytes
text_literal bytes e = AllPass-from_list_all is_text_byte bytes e
