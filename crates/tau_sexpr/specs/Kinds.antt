-- What a byte is: outside of texts in quotes and comments, in quotes, and after a backslash.
use Rattle.std.specs.Prelude.{ℕ, Bool, not, ◌==◌, ◌&&◌, nat_le, if◌then◌else◌, Option, Some, None}
use Rattle.tau_sexpr.specs.Bytes.{is_blank, is_word_byte}
use Rattle.tau_sexpr.specs.declared.bytes.ByteKind.{ByteKind}
use Rattle.tau_sexpr.specs.declared.bytes.ByteKind.TheVariants.{Blank, Semicolon, Opening, Closing, Quote, OfWord, Other}

-- outside of quotes and comments
unfoldable pub kind_of : ℕ → ByteKind
kind_of b =
    if is_blank b then Blank
    else if b == 59 then Semicolon
    else if b == 40 then Opening
    else if b == 41 then Closing
    else if b == 34 then Quote
    else if is_word_byte b then OfWord
    else Other

-- in quotes, 0x20 to 0x7E other than the quote and the backslash stand for themselves
unfoldable pub is_plain : ℕ → Bool
is_plain b = nat_le 32 b && nat_le b 126 && not (b == 34) && not (b == 92)

-- what a backslash and this byte mean: a quote, a backslash or a line feed
unfoldable pub meaning : ℕ → Option ℕ
meaning b = if b == 34 then Some 34 else if b == 92 then Some 92 else if b == 110 then Some 10 else None
