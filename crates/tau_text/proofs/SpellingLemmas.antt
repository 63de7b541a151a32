-- The text of some forms and of others behind them spells both.
use Rattle.std.proofs.Common.{◌≡◌, ℕ, ◌≤◌, ◌==◌, Bool, true, false, if◌then◌else◌, IsTrue, List, [], ◌∷◌, ◌++◌, Some, None, refl, subst, arith}
use Rattle.std.specs.List.{All}
use Rattle.std.proofs.lemmas.List.Elements.{All-nil, All-cons, All-append}
use Rattle.std.proofs.lemmas.Bool.Decides.{nat_tests}
use Rattle.tau_sexpr.specs.Bytes.{is_text_byte, IsTextByte}
use Rattle.tau_sexpr.specs.Kinds.{is_plain, meaning}
use Rattle.tau_sexpr.specs.Tree.{Tree, Trees, inside, depth_of_all, depth_of_all-inside, depths-append, HasWords, AllHaveWords}
use Rattle.tau_sexpr.specs.Printing.{printed, HasBytes, AllHaveBytes}
use Rattle.tau_sexpr.specs.Spelling.{Quotes, closing, plain, pair, Spells, at_end, at_closing, a_blank, a_comment, a_word, a_text, a_list, IsSpelling}
use Rattle.tau_sexpr.proofs.PrintLemmas.{spells_printed}

-- the bytes that a text in quotes means
plain_text : (b : ℕ) → IsTrue (is_plain b) → IsTextByte b
unfolding is_text_byte is_plain
plain_text b h = grind (arith, nat_tests)

pair_text : (b c : ℕ) → meaning b ≡ Some c → IsTextByte c
unfolding is_text_byte meaning
pair_text b c = by (b == 34) (b == 92) (b == 110)
  where
    by : (x y z : Bool) → (if x then Some 34 else if y then Some 92 else if z then Some 10 else None) ≡ Some c → IsTextByte c
    by true y z e = let same : 34 ≡ c = cc in subst IsTextByte same refl
    by false true z e = let same : 92 ≡ c = cc in subst IsTextByte same refl
    by false false true e = let same : 10 ≡ c = cc in subst IsTextByte same refl
    by false false false e = absurd (cc)

quoted_text : {bs t rest : List ℕ} → Quotes bs t rest → All IsTextByte t
quoted_text closing = All-nil IsTextByte
quoted_text (plain {b = b} {t = t} is quotes) = All-cons IsTextByte b t (plain_text b is) (quoted_text quotes)
quoted_text (pair {b = b} {c = c} {t = t} is quotes) = All-cons IsTextByte c t (pair_text b c is) (quoted_text quotes)

-- what is spelled can be printed
abbrev pub IsPrintable : ℕ → Trees → Type 0
IsPrintable d ts = (depth_of_all ts ≤ d) × AllHaveWords ts × AllHaveBytes ts

pub printable : {d : ℕ} {bs rest : List ℕ} {ts : Trees} → Spells d bs ts rest → IsPrintable d ts
printable at_end = (omega arith, tt, tt)
printable at_closing = (omega arith, tt, tt)
printable (a_blank is spelled) = printable spelled
printable (a_comment line bs all ends spelled) = printable spelled
printable (a_word w bs all ends spelled) = let h = printable spelled in (omega (arith, h.0), (λ e. cc, h.1), (all, h.2))
printable (a_text quotes spelled) = let h = printable spelled in (omega (arith, h.0), (tt, h.1), (quoted_text quotes, h.2))
printable (a_list inner spelled) =
    let g = printable inner in
    let h = printable spelled in
    (omega (arith, g.0, h.0), (g.1, h.1), (g.2, h.2))

words_of : (ts : List Tree) → AllHaveWords (inside ts) → All HasWords ts
words_of [] h = All-nil HasWords
words_of (t ∷ ts) h = All-cons HasWords t ts h.0 (words_of ts h.1)

bytes_of : (ts : List Tree) → AllHaveBytes (inside ts) → All HasBytes ts
bytes_of [] h = All-nil HasBytes
bytes_of (t ∷ ts) h = All-cons HasBytes t ts h.0 (bytes_of ts h.1)

-- forms that are spelled, and others behind them
pub both_spelled : (xs ys : List Tree) → IsSpelling (printed xs) xs → IsSpelling (printed ys) ys → IsSpelling (printed (xs ++ ys)) (xs ++ ys)
both_spelled xs ys one two =
    let g = printable one in
    let h = printable two in
    spells_printed (xs ++ ys) (omega (arith, g.0, h.0, depth_of_all-inside xs, depth_of_all-inside ys, depths-append xs ys))
    (All-append HasWords xs ys (words_of xs g.1) (words_of ys h.1)) (All-append HasBytes xs ys (bytes_of xs g.2) (bytes_of ys h.2))
