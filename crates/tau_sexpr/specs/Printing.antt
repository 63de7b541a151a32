-- The text of forms: one form a line, with one space between the items of a list.
-- 10 is the line feed, 32 the space, 34 the quote, 92 the backslash, 110 the letter n, 40 and 41 the brackets.
use Rattle.std.specs.Prelude.{ℕ, ◌==◌, List, [], ◌∷◌, ◌++◌, if◌then◌else◌}
use Rattle.std.specs.List.{All, flat_map}
use Rattle.tau_sexpr.specs.Bytes.{IsWordByte, IsTextByte}
use Rattle.tau_sexpr.specs.Tree.{Tree, Trees, word, text, list, none, more}

-- a byte in quotes: `\"`, `\\` and `\n`, and each other byte as it is
unfoldable pub quoted_byte : ℕ → List ℕ
quoted_byte b = if b == 34 then 92 ∷ 34 ∷ [] else if b == 92 then 92 ∷ 92 ∷ [] else if b == 10 then 92 ∷ 110 ∷ [] else b ∷ []

abbrev mutual
  -- a form
  pub print_of : Tree → List ℕ
  print_of (word w) = w
  print_of (text t) = 34 ∷ (flat_map quoted_byte t ++ 34 ∷ [])
  print_of (list ts) = 40 ∷ (print_items ts ++ 41 ∷ [])

  -- the items of a list
  pub print_items : Trees → List ℕ
  print_items none = []
  print_items (more t ts) = print_of t ++ print_rest ts

  -- the items that follow another
  pub print_rest : Trees → List ℕ
  print_rest none = []
  print_rest (more t ts) = 32 ∷ (print_of t ++ print_rest ts)

-- the top forms, each followed by a line feed
abbrev pub printed : List Tree → List ℕ
printed [] = []
printed (t ∷ ts) = print_of t ++ 10 ∷ printed ts

-- a form of the program: words of word bytes, texts of text bytes
abbrev mutual
  pub HasBytes : Tree → Type 0
  HasBytes (word w) = All IsWordByte w
  HasBytes (text t) = All IsTextByte t
  HasBytes (list ts) = AllHaveBytes ts

  pub AllHaveBytes : Trees → Type 0
  AllHaveBytes none = Unit {0}
  AllHaveBytes (more t ts) = HasBytes t × AllHaveBytes ts
