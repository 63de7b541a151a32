-- Texts within markup (docs/formats.md, "Pictures").
-- 38 is `&`, 60 `<`, 62 `>`, 46 the full stop.
use Rattle.std.specs.Prelude.{ℕ, ◌-◌, ◌/◌, ◌==◌, List, [], ◌∷◌, ◌++◌, length, take, drop, nat_le, if◌then◌else◌, codes}
use Rattle.std.specs.List.{flat_map}

-- a byte of a text: `&`, `<` and `>` stand as entities, and each other byte as it is
unfoldable pub escaped_byte : ℕ → List ℕ
escaped_byte b = if b == 38 then codes "&amp;" else if b == 60 then codes "&lt;" else if b == 62 then codes "&gt;" else b ∷ []

-- the bytes of a text
abbrev pub escaped : List ℕ → List ℕ
escaped text = flat_map escaped_byte text

-- a text of at most so many bytes as it is, and of a longer one the first, but for two, and two full stops
abbrev pub cut : List ℕ → ℕ → List ℕ
cut text most = if nat_le (length text) most then text else take (most - 2) text ++ 46 ∷ 46 ∷ []

-- a text of at most so many bytes as it is, and of a longer one its begin and its end, with two full stops between them
abbrev pub cut_inside : List ℕ → ℕ → List ℕ
cut_inside text most =
    if nat_le (length text) most
    then text
    else take ((most - 2) / 2) text ++ 46 ∷ 46 ∷ drop (length text - (most - 1) / 2) text
