-- Names, and the places of words among them.
use Rattle.std.specs.Prelude.{◌≢◌, ℕ, Bool, ◌==◌, ◌||◌, ◌&&◌, not, nat_le, IsTrue, List, [], ◌∷◌, length, slice_index, Option, position, All, AllPairs, codes}
use Rattle.std.specs.List.{list_all, list_any}
use Rattle.std.specs.Str.{bytes_eq}

-- a to z
abbrev pub is_small_letter : ℕ → Bool
is_small_letter b = nat_le 97 b && nat_le b 122

-- a to z, 0 to 9 or -
abbrev pub is_name_byte : ℕ → Bool
is_name_byte b = is_small_letter b || (nat_le 48 b && nat_le b 57) || (b == 45)

-- the words that are no names
abbrev pub reserved_words : List (List ℕ)
reserved_words = codes "unit" ∷ codes "true" ∷ codes "false" ∷ codes "msg" ∷ codes "self" ∷ []

abbrev pub is_reserved : List ℕ → Bool
is_reserved w = list_any (bytes_eq w) reserved_words

-- a name has 1 to 64 bytes, begins with a small letter, goes on with small letters, digits and -, and isn't reserved
abbrev pub is_name : List ℕ → Bool
is_name w = nat_le (length w) 64 && is_small_letter (slice_index w 0) && list_all is_name_byte w && not (is_reserved w)

abbrev pub IsName : List ℕ → Type 0
IsName w = IsTrue (is_name w)

-- distinct names, as those of the starts of a program
pub record AreNames (names : List (List ℕ)) : Type 0 where
  pub named : All IsName names
  pub distinct : AllPairs (λ v w. v ≢ w) names

-- the first place of a word among names
abbrev pub place_of : List (List ℕ) → List ℕ → Option ℕ
place_of names word = position (bytes_eq word) names
