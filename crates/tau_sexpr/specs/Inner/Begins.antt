-- What is left of a text where memory ended while forms were printed behind it.
use Rattle.std.specs.Prelude.{◌≡◌, List, ℕ, length, take}

-- the new text begins with the old one
unfoldable pub Begins : List ℕ → List ℕ → Type 0
Begins old new = take (length old) new ≡ old
