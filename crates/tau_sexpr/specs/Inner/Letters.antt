-- The bytes that the letters of a word stand for.
use Rattle.std.specs.Prelude.{ℕ, List}
use Rattle.tau_sexpr.specs.declared.letters.Letters.{Letters}
use Rattle.tau_sexpr.specs.declared.letters.Letters.TheVariants.{Short, Long}

-- contracts see short letters as a list
abbrev pub bytes_of : Letters → List ℕ
bytes_of (Short bytes) = bytes
bytes_of (Long bytes) = bytes.value.items
