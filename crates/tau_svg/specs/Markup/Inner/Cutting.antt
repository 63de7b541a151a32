-- The bytes of a text, escaped one by one.
use Rattle.std.specs.Prelude.{ℕ, List, ◌++◌, take}
use Rattle.tau_svg.specs.Markup.Texts.{escaped}

-- what was there, and the first n bytes of a text escaped
abbrev pub with_escaped : List ℕ → ℕ → List ℕ → List ℕ
with_escaped out n text = out ++ escaped (take n text)
