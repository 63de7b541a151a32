-- What the index beside a list of names says.
use Rattle.std.specs.Prelude.{◌≡◌, ℕ, List, Option, Some, None, if◌then◌else◌}
use Rattle.std.specs.Str.{bytes_eq}
use Rattle.std.specs.Option.{option_or}
use Rattle.std.specs.Map.{lookup}
use Rattle.std.specs.declared.alloc.Global.{Global}
use Rattle.std.specs.declared.vec.Vec.{Vec}
use Rattle.tau_value.specs.Names.{place_of}

-- the place that the index has for a word
abbrev pub indexed : List (Vec ℕ Global × ℕ) → List ℕ → Option ℕ
indexed entries word = lookup (λ key. bytes_eq word key.items) entries

-- the index has the first place of each word
abbrev pub IsIndex : List (Vec ℕ Global × ℕ) → List (List ℕ) → Type 0
IsIndex entries names = (word : List ℕ) → indexed entries word ≡ place_of names word

-- a word keeps its place, and this one gets a place where it has none
abbrev pub noted : Option ℕ → List ℕ → ℕ → List ℕ → Option ℕ
noted before word place v = option_or before (if bytes_eq v word then Some place else None)
