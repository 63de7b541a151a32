-- Numbers of versions, read from lists.
use Rattle.std.specs.Prelude.{ℕ, List, max, get_or, if◌then◌else◌, ◌==◌}

-- the version of `who`, and for each other transactor the number in a list, 0 where none stands
abbrev pub with_version : ℕ → ℕ → List ℕ → ℕ → ℕ
with_version who version numbers u = if u == who then version else get_or numbers u 0

-- of each transactor the later version
abbrev pub later : (ℕ → ℕ) → (ℕ → ℕ) → ℕ → ℕ
later f g u = max (f u) (g u)
