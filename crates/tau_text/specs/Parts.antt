-- The parts of the forms of an input: the program's, the mark `(trace)`, and the steps' up to the mark `(report)`
-- (docs/formats.md, "Run text").
use Rattle.std.specs.Prelude.{ℕ, Bool, false, List, [], ◌∷◌, codes, if◌then◌else◌}
use Rattle.std.specs.List.{list_any}
use Rattle.std.specs.Str.{bytes_eq}
use Rattle.tau_sexpr.specs.Tree.{Tree, word, list, none, more}

-- a form is a mark: the list of this one word
abbrev pub is_mark : List ℕ → Tree → Bool
is_mark w (list (more (word h) none)) = bytes_eq h w
is_mark w t = false

-- whether such a mark is among the forms
abbrev pub is_marked : List ℕ → List Tree → Bool
is_marked w ts = list_any (is_mark w) ts

-- the forms before the first such mark; all, where there is none
abbrev pub before : List ℕ → List Tree → List Tree
before w [] = []
before w (t ∷ ts) = if is_mark w t then [] else t ∷ before w ts

-- the forms behind it; none, where there is none
abbrev pub behind : List ℕ → List Tree → List Tree
behind w [] = []
behind w (t ∷ ts) = if is_mark w t then ts else behind w ts

abbrev pub has_trace : List Tree → Bool
has_trace ts = is_marked (codes "trace") ts

-- the program's forms: those before `(trace)`, or all
abbrev pub program_forms : List Tree → List Tree
program_forms ts = before (codes "trace") ts

-- the steps' forms: those behind `(trace)`, up to the first `(report)` there or the end
abbrev pub step_forms : List Tree → List Tree
step_forms ts = before (codes "report") (behind (codes "trace") ts)
