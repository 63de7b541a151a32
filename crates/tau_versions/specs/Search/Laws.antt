-- Laws of what a search tells, each the contract of a function of the crate.
use Rattle.std.specs.Prelude.{◌≡◌, ◌≢◌, ℕ, ◌<◌, ◌↔◌, ◌⊎◌, Bool, List, [], ◌∷◌, ◌++◌, Some, slice_get, get_or, Contains}
use Rattle.tau_history.specs.declared.fate.Fate.{Fate}
use Rattle.tau_points.specs.declared.point.Point.{Point}
use Rattle.tau_trace.specs.Run.{Run}
use Rattle.tau_trace.specs.Points.{point_at}
use Rattle.tau_trace.specs.Numbering.{born, sent}
use Rattle.tau_past.specs.Heard.{Heard, HeardBy, HeardTogether}
use Rattle.tau_past.specs.Decisions.{FallsBy, DropsBy, Free}
use Rattle.tau_versions.specs.Logs.Told.{Told}
use Rattle.tau_versions.specs.Logs.Takes.{TellsSent}
use Rattle.tau_versions.specs.Search.Logs.{TellsBound, TellBounds, IsTold}
use Rattle.tau_versions.specs.Search.Numbered.{with_version, later}
use Rattle.tau_versions.specs.Search.Searching.{is_fallen, is_not_firm, Finds}

-- where the version of `who` is the latest that H holds, and the list has such a number for each other transactor, both tell the
-- bounds of H
abbrev pub ListedNumbersTell : (ℕ → Type 0) → Type 0
ListedNumbersTell H = (T : Run) (n who version : ℕ) (logs : List Told) (numbers : List ℕ) → ((log : Told) → slice_get logs who ≡ Some log → TellsBound T H n who log version)
    → ((u : ℕ) (log : Told) → u ≢ who → slice_get logs u ≡ Some log → TellsBound T H n u log (get_or numbers u 0)) → TellBounds T H n logs (with_version who version numbers)

-- what t and message m have heard together: of each transactor the later version
abbrev pub NumbersTogether : Type 0
NumbersTogether = (T : Run) (t n m : ℕ) (logs : List Told) (own theirs : ℕ → ℕ) → TellBounds T (Heard T t n) n logs own → TellBounds T (HeardBy T m) n logs theirs
    → TellBounds T (HeardTogether T t n m) n logs (later own theirs)

-- by what t and message m have heard, the search from t's point finds a fallen one exactly where m makes t fall
abbrev pub OwnSearchTellsFalls : Type 0
OwnSearchTellsFalls = (T : Run) (t n m : ℕ) (logs : List Told) (numbers : ℕ → ℕ) → t < born T n → m < sent T n → IsTold T (HeardTogether T t n m) n logs numbers
    → Finds is_fallen logs numbers (Contains (point_at T t n ∷ [])) ↔ FallsBy T t n m

-- by the same, the search from the roots of m finds a fallen one exactly where the past of what m carries has one
abbrev pub RootSearchTellsDrops : Type 0
RootSearchTellsDrops = (T : Run) (t n m : ℕ) (logs : List Told) (numbers : ℕ → ℕ) (roots : List Point) → t < born T n → m < sent T n
    → IsTold T (HeardTogether T t n m) n logs numbers → TellsSent T m n roots
    → Finds is_fallen logs numbers (Contains roots) ↔ DropsBy T t n m

-- by what t has heard, the search from its point finds none that isn't firm exactly where t is free
abbrev pub OwnSearchTellsFreedom : Type 0
OwnSearchTellsFreedom = (T : Run) (t n : ℕ) (logs : List Told) (numbers : ℕ → ℕ) → t < born T n → IsTold T (Heard T t n) n logs numbers
    → (¬ Finds is_not_firm logs numbers (Contains (point_at T t n ∷ []))) ↔ Free T t n

-- from two lists together the search finds what it finds from one of them
abbrev pub SearchesJoin : Type 0
SearchesJoin = (wanted : Fate → Bool) (logs : List Told) (numbers : ℕ → ℕ) (xs ys : List Point)
    → Finds wanted logs numbers (Contains (xs ++ ys)) ↔ (Finds wanted logs numbers (Contains xs) ⊎ Finds wanted logs numbers (Contains ys))
