-- Laws of versions and logs, each the contract of a function of the crate.
use Rattle.std.specs.Prelude.{◌≡◌, ℕ, suc, ◌<◌, max, List, [], ◌∷◌, ◌++◌}
use Rattle.tau_trace.specs.Run.{Run, Agree}
use Rattle.tau_trace.specs.Histories.{history}
use Rattle.tau_versions.specs.declared.logs.version.Version.{Version}
use Rattle.tau_versions.specs.Logs.Versions.{IsLatest}
use Rattle.tau_versions.specs.Logs.Told.{Told, TellsHistories}

-- at a place at most one version is the latest
abbrev pub LatestIsUnique : Type 0
LatestIsUnique = (vs : List Version) (a i j : ℕ) (v w : Version) → IsLatest vs a i v → IsLatest vs a j w → (i ≡ j) × (v ≡ w)

-- the latest version at the greater of two places has the greater of both numbers
abbrev pub LatestOfTheGreaterPlace : Type 0
LatestOfTheGreaterPlace = (vs : List Version) (a b i j k : ℕ) (v w x : Version) → IsLatest vs a i v → IsLatest vs b j w → IsLatest vs (max a b) k x → k ≡ max i j

-- a version that begins later leaves the latest one at a place what it was
abbrev pub LatestStaysLatest : Type 0
LatestStaysLatest = (vs : List Version) (a i : ℕ) (v w : Version) → a < w.from → IsLatest vs a i v → IsLatest (vs ++ w ∷ []) a i v

-- where the history of u doesn't move at place n, its log stays right
abbrev pub LogsStay : Type 0
LogsStay = (T : Run) (u n : ℕ) (log : Told) → history T u (suc n) ≡ history T u n → TellsHistories T u n log → TellsHistories T u (suc n) log

-- a log that is right up to a place is so for each run that agrees with this one below it
abbrev pub LogsAreLocal : Type 0
LogsAreLocal = (T U : Run) (u n : ℕ) (log : Told) → Agree T U n → TellsHistories T u n log → TellsHistories U u n log
