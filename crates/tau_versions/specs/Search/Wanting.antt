-- What a search looks for.
use Rattle.std.specs.Prelude.{Bool}
use Rattle.tau_history.specs.declared.fate.Fate.{Fate}
use Rattle.tau_versions.specs.declared.search.seen.Wanted.{Wanted}
use Rattle.tau_versions.specs.declared.search.seen.Wanted.TheVariants.{AnyFallen, AnyNotFirm}
use Rattle.tau_versions.specs.Search.Searching.{is_fallen, is_not_firm}

-- the test of the fates that are looked for
abbrev pub test_of : Wanted → Fate → Bool
test_of AnyFallen = is_fallen
test_of AnyNotFirm = is_not_firm
