-- Laws of records.
use Rattle.std.specs.Prelude.{◌≡◌, ℕ, List}
use Rattle.tau_journal.specs.Records.{HasRecords}
use Rattle.tau_journal.specs.Found.{IsDamaged}

-- a file has one list of records at most
pub record RecordsAreUnique : Type 0 where
  pub law : (rs qs : List (List ℕ)) (gate by : ℕ) (file : List ℕ) → HasRecords rs gate file → HasRecords qs by file → rs ≡ qs

-- and not both records and damage
pub record RecordsAreWhole : Type 0 where
  pub law : (rs : List (List ℕ)) (gate at : ℕ) (file : List ℕ) → HasRecords rs gate file → IsDamaged at file → ⊥

-- and one damage at most
pub record DamageIsUnique : Type 0 where
  pub law : (at by : ℕ) (file : List ℕ) → IsDamaged at file → IsDamaged by file → at ≡ by
