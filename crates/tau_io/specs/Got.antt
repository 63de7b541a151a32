-- What a read did to the bytes that its source has left, where the source tells them.
use Rattle.std.specs.Prelude.{◌≡◌, ℕ, ◌≤◌, List, [], length, take, Option, Some, None}
use Rattle.std.specs.Io.KnownBytes.{Keeps, Consumes, IsAtEnd}
use Rattle.tau_io.specs.Faults.{one_more}
use Rattle.tau_io.specs.declared.sources.Got.{Got}
use Rattle.tau_io.specs.declared.sources.Got.TheVariants.{Bytes, End, Failed}

-- a read gave at least one byte, and no more than there was room for
abbrev pub GotFits : Got → ℕ → Type 0
GotFits (Bytes n) room = (1 ≤ n) × (n ≤ room)
GotFits End room = Unit {0}
GotFits Failed room = Unit {0}

-- a read took the first n bytes left into the front of `into`, or left them; at the end none are left
abbrev pub GotTakes : Got → Option (List ℕ) → Option (List ℕ) → List ℕ → Type 0
GotTakes (Bytes n) before after into = Consumes before after (take n into)
GotTakes End before after into = Keeps before after × IsAtEnd after
GotTakes Failed before after into = Keeps before after

-- the bytes are all that was left, and nothing is left now
abbrev pub TakesAll : Option (List ℕ) → Option (List ℕ) → List ℕ → Type 0
TakesAll None after bytes = IsAtEnd after
TakesAll (Some all) None bytes = ⊥
TakesAll (Some all) (Some rest) bytes = (bytes ≡ all) × (rest ≡ [])

-- some bytes came: what was left before is these, then what is left now; P says how many
pub record Took (before after : Option (List ℕ)) (P : ℕ → Type 0) : Type 0 where
  pub came : List ℕ
  pub number : P (length came)
  pub taken : Consumes before after came

-- a read that gave bytes gave this many
abbrev pub GivesCount : Got → ℕ → Type 0
GivesCount (Bytes n) count = n ≡ count
GivesCount End count = Unit {0}
GivesCount Failed count = Unit {0}

-- the count of faults after a read: it is raised by one exactly where the read failed
abbrev pub faults_after_read : ℕ → Got → ℕ
faults_after_read faults (Bytes n) = faults
faults_after_read faults End = faults
faults_after_read faults Failed = one_more faults
