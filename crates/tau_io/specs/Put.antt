-- What a write did to the bytes that its sink holds, where the sink tells them.
use Rattle.std.specs.Prelude.{◌≡◌, ℕ, ◌≤◌, ◌<◌, List, length, take, Option}
use Rattle.std.specs.Io.KnownBytes.{Keeps, Appends}
use Rattle.tau_io.specs.Faults.{one_more}
use Rattle.tau_io.specs.declared.sinks.Put.{Put}
use Rattle.tau_io.specs.declared.sinks.Put.TheVariants.{Bytes, Failed, NoMemory}

-- a write took at least one byte, and no more than it was offered
abbrev pub PutFits : Put → ℕ → Type 0
PutFits (Bytes n) offered = (1 ≤ n) × (n ≤ offered)
PutFits Failed offered = Unit {0}
PutFits NoMemory offered = Unit {0}

-- a write appended the first n bytes that it was offered, or nothing
abbrev pub PutAppends : Put → Option (List ℕ) → Option (List ℕ) → List ℕ → Type 0
PutAppends (Bytes n) before after from = Appends before after (take n from)
PutAppends Failed before after from = Keeps before after
PutAppends NoMemory before after from = Keeps before after

-- what is held grew by a front of the bytes that is shorter than they are
pub record AppendsFront (before after : Option (List ℕ)) (bytes : List ℕ) : Type 0 where
  pub count : ℕ
  pub is_front : count < length bytes
  pub appended : Appends before after (take count bytes)

-- a write that took bytes took this many
abbrev pub TakesCount : Put → ℕ → Type 0
TakesCount (Bytes n) count = n ≡ count
TakesCount Failed count = Unit {0}
TakesCount NoMemory count = Unit {0}

-- the count of faults after a write: it is raised by one exactly where the write failed
abbrev pub faults_after_write : ℕ → Put → ℕ
faults_after_write faults (Bytes n) = faults
faults_after_write faults Failed = one_more faults
faults_after_write faults NoMemory = faults
