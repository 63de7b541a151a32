-- The transactors of each node that have not ended, beside the records of all transactors.
use Rattle.std.specs.Prelude.{◌≡◌, ◌≢◌, ◌↔◌, ℕ, ◌<◌, ◌≤◌, ◌+◌, Bool, List, [], ◌∷◌, ◌++◌, Option, Some, None, Contains, slice_get, slice_index_or, slice_set, length}
use Rattle.tau_trace.specs.declared.transactor.Transactor.{Transactor}
use Rattle.tau_trace.specs.Ascending.{WithRoom}

-- the records of all transactors, the number of nodes, and whether one more transactor fits without memory
pub record Tracked : Type 0 where
  pub transactors : List Transactor
  pub nodes : ℕ
  pub ready : Bool

-- new is old with the list at place i replaced by one to which R relates it
pub record ChangesAt (i : ℕ) (R : WithRoom → WithRoom → Type 0) (old new : List WithRoom) : Type 0 where
  pub part : WithRoom
  pub is : new ≡ slice_set old i part
  pub related : (d : WithRoom) → R (slice_index_or old i d) part

-- the same numbers, and no less room
abbrev pub Keeps : WithRoom → WithRoom → Type 0
Keeps old new = (new.numbers ≡ old.numbers) × (old.room ≤ new.room)

-- one number more at the end
abbrev pub Gains : ℕ → WithRoom → WithRoom → Type 0
Gains who old new = new.numbers ≡ old.numbers ++ who ∷ []

-- all numbers but one, and no less room
abbrev pub Loses : ℕ → WithRoom → WithRoom → Type 0
Loses who old new = ((n : ℕ) → Contains new.numbers n ↔ (Contains old.numbers n × (n ≢ who))) × (old.room ≤ new.room)

-- the list of a node that is none
abbrev pub no_list : WithRoom
no_list = record { numbers = []; room = 0 }

-- transactor t is in the list of node n
abbrev pub Stands : List WithRoom → ℕ → ℕ → Type 0
Stands lists n t = Contains (slice_index_or lists n no_list).numbers t

-- by its record, transactor t stands at node n and has not ended
pub record Lives (ts : List Transactor) (n t : ℕ) : Type 0 where
  pub transactor : Transactor
  pub stands : slice_get ts t ≡ Some transactor
  pub home_is : transactor.home ≡ n
  pub end_is : transactor.end ≡ None

-- the lists hold the living transactors of each node, and all but one list have room for one more
pub record IsLivingIndex (ts : List Transactor) (lists : List WithRoom) (full : Option ℕ) : Type 0 where
  pub members : (n t : ℕ) → Stands lists n t ↔ Lives ts n t
  pub homes : (t : ℕ) (r : Transactor) → slice_get ts t ≡ Some r → r.home < length lists
  pub room : (n : ℕ) → n < length lists → full ≢ Some n → 1 ≤ (slice_index_or lists n no_list).room
  pub full_within : (n : ℕ) → full ≡ Some n → n < length lists

-- the least transactor that lives at node n and has at least the number `from`; None where there is none
abbrev pub IsLeastLiving : List Transactor → ℕ → ℕ → Option ℕ → Type 0
IsLeastLiving ts n from None = (t : ℕ) → Lives ts n t → t < from
IsLeastLiving ts n from (Some r) = (from ≤ r) × Lives ts n r × ((t : ℕ) → Lives ts n t → from ≤ t → r ≤ t)
