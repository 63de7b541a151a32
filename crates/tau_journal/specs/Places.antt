-- Records by their places.
use Rattle.std.specs.Prelude.{ℕ, ◌+◌, List, take, drop}
use Rattle.tau_journal.specs.declared.records.Place.{Place}

-- the bytes at a place
abbrev pub record_at : List ℕ → Place → List ℕ
record_at bytes p = take p.length (drop p.start bytes)

-- where a place ends
abbrev pub end_of : Place → ℕ
end_of p = p.start + p.length
