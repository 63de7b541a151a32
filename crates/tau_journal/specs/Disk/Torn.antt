-- What a crash may leave of a disk in memory, by what was written since its bytes were last synced (docs/rules.md, "Disks").
use Rattle.std.specs.Prelude.{◌≡◌, ◌⊎◌, ◌↔◌, ℕ, ◌+◌, ◌<◌, ◌≤◌, max, List, [], ◌∷◌, ◌++◌, length, get_or, ⊤}
use Rattle.tau_journal.specs.Disk.Calls.{held, IsImage, AreWithin}
use Rattle.tau_journal.specs.declared.disk.memory_disk.Call.{Call}
use Rattle.tau_journal.specs.declared.disk.memory_disk.Call.TheVariants.{Looked, Wrote, Tore, Synced}

-- none of the calls is a sync that succeeded
abbrev pub HasNoSync : List Call → Type 0
HasNoSync [] = ⊤
HasNoSync (Looked ∷ cs) = HasNoSync cs
HasNoSync (Wrote at bytes ∷ cs) = HasNoSync cs
HasNoSync (Tore at bytes ∷ cs) = HasNoSync cs
HasNoSync (Synced ∷ cs) = ⊥

-- there are none, or the last of the calls is such a sync
abbrev pub EndsSynced : List Call → Type 0
EndsSynced cs = (cs ≡ []) ⊎ ((front : List Call) × (cs ≡ front ++ Synced ∷ []))

-- a number, or the furthest end of a write, whether it succeeded or failed, whichever is greater
abbrev pub furthest : ℕ → List Call → ℕ
furthest n [] = n
furthest n (Looked ∷ cs) = furthest n cs
furthest n (Wrote at bytes ∷ cs) = furthest (max n (at + length bytes)) cs
furthest n (Tore at bytes ∷ cs) = furthest (max n (at + length bytes)) cs
furthest n (Synced ∷ cs) = furthest n cs

-- the place lies in no range that was written
abbrev pub IsUnwritten : ℕ → List Call → Type 0
IsUnwritten i [] = ⊤
IsUnwritten i (Looked ∷ cs) = IsUnwritten i cs
IsUnwritten i (Wrote at bytes ∷ cs) = ((i < at) ⊎ (at + length bytes ≤ i)) × IsUnwritten i cs
IsUnwritten i (Tore at bytes ∷ cs) = ((i < at) ⊎ (at + length bytes ≤ i)) × IsUnwritten i cs
IsUnwritten i (Synced ∷ cs) = IsUnwritten i cs

-- of bytes that were synced and calls since: the bytes outside the ranges that were written stay, those in them, and past the end,
-- may be any; there are no fewer than were synced, and they end no later than these or the furthest write
pub record IsTorn (synced : List ℕ) (calls : List Call) (image : List ℕ) : Type 0 where
  pub no_shorter : length synced ≤ length image
  pub no_longer : length image ≤ furthest (length synced) calls
  pub outside : (i : ℕ) → i < length synced → IsUnwritten i calls → get_or image i 0 ≡ get_or synced i 0

-- the images of a disk in memory are those of its bytes at the last sync that succeeded, or at first where there was none, and of the
-- calls since
abbrev pub ImagesAreTorn : Type 0
ImagesAreTorn = (first : List ℕ) (before since : List Call) (image : List ℕ) → AreWithin first (before ++ since) → EndsSynced before → HasNoSync since
    → (IsImage first (before ++ since) image ↔ IsTorn (held first before) since image)
