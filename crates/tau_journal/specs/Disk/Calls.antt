-- The calls that a disk in memory has had: what it then reads as, and what a crash may leave.
use Rattle.std.specs.Prelude.{◌≡◌, ℕ, ◌≤◌, List, [], ◌∷◌, length, take, ⊤}
use Rattle.tau_journal.specs.Disk.Bytes.{overwritten, Torn}
use Rattle.tau_journal.specs.declared.disk.memory_disk.Call.{Call}
use Rattle.tau_journal.specs.declared.disk.memory_disk.Call.TheVariants.{Looked, Wrote, Tore, Synced}

-- the bytes that a read gives after the calls, b being those at first
abbrev pub held : List ℕ → List Call → List ℕ
held b [] = b
held b (Looked ∷ cs) = held b cs
held b (Wrote at bytes ∷ cs) = held (overwritten b at bytes) cs
held b (Tore at bytes ∷ cs) = held b cs
held b (Synced ∷ cs) = held b cs

-- an image of before, with a write of n bytes of which a crash may leave any part
abbrev pub TornFrom : (List ℕ → Type 0) → ℕ → ℕ → List ℕ → Type 0
TornFrom I at n c = (d : List ℕ) × I d × Torn at n d c

-- the images after the calls, I being those at first: a write adds its torn ones, whether it succeeds or fails, and
-- after a sync the bytes are the one image
abbrev pub Left : (List ℕ → Type 0) → List ℕ → List Call → List ℕ → Type 0
Left I b [] c = I c
Left I b (Looked ∷ cs) c = Left I b cs c
Left I b (Wrote at bytes ∷ cs) c = Left (TornFrom I at (length bytes)) (overwritten b at bytes) cs c
Left I b (Tore at bytes ∷ cs) c = Left (TornFrom I at (length bytes)) b cs c
Left I b (Synced ∷ cs) c = Left (λ d. d ≡ b) b cs c

-- the images of a disk that had these bytes at first, all of them synced
abbrev pub IsImage : List ℕ → List Call → List ℕ → Type 0
IsImage b cs c = Left (λ d. d ≡ b) b cs c

-- the images of its moments after at least t calls
abbrev pub WasImage : List ℕ → List Call → ℕ → List ℕ → Type 0
WasImage b cs t c = (k : ℕ) × (t ≤ k) × (k ≤ length cs) × IsImage b (take k cs) c

-- each write began within the bytes or at their end
abbrev pub AreWithin : List ℕ → List Call → Type 0
AreWithin b [] = ⊤
AreWithin b (Looked ∷ cs) = AreWithin b cs
AreWithin b (Wrote at bytes ∷ cs) = (at ≤ length b) × AreWithin (overwritten b at bytes) cs
AreWithin b (Tore at bytes ∷ cs) = (at ≤ length b) × AreWithin b cs
AreWithin b (Synced ∷ cs) = AreWithin b cs
