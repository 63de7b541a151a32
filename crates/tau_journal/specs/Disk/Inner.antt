-- What contracts of inner functions say, and the three laws that the trait of disks wants of a disk in memory.
use Rattle.std.proofs.Common.{◌≡◌, ℕ, ◌+◌, ◌≤◌, List, [], ◌∷◌, ◌++◌, length, take, drop, refl, sym, ap, ◌∙◌, subst, arith, append_assoc, length-append, length-take, length-drop}
use Rattle.std.specs.Prelude.{Option, Some, None, Bool, true, false, ⊤}
use Rattle.std.specs.Coded.{×_prop, Unit-prop, le_prop}
use Rattle.std.proofs.lemmas.List.{take_all, take_at, drop_at}
use Rattle.tau_journal.specs.Disk.Bytes.{overwritten, Torn}
use Rattle.tau_journal.specs.Disk.Calls.{held, TornFrom, Left, IsImage, WasImage, AreWithin}
use Rattle.tau_journal.specs.declared.disk.memory_disk.Call.{Call}
use Rattle.tau_journal.specs.declared.disk.memory_disk.Call.TheVariants.{Looked, Wrote, Tore, Synced}

-- the bytes that are there now, or those at first
abbrev pub present_or : Option (List ℕ) → List ℕ → List ℕ
present_or None b = b
present_or (Some now) b = now

-- the call leaves the bytes as they are
abbrev pub is_quiet : Call → Bool
is_quiet Looked = true
is_quiet (Wrote at bytes) = false
is_quiet (Tore at bytes) = true
is_quiet Synced = true

-- a write begins within the bytes or at their end
abbrev pub IsWithin : Call → List ℕ → Type 0
IsWithin Looked b = ⊤
IsWithin (Wrote at bytes) b = at ≤ length b
IsWithin (Tore at bytes) b = at ≤ length b
IsWithin Synced b = ⊤

pub AreWithin-prop : (b : List ℕ) (cs : List Call) → IsProp (AreWithin b cs)
AreWithin-prop b [] = Unit-prop
AreWithin-prop b (Looked ∷ cs) = AreWithin-prop b cs
AreWithin-prop b (Wrote at bytes ∷ cs) = ×_prop le_prop (AreWithin-prop (overwritten b at bytes) cs)
AreWithin-prop b (Tore at bytes ∷ cs) = ×_prop le_prop (AreWithin-prop b cs)
AreWithin-prop b (Synced ∷ cs) = AreWithin-prop b cs

-- a write that succeeds tears nothing but its range
pub torn_overwritten : (b : List ℕ) (at : ℕ) (bytes : List ℕ) → at ≤ length b → Torn at (length bytes) b (overwritten b at bytes)
torn_overwritten b at bytes within =
    let rest = drop (at + length bytes) b in
    let long : length (take at b) ≡ at = omega (arith, length-take at b) in
    let both : length (take at b ++ bytes) ≡ at + length bytes = omega (arith, length-append (take at b) bytes, long) in
    let whole : length (take at b ++ bytes ++ rest) ≡ at + length bytes + length rest = omega (arith, length-append (take at b ++ bytes) rest, both) in
    record {
      before = ap (take at) (append_assoc (take at b) bytes rest) ∙ take_at (take at b) (bytes ++ rest) at long;
      after = drop_at (take at b ++ bytes) rest (at + length bytes) both;
      no_shorter = omega (arith, whole, length-drop (at + length bytes) b);
      no_longer = omega (arith, whole, length-drop (at + length bytes) b);
    }

-- a write may leave nothing
pub torn_same : (at n : ℕ) (b : List ℕ) → Torn at n b b
torn_same at n b = record { before = refl; after = refl; no_shorter = omega arith; no_longer = omega arith }

left_held : (I : List ℕ → Type 0) (b : List ℕ) (cs : List Call) → AreWithin b cs → I b → Left I b cs (held b cs)
left_held I b [] within i = i
left_held I b (Looked ∷ cs) within i = left_held I b cs within i
left_held I b (Wrote at bytes ∷ cs) within i =
    left_held (TornFrom I at (length bytes)) (overwritten b at bytes) cs within.1 (b, i, torn_overwritten b at bytes within.0)
left_held I b (Tore at bytes ∷ cs) within i = left_held (TornFrom I at (length bytes)) b cs within.1 (b, i, torn_same at (length bytes) b)
left_held I b (Synced ∷ cs) within i = left_held (λ d. d ≡ b) b cs within refl

-- what a read gives is one of the images
pub reads_as_held : (b : List ℕ) (cs : List Call) → AreWithin b cs → IsImage b cs (held b cs)
reads_as_held b cs within = left_held (λ d. d ≡ b) b cs within refl

-- the present moment is one of those since an earlier one
pub counts_now_in : (b : List ℕ) (cs : List Call) (t : ℕ) (c : List ℕ) → t ≤ length cs → IsImage b cs c → WasImage b cs t c
counts_now_in b cs t c le now = (length cs, le, omega arith, subst (λ (l : List Call). IsImage b l c) (sym (take_all (length cs) cs (omega arith))) now)

-- since the present moment there is no other
pub only_now_in : (b : List ℕ) (cs : List Call) (c : List ℕ) → WasImage b cs (length cs) c → IsImage b cs c
only_now_in b cs c was = subst (λ (l : List Call). IsImage b l c) (take_all was.0 cs was.1) was.3
