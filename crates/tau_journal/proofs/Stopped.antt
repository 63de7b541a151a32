-- A stop within a write of a disk in memory.
use Rattle.std.proofs.Common.{◌≡◌, ℕ, zero, suc, ◌+◌, ◌-◌, ◌≤◌, ◌<◌, List, [], ◌∷◌, ◌++◌, length, take, drop, Option, Some, None, refl, sym, ◌∙◌, ap, subst, arith, length-take}
use Rattle.std.specs.Prelude.{slice_get}
use Rattle.std.proofs.lemmas.List.{drop-drop}
use Rattle.std.proofs.lemmas.Option.{slice_get_within}
use Rattle.tau_journal.specs.Disk.Bytes.{overwritten, Torn}
use Rattle.tau_journal.specs.Disk.Calls.{held, TornFrom, Left, IsImage, AreWithin}
use Rattle.tau_journal.specs.Disk.Inner.{IsWithin, torn_overwritten, reads_as_held}
use Rattle.tau_journal.specs.Disk.Stops.{IsWrite, stopped_by}
use Rattle.tau_journal.specs.declared.disk.memory_disk.Call.{Call}
use Rattle.tau_journal.specs.declared.disk.memory_disk.Call.TheVariants.{Looked, Wrote, Tore, Synced}
use Rattle.tau_journal.proofs.Pushed.{held_after, left_after, held-push}

same_call : (x y : Call) → Some x ≡ Some y → x ≡ y
same_call x y e = cc

-- the calls up to one, and that one
pub take_next : (cs : List Call) (k : ℕ) (x : Call) → slice_get cs k ≡ Some x → take (k + 1) cs ≡ take k cs ++ x ∷ []
take_next [] k x stands = absurd (cc)
take_next (y ∷ cs) zero x stands = ap (λ (z : Call). z ∷ []) (same_call y x stands)
take_next (y ∷ cs) (suc k) x stands =
    let more : suc k + 1 ≡ suc (k + 1) = omega arith in
    ap (λ (n : ℕ). take n (y ∷ cs)) more ∙ ap (λ (l : List Call). y ∷ l) (take_next cs k x stands)

-- the bytes after one call more
held_one : (b : List ℕ) (x : Call) → held_after x b ≡ held b (x ∷ [])
held_one b Looked = refl
held_one b (Wrote at bytes) = refl
held_one b (Tore at bytes) = refl
held_one b Synced = refl

pub held-next : (b : List ℕ) (cs : List Call) (k : ℕ) (x : Call) → slice_get cs k ≡ Some x → held b (take (k + 1) cs) ≡ held (held b (take k cs)) (x ∷ [])
held-next b cs k x stands = ap (held b) (take_next cs k x stands) ∙ held-push b (take k cs) x ∙ held_one (held b (take k cs)) x

-- a call that was a write was made
pub was_made : (cs : List Call) (k kept : ℕ) (o : Option Call) → slice_get cs k ≡ o → IsWrite kept o → k < length cs
was_made cs k kept None stands write = absurd write
was_made cs k kept (Some x) stands write = slice_get_within cs k x stands

-- each write began within the bytes that were there
pub within_take : (b : List ℕ) (cs : List Call) (k : ℕ) → AreWithin b cs → AreWithin b (take k cs)
within_take b cs zero within = tt
within_take b [] (suc k) within = tt
within_take b (Looked ∷ cs) (suc k) within = within_take b cs k within
within_take b (Wrote at bytes ∷ cs) (suc k) within = (within.0, within_take (overwritten b at bytes) cs k within.1)
within_take b (Tore at bytes ∷ cs) (suc k) within = (within.0, within_take b cs k within.1)
within_take b (Synced ∷ cs) (suc k) within = within_take b cs k within

first_within : (b : List ℕ) (cs : List Call) (x : Call) → AreWithin b (x ∷ cs) → IsWithin x b
first_within b cs Looked within = tt
first_within b cs (Wrote at bytes) within = within.0
first_within b cs (Tore at bytes) within = within.0
first_within b cs Synced within = tt

pub within_at : (b : List ℕ) (cs : List Call) (k : ℕ) (x : Call) → AreWithin b cs → slice_get cs k ≡ Some x → IsWithin x (held b (take k cs))
within_at b [] k x within stands = absurd (cc)
within_at b (y ∷ cs) zero x within stands = subst (λ (z : Call). IsWithin z b) (same_call y x stands) (first_within b cs y within)
within_at b (Looked ∷ cs) (suc k) x within stands = within_at b cs k x within stands
within_at b (Wrote at bytes ∷ cs) (suc k) x within stands = within_at (overwritten b at bytes) cs k x within.1 stands
within_at b (Tore at bytes ∷ cs) (suc k) x within stands = within_at b cs k x within.1 stands
within_at b (Synced ∷ cs) (suc k) x within stands = within_at b cs k x within stands

-- a tear of fewer bytes is one of more
pub torn_wider : (at n m : ℕ) (b c : List ℕ) → n ≤ m → Torn at n b c → Torn at m b c
torn_wider at n m b c le torn = record {
  before = torn.before;
  after = behind c ∙ ap (drop (m - n)) torn.after ∙ sym (behind b);
  no_shorter = torn.no_shorter;
  no_longer = omega (arith, le, torn.no_longer);
}
  where
    behind : (l : List ℕ) → drop (at + m) l ≡ drop (m - n) (drop (at + n) l)
    behind l = ap (λ (k : ℕ). drop k l) (omega (arith, le)) ∙ sym (drop-drop (m - n) (at + n) l)

-- images with one call more
left_from : (I : List ℕ → Type 0) (b : List ℕ) (cs : List Call) (x : Call) (c : List ℕ) → left_after x (Left I b cs) (held b cs) c → Left I b (cs ++ x ∷ []) c
left_from I b [] Looked c now = now
left_from I b [] (Wrote at bytes) c now = now
left_from I b [] (Tore at bytes) c now = now
left_from I b [] Synced c now = now
left_from I b (Looked ∷ cs) x c now = left_from I b cs x c now
left_from I b (Wrote at bytes ∷ cs) x c now = left_from (TornFrom I at (length bytes)) (overwritten b at bytes) cs x c now
left_from I b (Tore at bytes ∷ cs) x c now = left_from (TornFrom I at (length bytes)) b cs x c now
left_from I b (Synced ∷ cs) x c now = left_from (λ d. d ≡ b) b cs x c now

module _ (b : List ℕ) (cs : List Call) (k kept : ℕ) (all : AreWithin b cs) where
  -- what of a write was written is a tear of what was there
  torn_there : (at : ℕ) (bytes : List ℕ) → at ≤ length (held b (take k cs)) → TornFrom (IsImage b (take k cs)) at (length bytes) (overwritten (held b (take k cs)) at (take kept bytes))
  torn_there at bytes within =
      let there = held b (take k cs) in
      (there, reads_as_held b (take k cs) (within_take b cs k all), torn_wider at (length (take kept bytes)) (length bytes) there (overwritten there at (take kept bytes)) (omega (arith, length-take kept bytes)) (torn_overwritten there at (take kept bytes) within))

  pub image_by : (x : Call) → slice_get cs k ≡ Some x → IsWrite kept (Some x) → IsImage b (take (k + 1) cs) (stopped_by kept (Some x) (held b (take k cs)))
  image_by Looked stands write = absurd write
  image_by Synced stands write = absurd write
  image_by (Wrote at bytes) stands write =
      subst (λ (l : List Call). IsImage b l (overwritten (held b (take k cs)) at (take kept bytes))) (sym (take_next cs k (Wrote at bytes) stands))
      (left_from (λ d. d ≡ b) b (take k cs) (Wrote at bytes) (overwritten (held b (take k cs)) at (take kept bytes)) (torn_there at bytes (within_at b cs k (Wrote at bytes) all stands)))
  image_by (Tore at bytes) stands write =
      subst (λ (l : List Call). IsImage b l (overwritten (held b (take k cs)) at (take kept bytes))) (sym (take_next cs k (Tore at bytes) stands))
      (left_from (λ d. d ≡ b) b (take k cs) (Tore at bytes) (overwritten (held b (take k cs)) at (take kept bytes)) (torn_there at bytes (within_at b cs k (Tore at bytes) all stands)))

  pub image_at : (o : Option Call) → slice_get cs k ≡ o → IsWrite kept o → IsImage b (take (k + 1) cs) (stopped_by kept o (held b (take k cs)))
  image_at None stands write = absurd write
  image_at (Some x) stands write = image_by x stands write

-- an item of the first ones is one of all
pub from_taken : (cs : List Call) (n k : ℕ) (x : Call) → slice_get (take n cs) k ≡ Some x → slice_get cs k ≡ Some x
from_taken cs zero k x stands = absurd (cc)
from_taken [] (suc n) k x stands = stands
from_taken (y ∷ cs) (suc n) zero x stands = stands
from_taken (y ∷ cs) (suc n) (suc k) x stands = from_taken cs n k x stands
