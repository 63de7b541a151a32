-- One call more of a disk in memory.
use Rattle.std.proofs.Common.{◌≡◌, inl, inr, ⊎_elim, ℕ, List, [], ◌∷◌, ◌++◌, length, refl, sym, ◌∙◌, ap, subst, arith, length-append}
use Rattle.std.specs.Prelude.{true}
use Rattle.std.proofs.lemmas.List.{take-append-le, take_all}
use Rattle.std.proofs.lemmas.Bool.{cases_lt}
use Rattle.tau_journal.specs.Disk.Bytes.{overwritten}
use Rattle.tau_journal.specs.Disk.Moments.{Elapses}
use Rattle.tau_journal.specs.Disk.Calls.{held, TornFrom, Left, IsImage, WasImage, AreWithin}
use Rattle.tau_journal.specs.Disk.Inner.{is_quiet, IsWithin}
use Rattle.tau_journal.specs.declared.disk.memory_disk.Call.{Call}
use Rattle.tau_journal.specs.declared.disk.memory_disk.Call.TheVariants.{Looked, Wrote, Tore, Synced}

-- what one call makes of the bytes
abbrev pub held_after : Call → List ℕ → List ℕ
held_after Looked b = b
held_after (Wrote at bytes) b = overwritten b at bytes
held_after (Tore at bytes) b = b
held_after Synced b = b

-- and of the images
abbrev pub left_after : Call → (List ℕ → Type 0) → List ℕ → List ℕ → Type 0
left_after Looked I b c = I c
left_after (Wrote at bytes) I b c = TornFrom I at (length bytes) c
left_after (Tore at bytes) I b c = TornFrom I at (length bytes) c
left_after Synced I b c = c ≡ b

pub held-push : (b : List ℕ) (cs : List Call) (x : Call) → held b (cs ++ x ∷ []) ≡ held_after x (held b cs)
held-push b [] Looked = refl
held-push b [] (Wrote at bytes) = refl
held-push b [] (Tore at bytes) = refl
held-push b [] Synced = refl
held-push b (Looked ∷ cs) x = held-push b cs x
held-push b (Wrote at bytes ∷ cs) x = held-push (overwritten b at bytes) cs x
held-push b (Tore at bytes ∷ cs) x = held-push b cs x
held-push b (Synced ∷ cs) x = held-push b cs x

pub within-push : (b : List ℕ) (cs : List Call) (x : Call) → AreWithin b cs → IsWithin x (held b cs) → AreWithin b (cs ++ x ∷ [])
within-push b [] Looked within now = tt
within-push b [] (Wrote at bytes) within now = (now, tt)
within-push b [] (Tore at bytes) within now = (now, tt)
within-push b [] Synced within now = tt
within-push b (Looked ∷ cs) x within now = within-push b cs x within now
within-push b (Wrote at bytes ∷ cs) x within now = (within.0, within-push (overwritten b at bytes) cs x within.1 now)
within-push b (Tore at bytes ∷ cs) x within now = (within.0, within-push b cs x within.1 now)
within-push b (Synced ∷ cs) x within now = within-push b cs x within now

left_to : (I : List ℕ → Type 0) (b : List ℕ) (cs : List Call) (x : Call) (c : List ℕ) → Left I b (cs ++ x ∷ []) c → left_after x (Left I b cs) (held b cs) c
left_to I b [] Looked c now = now
left_to I b [] (Wrote at bytes) c now = now
left_to I b [] (Tore at bytes) c now = now
left_to I b [] Synced c now = now
left_to I b (Looked ∷ cs) x c now = left_to I b cs x c now
left_to I b (Wrote at bytes ∷ cs) x c now = left_to (TornFrom I at (length bytes)) (overwritten b at bytes) cs x c now
left_to I b (Tore at bytes ∷ cs) x c now = left_to (TornFrom I at (length bytes)) b cs x c now
left_to I b (Synced ∷ cs) x c now = left_to (λ d. d ≡ b) b cs x c now

pub image_to : (b : List ℕ) (cs : List Call) (x : Call) (c : List ℕ) → IsImage b (cs ++ x ∷ []) c → left_after x (IsImage b cs) (held b cs) c
image_to b cs x c now = left_to (λ d. d ≡ b) b cs x c now

pub elapses_push : (b : List ℕ) (cs : List Call) (x : Call) → Elapses (length cs) (length (cs ++ x ∷ [])) (WasImage b cs) (WasImage b (cs ++ x ∷ [])) (IsImage b (cs ++ x ∷ []))
elapses_push b cs x = record {
  later = omega (arith, length-append cs (x ∷ []));
  nothing_else = λ t c le was. ⊎_elim
      (λ above. inr (subst (λ (l : List Call). IsImage b l c) (take_all was.0 (cs ++ x ∷ []) (omega (arith, length-append cs (x ∷ []), above))) was.3))
      (λ below. inl (was.0, was.1, below, subst (λ (l : List Call). IsImage b l c) (take-append-le was.0 cs (x ∷ []) below) was.3))
      (cases_lt (length cs) was.0);
  keeps = λ t c le was. (was.0, was.1, omega (arith, length-append cs (x ∷ []), was.2), subst (λ (l : List Call). IsImage b l c) (sym (take-append-le was.0 cs (x ∷ []) was.2)) was.3);
}

pub elapses_same : (b : List ℕ) (cs : List Call) → Elapses (length cs) (length cs) (WasImage b cs) (WasImage b cs) (IsImage b cs)
elapses_same b cs = record { later = omega arith; nothing_else = λ t c le was. inl was; keeps = λ t c le was. was }

-- the same of a disk with these bytes at first and this call more
module _ (b bs : List ℕ) (cs ds : List Call) (x : Call) (first : bs ≡ b) (calls : ds ≡ cs ++ x ∷ []) where
  pub bytes_noted : held bs ds ≡ held_after x (held b cs)
  bytes_noted = ap (λ (l : List ℕ). held l ds) first ∙ ap (held b) calls ∙ held-push b cs x

  pub image_noted : (c : List ℕ) → IsImage bs ds c → left_after x (IsImage b cs) (held b cs) c
  image_noted c now = image_to b cs x c (subst (λ (l : List Call). IsImage b l c) calls (subst (λ (l : List ℕ). IsImage l ds c) first now))

  pub time_noted : Elapses (length cs) (length ds) (WasImage b cs) (WasImage bs ds) (IsImage bs ds)
  time_noted =
      subst (λ (l : List ℕ). Elapses (length cs) (length ds) (WasImage b cs) (WasImage l ds) (IsImage l ds)) (sym first)
      (subst (λ (l : List Call). Elapses (length cs) (length l) (WasImage b cs) (WasImage b l) (IsImage b l)) (sym calls) (elapses_push b cs x))

  pub within_noted : AreWithin b cs → IsWithin x (held b cs) → AreWithin bs ds
  within_noted within now = subst (λ (l : List ℕ). AreWithin l ds) (sym first) (subst (AreWithin b) (sym calls) (within-push b cs x within now))

-- a quiet call leaves the bytes
pub quiet_stays : (x : Call) (b : List ℕ) → is_quiet x ≡ true → held_after x b ≡ b
quiet_stays Looked b quiet = refl
quiet_stays (Wrote at bytes) b quiet = absurd (cc)
quiet_stays (Tore at bytes) b quiet = refl
quiet_stays Synced b quiet = refl
