-- What a call does to its source, its sink and its disk.
use Rattle.std.specs.Prelude.{◌≡◌, ℕ, List, Option}
use Rattle.tau_io.specs.Faults.{HasRisen}
use Rattle.tau_journal.specs.Disk.Moments.{LeavesOnly}

-- what a call did to its source, or to its sink: the bytes that it had left, or held, before and after, where it tells them; that
-- it stayed as it was; and that its count of faults rose
pub record Effect : Type 1 where
  pub before : Option (List ℕ)
  pub after : Option (List ℕ)
  pub Stayed : Type 0
  pub Failed : Type 0

abbrev pub effect_on : {S : Type 0} → (S → Option (List ℕ)) → (S → ℕ) → S → S → Effect
effect_on bytes faults old new = record {
  before = bytes old;
  after = bytes new;
  Stayed = new ≡ old;
  Failed = HasRisen (faults old) (faults new);
}

-- what a call did to its disk: the bytes that it told before and after; what a crash would have left before the call, and what it
-- would leave after it; that a crash at any moment of the call, from its beginning to its end, leaves what has something; that
-- the disk stayed as it was; and that its count of faults rose
pub record DiskEffect : Type 1 where
  pub before : Option (List ℕ)
  pub after : Option (List ℕ)
  pub images_before : List ℕ → Type 0
  pub images_after : List ℕ → Type 0
  pub Leaves : (List ℕ → Type 0) → Type 0
  pub Stayed : Type 0
  pub Failed : Type 0

abbrev pub disk_effect : {D : Type 0} → (D → Option (List ℕ)) → (D → List ℕ → Type 0) → (D → ℕ) → (D → ℕ → List ℕ → Type 0) → (D → ℕ) → D → D → DiskEffect
disk_effect bytes images moment left_since faults old new = record {
  before = bytes old;
  after = bytes new;
  images_before = images old;
  images_after = images new;
  Leaves = LeavesOnly moment left_since old new;
  Stayed = new ≡ old;
  Failed = HasRisen (faults old) (faults new);
}

-- nothing was written: the bytes stay, and a crash at any moment of the call leaves what one before it might have left
abbrev pub IsUnwritten : DiskEffect → Type 0
IsUnwritten disk = (disk.after ≡ disk.before) × disk.Leaves disk.images_before
