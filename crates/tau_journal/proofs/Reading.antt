-- What is read of a disk, and what the bytes are then.
use Rattle.std.proofs.Common.{◌≡◌, ◌≢◌, inl, inr, ℕ, ◌+◌, ◌≤◌, ◌<◌, List, [], ◌∷◌, ◌++◌, length, take, drop, map, All, Option, Some, None, IfSome, refl, sym, ◌∙◌, ap, ap₂, subst, arith, length-drop, length-take-le, take-append-drop}
use Rattle.std.specs.Prelude.{◌^◌, get_or, Result, Err}
use Rattle.std.specs.Int.{w32, to_le_bytes}
use Rattle.std.proofs.lemmas.List.{drop_more, drop-drop, take_all, map-append, get_or_read}
use Rattle.std.proofs.lemmas.List.Elements.{All-append, All-cons, All-nil}
use Rattle.tau_journal.specs.Disk.Bytes.{Only, Reads}
use Rattle.tau_journal.specs.Disk.Moments.{Elapses, LeavesOnly}
use Rattle.tau_journal.proofs.Moments.{started, goes_on}
use Rattle.tau_journal.specs.Records.{written, HasRecords, IsAtRest}
use Rattle.tau_journal.specs.Places.{record_at, end_of}
use Rattle.tau_journal.specs.declared.records.Place.{Place}
use Rattle.tau_journal.specs.Found.{IsBlank, IsCut, IsDamaged, IsFault}
use Rattle.tau_journal.specs.Room.{most_bytes, IsFaultOrFailure}
use Rattle.tau_journal.specs.declared.errors.JournalError.{JournalError}
use Rattle.tau_journal.specs.declared.errors.JournalError.TheVariants.{Fault, DiskFault, NoMemory}
use Rattle.tau_journal.proofs.Written.{written-push, length-push}
use Rattle.tau_journal.proofs.Unique.{never_both, one_damage}

-- one record more was read
pub read_on : (file : List ℕ) (rs : List (List ℕ)) (gate n : ℕ) → file ≡ written rs ++ drop gate file → gate + 5 + n < length file → get_or file gate 0 ≡ 1
    → take 4 (drop (gate + 1) file) ≡ to_le_bytes w32 n → file ≡ written (rs ++ take n (drop (gate + 5) file) ∷ []) ++ drop (gate + 5 + n) file
read_on file rs gate n so_far within opens number =
    let r = take n (drop (gate + 5) file) in
    let rest = drop (gate + 5 + n) file in
    let long : length r ≡ n = length-take-le n (drop (gate + 5) file) (omega (arith, length-drop (gate + 5) file, within)) in
    let body : drop (gate + 5) file ≡ r ++ rest = sym (take-append-drop n (drop (gate + 5) file)) ∙ ap (λ (l : List ℕ). r ++ l) (drop-drop n (gate + 5) file) in
    let place : gate + 1 + 4 ≡ gate + 5 = omega arith in
    let behind : drop 4 (drop (gate + 1) file) ≡ r ++ rest = drop-drop 4 (gate + 1) file ∙ ap (λ (k : ℕ). drop k file) place ∙ body in
    let numbered : drop (gate + 1) file ≡ to_le_bytes w32 n ++ (r ++ rest) = sym (take-append-drop 4 (drop (gate + 1) file)) ∙ ap₂ (λ (a b : List ℕ). a ++ b) number behind in
    let opened : drop gate file ≡ 1 ∷ (to_le_bytes w32 (length r) ++ (r ++ rest)) = drop_more file gate 0 (omega (arith, within)) ∙ ap₂ (λ (a : ℕ) (l : List ℕ). a ∷ l) opens (numbered ∙ ap (λ (k : ℕ). to_le_bytes w32 k ++ (r ++ rest)) (sym long)) in
    so_far ∙ ap (λ (l : List ℕ). written rs ++ l) opened ∙ sym (written-push rs r rest)

-- one place more
module _ (file : List ℕ) (ps qs : List Place) (gate n : ℕ) (push : qs ≡ ps ++ record { start = gate + 5; length = n } ∷ []) (within : gate + 5 + n < length file) where
  abbrev r : List ℕ
  r = take n (drop (gate + 5) file)

  r_long : length r ≡ n
  r_long = length-take-le n (drop (gate + 5) file) (omega (arith, length-drop (gate + 5) file, within))

  pub places_push : map (record_at file) qs ≡ map (record_at file) ps ++ take n (drop (gate + 5) file) ∷ []
  places_push = ap (map (record_at file)) push ∙ map-append (record_at file) ps (record { start = gate + 5; length = n } ∷ [])

  pub read_more : file ≡ written (map (record_at file) ps) ++ drop gate file → get_or file gate 0 ≡ 1 → take 4 (drop (gate + 1) file) ≡ to_le_bytes w32 n
      → file ≡ written (map (record_at file) qs) ++ drop (gate + 5 + n) file
  read_more so_far opens number =
      read_on file (map (record_at file) ps) gate n so_far within opens number ∙ ap (λ (rs : List (List ℕ)). written rs ++ drop (gate + 5 + n) file) (sym places_push)

  pub gate_more : gate ≡ length (written (map (record_at file) ps)) → gate + 5 + n ≡ length (written (map (record_at file) qs))
  gate_more gate_is = omega (arith, ap (λ (rs : List (List ℕ)). length (written rs)) places_push, length-push (map (record_at file) ps) r, r_long, gate_is)

  pub short_more : n < 2 ^ 32 → All (λ r. length r < 2 ^ 32) (map (record_at file) ps) → All (λ r. length r < 2 ^ 32) (map (record_at file) qs)
  short_more few short =
      subst (All (λ r. length r < 2 ^ 32)) (sym places_push)
      (All-append (λ r. length r < 2 ^ 32) (map (record_at file) ps) (r ∷ []) short (All-cons (λ r. length r < 2 ^ 32) r [] (omega (arith, r_long, few)) (All-nil (λ r. length r < 2 ^ 32))))

  pub whole_more : All (λ p. end_of p ≤ length file) ps → All (λ p. end_of p ≤ length file) qs
  whole_more whole =
      subst (All (λ p. end_of p ≤ length file)) (sym push)
      (All-append (λ p. end_of p ≤ length file) ps (record { start = gate + 5; length = n } ∷ []) whole (All-cons (λ p. end_of p ≤ length file) (record { start = gate + 5; length = n }) [] (omega (arith, within)) (All-nil (λ p. end_of p ≤ length file))))

-- the records end at a closed gate
pub records_end : (file : List ℕ) (rs : List (List ℕ)) (gate : ℕ) → file ≡ written rs ++ drop gate file → gate < length file → get_or file gate 0 ≢ 1 → gate ≡ length (written rs) → All (λ r. length r < 2 ^ 32) rs
    → HasRecords rs gate file
records_end file rs gate so_far within closed gate_is short = record {
  shut = get_or file gate 0;
  rest = drop (gate + 1) file;
  file_is = so_far ∙ ap (λ (l : List ℕ). written rs ++ l) (drop_more file gate 0 within);
  closed = closed;
  gate_is = gate_is;
  short = short;
}

-- or at an open one, behind which the rest is cut
pub damage_is : (file : List ℕ) (rs : List (List ℕ)) (gate : ℕ) → file ≡ written rs ++ drop gate file → gate < length file → get_or file gate 0 ≡ 1 → gate ≡ length (written rs) → All (λ r. length r < 2 ^ 32) rs
    → IsCut (drop (gate + 1) file) → IsDamaged gate file
damage_is file rs gate so_far within opens gate_is short cut = record {
  records = rs;
  rest = drop (gate + 1) file;
  file_is = so_far ∙ ap (λ (l : List ℕ). written rs ++ l) (drop_more file gate 0 within ∙ ap (λ (a : ℕ). a ∷ drop (gate + 1) file) opens);
  gate_is = gate_is;
  short = short;
  cut = cut;
}

-- bytes that begin with an open gate have a record
pub some_records : (file : List ℕ) (rs : List (List ℕ)) (gate : ℕ) → (¬ IsBlank file) → get_or file gate 0 ≢ 1 → gate ≡ length (written rs) → 1 ≤ length rs
some_records file [] gate begins closed gate_is = absurd (begins (inr (subst (λ (k : ℕ). get_or file k 0 ≢ 1) gate_is closed)))
some_records file (r ∷ rs) gate begins closed gate_is = omega arith

-- what was read is all
pub read_whole : (told : Option (List ℕ)) (v : List ℕ) (n : ℕ) → IfSome told (λ f. n ≡ length f) → length v ≡ n → Reads told 0 v → IfSome told (λ f. v ≡ f)
read_whole None v n size long reads = tt
read_whole (Some f) v n size long reads = reads ∙ take_all (length v) f (omega (arith, long, size))

pub only_still : (b0 b1 : Option (List ℕ)) (i0 i1 : List ℕ → Type 0) → b1 ≡ b0 → ((c : List ℕ) → i1 c → i0 c) → Only b0 i0 → Only b1 i1
only_still None b1 i0 i1 same crash only = subst (λ (o : Option (List ℕ)). Only o i1) (sym same) tt
only_still (Some f) b1 i0 i1 same crash only = subst (λ (o : Option (List ℕ)). Only o i1) (sym same) (λ c now. only c (crash c now))

pub at_rest_of : (told : Option (List ℕ)) (images : List ℕ → Type 0) (rs : List (List ℕ)) (gate : ℕ) → IfSome told (λ f. HasRecords rs gate f) → Only told images → IsAtRest told images gate
at_rest_of None images rs gate has only = tt
at_rest_of (Some f) images rs gate has only = ((rs, has), only)

-- calls that add no image
module _ {D : Type 0} (images : D → List ℕ → Type 0) (moment : D → ℕ) (left_since : D → ℕ → List ℕ → Type 0) (only_now : (d : D) (c : List ℕ) → left_since d (moment d) c → images d c) (d0 : D) where
  pub nothing_yet : LeavesOnly moment left_since d0 d0 (images d0)
  nothing_yet = started moment left_since d0 (images d0) (λ c left. only_now d0 c left)

  pub nothing_more : (d1 d2 : D) → LeavesOnly moment left_since d0 d1 (images d0) → Elapses (moment d1) (moment d2) (left_since d1) (left_since d2) (images d2)
      → ((c : List ℕ) → images d2 c → images d0 c) → LeavesOnly moment left_since d0 d2 (images d0)
  nothing_more d1 d2 so_far time here = goes_on moment left_since d0 d1 d2 (images d0) (images d2) so_far time here

-- too many bytes are a fault
pub full_fault : (told : Option (List ℕ)) (fault at : ℕ) → (fault ≡ 8) × IfSome told (λ file. (at ≡ length file) × (most_bytes < length file)) → IfSome told (λ file. IsFault file fault at)
full_fault None fault at is = tt
full_fault (Some f) fault at is = inl (is.0, is.1.0, is.1.1)

-- the fault of the bytes is the one that was answered
module _ {X : Type 0} (file : List ℕ) (fault at : ℕ) where
  -- too many bytes
  pub answer_full : (e : JournalError) → ((f a : ℕ) → e ≡ Fault f a → (f ≡ 8) × (a ≡ length file) × (most_bytes < length file)) → IsFault file fault at → IsFaultOrFailure {X = X} fault at (Err e)
  answer_full (Fault f a) is (inl full) = let now = is f a refl in inl (ap₂ (λ (m n : ℕ). Err (Fault m n)) (now.0 ∙ sym full.0) (now.1 ∙ sym full.1))
  answer_full (Fault f a) is (inr (inl blank)) = let now = is f a refl in absurd (omega (arith, now.2, blank.2))
  answer_full (Fault f a) is (inr (inr cut)) = let now = is f a refl in absurd (omega (arith, now.2, cut.1))
  answer_full DiskFault is found = inr (inl refl)
  answer_full NoMemory is found = inr (inr refl)

  -- no journal
  pub answer_blank : length file ≤ most_bytes → IsBlank file → IsFault file fault at → IsFaultOrFailure {X = X} fault at (Err (Fault 1 0))
  answer_blank fits is (inl full) = absurd (omega (arith, fits, full.2))
  answer_blank fits is (inr (inl blank)) = inl (ap₂ (λ (m n : ℕ). Err (Fault m n)) (sym blank.0) (sym blank.1))
  answer_blank fits is (inr (inr cut)) = absurd (cut.2 is)

  -- damage
  pub answer_damaged : length file ≤ most_bytes → (¬ IsBlank file) → (e : JournalError) → ((f a : ℕ) → e ≡ Fault f a → (f ≡ 2) × IsDamaged a file) → IsFault file fault at → IsFaultOrFailure {X = X} fault at (Err e)
  answer_damaged fits begins (Fault f a) is (inl full) = absurd (omega (arith, fits, full.2))
  answer_damaged fits begins (Fault f a) is (inr (inl blank)) = absurd (begins blank.3)
  answer_damaged fits begins (Fault f a) is (inr (inr cut)) =
      let now = is f a refl in
      inl (ap₂ (λ (m n : ℕ). Err (Fault m n)) (now.0 ∙ sym cut.0) (one_damage file a at now.1 cut.3))
  answer_damaged fits begins DiskFault is found = inr (inl refl)
  answer_damaged fits begins NoMemory is found = inr (inr refl)

-- records
pub no_fault : (file : List ℕ) (fault at : ℕ) → length file ≤ most_bytes → (¬ IsBlank file) → (rs : List (List ℕ)) (gate : ℕ) → HasRecords rs gate file → IsFault file fault at → ⊥
no_fault file fault at fits begins rs gate has (inl full) = absurd (omega (arith, fits, full.2))
no_fault file fault at fits begins rs gate has (inr (inl blank)) = begins blank.3
no_fault file fault at fits begins rs gate has (inr (inr cut)) = never_both file rs gate at has cut.3

-- the same of told bytes
module _ {X : Type 0} (r : Result X JournalError) where
  pub faulty_full : (told : Option (List ℕ)) (e : JournalError) → r ≡ Err e → ((f a : ℕ) → e ≡ Fault f a → (f ≡ 8) × IfSome told (λ file. (a ≡ length file) × (most_bytes < length file)))
      → IfSome told (λ file. (fault at : ℕ) → IsFault file fault at → IsFaultOrFailure fault at r)
  faulty_full None e same is = tt
  faulty_full (Some file) e same is = λ fault at found.
      subst (λ (q : Result X JournalError). IsFaultOrFailure fault at q) (sym same) (answer_full file fault at e (λ f a made. let now = is f a made in (now.0, now.1.0, now.1.1)) found)

  pub faulty_damaged : (told : Option (List ℕ)) (v : List ℕ) → IfSome told (λ file. v ≡ file) → length v ≤ most_bytes → (¬ IsBlank v) → (e : JournalError) → r ≡ Err e → ((f a : ℕ) → e ≡ Fault f a → (f ≡ 2) × IsDamaged a v)
      → IfSome told (λ file. (fault at : ℕ) → IsFault file fault at → IsFaultOrFailure fault at r)
  faulty_damaged None v read fits begins e same is = tt
  faulty_damaged (Some file) v read fits begins e same is = λ fault at found.
      subst (λ (q : Result X JournalError). IsFaultOrFailure fault at q) (sym same) (answer_damaged v fault at fits begins e is (subst (λ (l : List ℕ). IsFault l fault at) (sym read) found))

  pub faulty_none : (told : Option (List ℕ)) (v : List ℕ) → IfSome told (λ file. v ≡ file) → length v ≤ most_bytes → (¬ IsBlank v) → (rs : List (List ℕ)) (gate : ℕ) → HasRecords rs gate v
      → IfSome told (λ file. (fault at : ℕ) → IsFault file fault at → IsFaultOrFailure fault at r)
  faulty_none None v read fits begins rs gate has = tt
  faulty_none (Some file) v read fits begins rs gate has = λ fault at found. absurd (no_fault v fault at fits begins rs gate has (subst (λ (l : List ℕ). IsFault l fault at) (sym read) found))

-- six bytes of which the first is an open gate
pub begins_open : (v : List ℕ) (first : ℕ) → 6 ≤ length v → first ≡ get_or v 0 first → first ≡ 1 → ¬ IsBlank v
begins_open v first long read opens (inl few) = absurd (omega (arith, long, few))
begins_open v first long read opens (inr shut) = shut (sym (get_or_read v 0 first (omega (arith, long)) read 0) ∙ opens)
