-- What a crash leaves while a record is appended, call by call.
use Rattle.std.proofs.Common.{◌≡◌, inl, ℕ, ◌+◌, ◌≤◌, ◌<◌, List, [], ◌∷◌, ◌++◌, length, take, drop, Option, Some, None, IfSome, refl, sym, ◌∙◌, ap, subst, arith, length-append, length-take}
use Rattle.std.specs.Prelude.{◌^◌, Result, Ok, Err, IfErr, IsErrOf}
use Rattle.tau_journal.specs.Disk.Bytes.{overwritten, Torn, Follows, Only, Writes}
use Rattle.tau_journal.specs.Disk.Moments.{Elapses, LeavesOnly}
use Rattle.tau_journal.specs.Room.{too_large, IsTooLarge, IsUnlessSmall, IsFailure}
use Rattle.tau_journal.specs.declared.errors.JournalError.{JournalError}
use Rattle.tau_journal.specs.declared.errors.JournalError.TheVariants.{Fault, DiskFault, NoMemory}
use Rattle.tau_journal.specs.Records.{written, HasRecords, TellsRecords, IsAtRest, AreRecords, IsBeforeOrAfter}
use Rattle.tau_journal.proofs.Moments.{started, goes_on}
use Rattle.tau_journal.proofs.Written.{body, one_more_record}
use Rattle.tau_journal.proofs.Steps.{staged, torn_behind, written_behind, torn_gate, written_gate}

some_inj : (a b : List ℕ) → Some a ≡ Some b → a ≡ b
some_inj a b e = cc

image_is : (bytes : Option (List ℕ)) (images : List ℕ → Type 0) (gate : ℕ) (file : List ℕ) → bytes ≡ Some file → IsAtRest bytes images gate → (c : List ℕ) → images c → c ≡ file
image_is None images gate file told rest c now = absurd (cc)
image_is (Some f) images gate file told rest c now = rest.1 c now ∙ some_inj f file told

only_is : (bytes : Option (List ℕ)) (images : List ℕ → Type 0) (file : List ℕ) → bytes ≡ Some file → Only bytes images → (c : List ℕ) → images c → c ≡ file
only_is None images file told only c now = absurd (cc)
only_is (Some f) images file told only c now = only c now ∙ some_inj f file told

writes_is : (old new : Option (List ℕ)) (at : ℕ) (bytes file : List ℕ) → old ≡ Some file → Writes old at bytes new → new ≡ Some (overwritten file at bytes)
writes_is None new at bytes file told w = absurd (cc)
writes_is (Some f) new at bytes file told w = w ∙ ap (λ (x : List ℕ). Some (overwritten x at bytes)) (some_inj f file told)

pub rest_is : (bytes : Option (List ℕ)) (images : List ℕ → Type 0) (rs : List (List ℕ)) (gate : ℕ) → TellsRecords bytes rs gate → Only bytes images → IsAtRest bytes images gate
rest_is None images rs gate told only = tt
rest_is (Some f) images rs gate told only = ((rs, subst (HasRecords rs gate) (sym (some_inj f told.file told.told)) told.has), only)

-- the records that a disk at rest tells
pub told_of : (bytes : Option (List ℕ)) (images : List ℕ → Type 0) (gate : ℕ) (file : List ℕ) → bytes ≡ Some file → IsAtRest bytes images gate → (rs : List (List ℕ)) × TellsRecords bytes rs gate
told_of None images gate file told rest = absurd (cc)
told_of (Some f) images gate file told rest = (rest.0.0, record { file = f; told = refl; has = rest.0.1 })

-- the gate lies within the bytes, also once something stands behind it
gate_within : (bytes : Option (List ℕ)) (images : List ℕ → Type 0) (gate : ℕ) → IsAtRest bytes images gate → IfSome bytes (λ b. gate + 1 ≤ length b)
gate_within None images gate rest = tt
gate_within (Some f) images gate rest =
    let has = rest.0.1 in
    omega (arith, ap length has.file_is, length-append (written rest.0.0) (has.shut ∷ has.rest), has.gate_is)

still_within : (old new : Option (List ℕ)) (gate : ℕ) (bytes : List ℕ) → IfSome old (λ b. gate + 1 ≤ length b) → Writes old (gate + 1) bytes new → IfSome new (λ b. gate ≤ length b)
still_within None new gate bytes within wrote = subst (λ (o : Option (List ℕ)). IfSome o (λ b. gate ≤ length b)) (sym wrote) tt
still_within (Some f) new gate bytes within wrote =
    subst (λ (o : Option (List ℕ)). IfSome o (λ b. gate ≤ length b)) (sym wrote)
    (omega (arith, length-append (take (gate + 1) f ++ bytes) (drop (gate + 1 + length bytes) f), length-append (take (gate + 1) f) bytes, length-take (gate + 1) f, within))

pub gate_fits : (b0 b1 b2 b3 : Option (List ℕ)) (images : List ℕ → Type 0) (gate : ℕ) (bytes : List ℕ) → IsAtRest b0 images gate → b1 ≡ b0 → Writes b1 (gate + 1) bytes b2 → b3 ≡ b2 → IfSome b3 (λ b. gate ≤ length b)
gate_fits b0 b1 b2 b3 images gate bytes rest same wrote last =
    subst (λ (o : Option (List ℕ)). IfSome o (λ b. gate ≤ length b)) (sym last)
    (still_within b1 b2 gate bytes (subst (λ (o : Option (List ℕ)). IfSome o (λ b. gate + 1 ≤ length b)) (sym same) (gate_within b0 images gate rest)) wrote)

-- where nothing is told at first, nothing is in the end; so a disk is at rest if it is where it tells its records
untold : (b1 b2 b3 b4 b5 : Option (List ℕ)) (at by : ℕ) (bytes more : List ℕ) → b1 ≡ None → Writes b1 at bytes b2 → b3 ≡ b2 → Writes b3 by more b4 → b5 ≡ b4 → b5 ≡ None
untold b1 b2 b3 b4 b5 at by bytes more none wrote same gated last =
    let none2 : b2 ≡ None = subst (λ (o : Option (List ℕ)). Writes o at bytes b2) none wrote in
    last ∙ subst (λ (o : Option (List ℕ)). Writes o by more b4) (same ∙ none2) gated

pub at_rest_after : (b0 b1 b2 b3 b4 b5 : Option (List ℕ)) (images left : List ℕ → Type 0) (at by gate next : ℕ) (bytes more : List ℕ) → IsAtRest b0 images gate → b1 ≡ b0 → Writes b1 at bytes b2 → b3 ≡ b2 → Writes b3 by more b4 → b5 ≡ b4
    → Only b5 left → ((rs : List (List ℕ)) → TellsRecords b0 rs gate → (qs : List (List ℕ)) × TellsRecords b5 qs next) → IsAtRest b5 left next
at_rest_after None b1 b2 b3 b4 b5 images left at by gate next bytes more rest same wrote same3 gated last only has =
    subst (λ (o : Option (List ℕ)). IsAtRest o left next) (sym (untold b1 b2 b3 b4 b5 at by bytes more same wrote same3 gated last)) tt
at_rest_after (Some f) b1 b2 b3 b4 b5 images left at by gate next bytes more rest same wrote same3 gated last only has =
    let told = told_of (Some f) images gate f refl rest in
    let now = has told.0 told.1 in
    rest_is b5 left now.0 next now.1 only

module _ {D : Type 0} (bytes : D → Option (List ℕ)) (images : D → List ℕ → Type 0) (moment : D → ℕ) (left_since : D → ℕ → List ℕ → Type 0) (only_now : (d : D) (c : List ℕ) → left_since d (moment d) c → images d c)
    (gate : ℕ) (r : List ℕ) (rs : List (List ℕ)) (d0 : D) (told : TellsRecords (bytes d0) rs gate) (rest : IsAtRest (bytes d0) (images d0) gate) where
  abbrev P : List ℕ → Type 0
  P = IsBeforeOrAfter rs r

  abbrev Elapsed : D → D → Type 0
  Elapsed a b = Elapses (moment a) (moment b) (left_since a) (left_since b) (images b)

  before_file : P told.file
  before_file = inl (gate, told.has)

  -- before the first call
  pub begun : LeavesOnly moment left_since d0 d0 P × ((c : List ℕ) → images d0 c → c ≡ told.file)
  begun =
      let first : (c : List ℕ) → images d0 c → c ≡ told.file = image_is (bytes d0) (images d0) gate told.file told.told rest in
      (started moment left_since d0 P (λ c left. subst P (sym (first c (only_now d0 c left))) before_file), first)

  -- the size was asked
  pub looked : (d1 : D) → Elapsed d0 d1 → ((c : List ℕ) → images d1 c → images d0 c) → LeavesOnly moment left_since d0 d1 P × ((c : List ℕ) → images d1 c → c ≡ told.file)
  looked d1 time crash =
      let first : (c : List ℕ) → images d0 c → c ≡ told.file = image_is (bytes d0) (images d0) gate told.file told.told rest in
      let begun = started moment left_since d0 P (λ c left. subst P (sym (first c (only_now d0 c left))) before_file) in
      (goes_on moment left_since d0 d0 d1 P (images d1) begun time (λ c now. subst P (sym (first c (crash c now))) before_file), λ c now. first c (crash c now))

  -- the record was written behind the gate
  pub behind : (d1 d2 : D) (n : ℕ) → LeavesOnly moment left_since d0 d1 P × ((c : List ℕ) → images d1 c → c ≡ told.file) → Elapsed d1 d2 → Follows (Torn (gate + 1) n) (images d1) (images d2)
      → length r < 2 ^ 32 → LeavesOnly moment left_since d0 d2 P × ((c : List ℕ) → images d2 c → P c)
  behind d1 d2 n so_far time crash few =
      let here : (c : List ℕ) → images d2 c → P c = λ c now.
      let from = crash c now in
      let was : from.0 ≡ written rs ++ (told.has.shut ∷ told.has.rest) = so_far.1 from.0 from.1 ∙ told.has.file_is in
      inl (torn_behind rs told.has.shut told.has.rest r told.has.closed told.has.short few gate told.has.gate_is n c (subst (λ f. Torn (gate + 1) n f c) was from.2)) in
      (goes_on moment left_since d0 d1 d2 P (images d2) so_far.0 time here, here)

  -- a sync, whatever it answered
  pub after_sync : (d2 d3 : D) → LeavesOnly moment left_since d0 d2 P × ((c : List ℕ) → images d2 c → P c) → Elapsed d2 d3 → ((c : List ℕ) → images d3 c → images d2 c) → LeavesOnly moment left_since d0 d3 P × ((c : List ℕ) → images d3 c → P c)
  after_sync d2 d3 so_far time crash =
      let here : (c : List ℕ) → images d3 c → P c = λ c now. so_far.1 c (crash c now) in
      (goes_on moment left_since d0 d2 d3 P (images d3) so_far.0 time here, here)

  -- what the disk then tells
  pub staged_is : (d1 d2 : D) → bytes d1 ≡ bytes d0 → Writes (bytes d1) (gate + 1) (body r) (bytes d2) → length r < 2 ^ 32 → bytes d2 ≡ Some (staged rs told.has.shut r told.has.rest)
  staged_is d1 d2 same wrote few =
      writes_is (bytes d1) (bytes d2) (gate + 1) (body r) (written rs ++ (told.has.shut ∷ told.has.rest)) (same ∙ told.told ∙ ap Some told.has.file_is) wrote
      ∙ ap Some (written_behind rs told.has.shut told.has.rest r told.has.closed told.has.short few gate told.has.gate_is)

  -- the gate was opened
  pub opened : (d2 d3 d4 : D) → LeavesOnly moment left_since d0 d3 P × ((c : List ℕ) → images d3 c → P c) → bytes d2 ≡ Some (staged rs told.has.shut r told.has.rest) → Only (bytes d2) (images d3)
      → Elapsed d3 d4 → Follows (Torn gate 1) (images d3) (images d4) → length r < 2 ^ 32 → LeavesOnly moment left_since d0 d4 P × ((c : List ℕ) → images d4 c → P c)
  opened d2 d3 d4 so_far is only time crash few =
      let here : (c : List ℕ) → images d4 c → P c = λ c now.
      let from = crash c now in
      let was : from.0 ≡ staged rs told.has.shut r told.has.rest = only_is (bytes d2) (images d3) (staged rs told.has.shut r told.has.rest) is only from.0 from.1 in
      torn_gate rs told.has.shut told.has.rest r told.has.closed told.has.short few gate told.has.gate_is c (subst (λ f. Torn gate 1 f c) was from.2) in
      (goes_on moment left_since d0 d3 d4 P (images d4) so_far.0 time here, here)

  -- the record is there
  pub has_one_more : (d3 d4 d5 : D) → bytes d3 ≡ Some (staged rs told.has.shut r told.has.rest) → Writes (bytes d3) gate (1 ∷ []) (bytes d4) → bytes d5 ≡ bytes d4 → length r < 2 ^ 32
      → TellsRecords (bytes d5) (rs ++ r ∷ []) (gate + 5 + length r)
  has_one_more d3 d4 d5 is wrote same few = record {
    file = written rs ++ (1 ∷ (body r ++ drop (length (body r)) told.has.rest));
    told =
        same ∙ writes_is (bytes d3) (bytes d4) gate (1 ∷ []) (staged rs told.has.shut r told.has.rest) is wrote
        ∙ ap Some (written_gate rs told.has.shut told.has.rest r told.has.closed told.has.short few gate told.has.gate_is);
    has = subst (λ (n : ℕ). HasRecords (rs ++ r ∷ []) n (written rs ++ (1 ∷ (body r ++ drop (length (body r)) told.has.rest)))) (omega (arith, told.has.gate_is)) (one_more_record rs r (drop (length (body r)) told.has.rest) few told.has.short);
  }

-- at first the disk leaves its records
pub at_first : (bytes : Option (List ℕ)) (images : List ℕ → Type 0) (gate : ℕ) (rs : List (List ℕ)) → TellsRecords bytes rs gate → IsAtRest bytes images gate → (c : List ℕ) → images c → AreRecords rs c
at_first bytes images gate rs told rest c now = (gate, subst (HasRecords rs gate) (sym (image_is bytes images gate told.file told.told rest c now)) told.has)

-- a disk that is at rest still is, where it tells the same and has no other image
pub at_rest_still : (b0 b1 : Option (List ℕ)) (i0 i1 : List ℕ → Type 0) (gate : ℕ) → b1 ≡ b0 → ((c : List ℕ) → i1 c → i0 c) → IsAtRest b0 i0 gate → IsAtRest b1 i1 gate
at_rest_still None b1 i0 i1 gate same crash rest = subst (λ (o : Option (List ℕ)). IsAtRest o i1 gate) (sym same) tt
at_rest_still (Some f) b1 i0 i1 gate same crash rest = subst (λ (o : Option (List ℕ)). IsAtRest o i1 gate) (sym same) (rest.0, λ c now. rest.1 c (crash c now))

-- an answer that is no fault, where there is room
module _ {X : Type 0} (need : ℕ) where
  pub no_fault_told : (told : Option (List ℕ)) (r : Result X JournalError) → IfErr r IsFailure → IfErr r (IsTooLarge told need)
  no_fault_told told (Ok x) is = tt
  no_fault_told told (Err (Fault f a)) is = absurd is
  no_fault_told None (Err DiskFault) is = tt
  no_fault_told (Some file) (Err DiskFault) is = tt
  no_fault_told None (Err NoMemory) is = tt
  no_fault_told (Some file) (Err NoMemory) is = tt

  pub room_told : (told : Option (List ℕ)) (r : Result X JournalError) → IfSome told (λ file. too_large (length file) need ≡ None) → IsUnlessSmall told need r
  room_told None r small = tt
  room_told (Some file) r small = λ at large. absurd (cc)

pub is_no_fault : {X : Type 0} (r : Result X JournalError) (fault at : ℕ) → IfErr r IsFailure → IsErrOf r (Fault fault at) → ⊥
is_no_fault (Ok x) fault at is found = absurd (cc)
is_no_fault (Err (Fault f a)) fault at is found = is
is_no_fault (Err DiskFault) fault at is found = cc
is_no_fault (Err NoMemory) fault at is found = cc
