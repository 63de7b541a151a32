-- A file is read as records in one way at most.
use Rattle.std.proofs.Common.{◌≡◌, ◌≢◌, ⊎_elim, ℕ, ◌+◌, ◌<◌, List, [], ◌∷◌, ◌++◌, length, take, drop, All, refl, sym, ◌∙◌, ap, ap₂, arith, append_assoc, length-append}
use Rattle.std.specs.Prelude.{◌^◌, get_or}
use Rattle.std.specs.Int.{w32, to_le_bytes, from_le_bytes}
use Rattle.std.proofs.lemmas.Nat.{from_le_bytes-to_le_bytes_4}
use Rattle.std.proofs.lemmas.List.{take_at, drop_at}
use Rattle.std.proofs.lemmas.List.Elements.{All-head, All-tail}
use Rattle.tau_journal.specs.Records.{written, HasRecords}
use Rattle.tau_journal.specs.Found.{IsCut, IsDamaged}

-- the first byte
abbrev head_of : List ℕ → ℕ
head_of xs = get_or xs 0 0

-- a length that stands at the front is read back
length_is : (n : ℕ) (xs : List ℕ) → n < 2 ^ 32 → from_le_bytes w32 (take 4 (to_le_bytes w32 n ++ xs)) ≡ n
length_is n xs few = ap (from_le_bytes w32) (take_at (to_le_bytes w32 n) xs 4 (omega arith)) ∙ from_le_bytes-to_le_bytes_4 n few

-- a record at the front, and what follows it
record AreSame (r q xs ys : List ℕ) : Type 0 where
  front : r ≡ q
  behind : xs ≡ ys

same_front : (r q xs ys : List ℕ) → length r < 2 ^ 32 → length q < 2 ^ 32
    → to_le_bytes w32 (length r) ++ (r ++ xs) ≡ to_le_bytes w32 (length q) ++ (q ++ ys) → AreSame r q xs ys
same_front r q xs ys few few_too same =
    let long : length r ≡ length q = sym (length_is (length r) (r ++ xs) few) ∙ ap (λ (l : List ℕ). from_le_bytes w32 (take 4 l)) same ∙ length_is (length q) (q ++ ys) few_too in
    let tails : r ++ xs ≡ q ++ ys = sym (drop_at (to_le_bytes w32 (length r)) (r ++ xs) 4 (omega arith)) ∙ ap (drop 4) same ∙ drop_at (to_le_bytes w32 (length q)) (q ++ ys) 4 (omega arith) in
    record {
      front = sym (take_at r xs (length r) refl) ∙ ap (take (length r)) tails ∙ take_at q ys (length r) (sym long);
      behind = sym (drop_at r xs (length r) refl) ∙ ap (drop (length r)) tails ∙ drop_at q ys (length r) (sym long);
    }

-- the same behind an open gate
opened_same : (r q xs ys : List ℕ) (rs qs : List (List ℕ)) → length r < 2 ^ 32 → length q < 2 ^ 32
    → written (r ∷ rs) ++ xs ≡ written (q ∷ qs) ++ ys → AreSame r q (written rs ++ xs) (written qs ++ ys)
opened_same r q xs ys rs qs few few_too same =
    same_front r q (written rs ++ xs) (written qs ++ ys) few few_too
    (sym (append_assoc (to_le_bytes w32 (length r)) (r ++ written rs) xs ∙ ap (λ (l : List ℕ). to_le_bytes w32 (length r) ++ l) (append_assoc r (written rs) xs))
    ∙ ap (drop 1) same
    ∙ (append_assoc (to_le_bytes w32 (length q)) (q ++ written qs) ys ∙ ap (λ (l : List ℕ). to_le_bytes w32 (length q) ++ l) (append_assoc q (written qs) ys)))

first_short : (r : List ℕ) (rs : List (List ℕ)) → All (λ q. length q < 2 ^ 32) (r ∷ rs) → length r < 2 ^ 32
first_short r rs all = All-head (λ q. length q < 2 ^ 32) r rs all

others_short : (r : List ℕ) (rs : List (List ℕ)) → All (λ q. length q < 2 ^ 32) (r ∷ rs) → All (λ q. length q < 2 ^ 32) rs
others_short r rs all = All-tail (λ q. length q < 2 ^ 32) r rs all

-- records that end at a closed gate
pub same_records : (rs qs : List (List ℕ)) (s t : ℕ) (xs ys : List ℕ) → s ≢ 1 → t ≢ 1 → All (λ q. length q < 2 ^ 32) rs → All (λ q. length q < 2 ^ 32) qs
    → written rs ++ (s ∷ xs) ≡ written qs ++ (t ∷ ys) → rs ≡ qs
same_records [] [] s t xs ys closed closed_too few few_too same = refl
same_records [] (q ∷ qs) s t xs ys closed closed_too few few_too same = absurd (closed (ap head_of same))
same_records (r ∷ rs) [] s t xs ys closed closed_too few few_too same = absurd (closed_too (sym (ap head_of same)))
same_records (r ∷ rs) (q ∷ qs) s t xs ys closed closed_too few few_too same =
    let one = opened_same r q (s ∷ xs) (t ∷ ys) rs qs (first_short r rs few) (first_short q qs few_too) same in
    ap₂ (λ a b. a ∷ b) one.front (same_records rs qs s t xs ys closed closed_too (others_short r rs few) (others_short q qs few_too) one.behind)

-- what stands behind an open gate isn't cut where a record and a gate stand there
whole_record : (q ys rest : List ℕ) (qs : List (List ℕ)) (t : ℕ) → length q < 2 ^ 32 → 1 ∷ rest ≡ written (q ∷ qs) ++ (t ∷ ys) → IsCut rest → ⊥
whole_record q ys rest qs t few same cut =
    let is : rest ≡ to_le_bytes w32 (length q) ++ (q ++ (written qs ++ (t ∷ ys))) = ap (drop 1) same ∙ append_assoc (to_le_bytes w32 (length q)) (q ++ written qs) (t ∷ ys) ∙ ap (λ (l : List ℕ). to_le_bytes w32 (length q) ++ l) (append_assoc q (written qs) (t ∷ ys)) in
    let number : from_le_bytes w32 (take 4 rest) ≡ length q = ap (λ (l : List ℕ). from_le_bytes w32 (take 4 l)) is ∙ length_is (length q) (q ++ (written qs ++ (t ∷ ys))) few in
    let long : length rest ≡ 4 + (length q + (length (written qs) + (1 + length ys))) = ap length is ∙ omega (arith, length-append (to_le_bytes w32 (length q)) (q ++ (written qs ++ (t ∷ ys))), length-append q (written qs ++ (t ∷ ys)), length-append (written qs) (t ∷ ys)) in
    ⊎_elim (λ few_bytes. absurd (omega (arith, few_bytes, long))) (λ short. absurd (omega (arith, short, long, number))) cut

-- records and damage
pub not_both : (rs qs : List (List ℕ)) (s : ℕ) (xs rest : List ℕ) → s ≢ 1 → All (λ q. length q < 2 ^ 32) rs → All (λ q. length q < 2 ^ 32) qs
    → written rs ++ (s ∷ xs) ≡ written qs ++ (1 ∷ rest) → IsCut rest → ⊥
not_both [] [] s xs rest closed few few_too same cut = absurd (closed (ap head_of same))
not_both [] (q ∷ qs) s xs rest closed few few_too same cut = absurd (closed (ap head_of same))
not_both (r ∷ rs) [] s xs rest closed few few_too same cut = whole_record r xs rest rs s (first_short r rs few) (sym same) cut
not_both (r ∷ rs) (q ∷ qs) s xs rest closed few few_too same cut =
    let one = opened_same r q (s ∷ xs) (1 ∷ rest) rs qs (first_short r rs few) (first_short q qs few_too) same in
    not_both rs qs s xs rest closed (others_short r rs few) (others_short q qs few_too) one.behind cut

-- damage and damage
pub same_damage : (rs qs : List (List ℕ)) (xs ys : List ℕ) → All (λ q. length q < 2 ^ 32) rs → All (λ q. length q < 2 ^ 32) qs
    → written rs ++ (1 ∷ xs) ≡ written qs ++ (1 ∷ ys) → IsCut xs → IsCut ys → rs ≡ qs
same_damage [] [] xs ys few few_too same cut cut_too = refl
same_damage [] (q ∷ qs) xs ys few few_too same cut cut_too = absurd (whole_record q ys xs qs 1 (first_short q qs few_too) same cut)
same_damage (r ∷ rs) [] xs ys few few_too same cut cut_too = absurd (whole_record r xs ys rs 1 (first_short r rs few) (sym same) cut_too)
same_damage (r ∷ rs) (q ∷ qs) xs ys few few_too same cut cut_too =
    let one = opened_same r q (1 ∷ xs) (1 ∷ ys) rs qs (first_short r rs few) (first_short q qs few_too) same in
    ap₂ (λ a b. a ∷ b) one.front (same_damage rs qs xs ys (others_short r rs few) (others_short q qs few_too) one.behind cut cut_too)

-- the same of files
pub one_list : (file : List ℕ) (rs qs : List (List ℕ)) (gate by : ℕ) → HasRecords rs gate file → HasRecords qs by file → rs ≡ qs
one_list file rs qs gate by one two = same_records rs qs one.shut two.shut one.rest two.rest one.closed two.closed one.short two.short (sym one.file_is ∙ two.file_is)

pub never_both : (file : List ℕ) (rs : List (List ℕ)) (gate at : ℕ) → HasRecords rs gate file → IsDamaged at file → ⊥
never_both file rs gate at one two = not_both rs two.records one.shut one.rest two.rest one.closed one.short two.short (sym one.file_is ∙ two.file_is) two.cut

pub one_damage : (file : List ℕ) (at by : ℕ) → IsDamaged at file → IsDamaged by file → at ≡ by
one_damage file at by one two =
    one.gate_is ∙ ap (λ (rs : List (List ℕ)). length (written rs)) (same_damage one.records two.records one.rest two.rest one.short two.short (sym one.file_is ∙ two.file_is) one.cut two.cut) ∙ sym two.gate_is
