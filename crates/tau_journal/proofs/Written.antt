-- Lists of records as bytes.
use Rattle.std.proofs.Common.{◌≡◌, ◌≢◌, ℕ, ◌+◌, ◌<◌, List, [], ◌∷◌, ◌++◌, length, All, refl, sym, ◌∙◌, ap, arith, append_assoc, length-append}
use Rattle.std.specs.Prelude.{◌^◌}
use Rattle.std.specs.Int.{w32, to_le_bytes}
use Rattle.std.proofs.lemmas.List.Elements.{All-append, All-cons, All-nil}
use Rattle.tau_journal.specs.Records.{written, HasRecords, AreRecords}

-- what stands behind the gate of a record
abbrev pub body : List ℕ → List ℕ
body r = to_le_bytes w32 (length r) ++ (r ++ 0 ∷ [])

pub length-body : (r : List ℕ) → length (body r) ≡ length r + 5
length-body r = omega (arith, length-append (to_le_bytes w32 (length r)) (r ++ 0 ∷ []), length-append r (0 ∷ []))

pub written-push : (rs : List (List ℕ)) (r rest : List ℕ) → written (rs ++ r ∷ []) ++ rest ≡ written rs ++ (1 ∷ to_le_bytes w32 (length r) ++ (r ++ rest))
written-push [] r rest = simp append_assoc
written-push (q ∷ rs) r rest = simp append_assoc (ap (λ (l : List ℕ). 1 ∷ to_le_bytes w32 (length q) ++ (q ++ l)) (written-push rs r rest))

-- the length with one record more
pub length-push : (rs : List (List ℕ)) (r : List ℕ) → length (written (rs ++ r ∷ [])) ≡ length (written rs) + 5 + length r
length-push rs r =
    let whole = ap length (written-push rs r []) in
    omega (arith, whole, length-append (written (rs ++ r ∷ [])) [], length-append (written rs) (1 ∷ to_le_bytes w32 (length r) ++ (r ++ [])), length-append (to_le_bytes w32 (length r)) (r ++ []), length-append r [])

-- a closed gate ends the records
pub closed_ends : (rs : List (List ℕ)) (shut : ℕ) (rest : List ℕ) → shut ≢ 1 → All (λ r. length r < 2 ^ 32) rs → AreRecords rs (written rs ++ (shut ∷ rest))
closed_ends rs shut rest closed short = (length (written rs), record { shut = shut; rest = rest; file_is = refl; closed = closed; gate_is = refl; short = short })

-- an open gate lets one record more in
pub one_more_record : (rs : List (List ℕ)) (r rest : List ℕ) → length r < 2 ^ 32 → All (λ q. length q < 2 ^ 32) rs
    → HasRecords (rs ++ r ∷ []) (length (written rs) + 5 + length r) (written rs ++ (1 ∷ (body r ++ rest)))
one_more_record rs r rest few short = record {
  shut = 0;
  rest = rest;
  file_is = sym (written-push rs r (0 ∷ rest) ∙ ap (λ (l : List ℕ). written rs ++ (1 ∷ l)) (sym (append_assoc (to_le_bytes w32 (length r)) (r ++ 0 ∷ []) rest ∙ ap (λ (l : List ℕ). to_le_bytes w32 (length r) ++ l) (append_assoc r (0 ∷ []) rest))));
  closed = omega arith;
  gate_is = sym (length-push rs r);
  short = All-append (λ q. length q < 2 ^ 32) rs (r ∷ []) short (All-cons (λ q. length q < 2 ^ 32) r [] few (All-nil (λ q. length q < 2 ^ 32)));
}
