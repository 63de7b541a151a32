-- What a crash leaves in each of the two steps by which a record is appended.
use Rattle.std.proofs.Common.{◌≡◌, ◌≢◌, inl, inr, ℕ, ◌+◌, ◌<◌, List, [], ◌∷◌, ◌++◌, length, get_or, take, drop, All, sym, ◌∙◌, ap, subst, arith, append_assoc, length-append, take-append-drop}
use Rattle.std.specs.Prelude.{◌^◌}
use Rattle.std.proofs.lemmas.Bool.{cases_eq}
use Rattle.std.proofs.lemmas.List.{take_at, drop_at, drop_more, drop-drop}
use Rattle.tau_journal.specs.Disk.Bytes.{overwritten, Torn}
use Rattle.tau_journal.specs.Records.{written, HasRecords, AreRecords, IsBeforeOrAfter}
use Rattle.tau_journal.proofs.Written.{body, closed_ends, one_more_record}

-- the file with a record behind the closed gate
abbrev pub staged : List (List ℕ) → ℕ → List ℕ → List ℕ → List ℕ
staged rs shut r rest = written rs ++ (shut ∷ (body r ++ drop (length (body r)) rest))

module _ (rs : List (List ℕ)) (shut : ℕ) (rest r : List ℕ) (closed : shut ≢ 1) (short : All (λ q. length q < 2 ^ 32) rs) (few : length r < 2 ^ 32) (gate : ℕ) (gate_is : gate ≡ length (written rs)) where
  file : List ℕ
  file = written rs ++ (shut ∷ rest)

  -- file split behind the gate
  split : (tail : List ℕ) → written rs ++ (shut ∷ tail) ≡ (written rs ++ shut ∷ []) ++ tail
  split tail = sym (append_assoc (written rs) (shut ∷ []) tail)

  front : length (written rs ++ shut ∷ []) ≡ gate + 1
  front = omega (arith, length-append (written rs) (shut ∷ []), gate_is)

  -- the closed gate stands in each outcome of the first write
  pub torn_behind : (n : ℕ) (c : List ℕ) → Torn (gate + 1) n (written rs ++ (shut ∷ rest)) c → AreRecords rs c
  torn_behind n c torn =
      let head : take (gate + 1) c ≡ written rs ++ shut ∷ [] = torn.before ∙ ap (take (gate + 1)) (split rest) ∙ take_at (written rs ++ shut ∷ []) rest (gate + 1) front in
      let whole : c ≡ written rs ++ (shut ∷ drop (gate + 1) c) =
      sym (take-append-drop (gate + 1) c) ∙ ap (λ (l : List ℕ). l ++ drop (gate + 1) c) head ∙ append_assoc (written rs) (shut ∷ []) (drop (gate + 1) c) in
      subst (AreRecords rs) (sym whole) (closed_ends rs shut (drop (gate + 1) c) closed short)

  pub written_behind : overwritten (written rs ++ (shut ∷ rest)) (gate + 1) (body r) ≡ staged rs shut r rest
  written_behind =
      let head : take (gate + 1) (written rs ++ (shut ∷ rest)) ≡ written rs ++ shut ∷ [] = ap (take (gate + 1)) (split rest) ∙ take_at (written rs ++ shut ∷ []) rest (gate + 1) front in
      let tail : drop (gate + 1 + length (body r)) (written rs ++ (shut ∷ rest)) ≡ drop (length (body r)) rest =
      sym (drop-drop (length (body r)) (gate + 1) (written rs ++ (shut ∷ rest))) ∙ ap (drop (length (body r))) (ap (drop (gate + 1)) (split rest) ∙ drop_at (written rs ++ shut ∷ []) rest (gate + 1) front) in
      ap (λ (l : List ℕ). l ++ body r ++ drop (gate + 1 + length (body r)) (written rs ++ (shut ∷ rest))) head
      ∙ ap (λ (l : List ℕ). written rs ++ shut ∷ [] ++ body r ++ l) tail
      ∙ append_assoc (written rs ++ shut ∷ []) (body r) (drop (length (body r)) rest)
      ∙ append_assoc (written rs) (shut ∷ []) (body r ++ drop (length (body r)) rest)

  -- the record stands whole behind the gate in each outcome of the second write
  pub torn_gate : (c : List ℕ) → Torn gate 1 (staged rs shut r rest) c → IsBeforeOrAfter rs r c
  torn_gate c torn =
      let tail = body r ++ drop (length (body r)) rest in
      let long : length (staged rs shut r rest) ≡ gate + 1 + length tail = omega (arith, length-append (written rs) (shut ∷ tail), gate_is) in
      let opened = get_or c gate 0 in
      let head : take gate c ≡ written rs = torn.before ∙ take_at (written rs) (shut ∷ tail) gate (sym gate_is) in
      let back : drop (gate + 1) (staged rs shut r rest) ≡ tail = ap (drop (gate + 1)) (split tail) ∙ drop_at (written rs ++ shut ∷ []) tail (gate + 1) front in
      let behind : drop gate c ≡ opened ∷ tail = drop_more c gate 0 (omega (arith, torn.no_shorter, long)) ∙ ap (λ (l : List ℕ). opened ∷ l) (torn.after ∙ back) in
      let whole : c ≡ written rs ++ (opened ∷ tail) = sym (take-append-drop gate c) ∙ ap (λ (l : List ℕ). l ++ drop gate c) head ∙ ap (λ (l : List ℕ). written rs ++ l) behind in
      elim (cases_eq opened 1) [
        | inl is_open ↦ inr (length (written rs) + 5 + length r, subst (HasRecords (rs ++ r ∷ []) (length (written rs) + 5 + length r)) (sym (whole ∙ ap (λ (g : ℕ). written rs ++ (g ∷ tail)) is_open)) (one_more_record rs r (drop (length (body r)) rest) few short))
        | inr shut_still ↦ inl (subst (AreRecords rs) (sym whole) (closed_ends rs opened tail shut_still short))
      ]

  pub written_gate : overwritten (staged rs shut r rest) gate (1 ∷ []) ≡ written rs ++ (1 ∷ (body r ++ drop (length (body r)) rest))
  written_gate =
      let tail = body r ++ drop (length (body r)) rest in
      let head : take gate (staged rs shut r rest) ≡ written rs = take_at (written rs) (shut ∷ tail) gate (sym gate_is) in
      let back : drop (gate + 1) (staged rs shut r rest) ≡ tail = ap (drop (gate + 1)) (split tail) ∙ drop_at (written rs ++ shut ∷ []) tail (gate + 1) front in
      ap (λ (l : List ℕ). l ++ 1 ∷ [] ++ drop (gate + 1) (staged rs shut r rest)) head
      ∙ ap (λ (l : List ℕ). written rs ++ 1 ∷ [] ++ l) back
      ∙ append_assoc (written rs) (1 ∷ []) tail
