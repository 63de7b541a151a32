-- One piece after another: what several reads took, and what several writes appended.
use Rattle.std.proofs.Common.{◌≡◌, ℕ, ◌+◌, ◌-◌, ◌≤◌, List, ◌++◌, length, take, drop, Option, sym, ap, ap₂, ◌∙◌, subst, arith, length-append, length-take-le, take-append-drop}
use Rattle.std.proofs.Math.Seq.{take-add}
use Rattle.std.proofs.lemmas.List.{take_rest, take_at, drop-drop}
use Rattle.std.specs.Io.KnownBytes.{Appends, Consumes}
use Rattle.std.proofs.KnownBytes.{Appends-trans, Consumes-trans}
use Rattle.tau_io.specs.Got.{Took}

-- a front of the bytes was appended, and then the first n of the rest
pub Appends-more : (a b c : Option (List ℕ)) (bytes : List ℕ) (done n : ℕ) → Appends a b (take done bytes)
    → Appends b c (take n (take (length bytes - done) (drop done bytes))) → Appends a c (take (done + n) bytes)
Appends-more a b c bytes done n before more =
    let next : Appends b c (take n (drop done bytes)) = subst (λ l. Appends b c (take n l)) (take_rest bytes done) more in
    subst (Appends a c) (sym (take-add done n bytes)) (Appends-trans a b c _ _ before next)

-- the front of some room was read, and then, with that front unchanged, n bytes after it
pub Consumes-more : (a b c : Option (List ℕ)) (old new : List ℕ) (filled n : ℕ) → take filled new ≡ take filled old
    → Consumes a b (take filled old) → Consumes b c (take n (drop filled new)) → Consumes a c (take (filled + n) new)
Consumes-more a b c old new filled n front before more =
    subst (Consumes a c) (ap (λ l. l ++ take n (drop filled new)) (sym front) ∙ sym (take-add filled n new)) (Consumes-trans a b c _ _ before more)

-- a full limit of bytes came, and then one more
pub Took-more : (a b c : Option (List ℕ)) (bytes : List ℕ) (limit : ℕ) → length bytes ≡ limit → Consumes a b bytes
    → Took b c (λ n. n ≡ 1) → Took a c (λ n. n ≡ limit + 1)
Took-more a b c bytes limit full before more = record {
  came = bytes ++ more.came;
  number = omega (arith, length-append bytes more.came, more.number);
  taken = Consumes-trans a b c _ _ before more.taken;
}

-- of the items from a place on, n were copied into the front of a buffer, which is `now`
pub front_copied : (items part into now : List ℕ) (at n : ℕ) → n ≤ length (drop at items) → take n part ≡ take n (drop at items)
    → now ≡ take n part ++ drop n into → drop at items ≡ take n now ++ drop (at + n) items
front_copied items part into now at n within same is =
    let left = drop at items in
    let long : length (take n part) ≡ n = ap length same ∙ length-take-le n left within in
    let front : take n now ≡ take n left = ap (take n) is ∙ take_at (take n part) (drop n into) n long ∙ same in
    sym (take-append-drop n left) ∙ ap₂ (λ l r. l ++ r) (sym front) (drop-drop n at items)
