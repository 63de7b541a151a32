-- Rows of a map, by the bytes of their keys.
use Rattle.std.proofs.Common.{◌≡◌, ◌≢◌, ℕ, Bool, true, false, cond, List, [], ◌∷◌, get_or, All, Some, None, ⊎_elim, refl, sym, ap, ◌∙◌, subst, arith}
use Rattle.std.specs.Prelude.{position}
use Rattle.std.specs.Str.{bytes_eq}
use Rattle.std.specs.declared.alloc.Global.{Global}
use Rattle.std.specs.declared.vec.Vec.{Vec}
use Rattle.std.specs.Map.{keys_of, lookup}
use Rattle.std.proofs.lemmas.List.{length-map, get_or-map}
use Rattle.std.proofs.lemmas.List.Elements.{All-nil, All-cons}
use Rattle.std.proofs.lemmas.List.Quantifiers.{position-Some}
use Rattle.std.proofs.lemmas.Option.{slice_get_cases}
use Rattle.std.proofs.lemmas.Slice.Eq.{bytes_eq-Decides}
use Rattle.indexmap.specs.IndexMap.{IndexMap, get_by, insert_entry}
use Rattle.indexmap.proofs.CallerLemmas.{insert_entry-new}
use Rattle.tau_storm.specs.declared.rows.Row.{Row}
use Rattle.tau_storm.specs.Inner.Counting.{AddsAt, AddsRow, there, missing}

-- a row that a search finds has the lines
found_in : (p : Vec ℕ Global × Row) (rows : List (Vec ℕ Global × Row)) (lines key : List ℕ) (place : ℕ) (q : Row) (new : List (Vec ℕ Global × Row)) → key ≡ lines → position (λ (k : Vec ℕ Global). bytes_eq key k.items) (keys_of (p ∷ rows)) ≡ Some place
    → AddsAt place q (p ∷ rows) new → AddsRow lines q (p ∷ rows) new
found_in p rows lines key place q new key_is at counts =
    let old : List (Vec ℕ Global × Row) = p ∷ rows in
    let here = position-Some (λ (k : Vec ℕ Global). bytes_eq key k.items) (keys_of old) place p.0 at in
    ⊎_elim
    (λ x.
    let k : Vec ℕ Global = x.0.0 in
    let read : get_or (keys_of old) place p.0 ≡ k = get_or-map (λ (q : Vec ℕ Global × Row). q.0) old place x.0 p.0 x.1 ∙ ap (λ (q : Vec ℕ Global × Row). q.0) x.3 in
    let same : key ≡ k.items = (bytes_eq-Decides key k.items).0 (sym (ap (λ (q : Vec ℕ Global). bytes_eq key q.items) read) ∙ here.1) in
    there place k x.0.1 x.2 (sym same ∙ key_is) (counts k x.0.1 x.2))
    (λ x. absurd (omega (arith, here.0, x.0, length-map old (λ (q : Vec ℕ Global × Row). q.0))))
    (slice_get_cases old place).1

pub found : (lines key : List ℕ) (place : ℕ) (q : Row) (old new : List (Vec ℕ Global × Row)) → key ≡ lines → Some place ≡ position (λ (k : Vec ℕ Global). bytes_eq key k.items) (keys_of old) → AddsAt place q old new → AddsRow lines q old new
found lines key place q [] new key_is at counts = absurd (cc)
found lines key place q (p ∷ rows) new key_is at counts = found_in p rows lines key place q new key_is (sym at) counts

-- where no row has them
lacking : (lines : List ℕ) (rows : List (Vec ℕ Global × Row)) → lookup (λ (k : Vec ℕ Global). bytes_eq lines k.items) rows ≡ None → All (λ (p : Vec ℕ Global × Row). p.0.items ≢ lines) rows
lacking lines [] e = All-nil (λ (p : Vec ℕ Global × Row). p.0.items ≢ lines)
lacking lines (p ∷ rows) e = by (bytes_eq lines p.0.items) refl (λ rest. lacking lines rows rest) where
  by : (b : Bool) → bytes_eq lines p.0.items ≡ b → (lookup (λ (k : Vec ℕ Global). bytes_eq lines k.items) rows ≡ None → All (λ (q : Vec ℕ Global × Row). q.0.items ≢ lines) rows) → All (λ (q : Vec ℕ Global × Row). q.0.items ≢ lines) (p ∷ rows)
  by true t later = let both : Some p.1 ≡ None = sym (ap (λ (b : Bool). cond b (Some p.1) (lookup (λ (k : Vec ℕ Global). bytes_eq lines k.items) rows)) t) ∙ e in absurd (cc)
  by false f later =
      let rest : lookup (λ (k : Vec ℕ Global). bytes_eq lines k.items) rows ≡ None = sym (ap (λ (b : Bool). cond b (Some p.1) (lookup (λ (k : Vec ℕ Global). bytes_eq lines k.items) rows)) f) ∙ e in
      All-cons (λ (q : Vec ℕ Global × Row). q.0.items ≢ lines) p rows (λ same. let both : true ≡ false = sym ((bytes_eq-Decides lines p.0.items).1 (sym same)) ∙ f in absurd (cc)) (later rest)

pub absent : {S : Type 0} (m : IndexMap (Vec ℕ Global) Row S) (k : Vec ℕ Global) (key : List ℕ) (q : Row) (new : List (Vec ℕ Global × Row)) → key ≡ k.items → get_by (λ (l : Vec ℕ Global). bytes_eq key l.items) m ≡ None
    → new ≡ insert_entry (λ (a b : Vec ℕ Global). bytes_eq a.items b.items) m.entries k q → AddsRow k.items q m.entries new
absent m k key q new key_is none is =
    let nowhere : get_by (λ (l : Vec ℕ Global). bytes_eq k.items l.items) m ≡ None = subst (λ (l : List ℕ). get_by (λ (h : Vec ℕ Global). bytes_eq l h.items) m ≡ None) key_is none in
    missing k (lacking k.items m.entries nowhere) refl (is ∙ insert_entry-new (λ (a b : Vec ℕ Global). bytes_eq a.items b.items) m k q nowhere)
