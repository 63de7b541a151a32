-- A list whose names are looked up one after another.
use Rattle.std.proofs.Common.{◌≡◌, ◌≢◌, ◌↔◌, ℕ, zero, suc, ◌+◌, ◌<◌, Bool, true, false, cond, not, nat_lt, IsTrue, List, [], ◌∷◌, ◌++◌, length, map, take, get_or, Option, Some, None, refl, sym, ap, ◌∙◌, subst, arith}
use Rattle.std.specs.Option.{is_some}
use Rattle.std.specs.List.{All, AllPairs, Contains, position_or_len}
use Rattle.std.specs.Str.{bytes_eq}
use Rattle.std.proofs.lemmas.Bool.{false≢true}
use Rattle.std.proofs.lemmas.Bool.Decides.{nat_tests}
use Rattle.std.proofs.lemmas.List.{get_or-map, get_or-take, length-map, length-take, map_more}
use Rattle.std.proofs.lemmas.List.Elements.{All-more}
use Rattle.std.proofs.lemmas.List.Quantifiers.{position-Some, all_pairs_push}
use Rattle.std.proofs.lemmas.Slice.Eq.{bytes_eq-Decides}
use Rattle.tau_value.specs.Names.{place_of}

-- a word among names has a first place
found : (names : List (List ℕ)) (w : List ℕ) (k : ℕ) → k < length names → get_or names k w ≡ w → position_or_len (bytes_eq w) names < length names
found [] w k lt e = absurd (omega arith)
found (x ∷ xs) w zero lt e = first (bytes_eq w x) ((bytes_eq-Decides w x).1 (sym e))
  where
    first : (b : Bool) → b ≡ true → cond (not b) (1 + position_or_len (bytes_eq w) xs) 0 < length (x ∷ xs)
    first true h = omega arith
    first false h = absurd (false≢true h)
found (x ∷ xs) w (suc k) lt e = later (bytes_eq w x) (found xs w k (omega arith) e)
  where
    later : (b : Bool) → position_or_len (bytes_eq w) xs < length xs → cond (not b) (1 + position_or_len (bytes_eq w) xs) 0 < length (x ∷ xs)
    later true h = omega arith
    later false h = omega arith

none_below : (n l : ℕ) → n < l → cond (nat_lt n l) (Some n) None ≡ None → ⊥
none_below n l lt e = grind (arith, nat_tests)

absent : (names : List (List ℕ)) (w : List ℕ) → place_of names w ≡ None → Contains names w → ⊥
absent names w none h = none_below (position_or_len (bytes_eq w) names) (length names) (found names w h.0 h.1 h.2) none

-- a word is new where it has no place
pub new_is : (names : List (List ℕ)) (w : List ℕ) (r : Option ℕ) (b : Bool) → r ≡ place_of names w → is_some r ≡ not b → IsTrue b ↔ (Contains names w → ⊥)
new_is names w None true e t = (λ h. absent names w (sym e), λ h. refl)
new_is names w None false e t = absurd (false≢true t)
new_is names w (Some i) true e t = absurd (false≢true (sym t))
new_is names w (Some i) false e t =
    let there = position-Some (bytes_eq w) names i w (sym e) in (
      λ h. absurd (false≢true h),
      λ h. absurd (h (i, there.0, sym ((bytes_eq-Decides w (get_or names i w)).0 there.1))),
    )

module _ {X : Type 0} (P : X → Type 0) (name : X → List ℕ) where
  -- the list's first i items pass, with these names
  pub record SoundSoFar (xs : List X) (i : ℕ) (names : List (List ℕ)) : Type 0 where
    pub names_are : names ≡ map name (take i xs)
    pub sound : All P (take i xs)
    pub distinct : AllPairs (λ v w. v ≢ w) names

  pub sound_so_far_more : (xs : List X) (i : ℕ) (x : X) (names more : List (List ℕ)) → i < length xs → x ≡ get_or xs i x → SoundSoFar xs i names → P x → (Contains names (name x) → ⊥) → more ≡ names ++ name x ∷ [] → SoundSoFar xs (i + 1) more
  sound_so_far_more xs i x names more lt is h p new e =
      let at : P (get_or xs i x) = subst P is p in
      let all : more ≡ map name (take (i + 1) xs) = e ∙ ap (λ ns. ns ++ name x ∷ []) h.names_are ∙ ap (λ y. map name (take i xs) ++ name y ∷ []) is ∙ sym (map_more name xs i x lt) in
      let apart : (k : ℕ) (d : List ℕ) → k < length names → get_or names k d ≢ name x = λ k d ltk eq. new (k, ltk, same_default names k d (name x) ltk ∙ eq) in record {
        names_are = all;
        sound = All-more P xs i x lt h.sound at;
        distinct = subst (AllPairs (λ v w. v ≢ w)) (sym e) (all_pairs_push (λ v w. v ≢ w) names (name x) h.distinct apart);
      }
    where
      same_default : (ns : List (List ℕ)) (k : ℕ) (d c : List ℕ) → k < length ns → get_or ns k c ≡ get_or ns k d
      same_default [] k d c l = absurd (omega arith)
      same_default (n ∷ ns) zero d c l = refl
      same_default (n ∷ ns) (suc k) d c l = same_default ns k d c (omega arith)

  -- where the names are distinct, the next one is new
  pub fresh : (xs : List X) (i : ℕ) (x : X) (names : List (List ℕ)) → i < length xs → x ≡ get_or xs i x → names ≡ map name (take i xs) → AllPairs (λ v w. v ≢ w) (map name xs) → Contains names (name x) → ⊥
  fresh xs i x names lt is e distinct h =
      let below : h.0 < i = omega (arith, h.1, ap length e, length-map (take i xs) name, length-take i xs) in
      let here : h.0 < length xs = omega arith in
      let inside : h.0 < length (take i xs) = omega (arith, length-take i xs) in
      let one : get_or (map name xs) h.0 (name x) ≡ name (get_or xs h.0 x) = get_or-map name xs h.0 x (name x) here in
      let two : get_or (map name xs) i (name x) ≡ name (get_or xs i x) = get_or-map name xs i x (name x) lt in
      let front : get_or (map name (take i xs)) h.0 (name x) ≡ name (get_or (take i xs) h.0 x) = get_or-map name (take i xs) h.0 x (name x) inside in
      let taken : get_or (take i xs) h.0 x ≡ get_or xs h.0 x = rw get_or-take in
      let there : get_or (map name (take i xs)) h.0 (name x) ≡ name x = ap (λ ns. get_or ns h.0 (name x)) (sym e) ∙ h.2 in
      distinct h.0 i (name x) below (omega (arith, length-map xs name)) (one ∙ ap name (sym taken) ∙ sym front ∙ there ∙ ap name is ∙ sym two)
