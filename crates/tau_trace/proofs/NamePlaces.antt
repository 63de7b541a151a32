-- Distinct names, told by the place of each.
use Rattle.std.proofs.Common.{◌≡◌, ℕ, ◌<◌, List, [], length, get_or, All, Some, sym, ap, ◌∙◌, subst, arith}
use Rattle.std.proofs.lemmas.List.{get_or_default}
use Rattle.tau_value.specs.Names.{IsName, AreNames, place_of}
use Rattle.tau_trace.proofs.Lists.{same_some}

pub all_from_each : (xs : List ℕ) (bound : ℕ) → ((k : ℕ) → k < length xs → get_or xs k 0 < bound) → All (λ n. n < bound) xs
all_from_each xs bound h k d l = omega (arith, h k l, get_or_default xs k d 0 l)

-- names that are each found at their own place are distinct
pub names_from_places : (names : List (List ℕ)) → ((k : ℕ) → k < length names → IsName (get_or names k []) × (place_of names (get_or names k []) ≡ Some k)) → AreNames names
names_from_places names h = record {
  named = λ k d l. let P : List ℕ → Type 0 = IsName in subst P (get_or_default names k [] d l) (h k l).0;
  distinct = λ i j d l lt e.
      let first = h i (omega arith) in
      let second = h j lt in
      let same : get_or names i [] ≡ get_or names j [] = get_or_default names i [] d (omega arith) ∙ e ∙ get_or_default names j d [] lt in
      omega (arith, l, same_some (sym first.1 ∙ ap (place_of names) same ∙ second.1));
}
