-- The latest version at a place.
use Rattle.std.proofs.Common.{◌≡◌, ◌⊎◌, ⊎_elim, ℕ, ◌≤◌, max, List, [], ◌∷◌, ◌++◌, length, sym, ap, ◌∙◌, subst, arith}
use Rattle.std.specs.Prelude.{slice_get}
use Rattle.std.proofs.lemmas.Option.{slice_get_within}
use Rattle.tau_trace.proofs.Lists.{same_some, slice_get-front, slice_get-last, slice_get-push_cases}
use Rattle.tau_versions.specs.declared.logs.version.Version.{Version}
use Rattle.tau_versions.specs.Logs.Versions.{IsLatest}
use Rattle.tau_versions.specs.Logs.Laws.{LatestIsUnique, LatestOfTheGreaterPlace, LatestStaysLatest}

-- at a later place the latest version isn't an earlier one
pub latest_grows : (vs : List Version) (a b i j : ℕ) (v w : Version) → a ≤ b → IsLatest vs a i v → IsLatest vs b j w → i ≤ j
latest_grows vs a b i j v w le x y = grind (arith, y.none_later i v, x.stands, x.begun, le)

pub latest_is_unique : LatestIsUnique
latest_is_unique vs a i j v w x y =
    let same : i ≡ j = omega (arith, latest_grows vs a a i j v w (omega arith) x y, latest_grows vs a a j i w v (omega arith) y x) in
    (same, same_some (sym x.stands ∙ ap (slice_get vs) same ∙ y.stands))

pub latest_of_the_greater_place : LatestOfTheGreaterPlace
latest_of_the_greater_place vs a b i j k v w x p q r = ⊎_elim first second (arith_total a b) where
  arith_total : (m n : ℕ) → (m ≤ n) ⊎ (n ≤ m)
  arith_total m n = grind arith

  first : a ≤ b → k ≡ max i j
  first le =
      let at : IsLatest vs b k x = let F : ℕ → Type 0 = λ n. IsLatest vs n k x in subst F (omega arith) r in
      omega (arith, latest_grows vs a b i j v w le p q, latest_grows vs b b j k w x (omega arith) q at, latest_grows vs b b k j x w (omega arith) at q)

  second : b ≤ a → k ≡ max i j
  second le =
      let at : IsLatest vs a k x = let F : ℕ → Type 0 = λ n. IsLatest vs n k x in subst F (omega arith) r in
      omega (arith, latest_grows vs b a j i w v le q p, latest_grows vs a a i k v x (omega arith) p at, latest_grows vs a a k i x v (omega arith) at p)

pub latest_stays_latest : LatestStaysLatest
latest_stays_latest vs a i v w later x = record {
  stands = sym (slice_get-front vs w i (slice_get_within vs i v x.stands)) ∙ x.stands;
  begun = x.begun;
  none_later = λ j y lt e. ⊎_elim (λ f. x.none_later j y lt f) (λ p. let same : w.from ≡ y.from = ap (λ z. z.from) p.1 in omega (arith, same, later)) (slice_get-push_cases vs w y j e);
}

-- the newest version is the latest at each place from its own on
pub newest_is_latest : (vs : List Version) (w : Version) (a : ℕ) → w.from ≤ a → IsLatest (vs ++ w ∷ []) a (length vs) w
newest_is_latest vs w a le = record {
  stands = slice_get-last vs w;
  begun = le;
  none_later = λ j y lt e. ⊎_elim (λ f. absurd (omega (arith, lt, slice_get_within vs j y f))) (λ p. absurd (omega (arith, lt, p.0))) (slice_get-push_cases vs w y j e);
}
