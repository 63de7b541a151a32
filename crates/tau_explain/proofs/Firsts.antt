-- Going on to the least nearer point gives the first of the shortest chains.
use Rattle.std.proofs.Common.{◌≡◌, ◌≤◌, ℕ, suc, List, [], ◌∷◌, length, Option, Some, None, refl, sym, ap, ◌∙◌, subst, inl, inr, ⊎_elim, arith}
use Rattle.tau_points.specs.declared.point.Point.{Point}
use Rattle.tau_points.specs.Reach.{LeadsAlong}
use Rattle.tau_explain.specs.Chains.Chains.{IsChain, ComesUpTo, IsFirstShortest, HasNoChain}
use Rattle.tau_explain.specs.Chains.Inner.Distances.{IsFar, GoesOn, IsNearest}

same_some : {a b : ℕ} → Some a ≡ Some b → a ≡ b
same_some e = cc

module _ (L : Point → Point → Type 0) (C : Point → Type 0) (far : Point → Option ℕ) (f : IsFar L C far) where
  -- a chain to C is at least as long as its first point is far
  pub bounded : (x : Point) (xs : List Point) (y : Point) → LeadsAlong L x xs y → C y → (m : ℕ) × (far x ≡ Some m) × (m ≤ length xs)
  bounded x [] y e c = (0, f.here x (subst C (sym e) c), omega arith)
  bounded x (z ∷ zs) y a c =
      let b = bounded z zs y a.1 c in
      let n = f.near x z b.0 a.0 b.1 in
      (n.0, n.1, omega (arith, n.2, b.2))

  -- going on from x takes as many links as x is far
  pub measured : (x : Point) (xs : List Point) (y : Point) → GoesOn L far x xs y → far y ≡ Some 0 → far x ≡ Some (length xs)
  measured x [] y e z = subst (λ w. far w ≡ Some 0) (sym e) z
  measured x (w ∷ ws) y g z =
      let n = g.0.0 in
      let at : far w ≡ Some (length ws) = measured w ws y g.1 z in
      let same : n ≡ length ws = same_some (sym g.0.1.nearer ∙ at) in
      g.0.1.from ∙ ap (λ k. Some (suc k)) same

  pub leads_on : (x : Point) (xs : List Point) (y : Point) → GoesOn L far x xs y → LeadsAlong L x xs y
  leads_on x [] y e = e
  leads_on x (w ∷ ws) y g = (g.0.1.leads, leads_on w ws y g.1)

  -- of the chains that begin with x and are as short, none comes before it
  pub first_from : (x : Point) (xs : List Point) (y : Point) (zs : List Point) (z : Point) → GoesOn L far x xs y → far y ≡ Some 0 → LeadsAlong L x zs z → C z → length zs ≡ length xs → ComesUpTo xs zs
  first_from x [] y zs z g e a c s = tt
  first_from x (w ∷ ws) y [] z g e a c s = absurd (omega arith)
  first_from x (w ∷ ws) y (v ∷ vs) z g e a c s =
      let n = g.0.0 in
      let next = g.0.1 in
      let at : far w ≡ Some (length ws) = measured w ws y g.1 e in
      let is : n ≡ length ws = same_some (sym next.nearer ∙ at) in
      let b = bounded v vs z a.1 c in
      let up = f.near x v b.0 a.0 b.1 in
      let top : up.0 ≡ suc n = same_some (sym up.1 ∙ next.from) in
      let level : b.0 ≡ n = omega (arith, up.2, top, b.2, is, s) in
      ⊎_elim
      (λ (same : w ≡ v). inr (same, first_from w ws y vs z g.1 e (subst (λ q. LeadsAlong L q vs z) (sym same) a.1) c (omega arith)))
      (λ less. inl less)
      (next.least v a.0 (b.1 ∙ ap (λ k. Some k) level))

  module _ (S : Point → Type 0) where
    pub first_shortest : (x : Point) (xs : List Point) (y : Point) (n : ℕ) → IsNearest S far x n → GoesOn L far x xs y → far y ≡ Some 0 → IsFirstShortest L S C (x ∷ xs)
    first_shortest x xs y n best g e = record {
      chain = record { first = x; rest = xs; last = y; is = refl; begins = best.begins; leads = leads_on x xs y g; ends = f.ends y e };
      shortest = λ other c. let s = size other c in omega (arith, s, ap length c.is);
      first = λ other c s. subst (ComesUpTo (x ∷ xs)) (sym c.is) (by other c (omega (arith, s, ap length c.is)));
    } where
      here : n ≡ length xs
      here = same_some (sym best.at ∙ measured x xs y g e)

      size : (other : List Point) → (c : IsChain L S C other) → length xs ≤ length c.rest
      size other c =
          let b = bounded c.first c.rest c.last c.leads c.ends in
          ⊎_elim (λ less. omega (arith, less, here, b.2)) (λ same. omega (arith, same.0, here, b.2)) (best.best c.first b.0 c.begins b.1)

      by : (other : List Point) → (c : IsChain L S C other) → length c.rest ≡ length xs → ComesUpTo (x ∷ xs) (c.first ∷ c.rest)
      by other c s =
          let b = bounded c.first c.rest c.last c.leads c.ends in
          ⊎_elim
          (λ less. absurd (omega (arith, less, here, b.2, s)))
          (λ same. ⊎_elim
          (λ (eq : x ≡ c.first). inr (eq, first_from x xs y c.rest c.last g e (subst (λ q. LeadsAlong L q c.rest c.last) (sym eq) c.leads) c.ends s))
          (λ before. inl before) same.1)
          (best.best c.first b.0 c.begins b.1)

    pub no_chain : ((q : Point) → S q → far q ≡ None) → HasNoChain L S C
    no_chain none points c =
        let b = bounded c.first c.rest c.last c.leads c.ends in
        let e = sym (none c.first c.begins) ∙ b.1 in
        absurd (cc)
