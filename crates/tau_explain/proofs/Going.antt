-- Going on, each time to the least point that is one link nearer, and where that leads.
use Rattle.std.proofs.Common.{◌≡◌, ℕ, suc, List, [], ◌∷◌, ◌++◌, Option, Some, None, refl, sym, ap, ◌∙◌, subst, inr, ⊎_elim}
use Rattle.std.specs.Prelude.{Contains}
use Rattle.tau_points.specs.declared.point.Point.{Point}
use Rattle.tau_points.specs.Members.{AddsAll}
use Rattle.tau_points.specs.Reach.{Leads}
use Rattle.tau_points.proofs.Membership.{Contains-none}
use Rattle.tau_explain.specs.Chains.Chains.{IsFirstShortest, HasNoChain}
use Rattle.tau_explain.specs.Chains.Inner.Distances.{IsFar, IsNext, GoesOn, GoesTo, GoesDown, IsNearest, IsNearestOf, IsLeastAt, HasNearer, LeadsNearer}
use Rattle.tau_explain.specs.Chains.Inner.Turned.{Turns}
use Rattle.tau_explain.proofs.Firsts.{first_shortest, no_chain}
use Rattle.tau_explain.proofs.Levels.{far_same}

module _ (L : Point → Point → Type 0) (far : Point → Option ℕ) where
  goes_further : (x : Point) (xs : List Point) (y z : Point) (n : ℕ) → GoesOn L far x xs y → IsNext L far y z n → GoesOn L far x (xs ++ z ∷ []) z
  goes_further x [] y z n e i = ((n, subst (λ w. IsNext L far w z n) (sym e) i), refl)
  goes_further x (w ∷ ws) y z n g i = (g.0, goes_further w ws y z n g.1 i)

  pub going_start : (x : Point) (points0 points : List Point) → points0 ≡ [] → points ≡ points0 ++ x ∷ [] → GoesTo L far x points x
  going_start x points0 points empty is = record { rest = []; is = is ∙ ap (λ (l : List Point). l ++ x ∷ []) empty; goes = refl }

  pub going_more : (x y z : Point) (n : ℕ) (points0 points : List Point) → GoesTo L far x points0 y → IsNext L far y z n → points ≡ points0 ++ z ∷ [] → GoesTo L far x points z
  going_more x y z n points0 points g i is = record {
    rest = g.rest ++ z ∷ [];
    is = is ∙ ap (λ (l : List Point). l ++ z ∷ []) g.is;
    goes = goes_further x g.rest y z n g.goes i;
  }

  -- of the points to which p leads
  pub next_missing : (p : Point) (n : ℕ) (none items : List Point) → AddsAll (L p) none items → ((q : Point) → Contains items q → far q ≡ Some n → ⊥) → HasNearer L far p n → ⊥
  next_missing p n none items adds missing h = missing h.0 ((adds h.0).1 (inr h.1)) h.2

  pub next_is : (p q : Point) (n : ℕ) (none items : List Point) → none ≡ [] → AddsAll (L p) none items → IsLeastAt (Contains items) far n (Some q) → far p ≡ Some (suc n) → IsNext L far p q n
  next_is p q n none items empty adds h from = record {
    from = from;
    leads = ⊎_elim (λ c. absurd (Contains-none q (subst (λ (l : List Point). Contains l q) empty c))) (λ l. l) ((adds q).0 h.0);
    nearer = h.1;
    least = λ r l e. h.2 r ((adds r).1 (inr l)) e;
  }

module _ (links pairs : List (Point × Point)) (ends to starts from : List Point) (far : Point → Option ℕ)
    (turns : Turns links pairs) (is_ends : ends ≡ to) (is_starts : starts ≡ from) (f : IsFar (λ p q. Leads pairs q p) (Contains ends) far) where
  is_far : IsFar (Leads links) (Contains to) far
  is_far = far_same (Leads links) (λ p q. Leads pairs q p) (Contains to) far (λ p r. turns p r) (subst (λ (l : List Point). IsFar (λ p q. Leads pairs q p) (Contains l) far) is_ends f)

  pub leads_nearer : LeadsNearer (Leads links) far
  leads_nearer p n e = is_far.on p n e

  pub shortest_is : (x : Point) (n : ℕ) (points : List Point) → IsNearest (Contains starts) far x n → GoesDown (Leads links) far x points → IsFirstShortest (Leads links) (Contains from) (Contains to) points
  shortest_is x n points best g =
      subst (IsFirstShortest (Leads links) (Contains from) (Contains to)) (sym g.goes.is)
      (first_shortest (Leads links) (Contains to) far is_far (Contains from) x g.goes.rest g.last n
      (subst (λ (l : List Point). IsNearest (Contains l) far x n) is_starts best) g.goes.goes g.ends)

  pub no_shortest : IsNearestOf (Contains starts) far None → HasNoChain (Leads links) (Contains from) (Contains to)
  no_shortest none = no_chain (Leads links) (Contains to) far is_far (Contains from) (λ q c. none q (subst (λ (l : List Point). Contains l q) (sym is_starts) c))
