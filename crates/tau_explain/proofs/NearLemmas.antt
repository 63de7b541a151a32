-- The nearest of what steps carry.
use Rattle.std.proofs.Common.{◌≡◌, ◌⊎◌, ◌↔◌, inl, inr, ⊎_elim, ℕ, Option, Some, None, refl, sym, ap, ◌∙◌, subst, arith}
use Rattle.tau_points.specs.declared.point.Point.{Point}
use Rattle.tau_explain.specs.Chains.Inner.Distances.{IsNearestOf}
use Rattle.tau_explain.proofs.NearestLemmas.{not_after_trans}
use Rattle.tau_trace.specs.Run.{Run}
use Rattle.tau_trace.proofs.Lists.{same_some}
use Rattle.tau_past.specs.declared.carrying.Carrying.{Carrying}
use Rattle.tau_past.specs.Carried.{Carried}
use Rattle.tau_past.specs.Tables.{CarriedFrom, TellsCarried}
use Rattle.tau_explain.specs.Links.Inner.Linking.{TellsNearest, IsNotBehind, IsNotBehindAny}

behind_trans : (x y z : Point × ℕ) → IsNotBehind x y → IsNotBehind y z → IsNotBehind x z
behind_trans x y z a b = ⊎_elim
    (λ less. ⊎_elim (λ l. inl (omega (arith, less, l))) (λ s. inl (omega (arith, less, s.0))) b)
    (λ same. ⊎_elim (λ l. inl (omega (arith, same.0, l))) (λ s. inr (same.0 ∙ s.0, not_after_trans x.0 y.0 z.0 same.1 s.1)) b)
    a

-- which of two points is the answer
module _ (far : Point → Option ℕ) (A B P : Point → Type 0) (both : (q : Point) → P q ↔ (A q ⊎ B q)) where
  -- what is not behind the nearest of a set is not behind each of its points
  not_behind : (S : Point → Type 0) (o : Option (Point × ℕ)) (x : Point × ℕ) → IsNearestOf S far o → IsNotBehindAny (Some x) o → (q : Point) (m : ℕ) → S q → far q ≡ Some m → IsNotBehind x (q, m)
  not_behind S None x near up q m s e = absurd (let f = sym (near q s) ∙ e in cc)
  not_behind S (Some y) x near up q m s e =
      behind_trans x y (q, m) (subst (λ z. IsNotBehind z y) (same_some (sym up.1)) up.2) (near.best q m s e)

  begins : (S : Point → Type 0) (o : Option (Point × ℕ)) (x : Point × ℕ) → ((q : Point) → S q → P q) → IsNearestOf S far o → Some x ≡ o → P x.0 × (far x.0 ≡ Some x.1)
  begins S None x within near e = absurd (cc)
  begins S (Some y) x within near e =
      let same : y ≡ x = same_some (sym e) in
      (subst (λ z. P z.0) same (within y.0 near.begins), subst (λ z. far z.0 ≡ Some z.1) same near.at)

  none_of : (S : Point → Type 0) (o : Option (Point × ℕ)) → IsNearestOf S far o → IsNotBehindAny None o → (q : Point) → S q → far q ≡ None
  none_of S None near up q s = near q s
  none_of S (Some y) near up q s = absurd (let e = up.1 in cc)

  pub nearer_cases : (first second result : Option (Point × ℕ)) → IsNearestOf A far first → IsNearestOf B far second → (result ≡ first) ⊎ (result ≡ second) → IsNotBehindAny result first → IsNotBehindAny result second → IsNearestOf P far result
  nearer_cases first second None a b either up1 up2 = λ q p. ⊎_elim (none_of A first a up1 q) (none_of B second b up2 q) ((both q).0 p)
  nearer_cases first second (Some x) a b either up1 up2 =
      let at = ⊎_elim (λ e. begins A first x (λ q s. (both q).1 (inl s)) a e) (λ e. begins B second x (λ q s. (both q).1 (inr s)) b e) either in
      record {
        begins = at.0;
        at = at.1;
        best = λ q m p e. ⊎_elim (λ s. not_behind A first x a up1 q m s e) (λ s. not_behind B second x b up2 q m s e) ((both q).0 p);
      }

pub nearest_told : (T : Run) (far : Point → Option ℕ) (k : ℕ) (c : Carrying) (first second result : Option (Point × ℕ)) → TellsCarried T k c → IsNearestOf (λ q. c.touched ≡ Some q) far first → IsNearestOf (CarriedFrom T c.rest) far second
    → (result ≡ first) ⊎ (result ≡ second) → IsNotBehindAny result first → IsNotBehindAny result second → TellsNearest T far k result
nearest_told T far k c first second result told a b either up1 up2 = nearer_cases far (λ q. c.touched ≡ Some q) (CarriedFrom T c.rest) (Carried T k) told.points first second result a b either up1 up2

pub one_reached : (far : Point → Option ℕ) (p : Point) (n : ℕ) → far p ≡ Some n → IsNearestOf (λ q. Some p ≡ Some q) far (Some (p, n))
one_reached far p n e = record {
  begins = refl;
  at = e;
  best = λ q m s f. inr (same_some (sym e ∙ ap far (same_some s) ∙ f), inl (same_some s));
}
