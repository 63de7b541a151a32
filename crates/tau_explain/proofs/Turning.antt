-- A relation, turned round.
use Rattle.std.proofs.Common.{◌≡◌, ◌≤◌, ◌<◌, ℕ, arith, inl, inr, ⊎_elim, List, Result, Ok, Err, map, take, length, sym, ap, ◌∙◌, subst}
use Rattle.std.specs.Prelude.{Contains, OnOk}
use Rattle.tau_points.specs.declared.point.Point.{Point}
use Rattle.std.proofs.lemmas.List.{take_all, get_or-map, length-map}
use Rattle.tau_points.specs.Members.{AddsAll, SameMembers}
use Rattle.tau_points.specs.Reach.{Leads}
use Rattle.tau_explain.specs.Chains.Inner.Incoming.{PushesIncoming}
use Rattle.tau_explain.specs.Chains.Inner.Turned.{Turns}

pushes : (pairs : List (Point × Point)) (q : Point) (into0 into : List Point) → AddsAll (Leads pairs q) into0 into → PushesIncoming (λ p r. Leads pairs r p) (λ p r. Leads pairs r p) (λ p. ⊥) (λ p. ⊥) q into0 into
pushes pairs q into0 into adds = record {
  same = λ p r. (λ l. l, λ l. l);
  allowed = λ p c. ⊎_elim (λ o. inl o) (λ l. inr (inr l)) ((adds p).0 c);
  found = λ p l. inl ((adds p).1 (inr l));
  passed = λ p h. absurd h;
}

pub pushes_turned : {E : Type 0} (r : Result (Unit {0}) E) (pairs : List (Point × Point)) (q : Point) (into0 into : List Point) → OnOk r (AddsAll (Leads pairs q) into0 into)
    → OnOk r (PushesIncoming (λ p r. Leads pairs r p) (λ p r. Leads pairs r p) (λ p. ⊥) (λ p. ⊥) q into0 into)
pushes_turned (Ok u) pairs q into0 into h = pushes pairs q into0 into h
pushes_turned (Err e) pairs q into0 into h = tt

abbrev pub turn : Point × Point → Point × Point
turn x = (x.1, x.0)

back : (x : Point × Point) (p q : Point) → turn x ≡ (q, p) → x ≡ (p, q)
back x p q e = ap turn e

there : (links : List (Point × Point)) (p q : Point) → Contains links (p, q) → Contains (map turn links) (q, p)
there links p q c = (c.0, omega (arith, c.1, length-map links turn), get_or-map turn links c.0 (p, q) (q, p) c.1 ∙ ap turn c.2)

from : (links : List (Point × Point)) (p q : Point) → Contains (map turn links) (q, p) → Contains links (p, q)
from links p q c =
    let lt : c.0 < length links = omega (arith, c.1, length-map links turn) in
    (c.0, lt, back _ p q (sym (get_or-map turn links c.0 (p, q) (q, p) lt) ∙ c.2))

pub turned_of : (links walked items pairs : List (Point × Point)) (n : ℕ) → walked ≡ links → length walked ≤ n → items ≡ map turn (take n walked) → SameMembers items pairs → Turns links pairs
turned_of links walked items pairs n is all made same p q = (
  λ c. from links p q (subst (λ (l : List (Point × Point)). Contains l (q, p)) whole ((same (q, p)).1 c)),
  λ c. (same (q, p)).0 (subst (λ (l : List (Point × Point)). Contains l (q, p)) (sym whole) (there links p q c)),
) where
  whole : items ≡ map turn links
  whole = made ∙ ap (λ (l : List (Point × Point)). map turn l) (take_all n walked all ∙ is)
