-- Lists of points and of pairs as sets.
use Rattle.std.proofs.Common.{◌≡◌, ℕ, ◌⊎◌, inl, inr, ⊎_elim, Bool, true, false, not, ◌&&◌, ◌||◌, IsTrue, ◌↔◌, List, [], ◌∷◌, refl, sym, ap, ◌∙◌, subst, eqb, arith}
use Rattle.std.specs.Prelude.{Contains}
use Rattle.std.proofs.lemmas.Bool.Decides.{nat_tests}
use Rattle.tau_points.specs.declared.point.Point.{Point}
use Rattle.tau_points.specs.Members.{Adds, Joins}
use Rattle.tau_points.proofs.Membership.{Contains-head, Contains-later, Contains-none, Contains-cons_cases}
use Rattle.tau_view.specs.Held.{same_point, only}
use Rattle.tau_view.specs.Stored.{point_in, pair_in}

-- two tests that are true in the same cases
pub same_tests : (a b : Bool) → (IsTrue a → IsTrue b) → (IsTrue b → IsTrue a) → a ≡ b
same_tests true b f g = sym (f refl)
same_tests false true f g = g refl
same_tests false false f g = refl

pub or_cases : (a b : Bool) → IsTrue (a || b) → IsTrue a ⊎ IsTrue b
or_cases true b h = inl h
or_cases false b h = inr h

pub or_left : (a b : Bool) → IsTrue a → IsTrue (a || b)
or_left true b h = refl
or_left false b h = cc

pub or_right : (a b : Bool) → IsTrue b → IsTrue (a || b)
or_right true b h = refl
or_right false b h = h

pub and_left : (a b : Bool) → IsTrue (a && b) → IsTrue a
and_left true b h = refl
and_left false b h = h

pub and_right : (a b : Bool) → IsTrue (a && b) → IsTrue b
and_right true b h = h
and_right false b h = cc

pub and_both : (a b : Bool) → IsTrue a → IsTrue b → IsTrue (a && b)
and_both true b h k = k
and_both false b h k = h

pub is_same : (p q : Point) → IsTrue (same_point p q) → p ≡ q
is_same p q h =
    let a : p.who ≡ q.who = grind (arith, nat_tests, and_left (eqb p.who q.who) _ h) in
    let rest = and_right (eqb p.who q.who) _ h in
    let b : p.interval ≡ q.interval = grind (arith, nat_tests, and_left (eqb p.interval q.interval) (eqb p.incarnation q.incarnation) rest) in
    let c : p.incarnation ≡ q.incarnation = grind (arith, nat_tests, and_right (eqb p.interval q.interval) (eqb p.incarnation q.incarnation) rest) in
    λ i. record { who = a i; interval = b i; incarnation = c i }

pub same_self : (q : Point) → IsTrue (same_point q q)
same_self q = grind (arith, nat_tests)

pub same_of : (p q : Point) → p ≡ q → IsTrue (same_point p q)
same_of p q e = subst (λ x. IsTrue (same_point p x)) e (same_self p)

pub point_in-Contains : (ps : List Point) (q : Point) → IsTrue (point_in ps q) → Contains ps q
point_in-Contains [] q h = cc
point_in-Contains (p ∷ ps) q h =
    let rest = point_in-Contains ps q in
    ⊎_elim (λ s. subst (Contains (p ∷ ps)) (sym (is_same q p s)) (Contains-head p ps)) (λ t. Contains-later p ps q (rest t)) (or_cases (same_point q p) (point_in ps q) h)

pub Contains-point_in : (ps : List Point) (q : Point) → Contains ps q → IsTrue (point_in ps q)
Contains-point_in [] q h = absurd (Contains-none q h)
Contains-point_in (p ∷ ps) q h =
    let rest = Contains-point_in ps q in
    ⊎_elim (λ e. or_left (same_point q p) (point_in ps q) (same_of q p e)) (λ t. or_right (same_point q p) (point_in ps q) (rest t)) (Contains-cons_cases p ps q h)

pub pair_in-Contains : (es : List (Point × Point)) (p q : Point) → IsTrue (pair_in es p q) → Contains es (p, q)
pair_in-Contains [] p q h = cc
pair_in-Contains (e ∷ es) p q h =
    let rest = pair_in-Contains es p q in
    let here : IsTrue (same_point p e.0 && same_point q e.1) → (p, q) ≡ e =
    λ s i. (is_same p e.0 (and_left (same_point p e.0) (same_point q e.1) s) i, is_same q e.1 (and_right (same_point p e.0) (same_point q e.1) s) i) in
    ⊎_elim (λ s. subst (Contains (e ∷ es)) (sym (here s)) (Contains-head e es)) (λ t. Contains-later e es (p, q) (rest t))
    (or_cases (same_point p e.0 && same_point q e.1) (pair_in es p q) h)

pub Contains-pair_in : (es : List (Point × Point)) (p q : Point) → Contains es (p, q) → IsTrue (pair_in es p q)
Contains-pair_in [] p q h = absurd (Contains-none (p, q) h)
Contains-pair_in (e ∷ es) p q h =
    let rest = Contains-pair_in es p q in
    ⊎_elim
    (λ s. or_left (same_point p e.0 && same_point q e.1) (pair_in es p q)
    (and_both (same_point p e.0) (same_point q e.1) (same_of p e.0 (ap (λ x. x.0) s)) (same_of q e.1 (ap (λ x. x.1) s))))
    (λ t. or_right (same_point p e.0 && same_point q e.1) (pair_in es p q) (rest t))
    (Contains-cons_cases e es (p, q) h)

-- a set of points with one point more
pub point_in-Adds : (old new : List Point) (x : Point) → Adds old new x → point_in new ≡ λ q. point_in old q || same_point q x
point_in-Adds old new x a = λ i q. same_tests (point_in new q) (point_in old q || same_point q x) (forth q) (back q) i where
  forth : (q : Point) → IsTrue (point_in new q) → IsTrue (point_in old q || same_point q x)
  forth q h =
      ⊎_elim (λ c. or_left (point_in old q) (same_point q x) (Contains-point_in old q c)) (λ e. or_right (point_in old q) (same_point q x) (same_of q x e))
      ((a q).0 (point_in-Contains new q h))

  back : (q : Point) → IsTrue (point_in old q || same_point q x) → IsTrue (point_in new q)
  back q h = Contains-point_in new q ((a q).1 (⊎_elim (λ t. inl (point_in-Contains old q t)) (λ s. inr (is_same q x s)) (or_cases (point_in old q) (same_point q x) h)))

-- the set of one point
pub point_in-one : (new : List Point) (x : Point) → Adds [] new x → point_in new ≡ only x
point_in-one new x a = point_in-Adds [] new x a

-- a set of pairs with one pair more
pub pair_in-Adds : (old new : List (Point × Point)) (x y : Point) → Adds old new (x, y) → pair_in new ≡ λ p q. pair_in old p q || (same_point p x && same_point q y)
pair_in-Adds old new x y a = λ i p q. same_tests (pair_in new p q) (pair_in old p q || (same_point p x && same_point q y)) (forth p q) (back p q) i where
  forth : (p q : Point) → IsTrue (pair_in new p q) → IsTrue (pair_in old p q || (same_point p x && same_point q y))
  forth p q h =
      ⊎_elim (λ c. or_left (pair_in old p q) (same_point p x && same_point q y) (Contains-pair_in old p q c))
      (λ e. or_right (pair_in old p q) (same_point p x && same_point q y) (and_both (same_point p x) (same_point q y) (same_of p x (ap (λ z. z.0) e)) (same_of q y (ap (λ z. z.1) e))))
      ((a (p, q)).0 (pair_in-Contains new p q h))

  back : (p q : Point) → IsTrue (pair_in old p q || (same_point p x && same_point q y)) → IsTrue (pair_in new p q)
  back p q h =
      Contains-pair_in new p q ((a (p, q)).1
      (⊎_elim (λ t. inl (pair_in-Contains old p q t)) (λ s. inr (λ i. (is_same p x (and_left (same_point p x) (same_point q y) s) i, is_same q y (and_right (same_point p x) (same_point q y) s) i)))
      (or_cases (pair_in old p q) (same_point p x && same_point q y) h)))

-- the pairs of both sets
pub pair_in-Joins : (xs ys new : List (Point × Point)) → Joins xs ys new → pair_in new ≡ λ p q. pair_in xs p q || pair_in ys p q
pair_in-Joins xs ys new a = λ i p q. same_tests (pair_in new p q) (pair_in xs p q || pair_in ys p q) (forth p q) (back p q) i where
  forth : (p q : Point) → IsTrue (pair_in new p q) → IsTrue (pair_in xs p q || pair_in ys p q)
  forth p q h =
      ⊎_elim (λ c. or_left (pair_in xs p q) (pair_in ys p q) (Contains-pair_in xs p q c)) (λ c. or_right (pair_in xs p q) (pair_in ys p q) (Contains-pair_in ys p q c))
      ((a (p, q)).0 (pair_in-Contains new p q h))

  back : (p q : Point) → IsTrue (pair_in xs p q || pair_in ys p q) → IsTrue (pair_in new p q)
  back p q h =
      Contains-pair_in new p q ((a (p, q)).1 (⊎_elim (λ t. inl (pair_in-Contains xs p q t)) (λ t. inr (pair_in-Contains ys p q t)) (or_cases (pair_in xs p q) (pair_in ys p q) h)))
