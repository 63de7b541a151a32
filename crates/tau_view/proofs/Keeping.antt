-- What is left of a list from which some members are dropped.
use Rattle.std.proofs.Common.{◌≡◌, ℕ, Bool, true, false, not, ◌&&◌, ◌||◌, IsTrue, List, [], ◌∷◌, refl, sym, ap, ◌∙◌, subst, cond}
use Rattle.std.specs.Prelude.{filter}
use Rattle.tau_points.specs.declared.point.Point.{Point}
use Rattle.tau_view.specs.Held.{same_point}
use Rattle.tau_view.specs.Trim.{unless}
use Rattle.tau_view.specs.Stored.{point_in, pair_in}
use Rattle.tau_view.proofs.Sets.{is_same, and_left, and_right}

unless_none : (d : Bool) → false ≡ unless d false
unless_none true = refl
unless_none false = refl

-- s: the member is the one sought; d: the one sought is dropped; b: it is among the rest
dropped_first : (s d b : Bool) → (IsTrue s → d ≡ true) → unless d b ≡ unless d (s || b)
dropped_first true d b f = let h : d ≡ true = f refl in rw h refl
dropped_first false d b f = refl

kept_first : (s d b : Bool) → (IsTrue s → d ≡ false) → (s || unless d b) ≡ unless d (s || b)
kept_first true d b f = let h : d ≡ false = f refl in rw h refl
kept_first false d b f = refl

pub point_in-filter : (drop : Point → Bool) (ps : List Point) (q : Point) → point_in (filter (λ p. not (drop p)) ps) q ≡ unless (drop q) (point_in ps q)
point_in-filter drop [] q = unless_none (drop q)
point_in-filter drop (p ∷ ps) q = go (drop p) refl (point_in-filter drop ps q) where
  go : (d : Bool) → drop p ≡ d → point_in (filter (λ x. not (drop x)) ps) q ≡ unless (drop q) (point_in ps q) → point_in (filter (λ x. not (drop x)) (p ∷ ps)) q ≡ unless (drop q) (same_point q p || point_in ps q)
  go true e rest = rw e (rest ∙ dropped_first (same_point q p) (drop q) (point_in ps q) (λ s. ap drop (is_same q p s) ∙ e))
  go false e rest = rw e (ap (λ b. same_point q p || b) rest ∙ kept_first (same_point q p) (drop q) (point_in ps q) (λ s. ap drop (is_same q p s) ∙ e))

pub pair_in-filter : (drop : Point → Point → Bool) (es : List (Point × Point)) (p q : Point) → pair_in (filter (λ e. not (drop e.0 e.1)) es) p q ≡ unless (drop p q) (pair_in es p q)
pair_in-filter drop [] p q = unless_none (drop p q)
pair_in-filter drop (e ∷ es) p q = go (drop e.0 e.1) refl (pair_in-filter drop es p q) where
  here : IsTrue (same_point p e.0 && same_point q e.1) → drop p q ≡ drop e.0 e.1
  here s = λ i. drop (is_same p e.0 (and_left (same_point p e.0) (same_point q e.1) s) i) (is_same q e.1 (and_right (same_point p e.0) (same_point q e.1) s) i)

  go : (d : Bool) → drop e.0 e.1 ≡ d → pair_in (filter (λ x. not (drop x.0 x.1)) es) p q ≡ unless (drop p q) (pair_in es p q) → pair_in (filter (λ x. not (drop x.0 x.1)) (e ∷ es)) p q ≡ unless (drop p q) ((same_point p e.0 && same_point q e.1) || pair_in es p q)
  go true f rest = rw f (rest ∙ dropped_first (same_point p e.0 && same_point q e.1) (drop p q) (pair_in es p q) (λ s. here s ∙ f))
  go false f rest = rw f (ap (λ b. (same_point p e.0 && same_point q e.1) || b) rest ∙ kept_first (same_point p e.0 && same_point q e.1) (drop p q) (pair_in es p q) (λ s. here s ∙ f))
