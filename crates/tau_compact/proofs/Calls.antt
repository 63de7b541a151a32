-- Calls of a pruned view that need not go over all that is stored.
use Rattle.std.proofs.Common.{◌≡◌, ◌≢◌, ◌⊎◌, inl, inr, ⊎_elim, Bool, true, false, not, ◌&&◌, ◌||◌, IsTrue, refl, sym, ap, ◌∙◌}
use Rattle.tau_history.specs.declared.fate.Fate.TheVariants.{Closed, Fallen}
use Rattle.tau_points.specs.declared.point.Point.{Point}
use Rattle.tau_view.specs.Held.{Held, Points, fate_in, same_point}
use Rattle.tau_view.specs.Edges.{edges_to}
use Rattle.tau_view.specs.Rules.{touched, depended, with_roots}
use Rattle.tau_view.specs.Trim.{unless, roots_kept, trim}
use Rattle.tau_view.specs.Stored.{Stored, held}
use Rattle.tau_view.proofs.Sets.{is_same, and_left, and_right}
use Rattle.tau_compact.specs.Pruning.{prunes_edge, prunes_root, IsPruned}
use Rattle.tau_compact.specs.PruningLaws.{closed_of, of_closed, sides, of_sides}

abbrev pub pruned : Held → Held
pruned = trim prunes_edge prunes_root

unless_again : (d b : Bool) → unless d b ≡ unless d (unless d b)
unless_again true b = refl
unless_again false b = refl

pub pruned-again : (v : Held) → pruned v ≡ pruned (pruned v)
pruned-again v = λ i. record {
  history = v.history;
  edge = λ p q. unless_again (prunes_edge v.history p q) (v.edge p q) i;
  root = λ q. unless_again (prunes_root v.history q) (v.root q) i;
}

-- what was pruned stays as it is when it is pruned again
pub is_pruned : (s : Stored) (v : Held) → held s ≡ pruned v → IsPruned s
is_pruned s v e = e ∙ pruned-again v ∙ ap pruned (sym e)

-- d: the member is dropped; b: it was there; s: it is a new one
drop_new : (d b s : Bool) → b ≡ unless d b → (IsTrue s → IsTrue d) → b ≡ unless d (b || s)
drop_new true b s e f = e
drop_new false b true e f = let h : IsTrue false = f refl in cc
drop_new false true false e f = refl
drop_new false false false e f = refl

keep_new : (d b s : Bool) → b ≡ unless d b → (IsTrue s → IsTrue d → ⊥) → (b || s) ≡ unless d (b || s)
keep_new false b s e f = refl
keep_new true true s e f = e
keep_new true false true e f = absurd (f refl refl)
keep_new true false false e f = refl

module _ (v : Held) (e : v ≡ pruned v) where
  edge_here : (x y : Point) → v.edge x y ≡ unless (prunes_edge v.history x y) (v.edge x y)
  edge_here x y = λ i. (e i).edge x y

  root_here : (q : Point) → v.root q ≡ unless (prunes_root v.history q) (v.root q)
  root_here q = λ i. (e i).root q

  pub taken_roots : (roots : Points) → with_roots (roots_kept prunes_root v.history roots) v ≡ pruned (with_roots roots v)
  taken_roots roots = λ i. record {
    history = v.history;
    edge = λ x y. edge_here x y i;
    root = roots_kept prunes_root v.history roots;
  }

  not_closed_root : (y : Point) → IsTrue (v.root y) → fate_in v.history y ≡ Closed → ⊥
  not_closed_root y r c =
      let d : prunes_root v.history y ≡ true = of_closed (fate_in v.history y) c in
      let gone : v.root y ≡ unless true (v.root y) = root_here y ∙ ap (λ b. unless b (v.root y)) d in
      cc

  module _ (p : Point) where
    pub touch_live : fate_in v.history p ≢ Closed → touched p v ≡ pruned (touched p v)
    touch_live n = λ i. record {
      history = v.history;
      edge = λ x y. edge_here x y i;
      root = λ q. keep_new (prunes_root v.history q) (v.root q) (same_point q p) (root_here q) (λ s d. n (ap (fate_in v.history) (sym (is_same q p s)) ∙ closed_of (fate_in v.history q) d)) i;
    }

    source : (x y : Point) → IsTrue (edges_to p v.root x y) → fate_in v.history x ≡ fate_in v.history p
    source x y s = ap (fate_in v.history) (is_same x p (and_left (same_point x p) _ s))

    pub depend_past : (fate_in v.history p ≡ Closed) ⊎ (fate_in v.history p ≡ Fallen) → v ≡ pruned (depended p v)
    depend_past c = λ i. record {
      history = v.history;
      edge = λ x y. drop_new (prunes_edge v.history x y) (v.edge x y) (edges_to p v.root x y) (edge_here x y)
          (λ s. of_sides (fate_in v.history x) (fate_in v.history y) (inl (⊎_elim (λ k. inl (source x y s ∙ k)) (λ k. inr (source x y s ∙ k)) c))) i;
      root = λ q. root_here q i;
    }

    target : (x y : Point) → IsTrue (edges_to p v.root x y) → IsTrue (v.root y)
    target x y s = and_left (v.root y) (not (same_point y p)) (and_right (same_point x p) (v.root y && not (same_point y p)) s)

    pub depend_live : fate_in v.history p ≢ Closed → fate_in v.history p ≢ Fallen → depended p v ≡ pruned (depended p v)
    depend_live m n = λ i. record {
      history = v.history;
      edge = λ x y. keep_new (prunes_edge v.history x y) (v.edge x y) (edges_to p v.root x y) (edge_here x y)
          (λ s d. ⊎_elim (λ c. ⊎_elim (λ k. m (sym (source x y s) ∙ k)) (λ k. n (sym (source x y s) ∙ k)) c) (λ c. not_closed_root y (target x y s) c)
          (sides (fate_in v.history x) (fate_in v.history y) d)) i;
      root = λ q. root_here q i;
    }
