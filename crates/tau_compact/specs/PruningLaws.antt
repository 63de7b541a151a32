-- What a pruned view drops is settled, and stays so.
use Rattle.std.specs.Prelude.{◌≡◌, ◌⊎◌, ℕ, Bool, true, false, ◌||◌, IsTrue, Option, Some, None}
use Rattle.std.proofs.Common.{inl, inr, ⊎_elim, refl, sym, ap, ◌∙◌, subst}
use Rattle.tau_history.specs.Timeline.{Timeline}
use Rattle.tau_history.specs.Order.{Precedes}
use Rattle.tau_history.specs.Fates.{fate}
use Rattle.tau_history.specs.declared.fate.Fate.{Fate}
use Rattle.tau_history.specs.declared.fate.Fate.TheVariants.{Ahead, Open, Stable, Closed, Fallen}
use Rattle.tau_history.proofs.Later.{law_closed, law_fallen}
use Rattle.tau_points.specs.declared.point.Point.{Point}
use Rattle.tau_view.specs.Held.{Histories, AllPrecede, fate_by, fate_in, is_closed, is_fallen}
use Rattle.tau_view.specs.Trim.{DropsSettledEdges, DropsWithEdges, DropsClosedRoots, DropsForGood}
use Rattle.tau_view.proofs.Sets.{or_cases, or_left, or_right}
use Rattle.tau_compact.specs.Pruning.{drops_between, prunes_edge, prunes_root}

pub closed_of : (f : Fate) → IsTrue (is_closed f) → f ≡ Closed
closed_of Ahead h = cc
closed_of Open h = cc
closed_of Stable h = cc
closed_of Closed h = refl
closed_of Fallen h = cc

fallen_of : (f : Fate) → IsTrue (is_fallen f) → f ≡ Fallen
fallen_of Ahead h = cc
fallen_of Open h = cc
fallen_of Stable h = cc
fallen_of Closed h = cc
fallen_of Fallen h = refl

pub of_closed : (f : Fate) → f ≡ Closed → IsTrue (is_closed f)
of_closed f e = subst (λ x. IsTrue (is_closed x)) (sym e) refl

of_fallen : (f : Fate) → f ≡ Fallen → IsTrue (is_fallen f)
of_fallen f e = subst (λ x. IsTrue (is_fallen x)) (sym e) refl

-- a fate that stays under later histories of a transactor stays under later histories of all
module _ (f : Fate) (not_ahead : Ahead ≡ f → ⊥) (law : (a b : Timeline) (i m : ℕ) → Precedes a b → fate a i m ≡ f → fate b i m ≡ f) where
  fate_stays : (hs ks : Histories) (q : Point) → AllPrecede hs ks → fate_in hs q ≡ f → fate_in ks q ≡ f
  fate_stays hs ks q later e = by_history (hs q.who) refl where
    by_history : (o : Option Timeline) → hs q.who ≡ o → fate_in ks q ≡ f
    by_history None n = absurd (not_ahead (ap (λ o. fate_by o q) (sym n) ∙ e))
    by_history (Some a) s =
        let p = later q.who a s in
        ap (λ o. fate_by o q) p.is ∙ law a p.later q.interval q.incarnation p.precedes (ap (λ o. fate_by o q) (sym s) ∙ e)

pub closed_stays : (hs ks : Histories) (q : Point) → AllPrecede hs ks → fate_in hs q ≡ Closed → fate_in ks q ≡ Closed
closed_stays = fate_stays Closed (λ e. cc) law_closed

pub fallen_stays : (hs ks : Histories) (q : Point) → AllPrecede hs ks → fate_in hs q ≡ Fallen → fate_in ks q ≡ Fallen
fallen_stays = fate_stays Fallen (λ e. cc) law_fallen

-- an edge is dropped for its source or for its target
pub sides : (from to : Fate) → IsTrue (drops_between from to) → ((from ≡ Closed) ⊎ (from ≡ Fallen)) ⊎ (to ≡ Closed)
sides from to h =
    ⊎_elim (λ s. inl (⊎_elim (λ c. inl (closed_of from c)) (λ d. inr (fallen_of from d)) (or_cases (is_closed from) (is_fallen from) s))) (λ c. inr (closed_of to c))
    (or_cases (is_closed from || is_fallen from) (is_closed to) h)

pub of_sides : (from to : Fate) → ((from ≡ Closed) ⊎ (from ≡ Fallen)) ⊎ (to ≡ Closed) → IsTrue (drops_between from to)
of_sides from to (inl (inl c)) = or_left (is_closed from || is_fallen from) (is_closed to) (or_left (is_closed from) (is_fallen from) (of_closed from c))
of_sides from to (inl (inr d)) = or_left (is_closed from || is_fallen from) (is_closed to) (or_right (is_closed from) (is_fallen from) (of_fallen from d))
of_sides from to (inr c) = or_right (is_closed from || is_fallen from) (is_closed to) (of_closed to c)

pub settled_edges : DropsSettledEdges prunes_edge
settled_edges hs p q h = sides (fate_in hs p) (fate_in hs q) h

pub closed_roots : DropsClosedRoots prunes_edge prunes_root
closed_roots hs q h =
    let closed = closed_of (fate_in hs q) h in
    record { closed = closed; edges = λ p. of_sides (fate_in hs p) (fate_in hs q) (inr closed) }

pub for_good : DropsForGood prunes_edge prunes_root
for_good = record { edge = edge_stays; root = root_stays } where
  edge_stays : (hs ks : Histories) (p q : Point) → AllPrecede hs ks → IsTrue (prunes_edge hs p q) → IsTrue (prunes_edge ks p q)
  edge_stays hs ks p q later h =
      of_sides (fate_in ks p) (fate_in ks q)
      (⊎_elim (λ s. inl (⊎_elim (λ c. inl (closed_stays hs ks p later c)) (λ d. inr (fallen_stays hs ks p later d)) s)) (λ c. inr (closed_stays hs ks q later c))
      (sides (fate_in hs p) (fate_in hs q) h))

  root_stays : (hs ks : Histories) (q : Point) → AllPrecede hs ks → IsTrue (prunes_root hs q) → IsTrue (prunes_root ks q)
  root_stays hs ks q later h = of_closed (fate_in ks q) (closed_stays hs ks q later (closed_of (fate_in hs q) h))
