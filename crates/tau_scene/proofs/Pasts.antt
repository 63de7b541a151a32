-- Pasts that hold a rolled-back point.
use Rattle.std.proofs.Common.{◌≡◌, ◌⊎◌, ◌↔◌, inl, inr, ⊎_elim, ℕ, List, [], ◌∷◌, length, get_or, All, Option, Some, None, refl, sym, ap, ◌∙◌, subst, arith}
use Rattle.std.specs.Prelude.{Contains, slice_get}
use Rattle.std.proofs.lemmas.List.{get_or_default}
use Rattle.std.proofs.lemmas.Option.{slice_get_within, slice_get-get_or, slice_get_cases, get_or_from_slice_get}
use Rattle.tau_points.specs.declared.point.Point.{Point}
use Rattle.tau_points.specs.Members.{SameMembers}
use Rattle.tau_points.specs.Reach.{start, next, LeadsAlong}
use Rattle.tau_points.proofs.Reach.{nested, path_of, reach_of}
use Rattle.tau_explain.specs.declared.chains.chained.Chained.{Chained}
use Rattle.tau_explain.specs.Chains.Chains.{IsChain, HasNoChain}
use Rattle.tau_trace.specs.Run.{Run}
use Rattle.tau_trace.specs.Points.{IsOpeningPoint}
use Rattle.tau_past.specs.Pasts.{Link, Is, Everywhere, Past}
use Rattle.tau_past.specs.Safety.{RolledBack}
use Rattle.tau_past.proofs.Safety.{nothing_at_opening, no_link}
use Rattle.tau_past.proofs.Endings.{falls_within}
use Rattle.tau_explain.specs.Links.Links.{IsMade, IsChainFrom, AreChainsFrom, points_of}
use Rattle.tau_scene.specs.Causes.Looks.{RestsOnFallen}
use Rattle.tau_scene.specs.Causes.Inner.Resting.{HasChainAt}

module _ (T : Run) where
  -- a step was made at each rolled-back point
  pub fallen_made : (q : Point) → RolledBack T q → IsMade T q
  fallen_made q f = record { place = f.place; acts = (falls_within T q.who f.place f.falls).1; at_point = f.at_point }

  -- a point rests on a rolled-back one: it is one, or it leads to a point that does
  by_path : (p root : Point) → RolledBack T root → (first : Point) (rest : List Point) → Is p first → LeadsAlong (Link T Everywhere) first rest root → RolledBack T p ⊎ ((q : Point) × Link T Everywhere p q × RestsOnFallen T q)
  by_path p root f first [] b a = inl (subst (RolledBack T) (sym a ∙ b) f)
  by_path p root f first (z ∷ zs) b a = inr (
    z,
    subst (λ (x : Point). Link T Everywhere x z) b a.0,
    record { root = root; in_past = reach_of (Link T Everywhere) (Is z) root (record { first = z; rest = zs; begins = refl; leads = a.1 }); rolled_back = f },
  )

  pub rest_cases : (p : Point) → RestsOnFallen T p → RolledBack T p ⊎ ((q : Point) × Link T Everywhere p q × RestsOnFallen T q)
  rest_cases p r =
      let path = path_of (Link T Everywhere) (Is p) r.root r.in_past in
      by_path p r.root r.rolled_back path.first path.rest path.begins path.leads

  pub rest_on : (p q : Point) → Link T Everywhere p q → RestsOnFallen T q → RestsOnFallen T p
  rest_on p q l r = record {
    root = r.root;
    in_past = nested (Link T Everywhere) (Is p) (Is q) (λ z e. subst (Past T p) (sym e) (next (start refl) l)) r.root r.in_past;
    rolled_back = r.rolled_back;
  }

  -- nothing is rolled back in the past of an opening point
  pub opening_rests_not : (q : Point) → IsOpeningPoint T q → ¬ RestsOnFallen T q
  opening_rests_not q o r = ⊎_elim
      (λ f. nothing_at_opening T q f.place o f.at_point)
      (λ x. no_link T q x.0 o x.1)
      (rest_cases q r)

  module _ (fallen : List Point) (told : (q : Point) → Contains fallen q ↔ RolledBack T q) where
    -- no opening point is rolled back
    pub no_opening_fallen : All (λ q. ¬ IsOpeningPoint T q) fallen
    no_opening_fallen i d lt o =
        let q = get_or fallen i d in
        let f = (told q).0 (i, lt, get_or_default fallen i q d lt) in
        nothing_at_opening T q f.place o f.at_point

    -- chains to rolled-back points
    chain_rests : (p : Point) (points : List Point) → IsChain (Link T Everywhere) (Is p) (Contains fallen) points → RestsOnFallen T p
    chain_rests p points c = record {
      root = c.last;
      in_past = reach_of (Link T Everywhere) (Is p) c.last (record { first = c.first; rest = c.rest; begins = c.begins; leads = c.leads });
      rolled_back = (told c.last).0 c.ends;
    }

    no_chain_rests_not : (p : Point) → HasNoChain (Link T Everywhere) (Is p) (Contains fallen) → ¬ RestsOnFallen T p
    no_chain_rests_not p none r =
        let path = path_of (Link T Everywhere) (Is p) r.root r.in_past in
        none (path.first ∷ path.rest) (record { first = path.first; rest = path.rest; last = r.root; is = refl; begins = path.begins; leads = path.leads; ends = (told r.root).1 r.rolled_back })

    module _ (points : List Point) (chains : List (Option (List Chained))) (are : AreChainsFrom T points (Contains fallen) chains) where
      with_chain_rests : (q : Point) → HasChainAt points chains (length points) q → Contains points q × RestsOnFallen T q
      with_chain_rests q h = (
        (h.at, h.below, get_or_from_slice_get points h.at q q h.point_is),
        chain_rests q (points_of h.chain) (are.each h.at q (Some h.chain) h.point_is h.chain_is).first.chain,
      )

      rests_by : (q : Point) (k : ℕ) (o : Option (List Chained)) → slice_get points k ≡ Some q → slice_get chains k ≡ Some o → IsChainFrom T (Contains fallen) q o → RestsOnFallen T q → HasChainAt points chains (length points) q
      rests_by q k None at is none r = absurd (no_chain_rests_not q none r)
      rests_by q k (Some chain) at is some r = record { at = k; below = slice_get_within points k q at; chain = chain; point_is = at; chain_is = is }

      rests_with_chain : (q : Point) → Contains points q → RestsOnFallen T q → HasChainAt points chains (length points) q
      rests_with_chain q h r =
          let at : slice_get points h.0 ≡ Some q = slice_get-get_or points h.0 q h.1 ∙ ap (λ (z : Point). Some z) h.2 in
          ⊎_elim
          (λ x. rests_by q h.0 x.0 at x.2 (are.each h.0 q x.0 at x.2) r)
          (λ x. absurd (omega (arith, x.0, h.1, are.count)))
          (slice_get_cases chains h.0).1

      -- the points that have a chain are those that rest on a rolled-back one
      pub resting_told : (with set : List Point) → ((q : Point) → Contains with q ↔ HasChainAt points chains (length points) q) → SameMembers with set → (q : Point) → Contains set q ↔ (Contains points q × RestsOnFallen T q)
      resting_told with set picked same q = (
        λ h. with_chain_rests q ((picked q).0 ((same q).1 h)),
        λ h. (same q).0 ((picked q).1 (rests_with_chain q h.0 h.1)),
      )
