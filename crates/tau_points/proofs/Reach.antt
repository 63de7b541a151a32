-- The laws of what is reached, and what a search keeps.
use Rattle.std.proofs.lemmas.List.{get_or_default, get_or_append_left}
use Rattle.std.proofs.lemmas.List.Quantifiers.{all_pairs_push}
use Rattle.std.proofs.Common.{◌≡◌, ◌<◌, ◌⊎◌, arith, length, get_or, length-append, List, [], ◌∷◌, ◌++◌, refl, sym, ◌∙◌, inl, inr, ⊎_elim, subst, ap}
use Rattle.std.specs.List.{Contains, AllPairs}
use Rattle.tau_points.specs.Reach.{Reach, start, next, IsClosedUnder, Path, SimplePath, LeadsAlong, HasDecidableEquality}
use Rattle.tau_points.specs.ReachLaws.{IsLeast, IsMonotone, ReachesUnion, IsNested, IsRestricted, IsReachedByPath, IsReachedBySimplePath}
use Rattle.tau_points.proofs.Membership.{Contains-head, Contains-later, Contains-none, Contains-cons_cases}

module _ {A : Type 0} where
  pub closed : (L : A → A → Type 0) (P : A → Type 0) → IsClosedUnder L P (Reach L P)
  closed L P = record { starts = λ x p. start p; follows = λ x y r l. next r l }

  pub least : (L : A → A → Type 0) (P H : A → Type 0) → IsLeast L P H
  least L P H c x (start p) = c.starts x p
  least L P H c y (next {x = x} r l) = c.follows x y (least L P H c x r) l

  pub monotone : (L M : A → A → Type 0) (P Q : A → Type 0) → IsMonotone L M P Q
  monotone L M P Q links starts = least L P (Reach M Q) (record { starts = λ x p. start (starts x p); follows = λ x y r l. next r (links x y l) })

  pub nested : (L : A → A → Type 0) (P Q : A → Type 0) → IsNested L P Q
  nested L P Q within = least L Q (Reach L P) (record { starts = within; follows = λ x y r l. next r l })

  pub union : (L : A → A → Type 0) (P Q : A → Type 0) → ReachesUnion L P Q
  union L P Q x = (
    least L (λ z. P z ⊎ Q z) (λ z. Reach L P z ⊎ Reach L Q z)
        (record { starts = λ z c. ⊎_elim (λ p. inl (start p)) (λ q. inr (start q)) c; follows = λ y z c l. ⊎_elim (λ r. inl (next r l)) (λ r. inr (next r l)) c }) x,
    λ c. ⊎_elim (λ r. monotone L L P (λ z. P z ⊎ Q z) (λ y z l. l) (λ z p. inl p) x r) (λ r. monotone L L Q (λ z. P z ⊎ Q z) (λ y z l. l) (λ z q. inr q) x r) c,
  )

  -- in a set that L keeps, links that M has too reach by M
  along : (L M : A → A → Type 0) (P H : A → Type 0) → IsClosedUnder L P H → ((x y : A) → H x → L x y → M x y) → (x : A) → Reach L P x → H x × Reach M P x
  along L M P H c same = least L P (λ x. H x × Reach M P x) (record { starts = λ x p. (c.starts x p, start p); follows = λ x y h l. (c.follows x y h.0 l, next h.1 (same x y h.0 l)) })

  pub restricted : (L M : A → A → Type 0) (P H : A → Type 0) → IsRestricted L M P H
  restricted L M P H c same x = (
    (λ r. (along L M P H c (λ y z h. (same y z h).0) x r).1, λ r. (along M L P H back (λ y z h. (same y z h).1) x r).1),
    λ r. (along L M P H c (λ y z h. (same y z h).0) x r).0,
  ) where
    back : IsClosedUnder M P H
    back = record { starts = c.starts; follows = λ y z h m. c.follows y z h ((same y z h).1 m) }

  -- paths
  leads_on : (L : A → A → Type 0) (x : A) (xs : List A) (y z : A) → LeadsAlong L x xs y → L y z → LeadsAlong L x (xs ++ z ∷ []) z
  leads_on L x [] y z e l = (subst (λ (w : A). L w z) (sym e) l, refl)
  leads_on L x (w ∷ ws) y z a l = (a.0, leads_on L w ws y z a.1 l)

  pub path_of : (L : A → A → Type 0) (P : A → Type 0) (y : A) → Reach L P y → Path L P y
  path_of L P y (start p) = record { first = y; rest = []; begins = p; leads = refl }
  path_of L P y (next {x = x} r l) =
      let before = path_of L P x r in
      record { first = before.first; rest = before.rest ++ y ∷ []; begins = before.begins; leads = leads_on L before.first before.rest x y before.leads l }

  reach_along : (L : A → A → Type 0) (P : A → Type 0) (x : A) (xs : List A) (y : A) → Reach L P x → LeadsAlong L x xs y → Reach L P y
  reach_along L P x [] y r e = subst (Reach L P) e r
  reach_along L P x (z ∷ zs) y r a = reach_along L P z zs y (next r a.0) a.1

  pub reach_of : (L : A → A → Type 0) (P : A → Type 0) (y : A) → Path L P y → Reach L P y
  reach_of L P y p = reach_along L P p.first p.rest y (start p.begins) p.leads

  pub by_path : (L : A → A → Type 0) (P : A → Type 0) → IsReachedByPath L P
  by_path L P y = (path_of L P y, reach_of L P y)

  -- the path to an item of a path
  cut : (L : A → A → Type 0) (x : A) (xs : List A) (y z : A) → LeadsAlong L x xs y → Contains (x ∷ xs) z → (ys : List A) × (zs : List A) × (xs ≡ ys ++ zs) × LeadsAlong L x ys z
  cut L x [] y z a c = ([], [], refl, ⊎_elim (λ (e : z ≡ x). sym e) (λ h. absurd (Contains-none z h)) (Contains-cons_cases x [] z c))
  cut L x (w ∷ ws) y z a c =
      ⊎_elim (λ (e : z ≡ x). ([], w ∷ ws, refl, sym e))
      (λ h. let rest = cut L w ws y z a.1 h in (w ∷ rest.0, rest.1, ap (λ (l : List A). w ∷ l) rest.2, (a.0, rest.3)))
      (Contains-cons_cases x (w ∷ ws) z c)

  AllPairs-front : (R : A → A → Type 0) (xs ys : List A) → AllPairs R (xs ++ ys) → AllPairs R xs
  AllPairs-front R xs ys all i j d less below =
      let within : j < length (xs ++ ys) = omega (arith, length-append xs ys) in
      let at : get_or (xs ++ ys) i d ≡ get_or xs i d = get_or_append_left xs ys d i (omega arith) in
      let to : get_or (xs ++ ys) j d ≡ get_or xs j d = get_or_append_left xs ys d j below in
      rw at at (rw to at (all i j d less within))

  -- whether an item stands in a list, where equality is decidable
  member : HasDecidableEquality A → (xs : List A) (z : A) → Contains xs z ⊎ ¬ Contains xs z
  member same [] z = inr (Contains-none z)
  member same (x ∷ xs) z =
      ⊎_elim (λ (e : z ≡ x). inl (subst (λ (w : A). Contains (x ∷ xs) w) (sym e) (Contains-head x xs)))
      (λ other. ⊎_elim (λ h. inl (Contains-later x xs z h)) (λ none. inr (λ c. ⊎_elim (λ e. other e) (λ h. none h) (Contains-cons_cases x xs z c))) (member same xs z))
      (same z x)

  distinct_push : (xs : List A) (z : A) → ¬ Contains xs z → AllPairs (λ (a b : A). ¬ (a ≡ b)) xs → AllPairs (λ (a b : A). ¬ (a ≡ b)) (xs ++ z ∷ [])
  distinct_push xs z none all = all_pairs_push (λ (a b : A). ¬ (a ≡ b)) xs z all (λ k d below e. none (k, below, get_or_default xs k z d below ∙ e))

  next_simple : (L : A → A → Type 0) (P : A → Type 0) → HasDecidableEquality A → (x y : A) → SimplePath L P x → L x y → SimplePath L P y
  next_simple L P same x y s l =
      ⊎_elim
      (λ here. let part = cut L s.path.first s.path.rest x y s.path.leads here in
      let D : List A → Type 0 = λ xs. AllPairs (λ (a b : A). ¬ (a ≡ b)) (s.path.first ∷ xs) in
      record {
        path = record { first = s.path.first; rest = part.0; begins = s.path.begins; leads = part.3 };
        distinct = AllPairs-front (λ (a b : A). ¬ (a ≡ b)) (s.path.first ∷ part.0) part.1 (subst D part.2 s.distinct);
      })
      (λ none. record {
        path = record { first = s.path.first; rest = s.path.rest ++ y ∷ []; begins = s.path.begins; leads = leads_on L s.path.first s.path.rest x y s.path.leads l };
        distinct = distinct_push (s.path.first ∷ s.path.rest) y none s.distinct;
      })
      (member same (s.path.first ∷ s.path.rest) y)

  pub simple_path_of : (L : A → A → Type 0) (P : A → Type 0) → HasDecidableEquality A → (y : A) → Reach L P y → SimplePath L P y
  simple_path_of L P same y (start p) = record {
    path = record { first = y; rest = []; begins = p; leads = refl };
    distinct = λ i j d less below. absurd (omega arith);
  }
  simple_path_of L P same y (next {x = x} r l) = next_simple L P same x y (simple_path_of L P same x r) l

  pub by_simple_path : (L : A → A → Type 0) (P : A → Type 0) → IsReachedBySimplePath L P
  by_simple_path L P same y = (simple_path_of L P same y, λ s. reach_of L P y s.path)
