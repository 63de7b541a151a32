-- The links of stored facts, and what a search along them finds.
use Rattle.std.proofs.Common.{◌≡◌, ◌≢◌, ℕ, zero, suc, ◌-◌, ◌⊎◌, inl, inr, ⊎_elim, ◌↔◌, Bool, true, false, IsTrue, Option, Some, None, List, [], ◌∷◌, ◌++◌, refl, sym, ap, ◌∙◌, subst, eqb, cond, arith}
use Rattle.std.specs.Prelude.{Contains}
use Rattle.std.specs.Option.{option_map}
use Rattle.std.proofs.lemmas.Bool.Decides.{nat_tests}
use Rattle.std.proofs.lemmas.List.Elements.{Contains-append_left, Contains-push, Contains-push_cases}
use Rattle.tau_history.specs.declared.fate.Fate.{Fate}
use Rattle.tau_history.specs.declared.fate.Fate.TheVariants.{Ahead, Open, Stable, Closed, Fallen}
use Rattle.tau_points.specs.declared.point.Point.{Point}
use Rattle.tau_points.specs.Members.{AddsAll}
use Rattle.tau_points.specs.Reach.{Reach, start, next, Leads}
use Rattle.tau_points.proofs.Reach.{monotone}
use Rattle.tau_view.specs.Held.{Held, Histories, Points, fate_in}
use Rattle.tau_view.specs.Past.{Link, edge, before, OpenLink, number_in, KnownPast, PastUpToClosed}
use Rattle.tau_view.specs.Inner.Before.{before_in}
use Rattle.tau_view.specs.Stored.{Stored, point_in, pair_in, held}
use Rattle.tau_view.proofs.Sets.{point_in-Contains, Contains-point_in, pair_in-Contains, Contains-pair_in}

-- the point that the link to the interval before leads to
before_at : (hs : Histories) (p : Point) (i : ℕ) → p.interval ≡ suc i → before_in hs p ≡ option_map (λ n. record { who = p.who; interval = i; incarnation = n }) (number_in (hs p.who) i)
before_at hs p i e =
    let t : eqb p.interval 0 ≡ false = grind (arith, nat_tests) in
    let less : p.interval - 1 ≡ i = omega arith in
    rw (t, less) refl

before_none : (hs : Histories) (p : Point) → p.interval ≡ zero → before_in hs p ≡ None
before_none hs p e = let t : eqb p.interval 0 ≡ true = grind (arith, nat_tests) in rw t refl

link_before : (v : Held) (p q : Point) → before_in v.history p ≡ Some q → Link v p q
link_before v p q e = by_interval p.interval refl where
  by_number : (i : ℕ) → p.interval ≡ suc i → (o : Option ℕ) → number_in (v.history p.who) i ≡ o → option_map (λ n. record { who = p.who; interval = i; incarnation = n }) o ≡ Some q → Link v p q
  by_number i s None is f = absurd (cc)
  by_number i s (Some n) is f = let here : record { who = p.who; interval = i; incarnation = n } ≡ q = cc in before s is (sym here)

  by_interval : (k : ℕ) → p.interval ≡ k → Link v p q
  by_interval zero z = absurd (let none = before_none v.history p z in cc)
  by_interval (suc i) s = by_number i s (number_in (v.history p.who) i) refl (sym (before_at v.history p i s) ∙ e)

before_link : (v : Held) (p q : Point) (i n : ℕ) → p.interval ≡ suc i → number_in (v.history p.who) i ≡ Some n → q ≡ record { who = p.who; interval = i; incarnation = n } → before_in v.history p ≡ Some q
before_link v p q i n s is e = before_at v.history p i s ∙ ap (option_map (λ m. record { who = p.who; interval = i; incarnation = m })) is ∙ ap Some (sym e)

link_of : (s : Stored) (p q : Point) → Contains s.edges (p, q) ⊎ (before_in (held s).history p ≡ Some q) → Link (held s) p q
link_of s p q (inl c) = edge (Contains-pair_in s.edges p q c)
link_of s p q (inr e) = link_before (held s) p q e

of_link : (s : Stored) (p q : Point) → Link (held s) p q → Contains s.edges (p, q) ⊎ (before_in (held s).history p ≡ Some q)
of_link s p q (edge e) = inl (pair_in-Contains s.edges p q e)
of_link s p q (before {i = i} {n = n} a b c) = inr (before_link (held s) p q i n a b c)

-- what was pushed where there is no interval before
pub links_none : (s : Stored) (p : Point) (old new : List Point) → before_in (held s).history p ≡ None → AddsAll (Leads s.edges p) old new → AddsAll (Link (held s) p) old new
links_none s p old new none a q = (forth, back) where
  forth : Contains new q → Contains old q ⊎ Link (held s) p q
  forth h = ⊎_elim (λ o. inl o) (λ c. inr (link_of s p q (inl c))) ((a q).0 h)

  back : Contains old q ⊎ Link (held s) p q → Contains new q
  back h = (a q).1 (⊎_elim (λ o. inl o) (λ l. inr (⊎_elim (λ c. c) (λ e. absurd (cc)) (of_link s p q l))) h)

-- and where there is one
pub links_some : (s : Stored) (p b : Point) (old mid new : List Point) → before_in (held s).history p ≡ Some b → AddsAll (Leads s.edges p) old mid → new ≡ mid ++ b ∷ [] → AddsAll (Link (held s) p) old new
links_some s p b old mid new some a e = subst (AddsAll (Link (held s) p) old) (sym e) (λ q. (forth q, back q)) where
  forth : (q : Point) → Contains (mid ++ b ∷ []) q → Contains old q ⊎ Link (held s) p q
  forth q h =
      ⊎_elim (λ m. ⊎_elim (λ o. inl o) (λ c. inr (link_of s p q (inl c))) ((a q).0 m))
      (λ is. inr (link_of s p q (inr (some ∙ ap Some is)))) (Contains-push_cases mid b q h)

  back : (q : Point) → Contains old q ⊎ Link (held s) p q → Contains (mid ++ b ∷ []) q
  back q h =
      ⊎_elim (λ o. Contains-append_left mid (b ∷ []) q ((a q).1 (inl o)))
      (λ l. ⊎_elim (λ c. Contains-append_left mid (b ∷ []) q ((a q).1 (inr c)))
      (λ is. let same : b ≡ q = cc in subst (Contains (mid ++ b ∷ [])) same (Contains-push mid b)) (of_link s p q l)) h

-- from a point that isn't Closed
pub open_links : (v : Held) (p : Point) (old new : List Point) → fate_in v.history p ≢ Closed → AddsAll (Link v p) old new → AddsAll (OpenLink v p) old new
open_links v p old new n a q = (forth, back) where
  forth : Contains new q → Contains old q ⊎ OpenLink v p q
  forth h = ⊎_elim (λ o. inl o) (λ l. inr (record { link = l; open_source = n })) ((a q).0 h)

  back : Contains old q ⊎ OpenLink v p q → Contains new q
  back h = (a q).1 (⊎_elim (λ o. inl o) (λ l. inr l.link) h)

-- what a search from listed points finds
pub past_found : (v : Held) (from found : List Point) → ((q : Point) → Contains found q ↔ Reach (Link v) (Contains from) q) → (q : Point) → Contains found q ↔ KnownPast v (point_in from) q
past_found v from found f q = (
  λ c. monotone (Link v) (Link v) (Contains from) (λ x. IsTrue (point_in from x)) (λ x y l. l) (Contains-point_in from) q ((f q).0 c),
  λ r. (f q).1 (monotone (Link v) (Link v) (λ x. IsTrue (point_in from x)) (Contains from) (λ x y l. l) (point_in-Contains from) q r),
)

pub open_past_found : (v : Held) (from found : List Point) → ((q : Point) → Contains found q ↔ Reach (OpenLink v) (Contains from) q) → (q : Point) → Contains found q ↔ PastUpToClosed v (point_in from) q
open_past_found v from found f q = (
  λ c. monotone (OpenLink v) (OpenLink v) (Contains from) (λ x. IsTrue (point_in from x)) (λ x y l. l) (Contains-point_in from) q ((f q).0 c),
  λ r. (f q).1 (monotone (OpenLink v) (OpenLink v) (λ x. IsTrue (point_in from x)) (Contains from) (λ x y l. l) (point_in-Contains from) q r),
)
