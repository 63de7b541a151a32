-- The second law: on settled facts trimming keeps whether a known past has a Fallen point, and one that isn't firm.
use Rattle.std.proofs.Common.{◌≡◌, ◌⊎◌, ⊎_elim, Bool, true, false, IsTrue, IsFalse, refl, sym, subst}
use Rattle.tau_history.specs.declared.fate.Fate.{Fate}
use Rattle.tau_history.specs.declared.fate.Fate.TheVariants.{Closed, Fallen}
use Rattle.tau_points.specs.declared.point.Point.{Point}
use Rattle.tau_points.specs.Reach.{start, next}
use Rattle.tau_view.specs.Held.{Held, Points, fate_in, is_firm, only}
use Rattle.tau_view.specs.Trim.{EdgeTest, RootTest, unless, trim, DropsSettledEdges}
use Rattle.tau_view.specs.Past.{Link, edge, before, KnownPast, SomeFallen, SomeNotFirm}
use Rattle.tau_view.specs.Laws.{LosesClosed, FallenIgnoresTrim, NotFirmIgnoresTrim, SettledUnderTrim}
use Rattle.tau_view.proofs.Sets.{same_self}

kept : (d b : Bool) → IsTrue (unless d b) → IsTrue b
kept true b h = cc
kept false b h = h

-- how a point that some link leads on from has to be
data Kept (v t : Held) (Q : Points) (q : Point) : Type 0 where
  same : KnownPast t Q q → Kept v t Q q
  behind : (r : Point) → fate_in v.history r ≡ Closed → KnownPast v (only r) q → Kept v t Q q
  fell : SomeFallen t Q → Kept v t Q q

-- a point is itself
firm_not_fallen : (f : Fate) → f ≡ Fallen → IsTrue (is_firm f) → ⊥
firm_not_fallen f e h = let g : IsTrue (is_firm Fallen) = subst (λ x. IsTrue (is_firm x)) e h in cc

module _ (drops_edge : EdgeTest) (drops_root : RootTest) where
  -- a link of the trimmed facts is one of the facts
  link_kept : (v : Held) (p q : Point) → Link (trim drops_edge drops_root v) p q → Link v p q
  link_kept v p q (edge e) = edge (kept (drops_edge v.history p q) (v.edge p q) e)
  link_kept v p q (before a b c) = before a b c

  pub past_kept : (v : Held) (P Q : Points) → ((q : Point) → IsTrue (Q q) → IsTrue (P q)) → (q : Point) → KnownPast (trim drops_edge drops_root v) Q q → KnownPast v P q
  past_kept v P Q f q (start h) = start (f q h)
  past_kept v P Q f q (next {x = x} r l) = next (past_kept v P Q f x r) (link_kept v x q l)

  pub settled_under_trim : SettledUnderTrim (trim drops_edge drops_root)
  settled_under_trim v s p q c r = s p q c (past_kept v (only p) (only p) (λ _ h. h) q r)

  module _ (settled_edges : DropsSettledEdges drops_edge) where
    -- a link that leads on from a point of the trimmed past
    follow : (v : Held) (Q : Points) (x q : Point) → KnownPast (trim drops_edge drops_root v) Q x → Link v x q → Kept v (trim drops_edge drops_root v) Q q
    follow v Q x q r (before a b c) = same (next r (before a b c))
    follow v Q x q r (edge e) = by_test (drops_edge v.history x q) refl where
      from_closed : fate_in v.history x ≡ Closed → Kept v (trim drops_edge drops_root v) Q q
      from_closed c = behind x c (next (start (same_self x)) (edge e))

      from_fallen : fate_in v.history x ≡ Fallen → Kept v (trim drops_edge drops_root v) Q q
      from_fallen f = fell (x, record { in_past = r; is_fallen = f })

      to_closed : fate_in v.history q ≡ Closed → Kept v (trim drops_edge drops_root v) Q q
      to_closed c = behind q c (start (same_self q))

      by_test : (d : Bool) → drops_edge v.history x q ≡ d → Kept v (trim drops_edge drops_root v) Q q
      by_test true t = ⊎_elim (λ s. ⊎_elim from_closed from_fallen s) to_closed (settled_edges v.history x q t)
      by_test false t = same (next r (edge (subst (λ d. IsTrue (unless d (v.edge x q))) (sym t) e)))

    keeps : (v : Held) (P Q : Points) → LosesClosed v.history P Q → (q : Point) → KnownPast v P q → Kept v (trim drops_edge drops_root v) Q q
    keeps v P Q loses q (start h) = ⊎_elim (λ m. same (start m)) (λ c. behind q c (start (same_self q))) (loses.lost q h)
    keeps v P Q loses q (next {x = x} r l) = go (keeps v P Q loses x r) where
      go : Kept v (trim drops_edge drops_root v) Q x → Kept v (trim drops_edge drops_root v) Q q
      go (same k) = follow v Q x q k l
      go (behind c is k) = behind c is (next k l)
      go (fell s) = fell s

    pub fallen_ignores_trim : FallenIgnoresTrim (trim drops_edge drops_root)
    fallen_ignores_trim v P Q settled loses = (to_full, to_trimmed) where
      to_full : SomeFallen (trim drops_edge drops_root v) Q → SomeFallen v P
      to_full s = (s.0, record { in_past = past_kept v P Q loses.within s.0 s.1.in_past; is_fallen = s.1.is_fallen })

      to_trimmed : SomeFallen v P → SomeFallen (trim drops_edge drops_root v) Q
      to_trimmed s = go (keeps v P Q loses s.0 s.1.in_past) where
        go : Kept v (trim drops_edge drops_root v) Q s.0 → SomeFallen (trim drops_edge drops_root v) Q
        go (same k) = (s.0, record { in_past = k; is_fallen = s.1.is_fallen })
        go (behind c is k) = absurd (firm_not_fallen _ s.1.is_fallen (settled c s.0 is k))
        go (fell t) = t

    pub not_firm_ignores_trim : NotFirmIgnoresTrim (trim drops_edge drops_root)
    not_firm_ignores_trim v P Q settled loses = (to_full, to_trimmed) where
      to_full : SomeNotFirm (trim drops_edge drops_root v) Q → SomeNotFirm v P
      to_full s = (s.0, record { in_past = past_kept v P Q loses.within s.0 s.1.in_past; not_firm = s.1.not_firm })

      to_trimmed : SomeNotFirm v P → SomeNotFirm (trim drops_edge drops_root v) Q
      to_trimmed s = go (keeps v P Q loses s.0 s.1.in_past) where
        go : Kept v (trim drops_edge drops_root v) Q s.0 → SomeNotFirm (trim drops_edge drops_root v) Q
        go (same k) = (s.0, record { in_past = k; not_firm = s.1.not_firm })
        go (behind c is k) = absurd (let firm = settled c s.0 is k in let not = s.1.not_firm in cc)
        go (fell t) = (t.0, record { in_past = t.1.in_past; not_firm = subst (λ f. IsFalse (is_firm f)) (sym t.1.is_fallen) refl })
