-- What trimmed views lead to, on settled facts, is what the untrimmed ones hold.
use Rattle.std.proofs.Common.{◌≡◌, ◌⊎◌, inl, inr, ◌↔◌, Bool, true, false, IsTrue, Option, Some, None, refl, sym, ap, ◌∙◌}
use Rattle.tau_history.specs.Timeline.{Timeline}
use Rattle.tau_history.specs.declared.fate.Fate.TheVariants.{Ahead, Closed}
use Rattle.tau_history.proofs.Later.{law_closed}
use Rattle.tau_points.specs.declared.point.Point.{Point}
use Rattle.tau_view.specs.Held.{Held, Histories, Points, AllPrecede, fate_by, fate_in, only}
use Rattle.tau_view.specs.Trim.{EdgeTest, RootTest, unless, trim, DropsSettledEdges, DropsClosedRoots}
use Rattle.tau_view.specs.Past.{SomeFallen, SomeNotFirm, Settled}
use Rattle.tau_view.specs.Laws.{LosesClosed}
use Rattle.tau_view.proofs.Settled.{fallen_ignores_trim, not_firm_ignores_trim}

-- a point that is Closed is Closed under later histories
closed_stays : (hs ks : Histories) (q : Point) → AllPrecede hs ks → fate_in hs q ≡ Closed → fate_in ks q ≡ Closed
closed_stays hs ks q later e = by_history (hs q.who) refl where
  by_history : (o : Option Timeline) → hs q.who ≡ o → fate_in ks q ≡ Closed
  by_history None n = absurd (let a : Ahead ≡ Closed = ap (λ o. fate_by o q) (sym n) ∙ e in cc)
  by_history (Some a) s =
      let p = later q.who a s in
      ap (λ o. fate_by o q) p.is ∙ law_closed a p.later q.interval q.incarnation p.precedes (ap (λ o. fate_by o q) (sym s) ∙ e)

-- a set that loses nothing
loses_none : (v : Held) (P : Points) → LosesClosed v.history P P
loses_none v P = record { within = λ q h. h; lost = λ q h. inl h }

module _ (drops_edge : EdgeTest) (drops_root : RootTest) (settled_edges : DropsSettledEdges drops_edge) (closed_roots : DropsClosedRoots drops_edge drops_root) where
  -- the roots that trimming takes are Closed, also by later histories
  roots_lose : (v w : Held) → AllPrecede w.history v.history → LosesClosed v.history w.root (trim drops_edge drops_root w).root
  roots_lose v w later = record { within = within; lost = lost } where
    within : (q : Point) → IsTrue (unless (drops_root w.history q) (w.root q)) → IsTrue (w.root q)
    within q h = by_test (drops_root w.history q) h where
      by_test : (d : Bool) → IsTrue (unless d (w.root q)) → IsTrue (w.root q)
      by_test true k = cc
      by_test false k = k

    lost : (q : Point) → IsTrue (w.root q) → IsTrue (unless (drops_root w.history q) (w.root q)) ⊎ (fate_in v.history q ≡ Closed)
    lost q h = by_test (drops_root w.history q) refl where
      by_test : (d : Bool) → drops_root w.history q ≡ d → IsTrue (unless (drops_root w.history q) (w.root q)) ⊎ (fate_in v.history q ≡ Closed)
      by_test true e = inr (closed_stays w.history v.history q later (closed_roots w.history q e).closed)
      by_test false e = inl (ap (λ d. unless d (w.root q)) e ∙ h)

  -- a Fallen point in the past of the own point, and in that of a message's roots
  pub own_fallen : (v : Held) (me : Point) → Settled v → SomeFallen (trim drops_edge drops_root v) (only me) ↔ SomeFallen v (only me)
  own_fallen v me s = fallen_ignores_trim drops_edge drops_root settled_edges v (only me) (only me) s (loses_none v (only me))

  pub roots_fallen : (v w : Held) → Settled v → AllPrecede w.history v.history → SomeFallen (trim drops_edge drops_root v) (trim drops_edge drops_root w).root ↔ SomeFallen v w.root
  roots_fallen v w s later = fallen_ignores_trim drops_edge drops_root settled_edges v w.root (trim drops_edge drops_root w).root s (roots_lose v w later)

  -- a point in the past of the own point that isn't firm
  pub own_not_firm : (v : Held) (me : Point) → Settled v → SomeNotFirm (trim drops_edge drops_root v) (only me) ↔ SomeNotFirm v (only me)
  own_not_firm v me s = not_firm_ignores_trim drops_edge drops_root settled_edges v (only me) (only me) s (loses_none v (only me))
