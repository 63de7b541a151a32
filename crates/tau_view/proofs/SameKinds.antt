-- What trimming leaves of a decision.
use Rattle.std.proofs.Common.{◌≡◌, ◌⊎◌, inl, inr, ◌↔◌, Bool, true, false, IsTrue, Option, Some, None, refl, sym, ap, ◌∙◌}
use Rattle.tau_history.specs.Timeline.{Timeline}
use Rattle.tau_history.specs.declared.fate.Fate.{Fate}
use Rattle.tau_history.specs.declared.fate.Fate.TheVariants.{Ahead, Closed}
use Rattle.tau_history.proofs.Later.{law_closed}
use Rattle.tau_points.specs.declared.point.Point.{Point}
use Rattle.tau_view.specs.Held.{Held, Histories, Points, AllPrecede, fate_by, fate_in, only}
use Rattle.tau_view.specs.Trim.{EdgeTest, RootTest, unless, trim, DropsSettledEdges, DropsClosedRoots}
use Rattle.tau_view.specs.Past.{FallenIn, NotFirmIn, SomeFallen, SomeNotFirm, Settled}
use Rattle.tau_view.specs.Laws.{LosesClosed}
use Rattle.tau_view.specs.Stays.{IsPartOf}
use Rattle.tau_view.proofs.Settled.{fallen_ignores_trim, not_firm_ignores_trim}
use Rattle.tau_view.proofs.Stays.{fallen_stays, not_firm_stays}
use Rattle.tau_view.specs.declared.fate.verdict.Verdict.{Verdict}
use Rattle.tau_view.specs.declared.fate.verdict.Verdict.TheVariants.{Take, Drop, Fall}
use Rattle.tau_view.specs.declared.fate.freedom.Freedom.{Freedom}
use Rattle.tau_view.specs.declared.fate.freedom.Freedom.TheVariants.{Free, Bound}
use Rattle.tau_view.specs.Fate.Least.{IsLeast}
use Rattle.tau_view.specs.Fate.Decisions.{IsVerdict, IsFreedom}
use Rattle.tau_view.specs.Fate.DecisionKinds.{SameVerdictKind, both_take, both_drop, both_fall, SameFreedomKind, both_free, both_bound, VerdictKindIgnoresTrim, FreedomKindIgnoresTrim, VerdictPointStays, FreedomPointStays}

-- a point that is Closed is Closed under later histories
closed_stays : (hs ks : Histories) (q : Point) → AllPrecede hs ks → fate_in hs q ≡ Closed → fate_in ks q ≡ Closed
closed_stays hs ks q later e = by_history (hs q.who) refl where
  by_history : (o : Option Timeline) → hs q.who ≡ o → fate_in ks q ≡ Closed
  by_history None n = absurd (let a : Ahead ≡ Closed = ap (λ o. fate_by o q) (sym n) ∙ e in cc)
  by_history (Some a) s =
      let p = later q.who a s in
      ap (λ o. fate_by o q) p.is ∙ law_closed a p.later q.interval q.incarnation p.precedes (ap (λ o. fate_by o q) (sym s) ∙ e)

-- a set that loses nothing
same_points : (v : Held) (me : Point) → LosesClosed v.history (only me) (only me)
same_points v me = record { within = λ q h. h; lost = λ q h. inl h }

-- trimmed roots are roots
roots_left : (drops_edge : EdgeTest) (drops_root : RootTest) (w : Held) → IsPartOf (trim drops_edge drops_root w).root w.root
roots_left drops_edge drops_root w q h = by_test (drops_root w.history q) h where
  by_test : (d : Bool) → IsTrue (unless d (w.root q)) → IsTrue (w.root q)
  by_test true k = cc
  by_test false k = k

module _ (drops_edge : EdgeTest) (drops_root : RootTest) where
  pub verdict_point : VerdictPointStays (trim drops_edge drops_root)
  verdict_point v w me Take a = tt
  verdict_point v w me (Drop p) a = fallen_stays drops_edge drops_root v w.root (trim drops_edge drops_root w).root p (roots_left drops_edge drops_root w) a.1.holds
  verdict_point v w me (Fall p) a = fallen_stays drops_edge drops_root v (only me) (only me) p (λ q h. h) a.holds

  pub freedom_point : FreedomPointStays (trim drops_edge drops_root)
  freedom_point v me Free a = tt
  freedom_point v me (Bound p) a = not_firm_stays drops_edge drops_root v (only me) (only me) p (λ q h. h) a.holds

module _ (drops_edge : EdgeTest) (drops_root : RootTest) (settled_edges : DropsSettledEdges drops_edge) where
  pub freedom_kind : FreedomKindIgnoresTrim (trim drops_edge drops_root)
  freedom_kind v me Free Free s a b = both_free
  freedom_kind v me (Bound p) (Bound q) s a b = both_bound
  freedom_kind v me Free (Bound q) s a b =
      absurd (a ((not_firm_ignores_trim drops_edge drops_root settled_edges v (only me) (only me) s (same_points v me)).0 (q, b.holds)))
  freedom_kind v me (Bound p) Free s a b =
      absurd (b ((not_firm_ignores_trim drops_edge drops_root settled_edges v (only me) (only me) s (same_points v me)).1 (p, a.holds)))

  module _ (closed_roots : DropsClosedRoots drops_edge drops_root) where
    -- the roots that trimming takes are Closed
    roots_lose : (v w : Held) → AllPrecede w.history v.history → LosesClosed v.history w.root (trim drops_edge drops_root w).root
    roots_lose v w later = record { within = roots_left drops_edge drops_root w; lost = lost } where
      lost : (q : Point) → IsTrue (w.root q) → IsTrue (unless (drops_root w.history q) (w.root q)) ⊎ (fate_in v.history q ≡ Closed)
      lost q h = by_test (drops_root w.history q) refl where
        by_test : (d : Bool) → drops_root w.history q ≡ d → IsTrue (unless (drops_root w.history q) (w.root q)) ⊎ (fate_in v.history q ≡ Closed)
        by_test true e = inr (closed_stays w.history v.history q later (closed_roots w.history q e).closed)
        by_test false e = inl (ap (λ d. unless d (w.root q)) e ∙ h)

    own : (v : Held) (me : Point) → Settled v → SomeFallen (trim drops_edge drops_root v) (only me) ↔ SomeFallen v (only me)
    own v me s = fallen_ignores_trim drops_edge drops_root settled_edges v (only me) (only me) s (same_points v me)

    sent : (v w : Held) → Settled v → AllPrecede w.history v.history → SomeFallen (trim drops_edge drops_root v) (trim drops_edge drops_root w).root ↔ SomeFallen v w.root
    sent v w s later = fallen_ignores_trim drops_edge drops_root settled_edges v w.root (trim drops_edge drops_root w).root s (roots_lose v w later)

    pub verdict_kind : VerdictKindIgnoresTrim (trim drops_edge drops_root)
    verdict_kind v w me Take Take s later a b = both_take
    verdict_kind v w me (Drop p) (Drop q) s later a b = both_drop
    verdict_kind v w me (Fall p) (Fall q) s later a b = both_fall
    verdict_kind v w me Take (Drop q) s later a b = absurd (a.1 ((sent v w s later).0 (q, b.1.holds)))
    verdict_kind v w me Take (Fall q) s later a b = absurd (a.0 ((own v me s).0 (q, b.holds)))
    verdict_kind v w me (Drop p) Take s later a b = absurd (b.1 ((sent v w s later).1 (p, a.1.holds)))
    verdict_kind v w me (Drop p) (Fall q) s later a b = absurd (a.0 ((own v me s).0 (q, b.holds)))
    verdict_kind v w me (Fall p) Take s later a b = absurd (b.0 ((own v me s).1 (p, a.holds)))
    verdict_kind v w me (Fall p) (Drop q) s later a b = absurd (b.0 ((own v me s).1 (p, a.holds)))
