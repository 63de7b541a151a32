-- The facts of two sets of places together are the merged facts of both.
use Rattle.std.proofs.Common.{◌≡◌, ◌⊎◌, ◌↔◌, inl, inr, ⊎_elim, ℕ, ◌≤◌, max, Bool, true, false, IsTrue, Option, Some, None, refl, sym, ap, ap₂, ◌∙◌, subst, arith}
use Rattle.tau_history.specs.Timeline.{Timeline}
use Rattle.tau_history.specs.Order.{Precedes, AreComparable, ranks_before, later_of}
use Rattle.tau_history.proofs.Before.{later_preceded}
use Rattle.tau_history.proofs.Order.{antisymmetric}
use Rattle.tau_points.specs.declared.point.Point.{Point}
use Rattle.tau_view.specs.Edges.{both_edges}
use Rattle.tau_view.specs.Held.{Held, Edges}
use Rattle.tau_view.specs.Rules.{later_history, merged}
use Rattle.tau_view.proofs.Later.{later-then, later-else}
use Rattle.tau_view.proofs.Sets.{or_cases, or_left, or_right}
use Rattle.tau_trace.specs.Run.{Run}
use Rattle.tau_trace.specs.Histories.{history}
use Rattle.tau_trace.proofs.PointLemmas.{chain}
use Rattle.tau_past.specs.KnownLaws.{Union}
use Rattle.tau_past.proofs.BoundLemmas.{union_bound}
use Rattle.tau_past.specs.Heard.{Bound}
use Rattle.tau_views.specs.Views.{IsPresent, is_owner, by_step, by_birth, TakesIn, IsView}
use Rattle.tau_views.proofs.Facts.{Told, absent, present, Knows, IsBounded, present_within, zero_bound, knows, view_of}

-- of two histories of which one precedes the other, that one is the later
pub later_right : (a b : Timeline) → Precedes a b → later_of a b ≡ b
later_right a b p = by (ranks_before a b) refl where
  by : (r : Bool) → ranks_before a b ≡ r → later_of a b ≡ b
  by true e = later-then a b e
  by false e =
      let is = later-else a b e in
      is ∙ antisymmetric a b p (subst (Precedes b) is (later_preceded a b (inl p)).1)

-- and where the second precedes the first, the first is
pub later_left : (a b : Timeline) → Precedes b a → later_of a b ≡ a
later_left a b p = by (ranks_before a b) refl where
  by : (r : Bool) → ranks_before a b ≡ r → later_of a b ≡ a
  by true e =
      let is = later-then a b e in
      is ∙ antisymmetric b a p (subst (Precedes a) is (later_preceded a b (inr p)).0)
  by false e = later-else a b e

-- of two places one is up to the other
up_to : (a b : ℕ) → (a ≤ b) ⊎ (b ≤ a)
up_to a b = grind arith

-- the greater of two places
max_left : (a b : ℕ) → b ≤ a → max a b ≡ a
max_left a b le = grind arith

max_right : (a b : ℕ) → a ≤ b → max a b ≡ b
max_right a b le = grind arith

-- any two histories of one transactor are comparable
pub comparable_at : (T : Run) (u a b : ℕ) → AreComparable (history T u a) (history T u b)
comparable_at T u a b = ⊎_elim (λ le. inl (chain T u a b le)) (λ le. inr (chain T u b a le)) (up_to a b)

-- and the later one is that at the greater place
pub later_at : (T : Run) (u a b : ℕ) → later_of (history T u a) (history T u b) ≡ history T u (max a b)
later_at T u a b = ⊎_elim
    (λ le. later_right (history T u a) (history T u b) (chain T u a b le) ∙ ap (history T u) (sym (max_right a b le)))
    (λ le. later_left (history T u a) (history T u b) (chain T u b a le) ∙ ap (history T u) (sym (max_left a b le)))
    (up_to a b)

module _ (T : Run) (H G : ℕ → Type 0) (owner : Option ℕ) where
  -- who is present in both sets together is present in one of them
  present_split : (u : ℕ) → IsPresent T (Union H G) owner u → IsPresent T H owner u ⊎ IsPresent T G None u
  present_split u (is_owner e) = inl (is_owner e)
  present_split u (by_step (inl h) a) = inl (by_step h a)
  present_split u (by_step (inr g) a) = inr (by_step g a)
  present_split u (by_birth (inl h) n) = inl (by_birth h n)
  present_split u (by_birth (inr g) n) = inr (by_birth g n)

  present_right : (u : ℕ) → IsPresent T G None u → IsPresent T (Union H G) owner u
  present_right u (is_owner e) = absurd (cc)
  present_right u (by_step g a) = by_step (inr g) a
  present_right u (by_birth g n) = by_birth (inr g) n

  -- what both tell of one transactor
  told_union : (u : ℕ) (m n : Option Timeline) → Told T H owner u m → Told T G None u n → Told T (Union H G) owner u (later_history m n)
  told_union u m n (absent e f) (absent d g) = absent (ap₂ later_history e d) (λ p. ⊎_elim f g (present_split u p))
  told_union u m n (present {a = a} e p b) (absent d g) =
      let none : Bound T G u 0 = zero_bound T G u (λ j h acts. g (by_step h acts)) in
      present {a = max a 0}
      (ap₂ later_history e d ∙ ap (λ i. Some (history T u i)) (sym (max_left a 0 (omega arith))))
      (present_within T H (Union H G) owner u (λ j h. inl h) p)
      (union_bound H G T u a 0 b none)
  told_union u m n (absent d g) (present {a = a} e p b) =
      let none : Bound T H u 0 = zero_bound T H u (λ j h acts. g (by_step h acts)) in
      present {a = max 0 a}
      (ap₂ later_history d e ∙ ap (λ i. Some (history T u i)) (sym (max_right 0 a (omega arith))))
      (present_right u p)
      (union_bound H G T u 0 a none b)
  told_union u m n (present {a = a} e p b) (present {a = c} f q d) =
      present {a = max a c}
      (ap₂ later_history e f ∙ ap Some (later_at T u a c))
      (present_within T H (Union H G) owner u (λ j h. inl h) p)
      (union_bound H G T u a c b d)

  -- the edges of both
  edges_union : (es fs : Edges) (p q : Point) → IsTrue (es p q) ↔ TakesIn T H p q → IsTrue (fs p q) ↔ TakesIn T G p q → IsTrue (both_edges es fs p q) ↔ TakesIn T (Union H G) p q
  edges_union es fs p q e f = (
    λ b. ⊎_elim (λ l. left (e.0 l)) (λ r. right (f.0 r)) (or_cases (es p q) (fs p q) b),
    λ t. ⊎_elim
        (λ h. or_left (es p q) (fs p q) (e.1 (record { place = t.place; held = h; takes = t.takes })))
        (λ g. or_right (es p q) (fs p q) (f.1 (record { place = t.place; held = g; takes = t.takes })))
        t.held,
  ) where
    left : TakesIn T H p q → TakesIn T (Union H G) p q
    left t = record { place = t.place; held = inl t.held; takes = t.takes }

    right : TakesIn T G p q → TakesIn T (Union H G) p q
    right t = record { place = t.place; held = inr t.held; takes = t.takes }

  pub knows_union : (x y : Held) → Knows T H owner x.history x.edge → Knows T G None y.history y.edge → Knows T (Union H G) owner (merged x y).history (merged x y).edge
  knows_union x y k l = record {
    told = λ u. told_union u (x.history u) (y.history u) (k.told u) (l.told u);
    edge = λ p q. edges_union x.edge y.edge p q (k.edge p q) (l.edge p q);
  }

  -- the merged view is the view of both sets together
  pub view_union : (roots others : Point → Type 0) (x y : Held) → IsBounded T H → IsBounded T G → IsView T H owner roots x → IsView T G None others y → IsView T (Union H G) owner roots (merged x y)
  view_union roots others x y bounded more v w =
      view_of T (Union H G) owner roots (merged x y) (knows_union x y (knows T H owner roots x bounded v) (knows T G None others y more w)) v.root
