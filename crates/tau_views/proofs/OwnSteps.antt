-- The facts of a set of places that holds the earlier steps of a transactor, with one step of it more.
use Rattle.std.proofs.Common.{◌≡◌, ◌≢◌, ◌⊎◌, ◌↔◌, inl, inr, ⊎_elim, ℕ, suc, ◌<◌, Bool, true, false, eqb, ltb, cond, not, ◌&&◌, IsTrue, Option, Some, refl, sym, ap, ◌∙◌, subst, eq-eqb, arith}
use Rattle.std.proofs.lemmas.Bool.Decides.{nat_tests}
use Rattle.std.proofs.lemmas.Bool.{cases_eq}
use Rattle.tau_history.specs.Timeline.{Timeline, Move, keep, moved, opening, newborn}
use Rattle.tau_points.specs.declared.point.Point.{Point}
use Rattle.tau_view.specs.Edges.{edges_to, both_edges}
use Rattle.tau_view.specs.Held.{Histories, Edges, Points, same_point}
use Rattle.tau_view.specs.Rules.{noted_in}
use Rattle.tau_view.proofs.Sets.{or_cases, or_left, or_right, and_left, and_right, and_both, is_same, same_of}
use Rattle.tau_trace.specs.declared.step.Step.{Step}
use Rattle.tau_trace.specs.declared.step.Step.TheVariants.{Set, New}
use Rattle.tau_trace.specs.Run.{Run, step_at, starts, ActsAt, Does}
use Rattle.tau_trace.specs.Numbering.{IsNew}
use Rattle.tau_trace.specs.Histories.{history, move_at}
use Rattle.tau_trace.specs.Points.{point_at}
use Rattle.tau_trace.specs.Known.{WellFormed}
use Rattle.tau_trace.proofs.Agreement.{born-grows}
use Rattle.tau_trace.proofs.Counted.{history-zero, history-suc}
use Rattle.tau_trace.proofs.Lists.{same_some}
use Rattle.tau_trace.proofs.Quiet.{acts}
use Rattle.tau_past.specs.Carried.{is_set, Pending, Carried, TakesBy, by_set, by_new, first_point}
use Rattle.tau_past.specs.KnownLaws.{With}
use Rattle.tau_past.proofs.BoundLemmas.{bounds_with_step}
use Rattle.tau_past.proofs.HeardLemmas.{new_acts}
use Rattle.tau_past.proofs.Known.{acts_known}
use Rattle.tau_past.specs.Heard.{HoldsStepsBefore}
use Rattle.tau_views.specs.Views.{IsPresent, is_owner, by_step, by_birth, TakesIn}
use Rattle.tau_views.proofs.Facts.{Told, absent, present, Knows, present_within, zero_bound, told_own, told_as}

-- the kinds by which no point takes another and nobody is made
abbrev pub is_plain : Step → Bool
is_plain (Set t v) = false
is_plain (New t b n v) = false
is_plain s = true

-- what a test of a transactor's number chooses
chosen_same : (t : ℕ) (o p : Option Timeline) → cond (eqb t t) o p ≡ o
chosen_same t o p = ap (λ b. cond b o p) (eq-eqb t t refl)

-- and what it chooses for another number
chosen_other : (u t : ℕ) (o p : Option Timeline) → u ≢ t → cond (eqb u t) o p ≡ p
chosen_other u t o p ne = by (eqb u t) refl where
  by : (b : Bool) → eqb u t ≡ b → cond b o p ≡ p
  by true e = absurd (ne (grind (arith, nat_tests)))
  by false e = refl

-- the history that was noted
pub noted-same : (t : ℕ) (h : Timeline) (hs : Histories) → noted_in t h hs t ≡ Some h
noted-same t h hs = chosen_same t (Some h) (hs t)

-- and those of others
pub noted-other : (u t : ℕ) (h : Timeline) (hs : Histories) → u ≢ t → noted_in t h hs u ≡ hs u
noted-other u t h hs ne = chosen_other u t (Some h) (hs u) ne

-- one actor a step
pub same_actor : (T : Run) (k t u : ℕ) → ActsAt T t k → ActsAt T u k → t ≡ u
same_actor T k t u a b = same_some (sym a ∙ b)

-- the step at a place is a Set or a New, or plain
does_step : (T : Run) (t k : ℕ) (test : Step → Bool) (s : Step) → Does test T t k → step_at T k ≡ Some s → IsTrue (test s)
does_step T t k test s d e = subst (λ z. IsTrue (test z)) (same_some (sym d.stands ∙ e)) d.passes

-- a Set isn't plain
set_not_plain : (s : Step) → IsTrue (is_set s) → IsTrue (is_plain s) → ⊥
set_not_plain (Set t v) a b = cc
set_not_plain s a b = cc

-- by a plain step no point takes another
pub plain_takes_none : (T : Run) (t k : ℕ) → Does is_plain T t k → (p q : Point) → ¬ TakesBy T k p q
plain_takes_none T t k d p q (by_set {t = u} e f c ne) = set_not_plain e.step e.passes (does_step T t k is_plain e.step d e.stands)
plain_takes_none T t k d p q (by_new {by = by} n f c ne) = let h : false ≡ true = does_step T t k is_plain (New by n.behaviour n.node n.state) d n.stands in cc

-- and nobody is made
pub plain_makes_none : (T : Run) (t k : ℕ) → Does is_plain T t k → (by u : ℕ) → ¬ IsNew T k by u
plain_makes_none T t k d by u n = let h : false ≡ true = does_step T t k is_plain (New by n.behaviour n.node n.state) d n.stands in cc

-- a Set makes nobody
pub set_makes_none : (T : Run) (t k : ℕ) → Does is_set T t k → (by u : ℕ) → ¬ IsNew T k by u
set_makes_none T t k d by u n = let h : false ≡ true = does_step T t k is_set (New by n.behaviour n.node n.state) d n.stands in cc

-- who is made by the step at a place
new_same : (T : Run) (k by other u v : ℕ) → IsNew T k by u → IsNew T k other v → u ≡ v
new_same T k by other u v a b = a.made ∙ sym b.made

-- the edges from a point to each other root, as facts
edges_to_tell : (a : Point) (root : Points) (p q : Point) → IsTrue (edges_to a root p q) ↔ ((p ≡ a) × IsTrue (root q) × (q ≢ p))
edges_to_tell a root p q = (
  λ h.
      let first : p ≡ a = is_same p a (and_left (same_point p a) _ h) in
      let rest = and_right (same_point p a) (root q && not (same_point q a)) h in
      (first, and_left (root q) _ rest, λ e. differs (same_point q a) (and_right (root q) (not (same_point q a)) rest) (same_of q a (e ∙ first))),
  λ t. and_both (same_point p a) _ (same_of p a t.0) (and_both (root q) (not (same_point q a)) t.1 (apart (same_point q a) (λ s. t.2 (is_same q a s ∙ sym t.0)))),
) where
  differs : (b : Bool) → IsTrue (not b) → IsTrue b → ⊥
  differs true n h = cc
  differs false n h = cc

  apart : (b : Bool) → ¬ IsTrue b → IsTrue (not b)
  apart true n = absurd (n refl)
  apart false n = refl

-- what the step at a place of a transactor carries is what is pending for it there
pub carried_pending : (T : Run) (t k : ℕ) (q : Point) → ActsAt T t k → Carried T k q ↔ Pending T t k q
carried_pending T t k q a = (λ c. subst (λ u. Pending T u k q) (same_actor T k c.by t c.acts a) c.pending, λ p. record { by = t; acts = a; pending = p })

module _ (T : Run) (t k : ℕ) (root : Points) (tells : (q : Point) → IsTrue (root q) ↔ Pending T t k q) where
  -- by a Set the own point takes each other pending point
  pub set_takes : Does is_set T t k → (p q : Point) → IsTrue (edges_to (point_at T t k) root p q) ↔ TakesBy T k p q
  set_takes d p q = (
    λ h. let e = (edges_to_tell (point_at T t k) root p q).0 h in by_set d e.0 ((carried_pending T t k q at).1 ((tells q).0 e.1)) e.2,
    λ h. (edges_to_tell (point_at T t k) root p q).1 (from h),
  ) where
    at : ActsAt T t k
    at = acts T t k d.step d.stands d.by

    from : TakesBy T k p q → (p ≡ point_at T t k) × IsTrue (root q) × (q ≢ p)
    from (by_set {t = u} e f c ne) = (f ∙ ap (λ w. point_at T w k) (same_actor T k u t (acts T u k e.step e.stands e.by) at), (tells q).1 ((carried_pending T t k q at).0 c), ne)
    from (by_new {by = by} {u = u} n f c ne) = absurd (set_makes_none T t k d by u n)

  -- by a New the first point of who is made takes each other pending point
  pub new_takes : (u : ℕ) → IsNew T k t u → (p q : Point) → IsTrue (edges_to (first_point u) root p q) ↔ TakesBy T k p q
  new_takes u n p q = (
    λ h. let e = (edges_to_tell (first_point u) root p q).0 h in by_new n e.0 ((carried_pending T t k q at).1 ((tells q).0 e.1)) e.2,
    λ h. (edges_to_tell (first_point u) root p q).1 (from h),
  ) where
    at : ActsAt T t k
    at = new_acts T k t u n

    from : TakesBy T k p q → (p ≡ first_point u) × IsTrue (root q) × (q ≢ p)
    from (by_set {t = v} e f c ne) = absurd (set_makes_none T v k e t u n)
    from (by_new {by = by} {u = v} m f c ne) = (f ∙ ap first_point (new_same T k by t v u m n), (tells q).1 ((carried_pending T t k q at).0 c), ne)

module _ (T : Run) (H : ℕ → Type 0) (t k : ℕ) (at : ActsAt T t k) (before : HoldsStepsBefore T H t k) where
  -- what is told of others stays, but of one whom the step makes
  told_other : (u : ℕ) (o : Option Timeline) → u ≢ t → ((by : ℕ) → ¬ IsNew T k by u) → Told T H (Some t) u o → Told T (With H k) (Some t) u o
  told_other u o ne none (absent e n) = absent e (λ p. n (back p)) where
    back : IsPresent T (With H k) (Some t) u → IsPresent T H (Some t) u
    back (is_owner f) = is_owner f
    back (by_step (inl h) a) = by_step h a
    back (by_step (inr f) a) = absurd (ne (same_actor T k u t (subst (ActsAt T u) f a) at))
    back (by_birth (inl h) m) = by_birth h m
    back (by_birth {by = by} (inr f) m) = absurd (none by (subst (λ j. IsNew T j by u) f m))
  told_other u o ne none (present {a = a} e p b) =
      present {a = a} e (present_within T H (With H k) (Some t) u (λ j h. inl h) p) ((bounds_with_step H T t k at before).other u a ne b)

  -- the own history is that after the step
  told_next : (o : Option Timeline) → o ≡ Some (history T t (suc k)) → Told T (With H k) (Some t) t o
  told_next o e = present {a = suc k} e (is_owner refl) (bounds_with_step H T t k at before).own

  -- who is made by the step has the first history
  told_newborn : (v by : ℕ) (o : Option Timeline) → WellFormed T → ((j : ℕ) → H j → j < k) → IsNew T k by v → o ≡ Some newborn → Told T (With H k) (Some t) v o
  told_newborn v by o w below n e = present {a = 0} (e ∙ ap Some (sym first)) (by_birth (inr refl) n) (zero_bound T (With H k) v quiet) where
    first : history T v 0 ≡ newborn
    first = history-zero T v ∙ not_start (ltb v (starts T)) refl where
      not_start : (b : Bool) → ltb v (starts T) ≡ b → cond b opening newborn ≡ newborn
      not_start true f = let lt : v < starts T = grind (arith, nat_tests) in absurd (omega (arith, lt, n.made))
      not_start false f = refl

    quiet : (j : ℕ) → With H k j → ¬ ActsAt T v j
    quiet j h a = ⊎_elim
        (λ x. omega (arith, below j x, acts_known T v j w a, born-grows T j k (omega (arith, below j x)), n.made))
        (λ x. omega (arith, x, acts_known T v j w a, born-grows T j k (omega (arith, x)), n.made))
        h

  edge_split : (p q : Point) → TakesIn T (With H k) p q → TakesIn T H p q ⊎ TakesBy T k p q
  edge_split p q x = ⊎_elim (λ h. inl (record { place = x.place; held = h; takes = x.takes })) (λ e. inr (subst (λ j. TakesBy T j p q) e x.takes)) x.held

  edge_on : (p q : Point) → TakesIn T H p q → TakesIn T (With H k) p q
  edge_on p q x = record { place = x.place; held = inl x.held; takes = x.takes }

  -- edges after a step by which no point takes another
  same_edges : (es : Edges) → ((p q : Point) → ¬ TakesBy T k p q) → ((p q : Point) → IsTrue (es p q) ↔ TakesIn T H p q) → (p q : Point) → IsTrue (es p q) ↔ TakesIn T (With H k) p q
  same_edges es none e p q = (λ h. edge_on p q ((e p q).0 h), λ x. ⊎_elim (λ y. (e p q).1 y) (λ y. absurd (none p q y)) (edge_split p q x))

  -- and after one by which some do
  pub more_edges : (es fs : Edges) → ((p q : Point) → IsTrue (fs p q) ↔ TakesBy T k p q) → ((p q : Point) → IsTrue (es p q) ↔ TakesIn T H p q) → (p q : Point) → IsTrue (both_edges es fs p q) ↔ TakesIn T (With H k) p q
  more_edges es fs f e p q = (
    λ h. ⊎_elim (λ y. edge_on p q ((e p q).0 y)) (λ y. record { place = k; held = inr refl; takes = (f p q).0 y }) (or_cases (es p q) (fs p q) h),
    λ x. ⊎_elim (λ y. or_left (es p q) (fs p q) ((e p q).1 y)) (λ y. or_right (es p q) (fs p q) ((f p q).1 y)) (edge_split p q x),
  )

  -- histories after the step, where it makes nobody: the own one is noted, or stays
  pub noted_told : (hs : Histories) → ((by u : ℕ) → ¬ IsNew T k by u) → ((u : ℕ) → Told T H (Some t) u (hs u)) → (h : Timeline) → h ≡ history T t (suc k) → (u : ℕ) → Told T (With H k) (Some t) u (noted_in t h hs u)
  noted_told hs none told h e u = ⊎_elim
      (λ (i : u ≡ t). subst (λ v. Told T (With H k) (Some t) v (noted_in t h hs v)) (sym i) (told_next (noted_in t h hs t) (noted-same t h hs ∙ ap Some e)))
      (λ ne. told_as T (With H k) (Some t) u (noted_in t h hs u) (hs u) (noted-other u t h hs ne) (told_other u (hs u) ne (λ by. none by u) (told u)))
      (cases_eq u t)

  -- the own history before a step that keeps it is that after it
  kept_own : (hs : Histories) → move_at T t k ≡ keep → ((u : ℕ) → Told T H (Some t) u (hs u)) → hs t ≡ Some (history T t (suc k))
  kept_own hs move told = told_own T H t k (hs t) before (told t) ∙ ap Some (sym (history-suc T t k ∙ ap (λ m. moved m (history T t k)) move))

  pub kept_told : (hs : Histories) → ((by u : ℕ) → ¬ IsNew T k by u) → move_at T t k ≡ keep → ((u : ℕ) → Told T H (Some t) u (hs u)) → (u : ℕ) → Told T (With H k) (Some t) u (hs u)
  kept_told hs none move told u = ⊎_elim
      (λ (i : u ≡ t). subst (λ v. Told T (With H k) (Some t) v (hs v)) (sym i) (told_next (hs t) (kept_own hs move told)))
      (λ ne. told_other u (hs u) ne (λ by. none by u) (told u))
      (cases_eq u t)

  -- histories after a New
  pub newborn_told : (hs : Histories) (v : ℕ) → WellFormed T → ((j : ℕ) → H j → j < k) → IsNew T k t v → move_at T t k ≡ keep → ((u : ℕ) → Told T H (Some t) u (hs u)) → (u : ℕ) → Told T (With H k) (Some t) u (noted_in v newborn hs u)
  newborn_told hs v w below n move told u = ⊎_elim
      (λ (i : u ≡ v). subst (λ z. Told T (With H k) (Some t) z (noted_in v newborn hs z)) (sym i) (told_newborn v t (noted_in v newborn hs v) w below n (noted-same v newborn hs)))
      (λ not_new. told_as T (With H k) (Some t) u (noted_in v newborn hs u) (hs u) (noted-other u v newborn hs not_new) (old not_new))
      (cases_eq u v) where
        old : u ≢ v → Told T (With H k) (Some t) u (hs u)
        old not_new = ⊎_elim
            (λ (i : u ≡ t). subst (λ z. Told T (With H k) (Some t) z (hs z)) (sym i) (told_next (hs t) (kept_own hs move told)))
            (λ ne. told_other u (hs u) ne (λ by m. not_new (new_same T k by t u v m n)) (told u))
            (cases_eq u t)

  -- all facts after a plain step that keeps the own history, and after one that changes it
  pub kept_step : (hs : Histories) (es : Edges) → Does is_plain T t k → move_at T t k ≡ keep → Knows T H (Some t) hs es → Knows T (With H k) (Some t) hs es
  kept_step hs es d move f = record {
    told = kept_told hs (plain_makes_none T t k d) move f.told;
    edge = same_edges es (plain_takes_none T t k d) f.edge;
  }

  pub noted_step : (hs : Histories) (es : Edges) (m : Move) → Does is_plain T t k → move_at T t k ≡ m → Knows T H (Some t) hs es → Knows T (With H k) (Some t) (noted_in t (moved m (history T t k)) hs) es
  noted_step hs es m d move f = record {
    told = noted_told hs (plain_makes_none T t k d) f.told (moved m (history T t k)) (sym (history-suc T t k ∙ ap (λ n. moved n (history T t k)) move));
    edge = same_edges es (plain_takes_none T t k d) f.edge;
  }
