-- Views of runs that agree below a place.
use Rattle.std.proofs.Common.{◌≡◌, ◌↔◌, inl, inr, ⊎_elim, ℕ, suc, ◌<◌, ◌≤◌, Option, Some, None, sym, ap, ◌∙◌, arith}
use Rattle.std.specs.Prelude.{option_and_then}
use Rattle.tau_history.specs.Timeline.{Timeline}
use Rattle.tau_points.specs.declared.point.Point.{Point}
use Rattle.tau_view.specs.Held.{Held}
use Rattle.tau_trace.specs.Steps.{actor}
use Rattle.tau_trace.specs.Run.{Run, Agree, step_at, ActsAt}
use Rattle.tau_trace.specs.Known.{WellFormed}
use Rattle.tau_trace.proofs.Agreement.{agree_sym, agree_below, history-same, is_new-same, does-same}
use Rattle.tau_past.specs.Carried.{is_set, Pending, Carried, SentWith, TakesBy, by_set, by_new}
use Rattle.tau_past.specs.Heard.{Heard, HeardBy, Bound}
use Rattle.tau_past.specs.KnownLaws.{IsSame}
use Rattle.tau_past.proofs.Agreement.{point-same, decisions_local}
use Rattle.tau_past.proofs.Known.{heard_before, heard_by_before}
use Rattle.tau_views.specs.Views.{IsPresent, is_owner, by_step, by_birth, IsKnownHistory, TakesIn, IsView}
use Rattle.tau_views.specs.Laws.{ViewsAreLocal}

-- who acts at a place, in the other run
acts-same : (T U : Run) (t j : ℕ) → step_at T j ≡ step_at U j → ActsAt T t j → ActsAt U t j
acts-same T U t j e a = ap (option_and_then actor) (sym e) ∙ a

-- what the step there carries
carried-same : (T U : Run) (j : ℕ) (q : Point) → WellFormed T → WellFormed U → Agree T U (suc j) → Carried T j q → Carried U j q
carried-same T U j q w z a c = record {
  by = c.by;
  acts = acts-same T U c.by j (a.steps j (omega arith)) c.acts;
  pending = ((decisions_local T U j w z (agree_below j (omega arith) a)).pending c.by q).0 c.pending;
}

-- which points take which by it
takes-same : (T U : Run) (j : ℕ) (p q : Point) → WellFormed T → WellFormed U → Agree T U (suc j) → TakesBy T j p q → TakesBy U j p q
takes-same T U j p q w z a (by_set {t = t} d e c ne) =
    by_set (does-same is_set t j (a.steps j (omega arith)) d) (e ∙ point-same t j (agree_below j (omega arith) a)) (carried-same T U j q w z a c) ne
takes-same T U j p q w z a (by_new {by = by} {u = u} n e c ne) =
    by_new (is_new-same j by u a n) e (carried-same T U j q w z a c) ne

-- one direction, for sets of places below the place up to which the runs agree
module _ (T U : Run) (k : ℕ) (w : WellFormed T) (z : WellFormed U) (agree : Agree T U k) (H G : ℕ → Type 0) (below : (j : ℕ) → H j → j < k) (same : IsSame H G) where
  present-same : (owner : Option ℕ) (u : ℕ) → IsPresent T H owner u → IsPresent U G owner u
  present-same owner u (is_owner e) = is_owner e
  present-same owner u (by_step {j = j} h a) = by_step ((same j).0 h) (acts-same T U u j (agree.steps j (below j h)) a)
  present-same owner u (by_birth {j = j} {by = by} h n) = by_birth ((same j).0 h) (is_new-same j by u (agree_below (suc j) (below j h) agree) n)

  -- a bound is at most k
  bound_within : (u a : ℕ) → Bound T H u a → a ≤ k
  bound_within u a b = ⊎_elim (λ e. omega (arith, e)) (λ s. omega (arith, s.1, below s.0 s.3)) b.last

  bound-same : (u a : ℕ) → Bound T H u a → Bound U G u a
  bound-same u a b = record {
    steps = λ j acts. (
      λ g. let h = (same j).1 g in (b.steps j (acts-same U T u j (sym (agree.steps j (below j h))) acts)).0 h,
      λ l. (same j).0 ((b.steps j (acts-same U T u j (sym (agree.steps j (omega (arith, l, bound_within u a b)))) acts)).1 l),
    );
    last = ⊎_elim (λ e. inl e) (λ s. inr (s.0, s.1, acts-same T U u s.0 (agree.steps s.0 (below s.0 s.3)) s.2, (same s.0).0 s.3)) b.last;
  }

  known-same : (owner : Option ℕ) (u : ℕ) (h : Timeline) → IsKnownHistory T H owner u h → IsKnownHistory U G owner u h
  known-same owner u h x = record {
    present = present-same owner u x.present;
    bound = x.bound;
    is_bound = bound-same u x.bound x.is_bound;
    is = x.is ∙ history-same u x.bound (agree_below x.bound (bound_within u x.bound x.is_bound) agree);
  }

  taken-same : (p q : Point) → TakesIn T H p q → TakesIn U G p q
  taken-same p q x = record {
    place = x.place;
    held = (same x.place).0 x.held;
    takes = takes-same T U x.place p q w z (agree_below (suc x.place) (below x.place x.held) agree) x.takes;
  }

-- both directions
view-same : (T U : Run) (k : ℕ) (H G : ℕ → Type 0) (owner : Option ℕ) (roots others : Point → Type 0) (x : Held) → WellFormed T → WellFormed U → Agree T U k → ((j : ℕ) → H j → j < k) → IsSame H G → ((q : Point) → roots q ↔ others q) → IsView T H owner roots x → IsView U G owner others x
view-same T U k H G owner roots others x w z agree below same alike v = record {
  history = λ u h. (λ e. known-same T U k w z agree H G below same owner u h ((v.history u h).0 e), λ y. (v.history u h).1 (known-same U T k z w (agree_sym agree) G H below_too back owner u h y));
  edge = λ p q. (λ e. taken-same T U k w z agree H G below same p q ((v.edge p q).0 e), λ y. (v.edge p q).1 (taken-same U T k z w (agree_sym agree) G H below_too back p q y));
  root = λ q. (λ e. (alike q).0 ((v.root q).0 e), λ r. (v.root q).1 ((alike q).1 r));
} where
  back : IsSame G H
  back j = ((same j).1, (same j).0)

  below_too : (j : ℕ) → G j → j < k
  below_too j g = below j ((same j).1 g)

-- views read the opening and the steps before their place alone
pub views_are_local : ViewsAreLocal
views_are_local T U k w z agree =
    let local = decisions_local T U k w z agree in
    record {
      transactor = λ t x there v. view-same T U k (Heard T t k) (Heard U t k) (Some t) (Pending T t k) (Pending U t k) x w z agree (λ j h. heard_before T t k j w there h) (λ j. local.heard t j there) (local.pending t) v;
      message = λ m x exists v. view-same T U k (HeardBy T m) (HeardBy U m) None (SentWith T m) (SentWith U m) x w z agree (λ j h. heard_by_before T m k j w exists h) (λ j. local.heard_by m j exists) (λ q. local.sent_with m q exists) v;
    }
