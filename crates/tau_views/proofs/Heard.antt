-- The views of what was heard as views of closed sets.
use Rattle.std.proofs.Common.{◌≢◌, inr, ℕ, ◌<◌, max, None, Some, refl}
use Rattle.tau_history.specs.declared.fate.Fate.TheVariants.{Ahead}
use Rattle.tau_points.specs.declared.point.Point.{Point}
use Rattle.tau_view.specs.Held.{Held, fate_in}
use Rattle.tau_trace.specs.Run.{Run}
use Rattle.tau_trace.specs.Numbering.{born, sent}
use Rattle.tau_trace.specs.Points.{point_at}
use Rattle.tau_trace.specs.Known.{WellFormed}
use Rattle.tau_past.specs.Carried.{Pending, SentWith}
use Rattle.tau_past.specs.Heard.{Heard, HeardBy, HeardTogether, Bound}
use Rattle.tau_past.proofs.BoundLemmas.{has_bounds, union_bound}
use Rattle.tau_past.proofs.HeardLemmas.{heard_sets_closed, sent_touched}
use Rattle.tau_views.specs.Views.{IsView, IsViewOf, IsMessageView}
use Rattle.tau_views.proofs.Fates.{IsViewOfClosed, own_reached}
use Rattle.tau_views.proofs.Pasts.{touched_reached}

-- the view of what message m has heard
pub message_view : (T : Run) (k : ℕ) → WellFormed T → (m : ℕ) → m < sent T k → (y : Held) → IsMessageView T m y → IsViewOfClosed T (HeardBy T m) None (SentWith T m) y
message_view T k w m there y view = record { view = view; closed = (heard_sets_closed T).message m; bounds = λ u. (has_bounds T k w).message m u there }

module _ (T : Run) (t k : ℕ) (w : WellFormed T) (exists : t < born T k) where
  -- the view of what t has heard, and t's own point on it
  pub own_view : (x : Held) → IsViewOf T t k x → IsViewOfClosed T (Heard T t k) (Some t) (Pending T t k) x
  own_view x view = record { view = view; closed = (heard_sets_closed T).transactor t k; bounds = λ u. (has_bounds T k w).transactor t u exists }

  pub own_point : (x : Held) → IsViewOf T t k x → fate_in x.history (point_at T t k) ≢ Ahead
  own_point x view = own_reached (own_view x view) t k refl ((has_bounds T k w).own t exists)

  module _ (m : ℕ) (there : m < sent T k) where
    together_bound : (u : ℕ) → (a : ℕ) × Bound T (HeardTogether T t k m) u a
    together_bound u =
        let own = (has_bounds T k w).transactor t u exists in
        let other = (has_bounds T k w).message m u there in
        (max own.0 other.0, union_bound (Heard T t k) (HeardBy T m) T u own.0 other.0 own.1 other.1)

    module _ (v : Held) (view : IsView T (HeardTogether T t k m) (Some t) (Pending T t k) v) where
      -- the view of what t and message m have heard, and t's own point and the message's points on it
      pub together_view : IsViewOfClosed T (HeardTogether T t k m) (Some t) (Pending T t k) v
      together_view = record { view = view; closed = (heard_sets_closed T).together t k m; bounds = together_bound }

      pub together_point : fate_in v.history (point_at T t k) ≢ Ahead
      together_point = own_reached together_view t k refl ((has_bounds T k w).together t m exists there)

      pub sent_reached : (q : Point) → SentWith T m q → fate_in v.history q ≢ Ahead
      sent_reached q s =
          let z = sent_touched T m q s in
          touched_reached together_view q (record { place = z.place; held = inr z.held; touching = z.touching; at_point = z.at_point })
