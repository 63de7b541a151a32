-- What becomes of the view of what was heard, step by step.
use Rattle.std.proofs.Common.{◌≡◌, ◌↔◌, inl, inr, ⊎_elim, ℕ, suc, ◌<◌, true, false, IsTrue, Option, Some, None, refl, sym, ap, ◌∙◌, subst, arith}
use Rattle.std.specs.Prelude.{option_and_then}
use Rattle.std.specs.Option.{option_map_or}
use Rattle.tau_history.specs.Timeline as timeline
use Rattle.tau_history.specs.Timeline.{Timeline, newborn, moved, keep, close}
use Rattle.tau_points.specs.declared.point.Point.{Point}
use Rattle.tau_view.specs.Edges.{edges_to}
use Rattle.tau_view.specs.Held.{Held, same_point}
use Rattle.tau_view.specs.Rules.{noted, noted_in, touched, depended, merged, with_roots, with_no_roots}
use Rattle.tau_view.proofs.Sets.{or_cases, or_left, or_right, is_same, same_of}
use Rattle.tau_trace.specs.declared.step.Step.TheVariants.{Take, Fall, Void, Send, New, Stabilize, Checkpoint, Echo}
use Rattle.tau_trace.specs.Steps.{ends_turn, is_send, makes_message}
use Rattle.tau_trace.specs.Run.{Run, step_at, ActsAt, Does}
use Rattle.tau_trace.specs.Numbering.{born, sent, IsNew, IsSent, IsEchoed, IsRepeated, direct, echoed, IsSendAt}
use Rattle.tau_trace.specs.Histories.{history, move_at, Closes, Falls}
use Rattle.tau_trace.specs.Points.{point_at, Stabilizes}
use Rattle.tau_trace.specs.Known.{WellFormed}
use Rattle.tau_trace.proofs.Agreement.{born-grows}
use Rattle.tau_trace.proofs.Counted.{move_at-own, closes_move, stabilizes_move}
use Rattle.tau_trace.proofs.Lists.{same_some}
use Rattle.tau_trace.proofs.Once.{origin_once, origin_acts, copies_have_their_origin}
use Rattle.tau_trace.proofs.Quiet.{acts}
use Rattle.tau_trace.specs.Turns.{HasOpenTurn}
use Rattle.tau_past.specs.Carried.{touches, is_set, Pending, Carried, SentWith, first_point}
use Rattle.tau_past.specs.Heard.{heard_by, Heard, HeardBy, HeardTogether, HoldsStepsBefore}
use Rattle.tau_past.specs.KnownLaws.{keeps_pending, HearsOf, HearsOfNone, With, HasBounds}
use Rattle.tau_past.proofs.BoundLemmas.{has_bounds}
use Rattle.tau_past.proofs.HeardLemmas.{new_acts, heard_after_step, heard_with_sender, copies_hear}
use Rattle.tau_past.proofs.Known.{acts_known, hears_known, heard_before}
use Rattle.tau_past.proofs.PendingLemmas.{pending_turn, pending_after_step}
use Rattle.tau_views.specs.Views.{IsPresent, is_owner, by_step, by_birth, IsViewOf, IsMessageView}
use Rattle.tau_views.specs.Laws.{only_touches, only_hears, with_newborn, ViewsStepByStep, CopiesHaveTheirView}
use Rattle.tau_views.proofs.Facts.{Knows, knows, view_of, with_owner, view_same}
use Rattle.tau_views.proofs.StepKinds.{does_of, does_as, hears_none, keeps_history, making_plain, making_keeps_pending, making_hears_none, making_keeps, hearing_plain, hearing_keeps_pending, hearing_keeps, touching_touches, touching_plain, touching_hears_none, touching_keeps, set_touches, set_hears_none, set_keeps, ending_plain, ending_hears_none, falling_ends}
use Rattle.tau_views.proofs.OwnSteps.{is_plain, carried_pending, set_makes_none, set_takes, new_takes, kept_told, newborn_told, more_edges, kept_step, noted_step}
use Rattle.tau_views.proofs.Unions.{knows_union}

-- another owner, where both are present anyway
owner_moves : (T : Run) (H : ℕ → Type 0) (owner : Option ℕ) (t u : ℕ) → ((o : Option ℕ) → IsPresent T H o t) → IsPresent T H (Some t) u → IsPresent T H owner u
owner_moves T H owner t u here (is_owner e) = subst (IsPresent T H owner) (same_some e) (here owner)
owner_moves T H owner t u here (by_step h a) = by_step h a
owner_moves T H owner t u here (by_birth h n) = by_birth h n

-- who is present without an owner is so with one
no_owner_moves : (T : Run) (H : ℕ → Type 0) (owner : Option ℕ) (u : ℕ) → IsPresent T H None u → IsPresent T H owner u
no_owner_moves T H owner u (is_owner e) = absurd (cc)
no_owner_moves T H owner u (by_step h a) = by_step h a
no_owner_moves T H owner u (by_birth h n) = by_birth h n

module _ (T : Run) (t k : ℕ) (x : Held) (w : WellFormed T) (there : t < born T k) (v : IsViewOf T t k x) where
  bounds : HasBounds T k
  bounds = has_bounds T k w

  here : Knows T (Heard T t k) (Some t) x.history x.edge
  here = knows T (Heard T t k) (Some t) (Pending T t k) x (λ u. bounds.transactor t u there) v

  own : HoldsStepsBefore T (Heard T t k) t k
  own = bounds.own t there

  -- from the facts and the roots after a step that hears of no message, and after one that hears of one
  alone_view : ActsAt T t k → HearsOfNone T k → (z : Held) → Knows T (With (Heard T t k) k) (Some t) z.history z.edge → ((q : Point) → IsTrue (z.root q) ↔ Pending T t (suc k) q) → IsViewOf T t (suc k) z
  alone_view at none z f r =
      view_same T (With (Heard T t k) k) (Heard T t (suc k)) (Some t) (Pending T t (suc k)) (Pending T t (suc k)) z ((heard_after_step T t k w).alone at none) (λ q. (λ p. p, λ p. p))
      (view_of T (With (Heard T t k) k) (Some t) (Pending T t (suc k)) z f r)

  hearing_view : (m : ℕ) → ActsAt T t k → HearsOf T k m → (z : Held) → Knows T (With (HeardTogether T t k m) k) (Some t) z.history z.edge → ((q : Point) → IsTrue (z.root q) ↔ Pending T t (suc k) q) → IsViewOf T t (suc k) z
  hearing_view m at e z f r =
      view_same T (With (HeardTogether T t k m) k) (Heard T t (suc k)) (Some t) (Pending T t (suc k)) (Pending T t (suc k)) z ((heard_after_step T t k w).hearing m at e) (λ q. (λ p. p, λ p. p))
      (view_of T (With (HeardTogether T t k m) k) (Some t) (Pending T t (suc k)) z f r)

  -- the roots after a step that touches, that ends the turn, and that does neither
  touched_roots : Does touches T t k → HasOpenTurn T t k → (q : Point) → IsTrue ((touched (point_at T t k) x).root q) ↔ Pending T t (suc k) q
  touched_roots d turn q =
      let after = (pending_after_step T t k).touching d q in (
        λ h. after.1 (⊎_elim (λ r. inl ((v.root q).0 r)) (λ s. inr (turn, is_same q (point_at T t k) s)) (or_cases (x.root q) (same_point q (point_at T t k)) h)),
        λ p. ⊎_elim (λ r. or_left (x.root q) (same_point q (point_at T t k)) ((v.root q).1 r)) (λ s. or_right (x.root q) (same_point q (point_at T t k)) (same_of q (point_at T t k) s.1)) (after.0 p),
      )

  ended_roots : Does ends_turn T t k → (q : Point) → IsTrue false ↔ Pending T t (suc k) q
  ended_roots d q = (λ h. absurd (cc), λ p. absurd ((pending_after_step T t k).ending d q p))

  kept_roots : Does keeps_pending T t k → (q : Point) → IsTrue (x.root q) ↔ Pending T t (suc k) q
  kept_roots d q =
      let after = (pending_after_step T t k).keeping d q in
      (λ r. after.1 ((v.root q).0 r), λ p. (v.root q).1 (after.0 p))

  -- a step of another one
  after_other : ¬ ActsAt T t k → IsViewOf T t (suc k) x
  after_other none =
      view_same T (Heard T t k) (Heard T t (suc k)) (Some t) (Pending T t k) (Pending T t (suc k)) x ((heard_after_step T t k w).other none) ((pending_after_step T t k).other none) v

  -- the facts after a step of t that is plain and hears of no message
  kept_facts : Does is_plain T t k → move_at T t k ≡ keep → Knows T (With (Heard T t k) k) (Some t) x.history x.edge
  kept_facts d move = kept_step T (Heard T t k) t k (acts T t k d.step d.stands d.by) own x.history x.edge d move here

  noted_facts : (m : timeline.Move) → Does is_plain T t k → move_at T t k ≡ m → Knows T (With (Heard T t k) k) (Some t) (noted_in t (moved m (history T t k)) x.history) x.edge
  noted_facts m d move = noted_step T (Heard T t k) t k (acts T t k d.step d.stands d.by) own x.history x.edge m d move here

  after_touching : Does only_touches T t k → HasOpenTurn T t k → IsViewOf T t (suc k) (touched (point_at T t k) x)
  after_touching d turn =
      alone_view (acts T t k d.step d.stands d.by) (hears_none T t k only_touches touching_hears_none d) (touched (point_at T t k) x)
      (kept_facts (does_as T t k only_touches is_plain touching_plain d) (keeps_history T t k only_touches touching_keeps d))
      (touched_roots (does_as T t k only_touches touches touching_touches d) turn)

  after_set : Does is_set T t k → HasOpenTurn T t k → IsViewOf T t (suc k) (touched (point_at T t k) (depended (point_at T t k) x))
  after_set d turn =
      alone_view at (hears_none T t k is_set set_hears_none d) (touched (point_at T t k) (depended (point_at T t k) x)) facts
      (touched_roots (does_as T t k is_set touches set_touches d) turn) where
        at : ActsAt T t k
        at = acts T t k d.step d.stands d.by

        facts : Knows T (With (Heard T t k) k) (Some t) x.history (depended (point_at T t k) x).edge
        facts = record {
          told = kept_told T (Heard T t k) t k at own x.history (set_makes_none T t k d) (keeps_history T t k is_set set_keeps d) here.told;
          edge = more_edges T (Heard T t k) t k at own x.edge (edges_to (point_at T t k) x.root) (set_takes T t k x.root v.root d) here.edge;
        }

  after_stabilize : Stabilizes T t k → HasOpenTurn T t k → IsViewOf T t (suc k) (touched (point_at T t k) (noted t (moved timeline.stabilize (history T t k)) x))
  after_stabilize e turn =
      alone_view (acts T t k (Stabilize t) e refl) (ap (option_and_then heard_by) e) (touched (point_at T t k) (noted t (moved timeline.stabilize (history T t k)) x))
      (noted_facts timeline.stabilize (does_of T t k is_plain (Stabilize t) e refl refl) (stabilizes_move T t k e))
      (touched_roots (does_of T t k touches (Stabilize t) e refl refl) turn)

  -- a step that does nothing to histories, edges and roots
  after_nothing : Does is_plain T t k → Does keeps_pending T t k → HearsOfNone T k → move_at T t k ≡ keep → IsViewOf T t (suc k) x
  after_nothing d p none move = alone_view (acts T t k d.step d.stands d.by) none x (kept_facts d move) (kept_roots p)

  after_void : (m : ℕ) → step_at T k ≡ Some (Void t m) → IsViewOf T t (suc k) x
  after_void m e = after_nothing (does_of T t k is_plain (Void t m) e refl refl) (does_of T t k keeps_pending (Void t m) e refl refl) (ap (option_and_then heard_by) e) (move_at-own T t k (Void t m) e refl)

  after_making : Does makes_message T t k → IsViewOf T t (suc k) x
  after_making d =
      after_nothing (does_as T t k makes_message is_plain making_plain d) (does_as T t k makes_message keeps_pending making_keeps_pending d)
      (hears_none T t k makes_message making_hears_none d) (keeps_history T t k makes_message making_keeps d)

  -- the facts of a message that the step makes
  made_facts : Does makes_message T t k → Knows T (With (Heard T t k) k) None x.history x.edge
  made_facts d =
      with_owner T (With (Heard T t k) k) (Some t) None x.history x.edge
      (λ u. (owner_moves T (With (Heard T t k) k) None t u present_here, no_owner_moves T (With (Heard T t k) k) (Some t) u))
      (kept_facts (does_as T t k makes_message is_plain making_plain d) (keeps_history T t k makes_message making_keeps d)) where
        present_here : (owner : Option ℕ) → IsPresent T (With (Heard T t k) k) owner t
        present_here owner = by_step (inr refl) (acts T t k d.step d.stands d.by)

  module _ (m : ℕ) (o : IsSent T k t m) where
    -- the message carries what was pending for its sender
    sent_pending : (q : Point) → SentWith T m q ↔ Pending T t k q
    sent_pending q = (
      λ s. (carried_pending T t k q at).0 (subst (λ j. Carried T j q) (origin_once T s.place k s.by t m s.origin (direct o)) s.carried),
      λ p. record { place = k; by = t; origin = direct o; send = ap (λ s. option_map_or is_send s false) o.stands; carried = (carried_pending T t k q at).1 p },
    ) where
      at : ActsAt T t k
      at = origin_acts T k t m (direct o)

    after_message : IsMessageView T m x
    after_message =
        view_same T (With (Heard T t k) k) (HeardBy T m) None (Pending T t k) (SentWith T m) x (heard_with_sender T m k t (direct o)) sent_pending
        (view_of T (With (Heard T t k) k) None (Pending T t k) x (made_facts (does_of T t k makes_message (Send t o.to o.value) o.stands refl refl)) v.root)

  module _ (n m : ℕ) (o : IsEchoed T k t n m) where
    -- a notice carries nothing
    notice_carries_none : (q : Point) → ¬ SentWith T m q
    notice_carries_none q s =
        let sends : IsSendAt T k = subst (IsSendAt T) (origin_once T s.place k s.by t m s.origin (echoed {n = n} o)) s.send in
        let both : false ≡ true = sym (ap (λ r. option_map_or is_send r false) o.stands) ∙ sends in
        cc

    after_notice : IsMessageView T m (with_no_roots x)
    after_notice =
        view_same T (With (Heard T t k) k) (HeardBy T m) None (SentWith T m) (SentWith T m) (with_no_roots x) (heard_with_sender T m k t (echoed {n = n} o)) (λ q. (λ p. p, λ p. p))
        (view_of T (With (Heard T t k) k) None (SentWith T m) (with_no_roots x) (made_facts (does_of T t k makes_message (Echo t n) o.stands refl refl)) none) where
          none : (q : Point) → IsTrue false ↔ SentWith T m q
          none q = (λ h. absurd (cc), λ s. absurd (notice_carries_none q s))

  module _ (u : ℕ) (n : IsNew T k t u) where
    new_facts : Knows T (With (Heard T t k) k) (Some t) (with_newborn u x).history (with_newborn u x).edge
    new_facts = record {
      told = newborn_told T (Heard T t k) t k at own x.history u w (λ j h. heard_before T t k j w there h) n (move_at-own T t k (New t n.behaviour n.node n.state) n.stands refl) here.told;
      edge = more_edges T (Heard T t k) t k at own x.edge (edges_to (first_point u) x.root) (new_takes T t k x.root v.root u n) here.edge;
    } where
      at : ActsAt T t k
      at = new_acts T k t u n

    after_new : IsViewOf T t (suc k) (with_newborn u x)
    after_new =
        alone_view (new_acts T k t u n) (ap (option_and_then heard_by) n.stands) (with_newborn u x) new_facts
        (kept_roots (does_of T t k keeps_pending (New t n.behaviour n.node n.state) n.stands refl refl))

    -- who is made by the step has no turn after it
    no_turn : ¬ HasOpenTurn T u (suc k)
    no_turn turn =
        let is = turn.1.1 in
        let lt = acts_known T u turn.0 w (acts T u turn.0 (Take u turn.1.0) is.takes refl) in
        omega (arith, lt, n.made, born-grows T turn.0 k (omega (arith, is.before)))

    after_newborn : IsViewOf T u (suc k) (with_no_roots (with_newborn u x))
    after_newborn =
        view_same T (With (Heard T t k) k) (Heard T u (suc k)) (Some u) (Pending T u (suc k)) (Pending T u (suc k)) (with_no_roots (with_newborn u x)) ((heard_after_step T u k w).created t n) (λ q. (λ p. p, λ p. p))
        (view_of T (With (Heard T t k) k) (Some u) (Pending T u (suc k)) (with_no_roots (with_newborn u x)) facts none) where
          maker_here : (owner : Option ℕ) → IsPresent T (With (Heard T t k) k) owner t
          maker_here owner = by_step (inr refl) (new_acts T k t u n)

          made_here : (owner : Option ℕ) → IsPresent T (With (Heard T t k) k) owner u
          made_here owner = by_birth (inr refl) n

          facts : Knows T (With (Heard T t k) k) (Some u) (with_newborn u x).history (with_newborn u x).edge
          facts =
              with_owner T (With (Heard T t k) k) (Some t) (Some u) (with_newborn u x).history (with_newborn u x).edge
              (λ z. (owner_moves T (With (Heard T t k) k) (Some u) t z maker_here, owner_moves T (With (Heard T t k) k) (Some t) u z made_here))
              new_facts

          none : (q : Point) → IsTrue false ↔ Pending T u (suc k) q
          none q = (λ h. absurd (cc), λ p. absurd (no_turn (pending_turn T u (suc k) q p)))

  -- steps that hear of a message
  module _ (m : ℕ) (y : Held) (vm : IsMessageView T m y) (hears : HearsOf T k m) where
    exists : m < sent T k
    exists = hears_known T m k w hears

    together : HoldsStepsBefore T (HeardTogether T t k m) t k
    together = bounds.together t m there exists

    merged_facts : Knows T (HeardTogether T t k m) (Some t) (merged x y).history (merged x y).edge
    merged_facts =
        knows_union T (Heard T t k) (HeardBy T m) (Some t) x y here
        (knows T (HeardBy T m) None (SentWith T m) y (λ u. bounds.message m u exists) vm)

    kept_merged : Does is_plain T t k → move_at T t k ≡ keep → Knows T (With (HeardTogether T t k m) k) (Some t) (merged x y).history (merged x y).edge
    kept_merged d move = kept_step T (HeardTogether T t k m) t k (acts T t k d.step d.stands d.by) together (merged x y).history (merged x y).edge d move merged_facts

    after_take : step_at T k ≡ Some (Take t m) → IsViewOf T t (suc k) (with_roots y.root (merged x y))
    after_take e = hearing_view m (acts T t k (Take t m) e refl) hears (with_roots y.root (merged x y)) (kept_merged (does_of T t k is_plain (Take t m) e refl refl) (move_at-own T t k (Take t m) e refl)) roots where
      roots : (q : Point) → IsTrue (y.root q) ↔ Pending T t (suc k) q
      roots q =
          let after = (pending_after_step T t k).take m e q in
          (λ r. after.1 ((vm.root q).0 r), λ p. (vm.root q).1 (after.0 p))

    after_hearing : Does only_hears T t k → IsViewOf T t (suc k) (merged x y)
    after_hearing d =
        hearing_view m (acts T t k d.step d.stands d.by) hears (merged x y)
        (kept_merged (does_as T t k only_hears is_plain hearing_plain d) (keeps_history T t k only_hears hearing_keeps d))
        (kept_roots (does_as T t k only_hears keeps_pending hearing_keeps_pending d))

    after_fall : step_at T k ≡ Some (Fall t m) → IsViewOf T t (suc k) (with_no_roots (noted t (moved timeline.fall (history T t k)) (merged x y)))
    after_fall e =
        let at = acts T t k (Fall t m) e refl in
        hearing_view m at hears (with_no_roots (noted t (moved timeline.fall (history T t k)) (merged x y)))
        (noted_step T (HeardTogether T t k m) t k at together (merged x y).history (merged x y).edge timeline.fall (does_of T t k is_plain (Fall t m) e refl refl) (move_at-own T t k (Fall t m) e refl) merged_facts)
        (ended_roots (does_of T t k ends_turn (Fall t m) e refl refl))

  -- steps that end the turn and hear of no message
  after_closing : Closes T t k → IsViewOf T t (suc k) (with_no_roots (noted t (moved close (history T t k)) x))
  after_closing e =
      alone_view (acts T t k (Checkpoint t) e refl) (ap (option_and_then heard_by) e) (with_no_roots (noted t (moved close (history T t k)) x))
      (noted_facts close (does_of T t k is_plain (Checkpoint t) e refl refl) (closes_move T t k e))
      (ended_roots (does_of T t k ends_turn (Checkpoint t) e refl refl))

  after_falling : Falls T t k → HearsOfNone T k → IsViewOf T t (suc k) (with_no_roots (noted t (moved timeline.fall (history T t k)) x))
  after_falling f none =
      let d = falling_ends T t k f in
      alone_view (acts T t k d.step d.stands d.by) none (with_no_roots (noted t (moved timeline.fall (history T t k)) x))
      (noted_facts timeline.fall (does_as T t k ends_turn is_plain ending_plain d) f)
      (ended_roots d)

  after_ending : Does ends_turn T t k → move_at T t k ≡ keep → IsViewOf T t (suc k) (with_no_roots x)
  after_ending d move =
      alone_view (acts T t k d.step d.stands d.by) (ending_hears_none T t k d move) (with_no_roots x)
      (kept_facts (does_as T t k ends_turn is_plain ending_plain d) move)
      (ended_roots d)

-- the view of a transactor after each kind of step
pub views_step_by_step : ViewsStepByStep
views_step_by_step T t k x w there v = record {
  other = after_other T t k x w there v;
  touching = after_touching T t k x w there v;
  set = after_set T t k x w there v;
  stabilize = after_stabilize T t k x w there v;
  making = after_making T t k x w there v;
  message = after_message T t k x w there v;
  notice = after_notice T t k x w there v;
  new = after_new T t k x w there v;
  newborn = after_newborn T t k x w there v;
  take = λ m y e vm. after_take T t k x w there v m y vm (ap (option_and_then heard_by) e) e;
  hearing = λ m y d e vm. after_hearing T t k x w there v m y vm e d;
  fall_by = λ m y e vm. after_fall T t k x w there v m y vm (ap (option_and_then heard_by) e) e;
  void = after_void T t k x w there v;
  closing = after_closing T t k x w there v;
  falling = after_falling T t k x w there v;
  ending = after_ending T t k x w there v;
}

-- a copy carries what the message that it repeats does
copies_carry : (T : Run) (k n m : ℕ) (q : Point) → IsRepeated T k n m → SentWith T m q ↔ SentWith T n q
copies_carry T k n m q c = (
  λ s. record { place = s.place; by = s.by; origin = (copies_have_their_origin T k n m s.place s.by c).0 s.origin; send = s.send; carried = s.carried },
  λ s. record { place = s.place; by = s.by; origin = (copies_have_their_origin T k n m s.place s.by c).1 s.origin; send = s.send; carried = s.carried },
)

pub copies_have_their_view : CopiesHaveTheirView
copies_have_their_view T k n m x c v =
    view_same T (HeardBy T n) (HeardBy T m) None (SentWith T n) (SentWith T m) x (copies_hear T k n m c) (λ q. copies_carry T k n m q c) v
