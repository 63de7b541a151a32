-- Steps that end a turn.
use Rattle.std.proofs.Common.{◌≡◌, ℕ, suc, IsTrue, Bool, Some, None, refl, sym, ap, ◌∙◌, subst}
use Rattle.std.specs.Prelude.{slice_get, option_and_then}
use Rattle.tau_history.specs.Timeline.{Timeline, Move, keep, stabilize, close, fall, moved}
use Rattle.tau_view.specs.Held.{Held}
use Rattle.tau_view.specs.Rules.{noted, with_no_roots}
use Rattle.tau_view.specs.Trim.{EdgeTest, RootTest}
use Rattle.tau_view.specs.Laws.{MayNote}
use Rattle.tau_trace.specs.declared.step.Step.{Step}
use Rattle.tau_trace.specs.declared.step.Step.TheVariants.{Fall, Checkpoint, Hold, Rollback, Stay, Done, Trap, Fail}
use Rattle.tau_trace.specs.Steps.{actor, removed_by, ends_turn, is_new, makes_message}
use Rattle.tau_trace.specs.Run.{Run, len, appended}
use Rattle.tau_trace.specs.Histories.{history, move_of, move_at}
use Rattle.tau_trace.proofs.Counted.{move_at-own}
use Rattle.tau_past.specs.Heard.{heard_by}
use Rattle.tau_rules.proofs.AppendedRuns.{here, does_here}
use Rattle.tau_views.specs.Views.{IsViewOf}
use Rattle.tau_views.specs.declared.views.Views.{Views}
use Rattle.tau_views.specs.declared.views.ViewChange.{ViewChange}
use Rattle.tau_views.specs.Kept.{held_of}
use Rattle.tau_views.specs.Inner.Trims.{IsAfter}
use Rattle.tau_views.specs.Inner.Next.{IsNext, AreNext}
use Rattle.tau_views.proofs.Appended.{after_step}
use Rattle.tau_views.proofs.Next.{IsPlain, own_change, actor_exists, own_history_is, may_move, history_then, next_own}

plain_fall : (b : Bool) (s : Step) → move_of b s ≡ fall → IsPlain s
plain_fall b (Fall t m) e = record { new = refl; send = refl; removed = refl }
plain_fall b (Rollback t) e = record { new = refl; send = refl; removed = refl }
plain_fall b (Trap t x) e = record { new = refl; send = refl; removed = refl }
plain_fall b (Fail t) e = record { new = refl; send = refl; removed = refl }
plain_fall b s e = absurd (cc)

plain_end : (s : Step) → IsTrue (ends_turn s) → IsPlain s
plain_end (Fall t m) e = record { new = refl; send = refl; removed = refl }
plain_end (Done t) e = record { new = refl; send = refl; removed = refl }
plain_end (Checkpoint t) e = record { new = refl; send = refl; removed = refl }
plain_end (Hold t) e = record { new = refl; send = refl; removed = refl }
plain_end (Rollback t) e = record { new = refl; send = refl; removed = refl }
plain_end (Stay t) e = record { new = refl; send = refl; removed = refl }
plain_end (Trap t x) e = record { new = refl; send = refl; removed = refl }
plain_end (Fail t) e = record { new = refl; send = refl; removed = refl }
plain_end s e = absurd (cc)

module _ {de : EdgeTest} {dr : RootTest} {V : Type 0} {held : V → Held} {v : Views V} {T : Run} {s : Step} (next : IsNext de dr held v T s) (t : ℕ) (h : Held)
    (e : slice_get (held_of held v.own.items) t ≡ Some h) (by : actor s ≡ Some t) where
  own : h.history t ≡ Some (history T t (len T))
  own = own_history_is de dr held v T next.views next.well_formed t h (actor_exists next t by) e

  move_then : (m : Move) → move_of (history T t (len T)).stable s ≡ m → move_at (appended T s) t (len T) ≡ m
  move_then m is = move_at-own (appended T s) t (len T) s (here T s) by ∙ ap (λ x. move_of x.stable s) (history_then next t) ∙ is

  pub may_note_fall : (k : Timeline) → k ≡ moved fall (history T t (len T)) → MayNote t k h.history
  may_note_fall k moves = may_move next fall t k h tt moves own

  pub may_note_close : (k : Timeline) → s ≡ Checkpoint t → k ≡ moved close (history T t (len T)) → MayNote t k h.history
  may_note_close k kind moves = may_move next close t k h (next.ready.closing t kind) moves own

  pub may_note_stable : (k : Timeline) → k ≡ moved stabilize (history T t (len T)) → MayNote t k h.history
  may_note_stable k moves = may_move next stabilize t k h tt moves own

  module _ (a : V) (c : ViewChange V) (is : c ≡ own_change t a None) where
    -- a Checkpoint
    pub by_close : (k : Timeline) → s ≡ Checkpoint t → k ≡ moved close (history T t (len T)) → IsAfter de dr (λ x. with_no_roots (noted t k x)) h (held a) → AreNext de dr held v T s c
    by_close k kind moves after =
        let x = next.views.each t h e in
        let step = after_step T s next.well_formed next.follows t x.whole (actor_exists next t by) x.is_whole in
        let moves_then : k ≡ moved close (history (appended T s) t (len T)) = moves ∙ ap (moved close) (sym (history_then next t)) in
        let Q : Timeline → Type 0 = λ j. IsViewOf (appended T s) t (suc (len T)) (with_no_roots (noted t j x.whole)) in
        next_own next t a None (with_no_roots (noted t k x.whole)) c is by (ap is_new kind) (ap makes_message kind) (sym (ap removed_by kind)) (after x.whole x.is)
        (subst Q (sym moves_then) (step.closing (here T s ∙ ap Some kind)))

    -- a step by which t falls and hears of no message
    pub by_leaving : (k : Timeline) → move_of (history T t (len T)).stable s ≡ fall → heard_by s ≡ None → k ≡ moved fall (history T t (len T)) → IsAfter de dr (λ x. with_no_roots (noted t k x)) h (held a) → AreNext de dr held v T s c
    by_leaving k falls alone moves after =
        let x = next.views.each t h e in
        let plain = plain_fall (history T t (len T)).stable s falls in
        let step = after_step T s next.well_formed next.follows t x.whole (actor_exists next t by) x.is_whole in
        let moves_then : k ≡ moved fall (history (appended T s) t (len T)) = moves ∙ ap (moved fall) (sym (history_then next t)) in
        let Q : Timeline → Type 0 = λ j. IsViewOf (appended T s) t (suc (len T)) (with_no_roots (noted t j x.whole)) in
        next_own next t a None (with_no_roots (noted t k x.whole)) c is by plain.new plain.send (sym plain.removed) (after x.whole x.is)
        (subst Q (sym moves_then) (step.falling (move_then fall falls) (ap (option_and_then heard_by) (here T s) ∙ alone)))

    -- a step by which the turn of t ends, and t's history stays
    pub by_end : IsTrue (ends_turn s) → move_of (history T t (len T)).stable s ≡ keep → IsAfter de dr with_no_roots h (held a) → AreNext de dr held v T s c
    by_end ends keeps after =
        let x = next.views.each t h e in
        let plain = plain_end s ends in
        let step = after_step T s next.well_formed next.follows t x.whole (actor_exists next t by) x.is_whole in
        next_own next t a None (with_no_roots x.whole) c is by plain.new plain.send (sym plain.removed) (after x.whole x.is)
        (step.ending (does_here T s ends_turn t by ends) (move_then keep keeps))
