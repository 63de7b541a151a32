-- Steps that hear of a message.
use Rattle.std.proofs.Common.{◌≡◌, ℕ, suc, ◌<◌, IsTrue, false, Some, None, refl, sym, ap, ◌∙◌, subst, arith}
use Rattle.std.specs.Prelude.{slice_get, option_and_then}
use Rattle.tau_history.specs.Timeline.{Timeline, moved, fall}
use Rattle.tau_view.specs.Held.{Held}
use Rattle.tau_view.specs.Rules.{noted, merged, with_roots, with_no_roots}
use Rattle.tau_view.specs.Trim.{EdgeTest, RootTest}
use Rattle.tau_view.specs.Laws.{MayNote}
use Rattle.tau_trace.specs.declared.step.Step.{Step}
use Rattle.tau_trace.specs.declared.step.Step.TheVariants.{Take, Drop, Fall, Heed}
use Rattle.tau_trace.specs.Steps.{actor, removed_by, is_new, makes_message}
use Rattle.tau_trace.specs.Run.{Run, len, appended}
use Rattle.tau_trace.specs.Numbering.{born, sent}
use Rattle.tau_trace.specs.Histories.{history}
use Rattle.tau_trace.specs.Known.{MayFollow, WellFormed}
use Rattle.tau_trace.proofs.Agreement.{agree_appended, history-same}
use Rattle.tau_trace.proofs.Counted.{history-suc, move_at-own}
use Rattle.tau_past.specs.Heard.{heard_by}
use Rattle.tau_rules.proofs.AppendedRuns.{here, born_then, does_here, well_formed_then}
use Rattle.tau_views.specs.Views.{IsViewOf, IsMessageView}
use Rattle.tau_views.specs.Laws.{only_hears}
use Rattle.tau_views.specs.declared.views.Views.{Views}
use Rattle.tau_views.specs.declared.views.ViewChange.{ViewChange}
use Rattle.tau_views.specs.Kept.{held_of, letters_of}
use Rattle.tau_views.specs.Inner.Trims.{IsAfter, IsAfterBoth}
use Rattle.tau_views.specs.Inner.Next.{IsNext, AreNext}
use Rattle.tau_views.proofs.HeardLaws.{views_have_the_own_history}
use Rattle.tau_views.proofs.Trimmed.{same_history}
use Rattle.tau_views.proofs.Appended.{message_stays, after_step}
use Rattle.tau_views.proofs.Next.{own_change, actor_exists, may_move, history_then, next_own}

-- with a message's facts the view has still its own history: it has it after a Drop, which could follow
merged_history : (T : Run) (t m : ℕ) (x y : Held) → WellFormed T → len T < 1000000 → t < born T (len T) → m < sent T (len T) → IsViewOf T t (len T) x → IsMessageView T m y → (merged x y).history t ≡ Some (history T t (len T))
merged_history T t m x y w few exists sent_before own message =
    let s : Step = Drop t m in
    let may : MayFollow T (Drop t m) = record { known = (exists, sent_before); version = tt; few_steps = few } in
    let then = well_formed_then T (Drop t m) w may in
    let after = (after_step T (Drop t m) w may t x exists own).hearing m y (does_here T (Drop t m) only_hears t refl refl) (ap (option_and_then heard_by) (here T (Drop t m))) (message_stays T (Drop t m) w may m y sent_before message) in
    let same : history (appended T (Drop t m)) t (suc (len T)) ≡ history T t (len T) =
    history-suc (appended T (Drop t m)) t (len T)
    ∙ ap (λ a. moved a (history (appended T (Drop t m)) t (len T))) (move_at-own (appended T (Drop t m)) t (len T) (Drop t m) (here T (Drop t m)) refl)
    ∙ sym (history-same t (len T) (agree_appended T (Drop t m))) in
    views_have_the_own_history (appended T (Drop t m)) t (suc (len T)) (merged x y) then (omega (arith, exists, born_then T (Drop t m))) after ∙ ap Some same

hearing_not_new : (s : Step) → IsTrue (only_hears s) → is_new s ≡ false
hearing_not_new (Drop t m) h = refl
hearing_not_new (Heed t m) h = refl
hearing_not_new s h = absurd (cc)

hearing_makes_none : (s : Step) → IsTrue (only_hears s) → makes_message s ≡ false
hearing_makes_none (Drop t m) h = refl
hearing_makes_none (Heed t m) h = refl
hearing_makes_none s h = absurd (cc)

hearing_removes : (s : Step) → IsTrue (only_hears s) → removed_by s ≡ heard_by s
hearing_removes (Drop t m) h = refl
hearing_removes (Heed t m) h = refl
hearing_removes s h = absurd (cc)

module _ {de : EdgeTest} {dr : RootTest} {V : Type 0} {held : V → Held} {v : Views V} {T : Run} {s : Step} (next : IsNext de dr held v T s) (t m : ℕ) (h l : Held)
    (e : slice_get (held_of held v.own.items) t ≡ Some h) (f : slice_get (letters_of held v.letters.items) m ≡ Some (Some l)) where
  pub heard_exists : heard_by s ≡ Some m → m < sent T (len T)
  heard_exists hears = (next.ready.hearing m hears).exists

  module _ (a : V) (c : ViewChange V) where
    -- a Take
    pub by_take : s ≡ Take t m → c ≡ own_change t a (Some m) → IsAfterBoth de dr (λ x y. with_roots y.root (merged x y)) h l (held a) → AreNext de dr held v T s c
    by_take kind is after =
        let x = next.views.each t h e in
        let y = next.views.letter m l f in
        let step = after_step T s next.well_formed next.follows t x.whole (actor_exists next t (ap actor kind)) x.is_whole in
        let message = message_stays T s next.well_formed next.follows m y.whole (heard_exists (ap heard_by kind)) y.is_whole in
        next_own next t a (Some m) (with_roots y.whole.root (merged x.whole y.whole)) c is (ap actor kind) (ap is_new kind) (ap makes_message kind) (sym (ap removed_by kind)) (after x.whole y.whole x.is y.is)
        (step.take m y.whole (here T s ∙ ap Some kind) message)

    -- a Drop or a Heed
    pub by_merge : actor s ≡ Some t → IsTrue (only_hears s) → heard_by s ≡ Some m → c ≡ own_change t a (Some m) → IsAfterBoth de dr merged h l (held a) → AreNext de dr held v T s c
    by_merge by kind hears is after =
        let x = next.views.each t h e in
        let y = next.views.letter m l f in
        let step = after_step T s next.well_formed next.follows t x.whole (actor_exists next t by) x.is_whole in
        let message = message_stays T s next.well_formed next.follows m y.whole (heard_exists hears) y.is_whole in
        next_own next t a (Some m) (merged x.whole y.whole) c is by (hearing_not_new s kind) (hearing_makes_none s kind) (sym (hearing_removes s kind ∙ hears)) (after x.whole y.whole x.is y.is)
        (step.hearing m y.whole (does_here T s only_hears t by kind) (ap (option_and_then heard_by) (here T s) ∙ hears) message)

  -- a Fall, through the view with the message's facts
  module _ (mid : Held) (both : IsAfterBoth de dr merged h l mid) (k : Timeline) (moves : k ≡ moved fall (history T t (len T))) (kind : s ≡ Fall t m) where
    pub may_note_fall : MayNote t k mid.history
    may_note_fall =
        let x = next.views.each t h e in
        let y = next.views.letter m l f in
        let own = merged_history T t m x.whole y.whole next.well_formed next.follows.few_steps (actor_exists next t (ap actor kind)) (heard_exists (ap heard_by kind)) x.is_whole y.is_whole in
        may_move next fall t k mid tt moves (same_history de dr mid (merged x.whole y.whole) t (both x.whole y.whole x.is y.is) ∙ own)

    pub by_fall : (a : V) (c : ViewChange V) → c ≡ own_change t a None → IsAfter de dr (λ x. with_no_roots (noted t k x)) mid (held a) → AreNext de dr held v T s c
    by_fall a c is after =
        let x = next.views.each t h e in
        let y = next.views.letter m l f in
        let step = after_step T s next.well_formed next.follows t x.whole (actor_exists next t (ap actor kind)) x.is_whole in
        let message = message_stays T s next.well_formed next.follows m y.whole (heard_exists (ap heard_by kind)) y.is_whole in
        let moves_then : k ≡ moved fall (history (appended T s) t (len T)) = moves ∙ ap (moved fall) (sym (history_then next t)) in
        let Q : Timeline → Type 0 = λ j. IsViewOf (appended T s) t (suc (len T)) (with_no_roots (noted t j (merged x.whole y.whole))) in
        next_own next t a None (with_no_roots (noted t k (merged x.whole y.whole))) c is (ap actor kind) (ap is_new kind) (ap makes_message kind) (sym (ap removed_by kind)) (after (merged x.whole y.whole) (both x.whole y.whole x.is y.is))
        (subst Q (sym moves_then) (step.fall_by m y.whole (here T s ∙ ap Some kind) message))
