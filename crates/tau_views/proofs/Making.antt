-- Steps that make a message or a transactor, and steps that only take a message out of flight.
use Rattle.std.proofs.Common.{◌≡◌, ℕ, suc, ◌<◌, IsTrue, false, Some, None, refl, sym, ap, ◌∙◌, subst}
use Rattle.std.specs.Prelude.{slice_get}
use Rattle.tau_history.specs.Timeline.{newborn}
use Rattle.tau_view.specs.Held.{Held}
use Rattle.tau_view.specs.Rules.{with_no_roots}
use Rattle.tau_view.specs.Trim.{EdgeTest, RootTest, trim}
use Rattle.tau_view.specs.Laws.{MayNote}
use Rattle.tau_trace.specs.declared.step.Step.{Step}
use Rattle.tau_trace.specs.declared.step.Step.TheVariants.{Void, Send, New, Lose, Echo, Repeat}
use Rattle.tau_trace.specs.Steps.{actor, removed_by, is_new, is_send, makes_message}
use Rattle.tau_trace.specs.Run.{Run, len, step_at, appended}
use Rattle.tau_trace.specs.Numbering.{born, sent, IsNew, IsSent, IsEchoed, IsRepeated}
use Rattle.tau_trace.proofs.Lists.{same_some}
use Rattle.tau_rules.proofs.AppendedRuns.{here, born_here, sent_here, does_here}
use Rattle.tau_views.specs.Views.{IsViewOf, IsMessageView}
use Rattle.tau_views.specs.Laws.{ViewAfterStep, with_newborn}
use Rattle.tau_views.specs.declared.views.Views.{Views}
use Rattle.tau_views.specs.declared.views.ViewChange.{ViewChange}
use Rattle.tau_views.specs.Kept.{held_of, letters_of}
use Rattle.tau_views.specs.Inner.Trims.{IsAfter}
use Rattle.tau_views.specs.Inner.Next.{IsNext, AreNext, only_removes}
use Rattle.tau_views.proofs.Appended.{message_stays, after_step}
use Rattle.tau_views.proofs.Next.{actor_exists, unborn_history, next_by}
use Rattle.tau_views.proofs.ViewSteps.{copies_have_their_view}
use Rattle.tau_trace.specs.Known.{IsKnownAt}

not_new : (s : Step) → IsTrue (is_send s) → is_new s ≡ false
not_new (Send t u x) k = refl
not_new s k = absurd (cc)

send_keeps : (s : Step) → IsTrue (is_send s) → removed_by s ≡ None
send_keeps (Send t u x) k = refl
send_keeps s k = absurd (cc)

send_makes : (s : Step) → IsTrue (is_send s) → IsTrue (makes_message s)
send_makes (Send t u x) k = refl
send_makes s k = absurd (cc)

not_send : (s : Step) → IsTrue (is_new s) → makes_message s ≡ false
not_send (New t b n x) k = refl
not_send s k = absurd (cc)

new_keeps : (s : Step) → IsTrue (is_new s) → removed_by s ≡ None
new_keeps (New t b n x) k = refl
new_keeps s k = absurd (cc)

-- what the step makes
sends_there : (U : Run) (k t m : ℕ) (s : Step) → step_at U k ≡ Some s → IsTrue (is_send s) → actor s ≡ Some t → m ≡ sent U k → IsSent U k t m
sends_there U k t m (Send u w x) e kind by is = record { to = w; value = x; stands = e ∙ ap (λ i. Some (Send i w x)) (same_some by); made = is }
sends_there U k t m s e kind by is = absurd (cc)

makes_transactor : (U : Run) (k t u : ℕ) (s : Step) → step_at U k ≡ Some s → IsTrue (is_new s) → actor s ≡ Some t → u ≡ born U k → IsNew U k t u
makes_transactor U k t u (New w b n x) e kind by is = record { behaviour = b; node = n; state = x; stands = e ∙ ap (λ i. Some (New i b n x)) (same_some by); made = is }
makes_transactor U k t u s e kind by is = absurd (cc)

-- nobody hears by a Void or a Lose
removal_stays : (U : Run) (k t : ℕ) (x : Held) (s : Step) → step_at U k ≡ Some s → IsTrue (only_removes s) → actor s ≡ Some t → ViewAfterStep U t k x → IsViewOf U t (suc k) x
removal_stays U k t x (Void u m) e kind by after = after.void m (e ∙ ap (λ i. Some (Void i m)) (same_some by))
removal_stays U k t x (Lose m) e kind by after = absurd (cc)
removal_stays U k t x s e kind by after = absurd (cc)

removal_not_new : (s : Step) → IsTrue (only_removes s) → is_new s ≡ false
removal_not_new (Void t m) k = refl
removal_not_new (Lose m) k = refl
removal_not_new s k = absurd (cc)

removal_not_send : (s : Step) → IsTrue (only_removes s) → makes_message s ≡ false
removal_not_send (Void t m) k = refl
removal_not_send (Lose m) k = refl
removal_not_send s k = absurd (cc)

module _ {de : EdgeTest} {dr : RootTest} {V : Type 0} {held : V → Held} {v : Views V} {T : Run} {s : Step} (next : IsNext de dr held v T s) where
  -- a Void or a Lose
  pub by_removal : (m : ℕ) (c : ViewChange V) → IsTrue (only_removes s) → removed_by s ≡ Some m → c ≡ record { own = None; newborn = None; letter = None; gone = Some m } → AreNext de dr held v T s c
  by_removal m c kind removed is =
      let P : ViewChange V → Type 0 = λ d. AreNext de dr held v T s d in
      subst P (sym is) (next_by next (record { own = None; newborn = None; letter = None; gone = Some m }) (record {
        own = λ t x by exists own. removal_stays (appended T s) (len T) t x s (here T s) kind by (after_step T s next.well_formed next.follows t x exists own);
        newborn = removal_not_new s kind;
        letter = removal_not_send s kind;
        gone = sym removed;
      }))

  module _ (t : ℕ) (h : Held) (e : slice_get (held_of held v.own.items) t ≡ Some h) where
    -- a Send
    pub by_send : (a : V) (c : ViewChange V) → actor s ≡ Some t → IsTrue (is_send s) → held a ≡ h → c ≡ record { own = None; newborn = None; letter = Some a; gone = None } → AreNext de dr held v T s c
    by_send a c by kind same is =
        let P : ViewChange V → Type 0 = λ d. AreNext de dr held v T s d in
        let x = next.views.each t h e in
        let step = after_step T s next.well_formed next.follows t x.whole (actor_exists next t by) x.is_whole in
        subst P (sym is) (next_by next (record { own = None; newborn = None; letter = Some a; gone = None }) (record {
          own = λ u y acts exists own. (after_step T s next.well_formed next.follows u y exists own).making (does_here T s makes_message u acts (send_makes s kind));
          newborn = not_new s kind;
          letter = (send_makes s kind, record { whole = x.whole; is_whole = step.message (sent T (len T)) (sends_there (appended T s) (len T) t (sent T (len T)) s (here T s) kind by (sym (sent_here T s))); is = same ∙ x.is });
          gone = sym (send_keeps s kind);
        }))

    -- an Echo
    pub by_echo : (n : ℕ) (a : V) (c : ViewChange V) → s ≡ Echo t n → IsAfter de dr with_no_roots h (held a) → c ≡ record { own = None; newborn = None; letter = Some a; gone = Some n } → AreNext de dr held v T s c
    by_echo n a c kind after is =
        let P : ViewChange V → Type 0 = λ d. AreNext de dr held v T s d in
        let x = next.views.each t h e in
        let step = after_step T s next.well_formed next.follows t x.whole (actor_exists next t (ap actor kind)) x.is_whole in
        let known : (t < born T (len T)) × (n < sent T (len T)) = subst (IsKnownAt T (len T)) kind next.follows.known in
        let made : IsEchoed (appended T s) (len T) t n (sent T (len T)) = record { stands = here T s ∙ ap Some kind; made = sym (sent_here T s); earlier = known.1 } in
        subst P (sym is) (next_by next (record { own = None; newborn = None; letter = Some a; gone = Some n }) (record {
          own = λ u y acts exists own. (after_step T s next.well_formed next.follows u y exists own).making (does_here T s makes_message u acts (ap makes_message kind));
          newborn = ap is_new kind;
          letter = (ap makes_message kind, record { whole = with_no_roots x.whole; is_whole = step.notice n (sent T (len T)) made; is = after x.whole x.is });
          gone = sym (ap removed_by kind);
        }))

    pub may_note_new : actor s ≡ Some t → MayNote (born T (len T)) newborn h.history
    may_note_new by j f =
        let none = unborn_history de dr held v T next.views next.well_formed t h (actor_exists next t by) e in
        absurd (let both = sym none ∙ f in cc)

    -- a New
    pub by_new : (u : ℕ) (a b : V) (c : ViewChange V) → u ≡ born T (len T) → actor s ≡ Some t → IsTrue (is_new s) → IsAfter de dr (with_newborn u) h (held a) → IsAfter de dr with_no_roots (held a) (held b)
        → c ≡ record { own = Some (t, a); newborn = Some b; letter = None; gone = None } → AreNext de dr held v T s c
    by_new u a b c made by kind first second is =
        let P : ViewChange V → Type 0 = λ d. AreNext de dr held v T s d in
        let x = next.views.each t h e in
        let Q : ℕ → Type 0 = λ i. IsViewOf (appended T s) i (suc (len T)) (with_no_roots (with_newborn u x.whole)) in
        let step = after_step T s next.well_formed next.follows t x.whole (actor_exists next t by) x.is_whole in
        let birth = makes_transactor (appended T s) (len T) t u s (here T s) kind by (made ∙ sym (born_here T s)) in
        let grown : held a ≡ trim de dr (with_newborn u x.whole) = first x.whole x.is in
        subst P (sym is) (next_by next (record { own = Some (t, a); newborn = Some b; letter = None; gone = None }) (record {
          own = (by, record { whole = with_newborn u x.whole; is_whole = step.new u birth; is = grown });
          newborn = (kind, record { whole = with_no_roots (with_newborn u x.whole); is_whole = subst Q made (step.newborn u birth); is = second (with_newborn u x.whole) grown });
          letter = not_send s kind;
          gone = sym (new_keeps s kind);
        }))

  -- a Repeat
  pub by_copy : (n : ℕ) (l : Held) (a : V) (c : ViewChange V) → slice_get (letters_of held v.letters.items) n ≡ Some (Some l) → s ≡ Repeat n → held a ≡ l → c ≡ record { own = None; newborn = None; letter = Some a; gone = None } → AreNext de dr held v T s c
  by_copy n l a c f kind same is =
      let P : ViewChange V → Type 0 = λ d. AreNext de dr held v T s d in
      let y = next.views.letter n l f in
      let exists : n < sent T (len T) = (next.ready.repeating n kind).exists in
      let made : IsRepeated (appended T s) (len T) n (sent T (len T)) = record { stands = here T s ∙ ap Some kind; made = sym (sent_here T s); earlier = exists } in
      let view : IsMessageView (appended T s) (sent T (len T)) y.whole = copies_have_their_view (appended T s) (len T) n (sent T (len T)) y.whole made (message_stays T s next.well_formed next.follows n y.whole exists y.is_whole) in
      subst P (sym is) (next_by next (record { own = None; newborn = None; letter = Some a; gone = None }) (record {
        own = λ u x acts exists own. absurd (let both : None ≡ Some u = sym (ap actor kind) ∙ acts in cc);
        newborn = ap is_new kind;
        letter = (ap makes_message kind, record { whole = y.whole; is_whole = view; is = same ∙ y.is });
        gone = sym (ap removed_by kind);
      }))
