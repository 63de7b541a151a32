-- What a change has to be so that the views after it are those of the run and the step.
use Rattle.std.proofs.Common.{◌≡◌, ◌⊎◌, inl, inr, ⊎_elim, ℕ, suc, ◌<◌, ◌≤◌, IsTrue, Bool, true, false, List, [], ◌∷◌, ◌++◌, length, set, Option, Some, None, refl, sym, ap, ◌∙◌, subst, arith, length-append}
use Rattle.std.specs.Prelude.{slice_get, IsFalse}
use Rattle.std.proofs.lemmas.Option.{slice_get_within}
use Rattle.std.proofs.lemmas.Bool.{cases_eq}
use Rattle.tau_view.specs.Held.{Held}
use Rattle.tau_view.specs.Trim.{EdgeTest, RootTest}
use Rattle.tau_trace.specs.declared.step.Step.{Step}
use Rattle.tau_trace.specs.Steps.{actor, removed_by, is_new, makes_message}
use Rattle.tau_trace.specs.Run.{Run, len, appended}
use Rattle.tau_trace.specs.Numbering.{born, sent, InFlight}
use Rattle.tau_trace.specs.Known.{MayFollow, WellFormed}
use Rattle.tau_trace.proofs.Indexing.{len-appended}
use Rattle.tau_trace.proofs.Lists.{same_some, slice_get-set_same, slice_get-set_other, slice_get-front, slice_get-last, slice_get-push_cases}
use Rattle.tau_rules.proofs.AppendedRuns.{one_if, born_then, sent_then, acts_here, flew, flies_on, not_removed, new_flies}
use Rattle.tau_views.specs.Views.{IsViewOf, IsMessageView}
use Rattle.tau_views.specs.declared.views.ViewChange.{ViewChange}
use Rattle.tau_views.specs.Kept.{IsTrimmed, AreViews}
use Rattle.tau_views.specs.Changes.{with_item, with_last, without_item, with_letter, own_after, letters_after}
use Rattle.tau_views.proofs.Lists.{length-with_item, length-without_item, left_in, left_other, taken_out}
use Rattle.tau_views.proofs.Appended.{message_stays, after_step, at_end}

-- the actor's view changes to one that it has after the step, or stays one
abbrev pub OwnFollows : EdgeTest → RootTest → Run → Step → Option (ℕ × Held) → Type 0
OwnFollows de dr T s None = (t : ℕ) (x : Held) → actor s ≡ Some t → t < born T (len T) → IsViewOf T t (len T) x → IsViewOf (appended T s) t (suc (len T)) x
OwnFollows de dr T s (Some e) = (actor s ≡ Some e.0) × IsTrimmed de dr (IsViewOf (appended T s) e.0 (suc (len T))) e.1

-- a New makes the view of a transactor, and no other step does
abbrev pub NewbornFollows : EdgeTest → RootTest → Run → Step → Option Held → Type 0
NewbornFollows de dr T s None = IsFalse (is_new s)
NewbornFollows de dr T s (Some h) = IsTrue (is_new s) × IsTrimmed de dr (IsViewOf (appended T s) (born T (len T)) (suc (len T))) h

-- and a Send, an Echo and a Repeat that of a message
abbrev pub LetterFollows : EdgeTest → RootTest → Run → Step → Option Held → Type 0
LetterFollows de dr T s None = IsFalse (makes_message s)
LetterFollows de dr T s (Some h) = IsTrue (makes_message s) × IsTrimmed de dr (IsMessageView (appended T s) (sent T (len T))) h

pub record Follows (de : EdgeTest) (dr : RootTest) (T : Run) (s : Step) (c : ViewChange Held) : Type 0 where
  pub own : OwnFollows de dr T s c.own
  pub newborn : NewbornFollows de dr T s c.newborn
  pub letter : LetterFollows de dr T s c.letter
  pub gone : c.gone ≡ removed_by s

module _ (de : EdgeTest) (dr : RootTest) (T : Run) (s : Step) (own : List Held) (letters : List (Option Held)) (w : WellFormed T) (may : MayFollow T s) (views : AreViews de dr T own letters) where
  exists : (t : ℕ) (h : Held) → slice_get own t ≡ Some h → t < born T (len T)
  exists t h e = omega (arith, slice_get_within own t h e, views.transactors)

  -- the view of one that makes no step
  other_after : (t : ℕ) (h : Held) → slice_get own t ≡ Some h → ¬ (actor s ≡ Some t) → IsTrimmed de dr (IsViewOf (appended T s) t (suc (len T))) h
  other_after t h e not =
      let x = views.each t h e in
      record { whole = x.whole; is_whole = (after_step T s w may t x.whole (exists t h e) x.is_whole).other (λ a. not (acts_here T s t a)); is = x.is }

  stays_after : OwnFollows de dr T s None → (t : ℕ) (h : Held) → slice_get own t ≡ Some h → IsTrimmed de dr (IsViewOf (appended T s) t (suc (len T))) h
  stays_after f t h e = by (actor s) refl where
    by : (o : Option ℕ) → actor s ≡ o → IsTrimmed de dr (IsViewOf (appended T s) t (suc (len T))) h
    by None g = other_after t h e (λ a. let both = sym g ∙ a in cc)
    by (Some u) g = ⊎_elim
        (λ (is : u ≡ t). let x = views.each t h e in record { whole = x.whole; is_whole = f t x.whole (g ∙ ap Some is) (exists t h e) x.is_whole; is = x.is })
        (λ ne. other_after t h e (λ a. ne (same_some (sym g ∙ a))))
        (cases_eq u t)

  own_views : (o : Option (ℕ × Held)) → OwnFollows de dr T s o → (t : ℕ) (h : Held) → slice_get (with_item o own) t ≡ Some h → IsTrimmed de dr (IsViewOf (appended T s) t (suc (len T))) h
  own_views None f t h e = stays_after f t h e
  own_views (Some c) f t h e = ⊎_elim
      (λ (is : t ≡ c.0).
      let P : ℕ → Type 0 = λ i. i < length own in
      let within : c.0 < length own = subst P is (inside (slice_get_within (set own c.0 c.1) t h e)) in
      let same : c.1 ≡ h = same_some (sym (slice_get-set_same own c.0 c.1 within) ∙ ap (slice_get (set own c.0 c.1)) (sym is) ∙ e) in
      let Q : ℕ → Held → Type 0 = λ i k. IsTrimmed de dr (IsViewOf (appended T s) i (suc (len T))) k in
      subst (λ i. Q i h) (sym is) (subst (Q c.0) same f.1))
      (λ ne. other_after t h (sym (slice_get-set_other own c.0 t c.1 ne) ∙ e) (λ a. ne (same_some (sym a ∙ f.0))))
      (cases_eq t c.0)
    where
      inside : t < length (set own c.0 c.1) → t < length own
      inside l = omega (arith, l, length-with_item (Some c) own)

  all_views : (o : Option (ℕ × Held)) (n : Option Held) → OwnFollows de dr T s o → NewbornFollows de dr T s n → (t : ℕ) (h : Held) → slice_get (with_last n (with_item o own)) t ≡ Some h → IsTrimmed de dr (IsViewOf (appended T s) t (suc (len T))) h
  all_views o None f g t h e = own_views o f t h e
  all_views o (Some k) f g t h e = ⊎_elim
      (λ a. own_views o f t h a)
      (λ b.
      let is : born T (len T) ≡ t = omega (arith, b.0, length-with_item o own, views.transactors) in
      let Q : ℕ → Held → Type 0 = λ i x. IsTrimmed de dr (IsViewOf (appended T s) i (suc (len T))) x in
      subst (λ i. Q i h) is (subst (Q (born T (len T))) b.1 g.1))
      (slice_get-push_cases (with_item o own) k h t e)

  count_own : (o : Option (ℕ × Held)) (n : Option Held) → NewbornFollows de dr T s n → length (with_last n (with_item o own)) ≡ born (appended T s) (suc (len T))
  count_own o None g = omega (arith, length-with_item o own, views.transactors, born_then T s, ap one_if g)
  count_own o (Some k) g = omega (arith, length-append (with_item o own) (k ∷ []), length-with_item o own, views.transactors, born_then T s, ap one_if g.0)

  count_letters : (o : Option ℕ) (l : Option Held) → LetterFollows de dr T s l → length (with_letter l (without_item o letters)) ≡ sent (appended T s) (suc (len T))
  count_letters o None g = omega (arith, length-without_item o letters, views.messages, sent_then T s, ap one_if g)
  count_letters o (Some k) g = omega (arith, length-append (without_item o letters) (Some k ∷ []), length-without_item o letters, views.messages, sent_then T s, ap one_if g.0)

  old_letter : (o : Option ℕ) (m : ℕ) (h : Held) → slice_get (without_item o letters) m ≡ Some (Some h) → IsTrimmed de dr (IsMessageView (appended T s) m) h
  old_letter o m h e =
      let before = left_in o letters m h e in
      let x = views.letter m h before in
      record { whole = x.whole; is_whole = message_stays T s w may m x.whole (omega (arith, slice_get_within letters m (Some h) before, views.messages)) x.is_whole; is = x.is }

  all_letters : (o : Option ℕ) (l : Option Held) → LetterFollows de dr T s l → (m : ℕ) (h : Held) → slice_get (with_letter l (without_item o letters)) m ≡ Some (Some h) → IsTrimmed de dr (IsMessageView (appended T s) m) h
  all_letters o None g m h e = old_letter o m h e
  all_letters o (Some k) g m h e = ⊎_elim
      (λ a. old_letter o m h a)
      (λ b.
      let is : sent T (len T) ≡ m = omega (arith, b.0, length-without_item o letters, views.messages) in
      let same : k ≡ h = same_some b.1 in
      let Q : ℕ → Held → Type 0 = λ i x. IsTrimmed de dr (IsMessageView (appended T s) i) x in
      subst (λ i. Q i h) is (subst (Q (sent T (len T))) same g.1))
      (slice_get-push_cases (without_item o letters) (Some k) (Some h) m e)

  -- messages that were there before the step
  kept_in : (o : Option ℕ) (l : Option Held) (m : ℕ) (x : Option Held) → slice_get (without_item o letters) m ≡ Some x → slice_get (with_letter l (without_item o letters)) m ≡ Some x
  kept_in o None m x e = e
  kept_in o (Some k) m x e = sym (slice_get-front (without_item o letters) (Some k) m (slice_get_within (without_item o letters) m x e)) ∙ e

  below_or_new : (m : ℕ) → m < sent (appended T s) (suc (len T)) → (m < sent T (len T)) ⊎ ((sent T (len T) ≤ m) × (makes_message s ≡ true) × (m ≡ sent T (len T)))
  below_or_new m l = by (makes_message s) refl (split m (sent T (len T))) where
    split : (a b : ℕ) → (a < b) ⊎ (b ≤ a)
    split a b = grind arith

    by : (b : Bool) → makes_message s ≡ b → (m < sent T (len T)) ⊎ (sent T (len T) ≤ m) → (m < sent T (len T)) ⊎ ((sent T (len T) ≤ m) × (makes_message s ≡ true) × (m ≡ sent T (len T)))
    by b e (inl a) = inl a
    by true e (inr g) = inr (g, e, omega (arith, g, l, sent_then T s, ap one_if e))
    by false e (inr g) = absurd (omega (arith, g, l, sent_then T s, ap one_if e))

  flying : (l : Option Held) → LetterFollows de dr T s l → (m : ℕ) → InFlight (appended T s) m (suc (len T)) → (h : Held) × (slice_get (with_letter l (without_item (removed_by s) letters)) m ≡ Some (Some h))
  flying l g m f = ⊎_elim old (λ n. new l g n.1 n.2) (below_or_new m f.exists) where
    old : m < sent T (len T) → (h : Held) × (slice_get (with_letter l (without_item (removed_by s) letters)) m ≡ Some (Some h))
    old b =
        let x = views.in_flight m (flew T s m b f) in
        (x.0, kept_in (removed_by s) l m (Some x.0) (left_other (removed_by s) letters m (not_removed T s m f) ∙ x.1))

    new : (l : Option Held) → LetterFollows de dr T s l → makes_message s ≡ true → m ≡ sent T (len T) → (h : Held) × (slice_get (with_letter l (without_item (removed_by s) letters)) m ≡ Some (Some h))
    new None g e is = absurd (let both = sym e ∙ g in cc)
    new (Some k) g e is =
        let at : m ≡ length (without_item (removed_by s) letters) = omega (arith, is, length-without_item (removed_by s) letters, views.messages) in
        (k, ap (slice_get (without_item (removed_by s) letters ++ Some k ∷ [])) at ∙ slice_get-last (without_item (removed_by s) letters) (Some k))

  landed : (l : Option Held) → (m : ℕ) → m < sent (appended T s) (suc (len T)) → ¬ InFlight (appended T s) m (suc (len T)) → slice_get (with_letter l (without_item (removed_by s) letters)) m ≡ Some None
  landed l m b not = ⊎_elim (λ a. old a (removed_by s) refl) (λ n. absurd (not (new_flies T s w may m n.0 b))) (below_or_new m b) where
    other : m < sent T (len T) → ¬ (removed_by s ≡ Some m) → slice_get (with_letter l (without_item (removed_by s) letters)) m ≡ Some None
    other a ne = kept_in (removed_by s) l m None (left_other (removed_by s) letters m ne ∙ views.gone m a (λ f. not (flies_on T s m ne f)))

    old : m < sent T (len T) → (o : Option ℕ) → removed_by s ≡ o → slice_get (with_letter l (without_item (removed_by s) letters)) m ≡ Some None
    old a None e = other a (λ g. let both = sym e ∙ g in cc)
    old a (Some k) e = ⊎_elim
        (λ (is : k ≡ m). kept_in (removed_by s) l m None (taken_out (removed_by s) letters m (e ∙ ap Some is) (omega (arith, a, views.messages))))
        (λ ne. other a (λ g. ne (same_some (sym e ∙ g))))
        (cases_eq k m)

  -- the views after the change are those of the run and the step
  pub views_follow : (c : ViewChange Held) → Follows de dr T s c → AreViews de dr (appended T s) (own_after c own) (letters_after c letters)
  views_follow c f =
      let end = len-appended T s in
      let P : Option ℕ → Type 0 = λ o. (m : ℕ) → InFlight (appended T s) m (suc (len T)) → (h : Held) × (slice_get (with_letter c.letter (without_item o letters)) m ≡ Some (Some h)) in
      let Q : Option ℕ → Type 0 = λ o. (m : ℕ) → m < sent (appended T s) (suc (len T)) → ¬ InFlight (appended T s) m (suc (len T)) → slice_get (with_letter c.letter (without_item o letters)) m ≡ Some None in
      record {
        transactors = count_own c.own c.newborn f.newborn ∙ ap (born (appended T s)) (sym end);
        each = λ t h e. let x = all_views c.own c.newborn f.own f.newborn t h e in record { whole = x.whole; is_whole = at_end T s t x.whole x.is_whole; is = x.is };
        messages = count_letters c.gone c.letter f.letter ∙ ap (sent (appended T s)) (sym end);
        letter = all_letters c.gone c.letter f.letter;
        in_flight = λ m g. subst P (sym f.gone) (flying c.letter f.letter) m (subst (InFlight (appended T s) m) end g);
        gone = λ m b not. subst Q (sym f.gone) (landed c.letter) m (omega (arith, b, ap (sent (appended T s)) end)) (λ g. not (subst (InFlight (appended T s) m) (sym end) g));
      }
