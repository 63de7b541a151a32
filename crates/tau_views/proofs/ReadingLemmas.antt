-- What the views of a run answer.
use Rattle.std.proofs.Common.{◌≡◌, ◌↔◌, ℕ, ◌<◌, Option, Some, None, List, refl, sym, ap, ◌∙◌, arith}
use Rattle.std.specs.Prelude.{slice_get, option_and_then, IsSome, IfSome}
use Rattle.std.specs.Option.{option_map}
use Rattle.tau_history.specs.Timeline.{Timeline}
use Rattle.tau_view.specs.Held.{Held}
use Rattle.tau_view.specs.Trim.{EdgeTest, RootTest}
use Rattle.tau_trace.specs.Run.{Run, len}
use Rattle.tau_trace.specs.Numbering.{born, sent, InFlight}
use Rattle.tau_trace.specs.Histories.{history}
use Rattle.tau_trace.specs.Known.{WellFormed}
use Rattle.tau_trace.proofs.Lists.{same_some}
use Rattle.tau_views.proofs.HeardLaws.{views_have_the_own_history}
use Rattle.tau_legal.proofs.TraceLemmas.{below_length}
use Rattle.tau_views.specs.Kept.{AreViews}

module _ (de : EdgeTest) (dr : RootTest) (T : Run) (own : List Held) (letters : List (Option Held)) (views : AreViews de dr T own letters) where
  -- a transactor's own history in its view
  own_history : WellFormed T → (t : ℕ) (x : Held) → slice_get own t ≡ Some x → x.history t ≡ Some (history T t (len T))
  own_history w t x e =
      let trimmed = views.each t x e in
      ap (λ (h : Held). h.history t) trimmed.is ∙ views_have_the_own_history T t (len T) trimmed.whole w (omega (arith, below_length own t x e, views.transactors)) trimmed.is_whole

  -- what is read of it
  pub history_exists : {A : Type 0} (at : A → Timeline) → WellFormed T → (t : ℕ) (x : Held) (o : Option A) → Some x ≡ slice_get own t → option_map at o ≡ x.history t → IsSome o ↔ (t < born T (len T))
  history_exists at w t x None e h = let both : None ≡ Some (history T t (len T)) = h ∙ own_history w t x (sym e) in absurd (cc)
  history_exists at w t x (Some y) e h = (λ some. omega (arith, below_length own t x (sym e), views.transactors), λ lt. refl)

  pub history_is : {A : Type 0} (at : A → Timeline) → WellFormed T → (t : ℕ) (x : Held) (o : Option A) → Some x ≡ slice_get own t → option_map at o ≡ x.history t → IfSome o (λ y. at y ≡ history T t (len T))
  history_is at w t x None e h = tt
  history_is at w t x (Some y) e h = same_some (h ∙ own_history w t x (sym e))

  -- a message that has a view is in flight
  letter_in_flight : (m : ℕ) (h : Held) → slice_get letters m ≡ Some (Some h) → InFlight T m (len T)
  letter_in_flight m h e = record {
    exists = there;
    not_removed = λ j l r. contrary (views.gone m there (λ f. f.not_removed j l r));
  } where
    there : m < sent T (len T)
    there = omega (arith, below_length letters m (Some h) e, views.messages)

    contrary : ¬ (slice_get letters m ≡ Some None)
    contrary g = let both : Some (Some h) ≡ Some None = sym e ∙ g in cc

  letter_at : (x : Option (Option Held)) (h : Held) → option_and_then (λ o. o) x ≡ Some h → x ≡ Some (Some h)
  letter_at None h e = absurd (cc)
  letter_at (Some y) h e = ap Some e

  -- what is read of it
  pub message_in_flight : {A : Type 0} (held : A → Held) (m : ℕ) (o : Option A) → option_map held o ≡ option_and_then (λ o. o) (slice_get letters m) → IsSome o ↔ InFlight T m (len T)
  message_in_flight held m None e = (λ h. absurd (cc), λ f. absurd (missing f)) where
    missing : ¬ InFlight T m (len T)
    missing f =
        let letter = views.in_flight m f in
        let both : None ≡ Some letter.0 = e ∙ ap (option_and_then (λ o. o)) letter.1 in
        cc
  message_in_flight held m (Some v) e = (λ h. letter_in_flight m (held v) (letter_at (slice_get letters m) (held v) (sym e)), λ f. refl)
