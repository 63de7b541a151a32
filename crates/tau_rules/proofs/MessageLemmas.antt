-- The values of messages after one step more.
use Rattle.std.proofs.Common.{◌≡◌, ◌⊎◌, inl, inr, ⊎_elim, ℕ, ◌+◌, true, false, cond, Some, None, List, [], ◌∷◌, length, refl, sym, ap, ◌∙◌, subst, arith}
use Rattle.std.proofs.lemmas.List.{length-append}
use Rattle.std.specs.Prelude.{slice_get}
use Rattle.tau_value.specs.declared.shared.Value.{Value}
use Rattle.tau_value.specs.declared.shared.Value.TheVariants as values
use Rattle.tau_value.specs.Value.{val_of}
use Rattle.tau_tree.specs.declared.programs.Program.{Program}
use Rattle.tau_trace.specs.declared.step.Step.{Step}
use Rattle.tau_trace.specs.declared.step.Step.TheVariants.{Send, Echo, Repeat}
use Rattle.tau_trace.specs.Steps.{makes_message}
use Rattle.tau_trace.specs.Run.{Run, len, appended}
use Rattle.tau_trace.specs.Numbering.{sent}
use Rattle.tau_trace.specs.Known.{WellFormed}
use Rattle.tau_trace.proofs.Lists.{slice_get-push_cases}
use Rattle.tau_trace.proofs.Agreement.{agree_appended, step_at-appended, sent-same}
use Rattle.tau_trace.proofs.Indexing.{len-appended, sent-next}
use Rattle.tau_legal.specs.Turns.{HasValue, message, notice, copy}
use Rattle.tau_legal.specs.Fits.{Fits}
use Rattle.tau_legal.proofs.StateLemmas.{element}
use Rattle.tau_legal.proofs.TraceLemmas.{below_length}
use Rattle.tau_rules.specs.Records.{AreValues, sent_value, with_sent}
use Rattle.tau_rules.proofs.TurnLemmas.{value_kept}

-- how many messages there are after a step
sent_appended : (T : Run) (s : Step) → sent (appended T s) (len (appended T s)) ≡ sent T (len T) + cond (makes_message s) 1 0
sent_appended T s = ap (sent (appended T s)) (len-appended T s) ∙ omega (arith, sent-next (appended T s) (len T) s (step_at-appended T s), sent-same (len T) (agree_appended T s))

-- a step makes a message, which has this value
pub record IsMaking (P : Program) (T : Run) (vs : List Value) (s : Step) : Type 0 where
  pub value : Value
  pub is_value : sent_value vs s ≡ Some value
  pub makes : makes_message s ≡ true
  pub has : (m : ℕ) → m ≡ sent T (len T) → HasValue P (appended T s) m (val_of value)

module _ (P : Program) (T : Run) (v : WellFormed T) (vs : List Value) (h : AreValues P T vs) where
  kept : (s : Step) → WellFormed (appended T s) → (m : ℕ) (x : Value) → slice_get vs m ≡ Some x → HasValue P (appended T s) m (val_of x)
  kept s w m x e = value_kept P T s v w m (val_of x) (omega (arith, h.count, below_length vs m x e)) (h.each m x e)

  number : (s : Step) (m : ℕ) → m ≡ sent T (len T) → m ≡ sent (appended T s) (len T)
  number s m e = e ∙ sent-same (len T) (agree_appended T s)

  -- what a step that fits makes
  making_or_none : (s : Step) → WellFormed (appended T s) → Fits P T (len T) s → ((sent_value vs s ≡ None) × (makes_message s ≡ false)) ⊎ IsMaking P T vs s
  making_or_none (Send t u x) w f = inr (record {
    value = x;
    is_value = refl;
    makes = refl;
    has = λ m e. message {j = len T} {by = t} (record { to = u; value = x; stands = step_at-appended T (Send t u x); made = number (Send t u x) m e }) refl;
  })
  making_or_none (Echo t n) w f =
      let exists = f.0.in_flight.exists in
      inr (record {
        value = values.Unit;
        is_value = refl;
        makes = refl;
        has = λ m e. notice {j = len T} {by = t} {n = n} (record { stands = step_at-appended T (Echo t n); made = number (Echo t n) m e; earlier = omega (arith, exists, e) }) refl;
      })
  making_or_none (Repeat n) w f =
      let exists = f.0.exists in
      let there = element vs n (omega (arith, h.count, exists)) in
      inr (record {
        value = there.0;
        is_value = there.1;
        makes = refl;
        has = λ m e. copy {k = len T} {n = n} (record { stands = step_at-appended T (Repeat n); made = number (Repeat n) m e; earlier = omega (arith, exists, e) }) (kept (Repeat n) w n there.0 there.1);
      })
  making_or_none s w f = inl (refl, refl)

-- the values of all messages
pub values_change : (P : Program) (T : Run) (s : Step) (v : WellFormed T) (w : WellFormed (appended T s)) (fits : Fits P T (len T) s) (vs : List Value) → AreValues P T vs → AreValues P (appended T s) (with_sent vs (sent_value vs s))
values_change P T s v w fits vs h = ⊎_elim none makes (making_or_none P T v vs h s w fits) where
  none : (sent_value vs s ≡ None) × (makes_message s ≡ false) → AreValues P (appended T s) (with_sent vs (sent_value vs s))
  none e = subst (λ o. AreValues P (appended T s) (with_sent vs o)) (sym e.0) (record {
    count = h.count ∙ omega (arith, sent_appended T s, ap {B = ℕ} (λ b. cond b 1 0) e.1);
    each = kept P T v vs h s w;
  })

  makes : IsMaking P T vs s → AreValues P (appended T s) (with_sent vs (sent_value vs s))
  makes i = subst (λ o. AreValues P (appended T s) (with_sent vs o)) (sym i.is_value) (record {
    count = omega (arith, length-append vs (i.value ∷ []), h.count, sent_appended T s, ap {B = ℕ} (λ b. cond b 1 0) i.makes);
    each = λ m x e. ⊎_elim (kept P T v vs h s w m x) (last m x) (slice_get-push_cases vs i.value x m e);
  }) where
    last : (m : ℕ) (x : Value) → (m ≡ length vs) × (i.value ≡ x) → HasValue P (appended T s) m (val_of x)
    last m x e = subst (λ y. HasValue P (appended T s) m (val_of y)) e.1 (i.has m (e.0 ∙ h.count))
