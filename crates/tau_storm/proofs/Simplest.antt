-- Counts of ends and the first of the simplest, of some ends and of others behind them.
use Rattle.std.proofs.Common.{◌≡◌, inl, inr, ⊎_elim, ℕ, suc, ◌+◌, ◌≤◌, List, [], ◌∷◌, ◌++◌, length, append-nil, append_assoc, refl, sym, ap, ◌∙◌, subst, arith}
use Rattle.std.specs.Prelude.{Contains}
use Rattle.std.proofs.lemmas.Bool.{cases_lt}
use Rattle.std.proofs.lemmas.List.Elements.{Contains-append_cases}
use Rattle.tau_points.proofs.Membership.{Contains-head, Contains-later, Contains-none, Contains-cons_cases}
use Rattle.tau_trace.specs.Run.{len}
use Rattle.tau_faults.specs.Ends.{End}
use Rattle.tau_storm.specs.Outcomes.{CountIs, none, one_more, no_more, IsSimpler, IsSimplest}

-- none of the ends behind passes
pub count_behind : (Passes : End → Type 0) (front back : List End) (n : ℕ) → CountIs Passes front n → ((d : End) → Contains back d → ¬ Passes d) → CountIs Passes (front ++ back) n
count_behind Passes front [] n c isnt = subst (λ (l : List End). CountIs Passes l n) (sym (append-nil front)) c
count_behind Passes front (d ∷ back) n c isnt =
    let more : CountIs Passes (front ++ d ∷ []) n = no_more c (isnt d (Contains-head d back)) in
    let rest = count_behind Passes (front ++ d ∷ []) back n more (λ e h. isnt e (Contains-later d back e h)) in
    subst (λ (l : List End). CountIs Passes l n) (append_assoc front (d ∷ []) back) rest

pub count_none : (Passes : End → Type 0) (ends : List End) → ((d : End) → Contains ends d → ¬ Passes d) → CountIs Passes ends 0
count_none Passes ends isnt = count_behind Passes [] ends 0 none isnt

pub simpler_trans : (a b c : End) → IsSimpler a b → IsSimpler b c → IsSimpler a c
simpler_trans a b c (inl x) (inl y) = inl (omega (arith, x, y))
simpler_trans a b c (inl x) (inr y) = inl (omega (arith, x, y.0))
simpler_trans a b c (inr x) (inl y) = inl (omega (arith, x.0, y))
simpler_trans a b c (inr x) (inr y) = inr (omega (arith, x.0, y.0), omega (arith, x.1, y.1))

-- what is simpler than b is simpler than what isn't
pub simpler_before : (a b c : End) → IsSimpler a b → ¬ IsSimpler c b → IsSimpler a c
simpler_before a b c (inl x) isnt = ⊎_elim (λ l. inl l) (λ ge. absurd (isnt (inl (omega (arith, x, ge))))) (cases_lt (length a.faults) (length c.faults))
simpler_before a b c (inr x) isnt = ⊎_elim (λ l. inl l) (λ ge. at ge) (cases_lt (length a.faults) (length c.faults)) where
  behind : length a.faults ≡ length c.faults → IsSimpler a c
  behind same = ⊎_elim (λ l. inr (same, l)) (λ ge. absurd (isnt (inr (omega (arith, x.0, same), omega (arith, x.1, ge))))) (cases_lt (len a.run) (len c.run))

  at : length c.faults ≤ length a.faults → IsSimpler a c
  at ge = ⊎_elim (λ l. absurd (isnt (inl l))) (λ le. behind (omega (arith, x.0, ge, le))) (cases_lt (length c.faults) (length b.faults))

module _ (Passes : End → Type 0) (front : List End) where
  -- what is simpler than the simplest is simpler than each that passes
  pub simpler_than_each : (s t : End) → IsSimplest Passes front s → IsSimpler t s → (d : End) → Contains front d → Passes d → IsSimpler t d
  simpler_than_each s t is less d c p = ⊎_elim
      (λ h. simpler_trans t s d less (is.first d h p))
      (λ h. ⊎_elim (λ (same : d ≡ s). subst (IsSimpler t) (sym same) less) (λ later. simpler_before t s d less (is.simplest d later p)) (Contains-cons_cases s is.back d h))
      (Contains-append_cases is.front (s ∷ is.back) d (subst (λ (l : List End). Contains l d) is.stands c))

  -- where the simplest isn't simpler than another, none is
  pub none_simpler : (s t : End) → IsSimplest Passes front t → ¬ IsSimpler t s → (d : End) → Contains front d → Passes d → ¬ IsSimpler d s
  none_simpler s t is isnt d c p less = ⊎_elim
      (λ h. isnt (simpler_trans t d s (is.first d h p) less))
      (λ h. ⊎_elim (λ (same : d ≡ t). isnt (subst (λ (x : End). IsSimpler x s) same less)) (λ later. is.simplest d later p (simpler_before d s t less isnt)) (Contains-cons_cases t is.back d h))
      (Contains-append_cases is.front (t ∷ is.back) d (subst (λ (l : List End). Contains l d) is.stands c))

module _ (Passes : End → Type 0) (front back : List End) where
  -- so many of the ends in front pass the test, and so many of those behind
  pub count_append : (n m : ℕ) → CountIs Passes front n → CountIs Passes back m → CountIs Passes (front ++ back) (n + m)
  count_append n m a b = by back m b where
    by : (back : List End) (m : ℕ) → CountIs Passes back m → CountIs Passes (front ++ back) (n + m)
    by back m none =
        let whole : CountIs Passes (front ++ []) n = subst (λ (l : List End). CountIs Passes l n) (sym (append-nil front)) a in
        subst (CountIs Passes (front ++ [])) (omega arith) whole
    by back m (one_more {e = e} {ends = ends} {n = k} c p) =
        let more : CountIs Passes ((front ++ ends) ++ e ∷ []) (suc (n + k)) = one_more (by ends k c) p in
        let there : CountIs Passes (front ++ (ends ++ e ∷ [])) (suc (n + k)) = subst (λ (l : List End). CountIs Passes l (suc (n + k))) (append_assoc front ends (e ∷ [])) more in
        subst (CountIs Passes (front ++ (ends ++ e ∷ []))) (omega arith) there
    by back m (no_more {e = e} {ends = ends} {n = k} c p) =
        subst (λ (l : List End). CountIs Passes l (n + k)) (append_assoc front ends (e ∷ [])) (no_more (by ends k c) p)

  -- the first of the simplest of those behind is that of all, where it is simpler than each in front
  pub simplest_behind : (t : End) → IsSimplest Passes back t → ((d : End) → Contains front d → Passes d → IsSimpler t d) → IsSimplest Passes (front ++ back) t
  simplest_behind t is less = record {
    front = front ++ is.front;
    back = is.back;
    stands = ap (λ (l : List End). front ++ l) is.stands ∙ sym (append_assoc front is.front (t ∷ is.back));
    passes = is.passes;
    first = λ d c p. ⊎_elim (λ h. less d h p) (λ h. is.first d h p) (Contains-append_cases front is.front d c);
    simplest = is.simplest;
  }

  -- that of those in front is, where none behind is simpler
  pub simplest_ahead : (s : End) → IsSimplest Passes front s → ((d : End) → Contains back d → Passes d → ¬ IsSimpler d s) → IsSimplest Passes (front ++ back) s
  simplest_ahead s is isnt = record {
    front = is.front;
    back = is.back ++ back;
    stands = ap (λ (l : List End). l ++ back) is.stands ∙ append_assoc is.front (s ∷ is.back) back;
    passes = is.passes;
    first = is.first;
    simplest = λ d c p. ⊎_elim (λ h. is.simplest d h p) (λ h. isnt d h p) (Contains-append_cases is.back back d c);
  }

-- of one end, which passes
pub simplest_one : (Passes : End → Type 0) (e : End) → Passes e → IsSimplest Passes (e ∷ []) e
simplest_one Passes e passes = record {
  front = [];
  back = [];
  stands = refl;
  passes = passes;
  first = λ d c p. absurd (Contains-none d c);
  simplest = λ d c p x. Contains-none d c;
}
