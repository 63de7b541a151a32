-- The courses of transactors, step by step.
use Rattle.std.proofs.Common.{◌≡◌, ◌⊎◌, inl, inr, ⊎_elim, ℕ, suc, ◌<◌, ◌≤◌, Bool, true, false, ◌&&◌, cond, leb, List, [], ◌∷◌, ◌++◌, get_or, Option, Some, None, refl, sym, ap, ◌∙◌, subst, arith}
use Rattle.std.specs.Prelude.{Contains}
use Rattle.std.specs.List.{AllPairs}
use Rattle.std.proofs.lemmas.Bool.{leb-true, le-leb}
use Rattle.std.proofs.lemmas.List.Elements.{Contains-append_left, Contains-get_or, Contains-push, Contains-push_cases}
use Rattle.std.proofs.lemmas.List.Quantifiers.{all_pairs_push}
use Rattle.tau_trace.specs.declared.step.Step.{Step}
use Rattle.tau_trace.specs.Steps.{actor}
use Rattle.tau_trace.specs.Run.{Run, len, step_at, ActsAt}
use Rattle.tau_trace.specs.Known.{WellFormed}
use Rattle.tau_trace.specs.Histories.{Ended}
use Rattle.tau_trace.specs.Places.{IsLeastFrom}
use Rattle.tau_trace.specs.Points.{point_at, Leaves, Stabilizes}
use Rattle.tau_trace.proofs.Lists.{same_some}
use Rattle.tau_svg.specs.declared.shapes.window.Window.{Window}
use Rattle.tau_scene.specs.declared.timelines.states.State.{State}
use Rattle.tau_scene.specs.Timelines.States.{Begins, until, IsState, IsSeen}
use Rattle.tau_scene.specs.Timelines.Inner.Courses.{after, ended, ends_in, is_seen, with_seen, ArePast, IsLast}
use Rattle.tau_scene.proofs.Beginnings.{cases_lt, at_or_under, one_leave, ended_before}
use Rattle.tau_scene.proofs.Currents.{least_once, state_ended}

-- the place of the first step by which t leaves its point, from a place on
abbrev pub IsLeast : Run → ℕ → ℕ → Option ℕ → Type 0
IsLeast T b t o = IsLeastFrom b (Leaves T t) (len T) o

-- the truth that a state is seen

both_true : (a b : Bool) → (a && b) ≡ true → (a ≡ true) × (b ≡ true)
both_true true b e = (refl, e)
both_true false b e = absurd (cc)

two_true : (a b : Bool) → a ≡ true → b ≡ true → (a && b) ≡ true
two_true true b e f = f
two_true false b e f = absurd (cc)

end_seen : (v : Window) (o : Option ℕ) → ends_in v o ≡ true → (e : ℕ) → o ≡ Some e → v.from ≤ e
end_seen v None h e f = absurd (cc)
end_seen v (Some x) h e f = omega (arith, leb-true v.from x h, same_some f)

end_from : (v : Window) (o : Option ℕ) → ((e : ℕ) → o ≡ Some e → v.from ≤ e) → ends_in v o ≡ true
end_from v None h = refl
end_from v (Some x) h = le-leb v.from x (h x refl)

seen_from : (v : Window) (s : State) → is_seen v s ≡ true → IsSeen v s
seen_from v s h = let p = both_true (leb s.begin v.to) (ends_in v s.end) h in (leb-true s.begin v.to p.0, end_seen v s.end p.1)

seen_to : (v : Window) (s : State) → IsSeen v s → is_seen v s ≡ true
seen_to v s h = two_true (leb s.begin v.to) (ends_in v s.end) (le-leb s.begin v.to h.0) (end_from v s.end h.1)

-- one state more at the end of a list

module _ (v : Window) (s : State) (list : List State) where
  pub push_ascending : (b : Bool) → AllPairs (λ q r. q.begin < r.begin) list → ((r : State) → Contains list r → r.begin < s.begin) → AllPairs (λ q r. q.begin < r.begin) (cond b (list ++ s ∷ []) list)
  push_ascending true asc below = all_pairs_push (λ q r. q.begin < r.begin) list s asc (λ k d lt. below (get_or list k d) (Contains-get_or list k d lt))
  push_ascending false asc below = asc

  pub push_only : (b : Bool) → is_seen v s ≡ b → (r : State) → Contains (cond b (list ++ s ∷ []) list) r → Contains list r ⊎ ((s ≡ r) × IsSeen v s)
  push_only true e r c = ⊎_elim (λ o. inl o) (λ f. inr (f, seen_from v s e)) (Contains-push_cases list s r (subst (Contains (list ++ s ∷ [])) refl c))
  push_only false e r c = inl c

  pub push_old : (b : Bool) → (r : State) → Contains list r → Contains (cond b (list ++ s ∷ []) list) r
  push_old true r c = Contains-append_left list (s ∷ []) r c
  push_old false r c = c

  pub push_new : (b : Bool) → is_seen v s ≡ b → IsSeen v s → Contains (cond b (list ++ s ∷ []) list) s
  push_new true e h = Contains-push list s
  push_new false e h = absurd (let f = seen_to v s h in cc)

-- states of one transactor that begin at one place are one

same_truth : (a b : Bool) → (a ≡ true → b ≡ true) → (b ≡ true → a ≡ true) → a ≡ b
same_truth true true to from = refl
same_truth false false to from = refl
same_truth true false to from = absurd (let e = to refl in cc)
same_truth false true to from = absurd (let e = from refl in cc)

state_of : (r s : State) → r.point ≡ s.point → r.begin ≡ s.begin → r.end ≡ s.end → r.stable ≡ s.stable → r.made ≡ s.made → r ≡ s
state_of r s a b c d e = λ i. record { point = a i; begin = b i; end = c i; stable = d i; made = e i }

pub state_same : (T : Run) (r s : State) → IsState T r → IsState T s → r.point.who ≡ s.point.who → r.begin ≡ s.begin → r ≡ s
state_same T r s x y who at =
    let points : r.point ≡ s.point = x.point_is ∙ ap (λ t. point_at T t r.begin) who ∙ ap (point_at T s.point.who) at ∙ sym y.point_is in
    let ends : r.end ≡ s.end = least_once s.begin (len T) (Leaves T s.point.who) r.end s.end (subst (λ (b : ℕ). IsLeast T b s.point.who r.end) at (subst (λ (t : ℕ). IsLeast T r.begin t r.end) who x.ends)) y.ends in
    let stable : r.stable ≡ s.stable = least_once s.begin (until (len T) s.end) (Stabilizes T s.point.who) r.stable s.stable
    (subst (λ (o : Option ℕ). IsLeastFrom s.begin (Stabilizes T s.point.who) (until (len T) o) r.stable) ends
    (subst (λ (b : ℕ). IsLeastFrom b (Stabilizes T s.point.who) (until (len T) r.end) r.stable) at
    (subst (λ (t : ℕ). IsLeastFrom r.begin (Stabilizes T t) (until (len T) r.end) r.stable) who x.stable))) y.stable in
    let made : r.made ≡ s.made = same_truth r.made s.made
    (λ m. let p = x.made.0 m in y.made.1 (p.0, subst (λ (t : ℕ). ActsAt T t p.0) who p.1, sym points ∙ p.2 ∙ ap (λ t. point_at T t p.0) who))
    (λ m. let p = y.made.0 m in x.made.1 (p.0, subst (λ (t : ℕ). ActsAt T t p.0) (sym who) p.1, points ∙ p.2 ∙ ap (λ t. point_at T t p.0) (sym who))) in
    state_of r s points at ends stable made

module _ (T : Run) (w : WellFormed T) where
  -- a state that is left at k, or isn't left, is the one at which the transactor is
  pub begins_once : (k : ℕ) (s : State) (b : ℕ) → IsLast T k s → Begins T s.point.who b → b ≤ k → ((j : ℕ) → b ≤ j → j < k → ¬ Leaves T s.point.who j) → b ≡ s.begin
  begins_once k s b h begins le none = ⊎_elim
      (λ l. let q = one_leave T w s.point.who b s.begin begins h.begins l in absurd (none q.0 q.1 (omega (arith, q.2, h.within)) q.3))
      (λ ge. ⊎_elim
      (λ l. let q = one_leave T w s.point.who s.begin b h.begins begins l in absurd (h.stays q.0 q.1 (omega (arith, q.2, le)) q.3))
      (λ e. omega (arith, ge, e))
      (cases_lt s.begin b))
      (cases_lt b s.begin)

  -- what has ended before begins before
  pub past_begins : (v : Window) (k : ℕ) (s : State) (list : List State) → IsLast T k s → ArePast T v s.point.who k list → (r : State) → Contains list r → r.begin < s.begin
  past_begins v k s list h past r c =
      let p = past.only r c in
      ⊎_elim (λ l. l) (λ ge. absurd (late p.0 p.1 p.3.0 p.3.1 p.3.2 ge)) (cases_lt r.begin s.begin)
    where
      late : r.point.who ≡ s.point.who → IsState T r → (e : ℕ) → r.end ≡ Some e → e < k → s.begin ≤ r.begin → ⊥
      late who x e f lt ge =
          let ends = subst (λ (o : Option ℕ). IsLeast T r.begin r.point.who o) f x.ends in
          h.stays e (omega (arith, ge, ends.0)) lt (subst (λ (t : ℕ). Leaves T t e) who ends.2)

  -- no state ends by a step that leads from no point
  pub past_same : (v : Window) (t k : ℕ) (list : List State) → ((s : State) → s.point.who ≡ t → IsState T s → s.end ≡ Some k → ⊥) → ArePast T v t k list → ArePast T v t (suc k) list
  past_same v t k list none past = record {
    ascending = past.ascending;
    only = λ s c. let p = past.only s c in (p.0, p.1, p.2, (p.3.0, p.3.1, omega (arith, p.3.2)));
    all = λ s e who x seen ends lt. ⊎_elim (λ f. absurd (none s who x (ends ∙ ap Some f))) (λ l. past.all s e who x seen ends l) (at_or_under e k lt);
  }

  pub stays_none : (t k : ℕ) → ¬ Leaves T t k → (s : State) → s.point.who ≡ t → IsState T s → s.end ≡ Some k → ⊥
  stays_none t k none s who x ends =
      let at = subst (λ (o : Option ℕ). IsLeast T s.begin s.point.who o) ends x.ends in
      none (subst (λ (u : ℕ). Leaves T u k) who at.2)

  pub ended_none : (t k : ℕ) → Ended T t k → (s : State) → s.point.who ≡ t → IsState T s → s.end ≡ Some k → ⊥
  ended_none t k e s who x ends =
      let at = subst (λ (o : Option ℕ). IsLeast T s.begin s.point.who o) ends x.ends in
      ⊎_elim
      (λ l. ended_before T w t s.begin e.place (subst (λ (u : ℕ). Begins T u s.begin) who x.begins) e.ends l)
      (λ ge. at.3 e.place ge e.before (subst (λ (u : ℕ). Leaves T u e.place) (sym who) (inr e.ends.falls)))
      (cases_lt e.place s.begin)

  -- one ends
  pub past_more : (v : Window) (k : ℕ) (s : State) (x : Step) (list : List State) → step_at T k ≡ Some x → actor x ≡ Some s.point.who → Leaves T s.point.who k → IsLast T k s → ArePast T v s.point.who k list → ArePast T v s.point.who (suc k) (with_seen v (ended (after s x k) k) list)
  past_more v k s x list e by l h past = record {
    ascending = push_ascending v new list (is_seen v new) past.ascending (past_begins v k s list h past);
    only = λ r c. ⊎_elim
        (λ o. let p = past.only r o in (p.0, p.1, p.2, (p.3.0, p.3.1, omega (arith, p.3.2))))
        (λ n. subst (λ (q : State). (q.point.who ≡ s.point.who) × IsState T q × IsSeen v q × ((i : ℕ) × (q.end ≡ Some i) × (i < suc k))) n.0 (refl, is_state, n.1, (k, refl, omega arith)))
        (push_only v new list (is_seen v new) refl r c);
    all = λ r i who y seen ends lt. ⊎_elim
        (λ f. let one = same r who y (ends ∙ ap Some f) in subst (Contains (with_seen v new list)) one (push_new v new list (is_seen v new) refl (subst (IsSeen v) (sym one) seen)))
        (λ b. push_old v new list (is_seen v new) r (past.all r i who y seen ends b))
        (at_or_under i k lt);
  } where
    new : State
    new = ended (after s x k) k

    is_state : IsState T new
    is_state = state_ended T w k s x e by l h

    same : (r : State) → r.point.who ≡ s.point.who → IsState T r → r.end ≡ Some k → new ≡ r
    same r who y ends =
        let at = subst (λ (o : Option ℕ). IsLeast T r.begin r.point.who o) ends y.ends in
        let once = begins_once k s r.begin h (subst (λ (u : ℕ). Begins T u r.begin) who y.begins) at.0 (λ j ge lt z. at.3 j ge lt (subst (λ (u : ℕ). Leaves T u j) (sym who) z)) in
        state_same T new r is_state y (sym who) (sym once)
