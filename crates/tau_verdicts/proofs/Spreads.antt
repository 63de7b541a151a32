-- A doomed point dooms those that have taken it.
use Rattle.std.proofs.Common.{◌≡◌, ◌⊎◌, ◌↔◌, inl, inr, ⊎_elim, ℕ, zero, suc, ◌+◌, ◌<◌, Bool, true, false, List, [], ◌∷◌, ◌++◌, length, take, get_or, set, Some, refl, sym, ap, ◌∙◌, subst, arith, length-set, length-append}
use Rattle.std.specs.Prelude.{slice_get, Contains}
use Rattle.std.proofs.lemmas.Bool.{cases_eq}
use Rattle.std.proofs.lemmas.List.{take_more}
use Rattle.std.proofs.lemmas.List.Elements.{Contains-append_left, Contains-push, Contains-push_cases}
use Rattle.tau_points.specs.declared.point.Point.{Point}
use Rattle.tau_past.specs.Pasts.{Is}
use Rattle.tau_versions.specs.Logs.Told.{Told}
use Rattle.tau_versions.specs.Search.Walks.{Meets, known, fresh, unmet}
use Rattle.tau_versions.proofs.Meeting.{set_here, set_other}
use Rattle.tau_verdicts.specs.Spreading.{IsPassed, Comes, Spreads}

-- Lists of those met.

-- whoever is met is no longer unmet
unmet_fewer : (xs : List Bool) (u : ℕ) → slice_get xs u ≡ Some false → unmet (set xs u true) + 1 ≡ unmet xs
unmet_fewer [] u e = cc
unmet_fewer (true ∷ xs) zero e = cc
unmet_fewer (false ∷ xs) zero e = refl
unmet_fewer (true ∷ xs) (suc u) e = unmet_fewer xs u e
unmet_fewer (false ∷ xs) (suc u) e = ap (λ k. k + 1) (unmet_fewer xs u e)

set_keeps : (xs : List Bool) (u v : ℕ) → slice_get xs u ≡ Some false → slice_get xs v ≡ Some true → slice_get (set xs u true) v ≡ Some true
set_keeps xs u v e f = ⊎_elim (λ s. subst (λ w. slice_get (set xs u true) w ≡ Some true) (sym s) (set_here xs u false true e)) (λ n. set_other xs u v true n ∙ f) (cases_eq v u)

set_back : (xs : List Bool) (u v : ℕ) → slice_get (set xs u true) v ≡ Some true → (v ≡ u) ⊎ (slice_get xs v ≡ Some true)
set_back xs u v e = ⊎_elim (λ s. inl s) (λ n. inr (sym (set_other xs u v true n) ∙ e)) (cases_eq v u)

module _ (logs : List Told) where
  -- what is passed stays so where more are met
  passed_on : (met0 met : List Bool) (q : Point) → length met ≡ length met0 → ((u : ℕ) → slice_get met0 u ≡ Some true → slice_get met u ≡ Some true) → IsPassed logs met0 q → IsPassed logs met q
  passed_on met0 met q count kept p lt = ⊎_elim (λ l. inl l) (λ e. inr (kept q.who e)) (p (omega (arith, count, lt)))

  -- one point

  -- a point that needs nothing more
  pub comes_at : (p : Point) (met : List Bool) (left : List ℕ) → IsPassed logs met p → Comes logs (Is p) met met left left
  comes_at p met left passed = record {
    count = refl;
    kept = λ u e. e;
    fresh_left = λ u e. inl e;
    left_kept = λ u c. c;
    passed = λ q e. subst (IsPassed logs met) (sym e) passed;
    fewer = omega arith;
  }

  pub comes_met : (p : Point) (met0 met : List Bool) (left0 left : List ℕ) → Meets p.who met0 met left0 left → Comes logs (Is p) met0 met left0 left
  comes_met p met0 met left0 left (known e f g) =
      let F : List Bool → Type 0 = λ ms. Comes logs (Is p) met0 ms left0 left in
      let G : List ℕ → Type 0 = λ ls. Comes logs (Is p) met0 met0 left0 ls in
      subst F (sym f) (subst G (sym g) (comes_at p met0 left0 (λ lt. inr e)))
  comes_met p met0 met left0 left (fresh e f g) =
      let F : List Bool → Type 0 = λ ms. Comes logs (Is p) met0 ms left0 left in
      let G : List ℕ → Type 0 = λ ls. Comes logs (Is p) met0 (set met0 p.who true) left0 ls in
      subst F (sym f) (subst G (sym g) (record {
        count = length-set met0 p.who true;
        kept = λ u h. set_keeps met0 p.who u e h;
        fresh_left = λ u h. ⊎_elim (λ (s : u ≡ p.who). inr (subst (Contains (left0 ++ p.who ∷ [])) (sym s) (Contains-push left0 p.who))) (λ i. inl i) (set_back met0 p.who u h);
        left_kept = λ u c. Contains-append_left left0 (p.who ∷ []) u c;
        passed = λ q s. subst (IsPassed logs (set met0 p.who true)) (sym s) (λ lt. inr (set_here met0 p.who false true e));
        fewer = omega (arith, unmet_fewer met0 p.who e, length-append left0 (p.who ∷ []));
      }))

  -- several points

  pub comes_none : (P : Point → Type 0) (met : List Bool) (left : List ℕ) → ((q : Point) → ¬ P q) → Comes logs P met met left left
  comes_none P met left none = record {
    count = refl;
    kept = λ u e. e;
    fresh_left = λ u e. inl e;
    left_kept = λ u c. c;
    passed = λ q h. absurd (none q h);
    fewer = omega arith;
  }

  comes_join : (P Q R : Point → Type 0) (met0 met1 met2 : List Bool) (left0 left1 left2 : List ℕ) → ((q : Point) → R q ↔ (P q ⊎ Q q)) → Comes logs P met0 met1 left0 left1 → Comes logs Q met1 met2 left1 left2 → Comes logs R met0 met2 left0 left2
  comes_join P Q R met0 met1 met2 left0 left1 left2 both a b = record {
    count = b.count ∙ a.count;
    kept = λ u e. b.kept u (a.kept u e);
    fresh_left = λ u e. ⊎_elim (λ h. ⊎_elim (λ i. inl i) (λ c. inr (b.left_kept u c)) (a.fresh_left u h)) (λ c. inr c) (b.fresh_left u e);
    left_kept = λ u c. b.left_kept u (a.left_kept u c);
    passed = λ q h. ⊎_elim (λ p. passed_on met1 met2 q b.count b.kept (a.passed q p)) (λ p. b.passed q p) ((both q).0 h);
    fewer = omega (arith, a.fewer, b.fewer);
  }

  -- the first k points, and the next one
  pub comes_next : (points : List Point) (k : ℕ) (d : Point) (met0 met1 met2 : List Bool) (left0 left1 left2 : List ℕ) → k < length points
      → Comes logs (Contains (take k points)) met0 met1 left0 left1 → Comes logs (Is (get_or points k d)) met1 met2 left1 left2
      → Comes logs (Contains (take (k + 1) points)) met0 met2 left0 left2
  comes_next points k d met0 met1 met2 left0 left1 left2 lt = comes_join (Contains (take k points)) (Is (get_or points k d)) (Contains (take (k + 1) points)) met0 met1 met2 left0 left1 left2 both where
    p : Point
    p = get_or points k d

    grown : take (k + 1) points ≡ take k points ++ p ∷ []
    grown = take_more points k d lt

    both : (q : Point) → Contains (take (k + 1) points) q ↔ (Contains (take k points) q ⊎ (q ≡ get_or points k d))
    both q = (
      λ c. ⊎_elim (λ h. inl h) (λ (e : p ≡ q). inr (sym e)) (Contains-push_cases (take k points) p q (subst (λ (xs : List Point). Contains xs q) grown c)),
      λ c. subst (λ (xs : List Point). Contains xs q) (sym grown) (⊎_elim (λ h. Contains-append_left (take k points) (p ∷ []) q h) (λ (e : q ≡ p). subst (Contains (take k points ++ p ∷ [])) (sym e) (Contains-push (take k points) p)) c),
    )

  -- the whole walk

  module _ (takers : ℕ → List Point) (who : ℕ) (met0 : List Bool) where
    pub spreads_start : (met : List Bool) (left0 left : List ℕ) → left0 ≡ [] → Meets who met0 met left0 left → Spreads logs takers who met0 met left
    spreads_start met left0 left begun (known e f g) =
        let F : List Bool → Type 0 = λ ms. Spreads logs takers who met0 ms left in
        subst F (sym f) (record { count = refl; kept = λ u h. h; begun = e; passed = λ u p h c. inl h })
    spreads_start met left0 left begun (fresh e f g) =
        let F : List Bool → Type 0 = λ ms. Spreads logs takers who met0 ms left in
        let G : List ℕ → Type 0 = λ ls. Spreads logs takers who met0 (set met0 who true) ls in
        subst F (sym f) (subst G (sym g) (record {
          count = length-set met0 who true;
          kept = λ u h. set_keeps met0 who u e h;
          begun = set_here met0 who false true e;
          passed = λ u p h c. ⊎_elim (λ (s : u ≡ who). inr (inr (subst (Contains (left0 ++ who ∷ [])) (sym s) (Contains-push left0 who)))) (λ i. inl i) (set_back met0 who u h);
        }))

    -- u comes off what is left
    pub spreads_on : (met1 met2 : List Bool) (left0 left1 left2 : List ℕ) (u : ℕ) → left0 ≡ left1 ++ u ∷ [] → Spreads logs takers who met0 met1 left0 → (points : List Point) → points ≡ takers u
        → Comes logs (Contains points) met1 met2 left1 left2 → Spreads logs takers who met0 met2 left2
    spreads_on met1 met2 left0 left1 left2 u popped s points is c = record {
      count = c.count ∙ s.count;
      kept = λ v h. c.kept v (s.kept v h);
      begun = c.kept who s.begun;
      passed = λ v q e t. ⊎_elim
          (λ h. ⊎_elim
          (λ i. inl i)
          (λ h2. ⊎_elim
          (λ p. inr (inl (passed_on met1 met2 q c.count c.kept p)))
          (λ l. ⊎_elim (λ i. inr (inr (c.left_kept v i))) (λ (same : u ≡ v). inr (inl (c.passed q (taken v q same t)))) (off v l))
          h2)
          (s.passed v q h t))
          (λ l. inr (inr l)) (c.fresh_left v e);
    } where
      off : (v : ℕ) → Contains left0 v → Contains left1 v ⊎ (u ≡ v)
      off v h = Contains-push_cases left1 u v (subst (λ (ls : List ℕ). Contains ls v) popped h)

      taken : (v : ℕ) (q : Point) → u ≡ v → Contains (takers v) q → Contains points q
      taken v q same t =
          let F : ℕ → Type 0 = λ z. Contains (takers z) q in
          let G : List Point → Type 0 = λ ps. Contains ps q in subst G (sym is) (subst F (sym same) t)

    pub spreads_end : (met : List Bool) (left : List ℕ) → left ≡ [] → Spreads logs takers who met0 met left → Spreads logs takers who met0 met []
    spreads_end met left e s = let F : List ℕ → Type 0 = Spreads logs takers who met0 met in subst F e s
