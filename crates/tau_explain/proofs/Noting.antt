-- Points that are noted at a distance.
use Rattle.std.proofs.Common.{◌≡◌, ◌≢◌, ◌⊎◌, ◌≤◌, ◌<◌, ◌+◌, ℕ, Bool, true, false, cond, List, [], ◌∷◌, ◌++◌, length, get_or, Option, Some, None, refl, sym, ap, ◌∙◌, subst, inl, inr, ⊎_elim, arith, length-append}
use Rattle.std.specs.Prelude.{is_some, Contains}
use Rattle.std.proofs.lemmas.Bool.{cases_lt}
use Rattle.std.proofs.lemmas.List.{get_or_append_left, get_or_push}
use Rattle.std.proofs.lemmas.List.Elements.{Contains-append_left, Contains-push, Contains-push_cases}
use Rattle.tau_points.specs.declared.point.Point.{Point}
use Rattle.tau_points.proofs.PointOrder.{point_eq, point_eq-Decides}
use Rattle.tau_explain.specs.Chains.Inner.Searching.{HasDistance, NotesOne, known, fresh, Notes}

none_of : (o : Option ℕ) → is_some o ≡ false → o ≡ None
none_of None e = refl
none_of (Some m) e = cc

some_of : (o : Option ℕ) → is_some o ≡ true → (m : ℕ) × (o ≡ Some m)
some_of None e = cc
some_of (Some m) e = (m, refl)

cond_false : {A : Type 0} (b : Bool) (x y : A) → b ≡ false → cond b x y ≡ y
cond_false b x y e = rw e refl

cond_true : {A : Type 0} (b : Bool) (x y : A) → b ≡ true → cond b x y ≡ x
cond_true b x y e = rw e refl

other : (p q : Point) → q ≢ p → point_eq p q ≡ false
other p q ne = by (point_eq p q) refl where
  by : (b : Bool) → point_eq p q ≡ b → b ≡ false
  by true e = absurd (ne (sym ((point_eq-Decides p q).0 e)))
  by false e = refl

pub notes_fresh : (n : ℕ) (p : Point) (far0 far : Point → Option ℕ) (queue0 queue : List Point) → is_some (far0 p) ≡ false → ((q : Point) → far q ≡ cond (point_eq p q) (Some n) (far0 q)) → queue ≡ queue0 ++ p ∷ [] → NotesOne n p far0 far queue0 queue
notes_fresh n p far0 far queue0 queue absent puts is =
    fresh (none_of (far0 p) absent) (puts p ∙ cond_true (point_eq p p) (Some n) (far0 p) ((point_eq-Decides p p).1 refl))
    (λ q ne. puts q ∙ cond_false (point_eq p q) (Some n) (far0 q) (other p q ne)) is

-- points, one after the other

module _ (n : ℕ) (points left left1 : List Point) (p : Point) (far0 far1 far2 : Point → Option ℕ) (queue0 queue1 queue2 : List Point) (popped : left ≡ left1 ++ p ∷ []) (s : Notes n points left far0 far1 queue0 queue1) where
  here : Contains points p
  here = s.of_points p (subst (λ (l : List Point). Contains l p) (sym popped) (Contains-push left1 p))

  on : (q : Point) → Contains left1 q → Contains left q
  on q h = subst (λ (l : List Point). Contains l q) (sym popped) (Contains-append_left left1 (p ∷ []) q h)

  off : (q : Point) → Contains left q → Contains left1 q ⊎ (p ≡ q)
  off q h = Contains-push_cases left1 p q (subst (λ (l : List Point). Contains l q) popped h)

  on_known : HasDistance far1 p → ((q : Point) → far2 q ≡ far1 q) → queue2 ≡ queue1 → Notes n points left1 far0 far2 queue0 queue2
  on_known h same e = subst (λ (l : List Point). Notes n points left1 far0 far2 queue0 l) (sym e) (record {
    noted = λ q c. ⊎_elim (λ d. inl (d.0, same q ∙ d.1)) (λ l. ⊎_elim (λ i. inr i) (λ eq. inl (h.0, same q ∙ subst (λ z. far1 z ≡ Some h.0) eq h.1)) (off q l)) (s.noted q c);
    of_points = λ q c. s.of_points q (on q c);
    kept = λ q m f. same q ∙ s.kept q m f;
    fresh = λ q m f. s.fresh q m (sym (same q) ∙ f);
    longer = s.longer;
    front = s.front;
    back = λ i d low high. same _ ∙ s.back i d low high;
  })

  on_fresh : far1 p ≡ None → far2 p ≡ Some n → ((q : Point) → q ≢ p → far2 q ≡ far1 q) → queue2 ≡ queue1 ++ p ∷ [] → Notes n points left1 far0 far2 queue0 queue2
  on_fresh none at same e = subst (λ (l : List Point). Notes n points left1 far0 far2 queue0 l) (sym e) (record {
    noted = λ q c. ⊎_elim (λ d. inl (more q d.0 d.1)) (λ l. ⊎_elim (λ i. inr i) (λ eq. inl (n, subst (λ z. far2 z ≡ Some n) eq at)) (off q l)) (s.noted q c);
    of_points = λ q c. s.of_points q (on q c);
    kept = λ q m f. let x = more q m (s.kept q m f) in same_value q m f;
    fresh = λ q m f. cases q m f;
    longer = omega (arith, s.longer, length-append queue1 (p ∷ []));
    front = λ i d lt. get_or_append_left queue1 (p ∷ []) d i (omega (arith, s.longer)) ∙ s.front i d lt;
    back = λ i d low high. last i d low (omega (arith, length-append queue1 (p ∷ [])));
  }) where
    is_p : (q : Point) → (q ≡ p) ⊎ (q ≢ p)
    is_p q = by (point_eq q p) refl where
      by : (b : Bool) → point_eq q p ≡ b → (q ≡ p) ⊎ (q ≢ p)
      by true f = inl ((point_eq-Decides q p).0 f)
      by false f = inr (λ eq. let g = (point_eq-Decides q p).1 eq in cc)

    not_p : (q : Point) (m : ℕ) → far1 q ≡ Some m → q ≢ p
    not_p q m f eq = let g : far1 p ≡ Some m = subst (λ z. far1 z ≡ Some m) eq f in let x = sym none ∙ g in cc

    same_value : (q : Point) (m : ℕ) → far0 q ≡ Some m → far2 q ≡ Some m
    same_value q m f = let g = s.kept q m f in same q (not_p q m g) ∙ g

    more : (q : Point) (m : ℕ) → far1 q ≡ Some m → HasDistance far2 q
    more q m f = (m, same q (not_p q m f) ∙ f)

    cases : (q : Point) (m : ℕ) → far2 q ≡ Some m → (far0 q ≡ Some m) ⊎ ((m ≡ n) × Contains points q × Contains (queue1 ++ p ∷ []) q)
    cases q m f = ⊎_elim
        (λ eq. let g : far2 p ≡ Some m = subst (λ z. far2 z ≡ Some m) eq f in
        let x : Some m ≡ Some n = sym g ∙ at in
        inr (cc, subst (Contains points) (sym eq) here, subst (Contains (queue1 ++ p ∷ [])) (sym eq) (Contains-push queue1 p)))
        (λ ne. ⊎_elim (λ o. inl o) (λ h. inr (h.0, h.1, Contains-append_left queue1 (p ∷ []) q h.2)) (s.fresh q m (sym (same q ne) ∙ f)))
        (is_p q)

    last : (i : ℕ) (d : Point) → length queue0 ≤ i → i < length queue1 + 1 → far2 (get_or (queue1 ++ p ∷ []) i d) ≡ Some n
    last i d low high = ⊎_elim
        (λ (lt : i < length queue1).
        let same_item : get_or (queue1 ++ p ∷ []) i d ≡ get_or queue1 i d = get_or_append_left queue1 (p ∷ []) d i lt in
        let f = s.back i d low lt in
        subst (λ z. far2 z ≡ Some n) (sym same_item) (same _ (not_p _ n f) ∙ f))
        (λ (le : length queue1 ≤ i).
        let e : i ≡ length queue1 = omega (arith, le, high) in
        let same_item : get_or (queue1 ++ p ∷ []) i d ≡ p = ap (λ k. get_or (queue1 ++ p ∷ []) k d) e ∙ get_or_push queue1 p d (length queue1) refl in
        subst (λ z. far2 z ≡ Some n) (sym same_item) at)
        (cases_lt i (length queue1))

  pub notes_on : NotesOne n p far1 far2 queue1 queue2 → Notes n points left1 far0 far2 queue0 queue2
  notes_on (known h same e) = on_known h same e
  notes_on (fresh none at same e) = on_fresh none at same e
