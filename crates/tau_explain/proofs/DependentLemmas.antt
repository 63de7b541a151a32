-- A search that goes through each place once, and what it pushes.
use Rattle.std.proofs.Common.{◌≡◌, ◌⊎◌, ◌↔◌, inl, inr, ⊎_elim, ℕ, zero, suc, ◌+◌, ◌<◌, Bool, true, false, get_or, sum_by, ◌*◌, ◌^◌, length-append, List, [], ◌∷◌, ◌++◌, length, map, set, Option, Some, None, refl, sym, ap, ◌∙◌, subst, arith}
use Rattle.std.specs.Prelude.{Contains, slice_get, option_map}
use Rattle.std.proofs.Common.{replicate}
use Rattle.std.proofs.lemmas.List.{get_or-replicate, length-replicate}
use Rattle.std.proofs.lemmas.Bool.{cases_eq}
use Rattle.std.proofs.lemmas.List.Sums.{sum_by-set}
use Rattle.std.proofs.lemmas.List.Elements.{Contains-append_left, Contains-append_right, Contains-append_cases, Contains-push, Contains-push_cases}
use Rattle.std.proofs.lemmas.Option.{slice_get_within, slice_get-map, slice_get_cases, slice_get-get_or}
use Rattle.tau_points.specs.declared.point.Point.{Point}
use Rattle.tau_points.specs.Members.{AddsAll}
use Rattle.tau_points.proofs.Membership.{Contains-none}
use Rattle.tau_trace.specs.Run.{Run, len}
use Rattle.tau_trace.proofs.Lists.{same_some, slice_get-set_same, slice_get-set_other}
use Rattle.tau_past.specs.declared.carrying.Carrying.{Carrying}
use Rattle.tau_past.specs.Carried.{Carried}
use Rattle.tau_past.specs.Tables.{Lists, TellsCarried, CarriedFrom}
use Rattle.tau_explain.specs.Links.Marks.{IsMarked}
use Rattle.tau_explain.specs.Links.Inner.Rows.{IsRow, TellsRow, touched_by, rests_of, AreRows}
use Rattle.tau_explain.specs.Links.Inner.Dependents.{Takes, IsPassedOn, PassesPlace, known, fresh, Spreads, AddsTakers}

-- what the places of a list carry
module _ (T : Run) (n : ℕ) (carrying : List Carrying) (tells : Lists n (TellsCarried T) carrying) where
  key_of : {K : Type 0} (f : Carrying → Option K) (j : ℕ) (key : K) → slice_get (map f carrying) j ≡ Some (Some key) → (c : Carrying) × (slice_get carrying j ≡ Some c) × (f c ≡ Some key)
  key_of {K} f j key e = by (slice_get carrying j) refl (sym (slice_get-map f carrying j) ∙ e) where
    by : (o : Option Carrying) → slice_get carrying j ≡ o → option_map f o ≡ Some (Some key) → (c : Carrying) × (slice_get carrying j ≡ Some c) × (f c ≡ Some key)
    by None g h = absurd (cc)
    by (Some c) g h = (c, g, same_some h)

  pub carries_touched : (j : ℕ) (q : Point) → slice_get (touched_by carrying) j ≡ Some (Some q) → Carried T j q
  carries_touched j q e = let k = key_of (λ c. c.touched) j q e in ((tells.each j k.0 k.1).points q).1 (inl k.2)

  pub carries_rest : (i j : ℕ) (q : Point) → slice_get (rests_of carrying) j ≡ Some (Some i) → Carried T i q → Carried T j q
  carries_rest i j q e h = let k = key_of (λ c. c.rest) j i e in ((tells.each j k.0 k.1).points q).1 (inr (subst (λ o. CarriedFrom T o q) (sym k.2) h))

  rest_below : (i j : ℕ) → slice_get (rests_of carrying) j ≡ Some (Some i) → i < j
  rest_below i j e = let k = key_of (λ c. c.rest) j i e in (tells.each j k.0 k.1).earlier i k.2

  -- a place that carries q touched it, or rests on one that carries it
  pub carried_by_key : (j : ℕ) (q : Point) → j < n → Carried T j q → (slice_get (touched_by carrying) j ≡ Some (Some q)) ⊎ ((i : ℕ) × (i < j) × (slice_get (rests_of carrying) j ≡ Some (Some i)) × Carried T i q)
  carried_by_key j q lt h = ⊎_elim
      (λ x. let at = x.2 in ⊎_elim (λ t. inl (slice_get-map (λ (c : Carrying). c.touched) carrying j ∙ ap (option_map (λ (c : Carrying). c.touched)) at ∙ ap (λ (o : Option Point). Some o) t))
      (λ r. from (x.0.rest) refl r (slice_get-map (λ (c : Carrying). c.rest) carrying j ∙ ap (option_map (λ (c : Carrying). c.rest)) at)) (((tells.each j x.0 at).points q).0 h))
      (λ x. absurd (omega (arith, x.0, lt, tells.count))) (slice_get_cases carrying j).1 where
        from : {r : Option ℕ} (o : Option ℕ) → r ≡ o → CarriedFrom T r q → slice_get (rests_of carrying) j ≡ Some r → (slice_get (touched_by carrying) j ≡ Some (Some q)) ⊎ ((i : ℕ) × (i < j) × (slice_get (rests_of carrying) j ≡ Some (Some i)) × Carried T i q)
        from {r} None e c s = absurd (subst (λ o. CarriedFrom T o q) e c)
        from {r} (Some i) e c s = let at = s ∙ ap (λ (o : Option ℕ). Some o) e in inr (i, rest_below i j at, at, subst (λ o. CarriedFrom T o q) e c)

module _ (T : Run) (marks : List Bool) (carrying : List Carrying) (q : Point) (tells : Lists (len T) (TellsCarried T) carrying) where
  pub spreads_start : (passed : List Bool) (left0 left places : List ℕ) (into : List Point) → IsPassedOn carrying passed → left0 ≡ [] → left ≡ left0 ++ places → ((j : ℕ) → Contains places j ↔ (slice_get (touched_by carrying) j ≡ Some (Some q)))
      → Spreads T marks carrying q passed passed left into into
  spreads_start passed left0 left places into on none e all = record {
    kept = λ j h. h;
    carries_left = λ j h. carries_touched T (len T) carrying tells j q ((all j).0 (subst (λ (l : List ℕ). Contains l j) is h));
    carries = λ j h. inl h;
    touching = λ j t. inr (subst (λ (l : List ℕ). Contains l j) (sym is) ((all j).1 t));
    resting = λ i j h r. inl (on i j h r);
    into_kept = λ p h. h;
    allowed = λ p h. inl h;
    takers = λ p j h t. inr h;
  } where
    is : left ≡ places
    is = e ∙ ap (λ (l : List ℕ). l ++ places) none

  module _ (passed0 passed1 passed2 : List Bool) (left0 left1 left2 : List ℕ) (into0 into1 into2 : List Point) (place : ℕ) (popped : left0 ≡ left1 ++ place ∷ []) (s : Spreads T marks carrying q passed0 passed1 left0 into0 into1) where
    off : (j : ℕ) → Contains left0 j → Contains left1 j ⊎ (place ≡ j)
    off j h = Contains-push_cases left1 place j (subst (λ (l : List ℕ). Contains l j) popped h)

    on : (j : ℕ) → Contains left1 j → Contains left0 j
    on j h = subst (λ (l : List ℕ). Contains l j) (sym popped) (Contains-append_left left1 (place ∷ []) j h)

    here : Carried T place q
    here = s.carries_left place (subst (λ (l : List ℕ). Contains l place) (sym popped) (Contains-push left1 place))

    on_known : IsMarked passed1 place → Spreads T marks carrying q passed0 passed1 left1 into0 into1
    on_known h = record {
      kept = s.kept;
      carries_left = λ j m. s.carries_left j (on j m);
      carries = s.carries;
      touching = λ j t. back j (s.touching j t);
      resting = λ i j m r. back j (s.resting i j m r);
      into_kept = s.into_kept;
      allowed = s.allowed;
      takers = s.takers;
    } where
      back : (j : ℕ) → IsMarked passed1 j ⊎ Contains left0 j → IsMarked passed1 j ⊎ Contains left1 j
      back j c = ⊎_elim (λ m. inl m) (λ m. ⊎_elim (λ i. inr i) (λ e. inl (subst (IsMarked passed1) e h)) (off j m)) c

    on_fresh : place < length passed1 → passed2 ≡ set passed1 place true → AddsAll (λ j. slice_get (rests_of carrying) j ≡ Some (Some place)) left1 left2 → AddsAll (λ p. Takes T marks p place) into1 into2 → Spreads T marks carrying q passed0 passed2 left2 into0 into2
    on_fresh lt is rests takes = record {
      kept = λ j h. more j (s.kept j h);
      carries_left = λ j h. ⊎_elim (λ m. s.carries_left j (on j m)) (λ r. carries_rest T (len T) carrying tells place j q r here) ((rests j).0 h);
      carries = λ j h. ⊎_elim (λ e. inr (subst (λ i. Carried T i q) (sym e) here)) (λ m. s.carries j m) (before j h);
      touching = λ j t. back j (s.touching j t);
      resting = λ i j h r. ⊎_elim (λ e. inr ((rests j).1 (inr (subst (λ i. slice_get (rests_of carrying) j ≡ Some (Some i)) e r)))) (λ m. back j (s.resting i j m r)) (before i h);
      into_kept = λ p h. (takes p).1 (inl (s.into_kept p h));
      allowed = λ p h. ⊎_elim (λ o. s.allowed p o) (λ t. inr (place, t, here)) ((takes p).0 h);
      takers = λ p j h t. ⊎_elim (λ e. inl ((takes p).1 (inr (subst (Takes T marks p) e t)))) (λ m. ⊎_elim (λ o. inl ((takes p).1 (inl o))) (λ o. inr o) (s.takers p j m t)) (before j h);
    } where
      marked : IsMarked passed2 place
      marked = subst (λ (l : List Bool). IsMarked l place) (sym is) (slice_get-set_same passed1 place true lt)

      more : (j : ℕ) → IsMarked passed1 j → IsMarked passed2 j
      more j h = ⊎_elim (λ (e : j ≡ place). subst (IsMarked passed2) (sym e) marked) (λ ne. subst (λ (l : List Bool). IsMarked l j) (sym is) (slice_get-set_other passed1 place j true ne ∙ h)) (cases_eq j place)

      before : (j : ℕ) → IsMarked passed2 j → (j ≡ place) ⊎ IsMarked passed1 j
      before j h = ⊎_elim (λ e. inl e) (λ ne. inr (sym (slice_get-set_other passed1 place j true ne) ∙ subst (λ (l : List Bool). IsMarked l j) is h)) (cases_eq j place)

      back : (j : ℕ) → IsMarked passed1 j ⊎ Contains left0 j → IsMarked passed2 j ⊎ Contains left2 j
      back j c = ⊎_elim (λ m. inl (more j m)) (λ m. ⊎_elim (λ i. inr ((rests j).1 (inl i))) (λ e. inl (subst (IsMarked passed2) e marked)) (off j m)) c

    pub spreads_on : place < length passed1 → PassesPlace T marks carrying place passed1 passed2 left1 left2 into1 into2 → Spreads T marks carrying q passed0 passed2 left2 into0 into2
    spreads_on lt (known h e f g) = subst (λ (l : List Bool). Spreads T marks carrying q passed0 l left2 into0 into2) (sym e) (subst (λ (l : List ℕ). Spreads T marks carrying q passed0 passed1 l into0 into2) (sym f) (subst (λ (l : List Point). Spreads T marks carrying q passed0 passed1 left1 into0 l) (sym g) (on_known h)))
    spreads_on lt (fresh h e rests takes) = on_fresh lt e rests takes

    pub left_within : (n : ℕ) → ((j : ℕ) → Carried T j q → j < n) → place < n
    left_within n f = f place here

  module _ (passed0 passed : List Bool) (left : List ℕ) (into0 into : List Point) (none : left ≡ []) (s : Spreads T marks carrying q passed0 passed left into0 into) where
    off_left : {A : Type 0} (j : ℕ) → A ⊎ Contains left j → A
    off_left j c = ⊎_elim (λ a. a) (λ h. absurd (Contains-none j (subst (λ (l : List ℕ). Contains l j) none h))) c

    pub spread_on : IsPassedOn carrying passed
    spread_on i j h r = off_left j (s.resting i j h r)

    all_below : (n j : ℕ) → j < n → j < len T → Carried T j q → IsMarked passed j
    all_below zero j lt within h = absurd (omega (arith, lt))
    all_below (suc n) j lt within h = ⊎_elim
        (λ t. off_left j (s.touching j t))
        (λ r. spread_on r.0 j (all_below n r.0 (omega (arith, r.1, lt)) (omega (arith, r.1, within)) r.3) r.2)
        (carried_by_key T (len T) carrying tells j q within h)

    pub spread_all : ((j : ℕ) → Carried T j q → j < len T) → AddsTakers T marks q passed0 passed into0 into
    spread_all within = record { all = λ j h. all_below (suc j) j (omega arith) (within j h) h; allowed = s.allowed; takers = s.takers }

-- how many places are not gone through yet
abbrev pub open_of : Bool → ℕ
open_of true = 0
open_of false = 1

abbrev pub open_count : List Bool → ℕ
open_count passed = sum_by open_of passed

open_less : (passed : List Bool) (i : ℕ) → i < length passed → ¬ IsMarked passed i → open_count (set passed i true) < open_count passed
open_less passed i lt not_marked = by (get_or passed i true) refl where
  by : (b : Bool) → get_or passed i true ≡ b → open_count (set passed i true) < open_count passed
  by true e = absurd (not_marked (slice_get-get_or passed i true lt ∙ ap (λ (b : Bool). Some b) e))
  by false e =
      let one : open_of (get_or passed i true) ≡ 1 = ap open_of e in
      let sums : open_count (set passed i true) + open_of (get_or passed i true) ≡ open_count passed + 0 = sum_by-set open_of passed i true true lt in
      omega (arith, one, sums)

-- one place less is left, or one less is open
pub smaller : (T : Run) (marks : List Bool) (carrying : List Carrying) (place : ℕ) (passed1 passed2 : List Bool) (left0 left1 left2 : List ℕ) (into1 into2 : List Point) → left0 ≡ left1 ++ place ∷ [] → place < length passed1 → length left2 < 2 ^ 64
    → PassesPlace T marks carrying place passed1 passed2 left1 left2 into1 into2 → open_count passed2 * 2 ^ 64 + length left2 < open_count passed1 * 2 ^ 64 + length left0
smaller T marks carrying place passed1 passed2 left0 left1 left2 into1 into2 popped lt small (known h e f g) =
    omega (arith, ap open_count e, ap (λ (l : List ℕ). length l) f, ap (λ (l : List ℕ). length l) popped, length-append left1 (place ∷ []))
smaller T marks carrying place passed1 passed2 left0 left1 left2 into1 into2 popped lt small (fresh h e rests takes) =
    omega (arith, ap open_count e, open_less passed1 place lt h, small)

-- a row that is put behind a list
pub adds_row : {K : Type 0} (earlier : List (Option ℕ)) (keys : List (Option K)) (key : K) (last : Option ℕ) (old new : List ℕ) → TellsRow earlier keys key last → ((places : List ℕ) → IsRow earlier last places → new ≡ old ++ places) → AddsAll (λ j. slice_get keys j ≡ Some (Some key)) old new
adds_row {K} earlier keys key last old new t f j =
    let is : new ≡ old ++ t.places = f t.places t.row in (
      λ c. ⊎_elim (λ o. inl o) (λ h. inr ((t.all j).0 h)) (Contains-append_cases old t.places j (subst (λ (l : List ℕ). Contains l j) is c)),
      λ s. subst (λ (l : List ℕ). Contains l j) (sym is) (⊎_elim (λ o. Contains-append_left old t.places j o) (λ k. Contains-append_right old t.places j ((t.all j).1 k)) s),
    )

-- a place is gone through for the first time
pub passes_fresh : (T : Run) (n : ℕ) (marks : List Bool) (carrying : List Carrying) (last_touching : Point → Option ℕ) (earlier_touching last_resting earlier_resting : List (Option ℕ)) (place : ℕ) (o : Option ℕ) (passed0 passed : List Bool) (left0 left : List ℕ) (into0 into : List Point)
    → AreRows T n carrying last_touching earlier_touching last_resting earlier_resting → slice_get last_resting place ≡ Some o → ¬ IsMarked passed0 place → passed ≡ set passed0 place true → ((places : List ℕ) → IsRow earlier_resting o places → left ≡ left0 ++ places) → AddsAll (λ p. Takes T marks p place) into0 into
    → PassesPlace T marks carrying place passed0 passed left0 left into0 into
passes_fresh T n marks carrying last_touching earlier_touching last_resting earlier_resting place o passed0 passed left0 left into0 into rows at unmarked is row takes =
    fresh unmarked is (adds_row earlier_resting (rests_of carrying) place o left0 left (rows.resting place o at) row) takes

pub last_read : (xs : List (Option ℕ)) (i : ℕ) (x : Option ℕ) → i < length xs → x ≡ get_or xs i x → slice_get xs i ≡ Some x
last_read xs i x lt e = slice_get-get_or xs i x lt ∙ ap (λ (o : Option ℕ). Some o) (sym e)

-- the same, as the lengths are told
pub smaller_told : (T : Run) (marks : List Bool) (carrying : List Carrying) (place : ℕ) (passed1 passed2 : List Bool) (left0 left1 left2 : List ℕ) (into1 into2 : List Point) (n0 n2 : ℕ) → n0 ≡ length left0 → n2 ≡ length left2 → left0 ≡ left1 ++ place ∷ [] → place < length passed1 → n2 < 2 ^ 64
    → PassesPlace T marks carrying place passed1 passed2 left1 left2 into1 into2 → open_count passed2 * 2 ^ 64 + n2 < open_count passed1 * 2 ^ 64 + n0
smaller_told T marks carrying place passed1 passed2 left0 left1 left2 into1 into2 n0 n2 is0 is2 popped lt small passes =
    let less = smaller T marks carrying place passed1 passed2 left0 left1 left2 into1 into2 popped lt (omega (arith, small, is2)) passes in
    omega (arith, less, is0, is2)

-- no place is marked at first
pub none_marked : (n : ℕ) (xs : List Bool) → xs ≡ replicate n false → (k : ℕ) → ¬ IsMarked xs k
none_marked n xs is k m =
    let lt = slice_get_within xs k true m in
    let count = ap (λ (l : List Bool). length l) is ∙ length-replicate n false in
    let read : get_or xs k true ≡ false = ap (λ (l : List Bool). get_or l k true) is ∙ get_or-replicate n k false true (omega (arith, lt, count)) in
    let e : Some true ≡ Some false = sym m ∙ slice_get-get_or xs k true lt ∙ ap (λ (b : Bool). Some b) read in
    cc
