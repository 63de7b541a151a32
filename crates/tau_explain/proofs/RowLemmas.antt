-- Rows with one place more.
use Rattle.std.proofs.Common.{◌≡◌, ⊎_elim, ℕ, suc, ◌+◌, ◌<◌, Bool, true, false, cond, get_or, take, drop, List, [], ◌∷◌, ◌++◌, length, set, Option, Some, None, refl, sym, ap, ◌∙◌, subst, arith, length-append}
use Rattle.std.specs.Prelude.{Contains, slice_get, option_map}
use Rattle.std.proofs.Math.ListN.{length-set}
use Rattle.std.proofs.lemmas.Bool.{cases_eq}
use Rattle.std.proofs.lemmas.List.{map-append, length-map, append-nil, append_assoc, take_all, drop_all}
use Rattle.std.proofs.lemmas.Option.{slice_get_within, slice_get-map, slice_get-get_or}
use Rattle.std.specs.Option.{option_map_or}
use Rattle.tau_points.specs.declared.point.Point.{Point}
use Rattle.tau_points.proofs.Membership.{Contains-head, Contains-later, Contains-none, Contains-cons_cases}
use Rattle.tau_points.proofs.PointOrder.{point_eq-Decides}
use Rattle.tau_trace.specs.Run.{Run}
use Rattle.tau_trace.proofs.Lists.{same_some, slice_get-front, slice_get-last, slice_get-push_cases, slice_get-set_same, slice_get-set_other}
use Rattle.tau_past.specs.declared.carrying.Carrying.{Carrying}
use Rattle.tau_past.specs.TableSteps.{latest_for, latest_after}
use Rattle.tau_past.specs.Tables.{TellsCarried, same_point}
use Rattle.tau_past.proofs.NextTables.{lists_push}
use Rattle.tau_explain.specs.Links.Inner.Rows.{IsBelow, IsRow, TellsRow, touched_by, rests_of, PutsResting, AreRows, HasRows}

module _ (earlier : List (Option ℕ)) (x : Option ℕ) where
  row_more : (o : Option ℕ) (js : List ℕ) → IsRow earlier o js → IsRow (earlier ++ x ∷ []) o js
  row_more o [] r = r
  row_more o (j ∷ js) r = (r.0, (r.1.0, sym (slice_get-front earlier x j (slice_get_within earlier j r.1.0 r.1.1)) ∙ r.1.1, r.1.2, row_more r.1.0 js r.1.3))

row_below : (earlier : List (Option ℕ)) (o : Option ℕ) (js : List ℕ) → IsRow earlier o js → IsBelow o (length earlier)
row_below earlier o [] r i e = let f = sym r ∙ e in absurd (cc)
row_below earlier o (j ∷ js) r i e = let same : j ≡ i = same_some (sym r.0 ∙ e) in subst (λ n. n < length earlier) same (slice_get_within earlier j r.1.0 r.1.1)

module _ {K : Type 0} (earlier : List (Option ℕ)) (keys : List (Option K)) (count : length earlier ≡ length keys) (q : K) (o : Option ℕ) (t : TellsRow earlier keys q o) where
  -- the new place has the key
  tells_same : TellsRow (earlier ++ o ∷ []) (keys ++ Some q ∷ []) q (Some (length keys))
  tells_same = record {
    places = length keys ∷ t.places;
    row = (refl, (o, subst (λ n. slice_get (earlier ++ o ∷ []) n ≡ Some o) count (slice_get-last earlier o), subst (IsBelow o) count (row_below earlier o t.places t.row), row_more earlier o o t.places t.row));
    all = λ j. (
      λ c. ⊎_elim (λ (e : j ≡ length keys). subst (λ n. slice_get (keys ++ Some q ∷ []) n ≡ Some (Some q)) (sym e) (slice_get-last keys (Some q)))
          (λ h. let at = (t.all j).0 h in sym (slice_get-front keys (Some q) j (slice_get_within keys j (Some q) at)) ∙ at) (Contains-cons_cases (length keys) t.places j c),
      λ e. ⊎_elim (λ at. Contains-later (length keys) t.places j ((t.all j).1 at))
          (λ l. subst (Contains (length keys ∷ t.places)) (sym l.0) (Contains-head (length keys) t.places)) (slice_get-push_cases keys (Some q) (Some q) j e),
    );
  }

  -- the new place has another key, or none
  tells_other : (b : Option ℕ) (x : Option K) → (x ≡ Some q → ⊥) → TellsRow (earlier ++ b ∷ []) (keys ++ x ∷ []) q o
  tells_other b x other = record {
    places = t.places;
    row = row_more earlier b o t.places t.row;
    all = λ j. (
      λ c. let at = (t.all j).0 c in sym (slice_get-front keys x j (slice_get_within keys j (Some q) at)) ∙ at,
      λ e. ⊎_elim (λ at. (t.all j).1 at) (λ l. absurd (other l.1)) (slice_get-push_cases keys x (Some q) j e),
    );
  }

-- the row of a point, after a place put last into the row of the point that it touched, if there is one
touching_put : (earlier : List (Option ℕ)) (keys : List (Option Point)) (old : Point → Option ℕ) (x : Option Point) (q : Point) (o : Option ℕ) → length earlier ≡ length keys → ((p : Point) → TellsRow earlier keys p (old p)) → o ≡ latest_after old x (length keys) q
    → TellsRow (earlier ++ latest_for old x ∷ []) (keys ++ x ∷ []) q o
touching_put earlier keys old None q o count t e = subst (TellsRow (earlier ++ None ∷ []) (keys ++ None ∷ []) q) (sym e) (tells_other earlier keys count q (old q) (t q) None None (λ f. cc))
touching_put earlier keys old (Some p) q o count t e = by (same_point p q) refl where
  by : (b : Bool) → same_point p q ≡ b → TellsRow (earlier ++ old p ∷ []) (keys ++ Some p ∷ []) q o
  by true f =
      let same : p ≡ q = (point_eq-Decides p q).0 f in
      let is : Some (length keys) ≡ o = sym (e ∙ ap (λ (b : Bool). cond b (Some (length keys)) (old q)) f) in
      subst (λ (z : Point). TellsRow (earlier ++ old z ∷ []) (keys ++ Some z ∷ []) q o) (sym same) (subst (TellsRow (earlier ++ old q ∷ []) (keys ++ Some q ∷ []) q) is (tells_same earlier keys count q (old q) (t q)))
  by false f =
      let is : old q ≡ o = sym (e ∙ ap (λ (b : Bool). cond b (Some (length keys)) (old q)) f) in
      subst (TellsRow (earlier ++ old p ∷ []) (keys ++ Some p ∷ []) q) is
      (tells_other earlier keys count q (old q) (t q) (old p) (Some p) (λ g. let same : p ≡ q = same_some g in let h = sym f ∙ (point_eq-Decides p q).1 same in cc))

-- the row of an earlier place
resting_put : (earlier last0 last : List (Option ℕ)) (keys : List (Option ℕ)) (rest before : Option ℕ) (i : ℕ) (o : Option ℕ) → length earlier ≡ length keys → ((r : ℕ) → rest ≡ Some r → r < length last0) → ((j : ℕ) (b : Option ℕ) → slice_get last0 j ≡ Some b → TellsRow earlier keys j b)
    → PutsResting rest (length keys) last0 last before → slice_get last i ≡ Some o → TellsRow (earlier ++ before ∷ []) (keys ++ rest ∷ []) i o
resting_put earlier last0 last keys None before i o count within t puts e = tells_other earlier keys count i o (t i o (subst (λ (l : List (Option ℕ)). slice_get l i ≡ Some o) puts.0 e)) before None (λ f. cc)
resting_put earlier last0 last keys (Some r) before i o count within t puts e = ⊎_elim
    (λ (same : i ≡ r).
    let at : Some (Some (length keys)) ≡ Some o = sym (slice_get-set_same last0 r (Some (length keys)) (within r refl)) ∙ ap (slice_get (set last0 r (Some (length keys)))) (sym same) ∙ now in
    subst (λ z. TellsRow (earlier ++ before ∷ []) (keys ++ Some r ∷ []) z o) (sym same)
    (subst (TellsRow (earlier ++ before ∷ []) (keys ++ Some r ∷ []) r) (same_some at) (tells_same earlier keys count r before (t r before puts.1))))
    (λ ne. tells_other earlier keys count i o (t i o (sym (slice_get-set_other last0 r i (Some (length keys)) ne) ∙ now)) before (Some r) (λ f. ne (sym (same_some f))))
    (cases_eq i r) where
      now : slice_get (set last0 r (Some (length keys))) i ≡ Some o
      now = subst (λ (l : List (Option ℕ)). slice_get l i ≡ Some o) puts.0 e

-- no rows yet
pub rows_none : (T : Run) (last : Point → Option ℕ) → ((p : Point) → last p ≡ None) → HasRows T 0 last [] [] []
rows_none T last none = record {
  carrying = [];
  rows = record {
    tells = record { count = refl; each = λ k x e. absurd (cc) };
    touching_count = refl;
    touching = λ q. record { places = []; row = none q; all = λ j. (λ c. absurd (Contains-none j c), λ e. absurd (cc)) };
    resting_count = refl;
    last_count = refl;
    resting = λ i o e. absurd (cc);
  };
}

module _ (T : Run) (n : ℕ) (c : Carrying) (old new : Point → Option ℕ) (touching0 touching last0 last1 last resting0 resting : List (Option ℕ)) (before : Option ℕ) (h : HasRows T n old touching0 last0 resting0) where
  carries : List Carrying
  carries = h.carrying

  rows : AreRows T n h.carrying old touching0 last0 resting0
  rows = h.rows

  touching_keys : length (touched_by h.carrying) ≡ n
  touching_keys = length-map h.carrying (λ c. c.touched) ∙ h.rows.tells.count

  resting_keys : length (rests_of h.carrying) ≡ n
  resting_keys = length-map h.carrying (λ c. c.rest) ∙ h.rows.tells.count

  pub rest_within : TellsCarried T n c → (i : ℕ) → c.rest ≡ Some i → i < length last0
  rest_within told i e = omega (arith, told.earlier i e, h.rows.last_count)

  pub rows_next : TellsCarried T n c → ((p : Point) → new p ≡ latest_after old c.touched n p) → touching ≡ touching0 ++ latest_for old c.touched ∷ [] → PutsResting c.rest n last0 last1 before → resting ≡ resting0 ++ before ∷ [] → last ≡ last1 ++ None ∷ []
      → length last1 ≡ length last0 → HasRows T (n + 1) new touching last resting
  rows_next told puts e_touching rests e_resting e_last same_length = record {
    carrying = h.carrying ++ c ∷ [];
    rows = record {
      tells = lists_push n (TellsCarried T) h.carrying (h.carrying ++ c ∷ []) c refl told h.rows.tells;
      touching_count = omega (arith, ap (λ (l : List (Option ℕ)). length l) e_touching, length-append touching0 (latest_for old c.touched ∷ []), h.rows.touching_count);
      touching = λ q. subst (λ (l : List (Option ℕ)). TellsRow l (touched_by (h.carrying ++ c ∷ [])) q (new q)) (sym e_touching)
          (subst (λ (ks : List (Option Point)). TellsRow (touching0 ++ latest_for old c.touched ∷ []) ks q (new q)) (sym (map-append (λ (c : Carrying). c.touched) h.carrying (c ∷ [])))
          (touching_put touching0 (touched_by h.carrying) old c.touched q (new q) (h.rows.touching_count ∙ sym touching_keys) h.rows.touching (puts q ∙ ap (λ m. latest_after old c.touched m q) (sym touching_keys))));
      resting_count = omega (arith, ap (λ (l : List (Option ℕ)). length l) e_resting, length-append resting0 (before ∷ []), h.rows.resting_count);
      last_count = omega (arith, ap (λ (l : List (Option ℕ)). length l) e_last, length-append last1 (None ∷ []), h.rows.last_count, same_length);
      resting = λ i o e. subst (λ (l : List (Option ℕ)). TellsRow l (rests_of (h.carrying ++ c ∷ [])) i o) (sym e_resting)
          (subst (λ (ks : List (Option ℕ)). TellsRow (resting0 ++ before ∷ []) ks i o) (sym (map-append (λ (c : Carrying). c.rest) h.carrying (c ∷ []))) (by i o (subst (λ (l : List (Option ℕ)). slice_get l i ≡ Some o) e_last e)));
    };
  } where
    none_yet : (i j : ℕ) → i ≡ n → slice_get (rests_of h.carrying ++ c.rest ∷ []) j ≡ Some (Some i) → ⊥
    none_yet i j is e = ⊎_elim
        (λ at. below j (sym (slice_get-map (λ (c : Carrying). c.rest) h.carrying j) ∙ at))
        (λ l. omega (arith, told.earlier i l.1, is)) (slice_get-push_cases (rests_of h.carrying) c.rest (Some i) j e) where
          below : (j : ℕ) → option_map (λ (c : Carrying). c.rest) (slice_get h.carrying j) ≡ Some (Some i) → ⊥
          below j f = in_option (slice_get h.carrying j) refl f where
            in_option : (o : Option Carrying) → slice_get h.carrying j ≡ o → option_map (λ (c : Carrying). c.rest) o ≡ Some (Some i) → ⊥
            in_option None g f = cc
            in_option (Some d) g f = omega (arith, (h.rows.tells.each j d g).earlier i (same_some f), slice_get_within h.carrying j d g, h.rows.tells.count, is)

    by : (i : ℕ) (o : Option ℕ) → slice_get (last1 ++ None ∷ []) i ≡ Some o → TellsRow (resting0 ++ before ∷ []) (rests_of h.carrying ++ c.rest ∷ []) i o
    by i o e = ⊎_elim
        (λ at. resting_put resting0 last0 last1 (rests_of h.carrying) c.rest before i o (h.rows.resting_count ∙ sym resting_keys) (rest_within told) h.rows.resting (subst (λ m. PutsResting c.rest m last0 last1 before) (sym resting_keys) rests) at)
        (λ l. record {
          places = [];
          row = sym l.1;
          all = λ j. (λ x. absurd (Contains-none j x), λ x. absurd (none_yet i j (l.0 ∙ same_length ∙ h.rows.last_count) x));
        })
        (slice_get-push_cases last1 None o i e)

-- a row that is walked: the first places were added, the rest goes on from the one at hand
pub record Walks (earlier : List (Option ℕ)) (places into0 into : List ℕ) (next : Option ℕ) : Type 0 where
  pub done : List ℕ
  pub rest : List ℕ
  pub is : places ≡ done ++ rest
  pub row : IsRow earlier next rest
  pub added : into ≡ into0 ++ done

pub walks_start : (earlier : List (Option ℕ)) (places into : List ℕ) (last : Option ℕ) → IsRow earlier last places → Walks earlier places into into last
walks_start earlier places into last r = record { done = []; rest = places; is = refl; row = r; added = sym (append-nil into) }

walk : (earlier : List (Option ℕ)) (places into0 old new done rest : List ℕ) (j : ℕ) (next : Option ℕ) → places ≡ done ++ rest → IsRow earlier (Some j) rest → old ≡ into0 ++ done → new ≡ old ++ j ∷ [] → slice_get earlier j ≡ Some next → Walks earlier places into0 new next
walk earlier places into0 old new done [] j next is r added more at = absurd (cc)
walk earlier places into0 old new done (i ∷ is) j next e r added more at =
    let same : i ≡ j = same_some (sym r.0) in
    let before : r.1.0 ≡ next = same_some (sym r.1.1 ∙ ap (slice_get earlier) same ∙ at) in
    record {
      done = done ++ i ∷ [];
      rest = is;
      is = e ∙ sym (append_assoc done (i ∷ []) is);
      row = subst (λ o. IsRow earlier o is) before r.1.3;
      added = more ∙ ap (λ (l : List ℕ). l ++ j ∷ []) added ∙ append_assoc into0 done (j ∷ []) ∙ ap (λ n. into0 ++ (done ++ n ∷ [])) (sym same);
    }

pub walks_on : (earlier : List (Option ℕ)) (places into0 old new : List ℕ) (now next : Option ℕ) (j : ℕ) → now ≡ Some j → new ≡ old ++ j ∷ [] → slice_get earlier j ≡ Some next → Walks earlier places into0 old now → Walks earlier places into0 new next
walks_on earlier places into0 old new now next j is more at w = walk earlier places into0 old new w.done w.rest j next w.is (subst (λ o. IsRow earlier o w.rest) is w.row) w.added more at

at_head : (earlier : List (Option ℕ)) (rest : List ℕ) (j : ℕ) → IsRow earlier (Some j) rest → (o : Option ℕ) × (slice_get earlier j ≡ Some o) × IsBelow o j
at_head earlier [] j r = absurd (cc)
at_head earlier (i ∷ is) j r = let same : i ≡ j = same_some (sym r.0) in (r.1.0, subst (λ n. slice_get earlier n ≡ Some r.1.0) same r.1.1, subst (IsBelow r.1.0) same r.1.2)

-- at a place of a row there is an earlier one, below it
pub walks_at : (earlier : List (Option ℕ)) (places into0 into : List ℕ) (now : Option ℕ) (j : ℕ) → now ≡ Some j → Walks earlier places into0 into now → (o : Option ℕ) × (slice_get earlier j ≡ Some o) × IsBelow o j
walks_at earlier places into0 into now j is w = at_head earlier w.rest j (subst (λ o. IsRow earlier o w.rest) is w.row)

ends : (earlier : List (Option ℕ)) (rest : List ℕ) → IsRow earlier None rest → rest ≡ []
ends earlier [] r = refl
ends earlier (i ∷ is) r = absurd (let e = r.0 in cc)

pub walks_end : (earlier : List (Option ℕ)) (places into0 into : List ℕ) (now : Option ℕ) → now ≡ None → Walks earlier places into0 into now → into ≡ into0 ++ places
walks_end earlier places into0 into now is w =
    let none = ends earlier w.rest (subst (λ o. IsRow earlier o w.rest) is w.row) in
    w.added ∙ ap (λ (l : List ℕ). into0 ++ l) (sym (w.is ∙ ap (λ (l : List ℕ). w.done ++ l) none ∙ append-nil w.done))

-- what stands before a place is less, as a measure
pub below_less : (o now : Option ℕ) (j : ℕ) → now ≡ Some j → IsBelow o j → option_map_or suc o 0 < option_map_or suc now 0
below_less None now j e below = let f = ap (λ (x : Option ℕ). option_map_or suc x 0) e in omega (arith, f)
below_less (Some i) now j e below = let f = ap (λ (x : Option ℕ). option_map_or suc x 0) e in omega (arith, f, below i refl)

-- the place before the one at hand, as it is read
pub row_read : (earlier : List (Option ℕ)) (places into0 into : List ℕ) (now : Option ℕ) (j : ℕ) (d : Option ℕ) → now ≡ Some j → Walks earlier places into0 into now → (slice_get earlier j ≡ Some (get_or earlier j d)) × IsBelow (get_or earlier j d) j
row_read earlier places into0 into now j d is w =
    let at = walks_at earlier places into0 into now j is w in
    let read = slice_get-get_or earlier j d (slice_get_within earlier j at.0 at.1) in
    (read, subst (λ o. IsBelow o j) (same_some (sym at.1 ∙ read)) at.2)

pub row_within : (earlier : List (Option ℕ)) (places into0 into : List ℕ) (now : Option ℕ) (j : ℕ) → now ≡ Some j → Walks earlier places into0 into now → j < length earlier
row_within earlier places into0 into now j is w = let at = walks_at earlier places into0 into now j is w in slice_get_within earlier j at.0 at.1

-- a list that is written back whole
pub written : (n : ℕ) (xs ys : List (Option ℕ)) → length xs ≡ length ys → n ≡ length ys → take n (xs ++ drop (length xs) ys) ≡ xs
written n xs ys same is =
    let rest : drop (length xs) ys ≡ [] = drop_all (length xs) ys (omega (arith, same)) in
    ap (λ (l : List (Option ℕ)). take n (xs ++ l)) rest ∙ ap (take n) (append-nil xs) ∙ take_all n xs (omega (arith, same, is))

pub puts_length : (rest : Option ℕ) (place : ℕ) (last0 last : List (Option ℕ)) (before : Option ℕ) → PutsResting rest place last0 last before → length last ≡ length last0
puts_length None place last0 last before p = ap (λ (l : List (Option ℕ)). length l) p.0
puts_length (Some i) place last0 last before p = ap (λ (l : List (Option ℕ)). length l) p.0 ∙ length-set last0 i (Some place)
