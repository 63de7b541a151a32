-- What a search for pasts keeps.
use Rattle.std.proofs.Common.{◌≡◌, ◌⊎◌, ◌↔◌, inl, inr, ⊎_elim, ◌+◌, Bool, true, false, List, [], ◌∷◌, ◌++◌, length, refl, sym, subst, not, ◌-◌, Result}
use Rattle.std.specs.Prelude.{Contains, ◌||◌}
use Rattle.std.specs.Bool.{OnTrue, OnFalse}
use Rattle.std.proofs.lemmas.List.Elements.{Contains-append_left, Contains-push, Contains-push_cases}
use Rattle.tau_points.specs.declared.point.Point.{Point}
use Rattle.tau_points.specs.Members as members
use Rattle.tau_points.specs.Reach.{start, next}
use Rattle.tau_points.proofs.Membership.{Contains-none}
use Rattle.tau_points.proofs.Reach.{least}
use Rattle.tau_points.proofs.Tables.{has}
use Rattle.tau_points.proofs.PointOrder.{point_eq-laws}
use Rattle.std.proofs.lemmas.Map.Views.{list_any-from_Contains}
use Rattle.std.proofs.lemmas.Result.{IfOk-weaker}
use Rattle.std.specs.Result.{IfOk}
use Rattle.tau_trace.specs.Run.{Run}
use Rattle.tau_past.specs.Pasts.{Link, Past, Is, Everywhere}
use Rattle.tau_past.specs.Safety.{RolledBack}
use Rattle.tau_past.specs.Inner.Searching.{IsListed, AddsFollowing, IsComplete, AddsPast, PastHasFallen, FoundNoFallen, Visits, known, fresh}

-- found holds the points that were visited, left those that are to be
pub record Searched (T : Run) (p : Point) (found0 found : List Point) (passed : List Bool) (left : List Point) : Type 0 where
  pub kept : (q : Point) → Contains found0 q → Contains found q
  pub begins : Contains found p ⊎ Contains left p
  pub sound : (q : Point) → Contains found q ⊎ Contains left q → Contains found0 q ⊎ Past T p q
  pub follows : (x y : Point) → Contains found x → Link T Everywhere x y → Contains found y ⊎ Contains left y
  pub listed : (q : Point) → IsListed T passed q → Contains found q ⊎ Contains left q

pub searched_start : (T : Run) (p : Point) (found : List Point) (passed : List Bool) (left : List Point) → left ≡ [] ++ p ∷ [] → IsComplete T found passed → Searched T p found found passed left
searched_start T p found passed left e c = subst (Searched T p found found passed) (sym e) (record {
  kept = λ q h. h;
  begins = inr (Contains-push [] p);
  sound = λ q s. ⊎_elim (λ h. inl h) (λ h. ⊎_elim (λ i. absurd (Contains-none q i)) (λ (f : p ≡ q). inr (start (sym f))) (Contains-push_cases [] p q h)) s;
  follows = λ x y h l. inl (c.follows x y h l);
  listed = λ q h. inl (c.listed q h);
})

pub searched_end : (T : Run) (p : Point) (found0 found : List Point) (passed : List Bool) (left : List Point) → left ≡ [] → Searched T p found0 found passed left → IsComplete T found passed × AddsPast T p found0 found
searched_end T p found0 found passed left e s = (
  record { follows = λ x y h l. here y (s.follows x y h l); listed = λ q h. here q (s.listed q h) },
  λ q. (
    λ h. s.sound q (inl h),
    λ c. ⊎_elim (λ h. s.kept q h) (λ r. least (Link T Everywhere) (Is p) (Contains found) (record {
      starts = λ x f. subst (Contains found) (sym f) (here p s.begins);
      follows = λ x y h l. here y (s.follows x y h l);
    }) q r) c,
  ),
) where
  here : (q : Point) → Contains found q ⊎ Contains left q → Contains found q
  here q c = ⊎_elim (λ h. h) (λ h. absurd (Contains-none q (subst (λ (l : List Point). Contains l q) e h))) c

module _ (T : Run) (p x : Point) (found0 found1 found2 : List Point) (passed1 passed2 : List Bool) (left0 left1 left2 : List Point) (popped : left0 ≡ left1 ++ x ∷ []) (s : Searched T p found0 found1 passed1 left0) where
  -- x comes off what is left
  off : (q : Point) → Contains found1 q ⊎ Contains left0 q → Contains found1 q ⊎ (Contains left1 q ⊎ (x ≡ q))
  off q c = ⊎_elim (λ h. inl h) (λ h. inr (Contains-push_cases left1 x q (subst (λ (l : List Point). Contains l q) popped h))) c

  on : (q : Point) → Contains left1 q → Contains left0 q
  on q h = subst (λ (l : List Point). Contains l q) (sym popped) (Contains-append_left left1 (x ∷ []) q h)

  reached : Contains found0 x ⊎ Past T p x
  reached = s.sound x (inr (subst (λ (l : List Point). Contains l x) (sym popped) (Contains-push left1 x)))

  searched-known : Contains found1 x → found2 ≡ found1 → passed2 ≡ passed1 → left2 ≡ left1 → Searched T p found0 found2 passed2 left2
  searched-known h e f g =
      subst (λ (l : List Point). Searched T p found0 found2 passed2 l) (sym g) (subst (λ ps. Searched T p found0 found2 ps left1) (sym f) (subst (λ (l : List Point). Searched T p found0 l passed1 left1) (sym e) (record {
        kept = s.kept;
        begins = back p (off p s.begins);
        sound = λ q c. s.sound q (⊎_elim (λ i. inl i) (λ i. inr (on q i)) c);
        follows = λ y z i l. back z (off z (s.follows y z i l));
        listed = λ q i. back q (off q (s.listed q i));
      }))) where
        back : (q : Point) → Contains found1 q ⊎ (Contains left1 q ⊎ (x ≡ q)) → Contains found1 q ⊎ Contains left1 q
        back q c = ⊎_elim (λ i. inl i) (λ r. ⊎_elim (λ i. inr i) (λ e. inl (subst (Contains found1) e h)) r) c

  searched-fresh : (¬ Contains found0 x) → members.Adds found1 found2 x → AddsFollowing T x passed1 passed2 left1 left2 → Searched T p found0 found2 passed2 left2
  searched-fresh not adds f = record {
    kept = λ q h. (adds q).1 (inl (s.kept q h));
    begins = back p (off p s.begins);
    sound = λ q c. ⊎_elim
        (λ h. ⊎_elim (λ i. s.sound q (inl i)) (λ (e : q ≡ x). subst (λ z. Contains found0 z ⊎ Past T p z) (sym e) reached) ((adds q).0 h))
        (λ h. ⊎_elim (λ i. s.sound q (inr (on q i))) (λ r. from_x q r) (f.adds.allowed q h)) c;
    follows = λ y z h l. ⊎_elim
        (λ i. back z (off z (s.follows y z i l)))
        (λ (e : y ≡ x). ⊎_elim (λ i. inr i) (λ m. back z (off z (s.listed z m))) (f.follows z (subst (λ w. Link T Everywhere w z) e l))) ((adds y).0 h);
    listed = λ q h. ⊎_elim (λ i. inr i) (λ m. back q (off q (s.listed q m))) (f.adds.listed q h);
  } where
    back : (q : Point) → Contains found1 q ⊎ (Contains left1 q ⊎ (x ≡ q)) → Contains found2 q ⊎ Contains left2 q
    back q c = ⊎_elim (λ i. inl ((adds q).1 (inl i))) (λ r. ⊎_elim (λ i. inr (f.adds.kept q i)) (λ (e : x ≡ q). inl ((adds q).1 (inr (sym e)))) r) c

    in_past : Past T p x
    in_past = ⊎_elim (λ h. absurd (not h)) (λ r. r) reached

    from_x : (q : Point) → (q ≡ x) ⊎ Link T Everywhere x q → Contains found0 q ⊎ Past T p q
    from_x q r = inr (⊎_elim (λ e. subst (Past T p) (sym e) in_past) (λ l. next in_past l) r)

  pub searched_on : Visits T x found1 found2 passed1 passed2 left1 left2 → Searched T p found0 found2 passed2 left2
  searched_on (known h e f g) = searched-known h e f g
  searched_on (fresh not adds more f) = searched-fresh (λ h. not (s.kept x h)) adds f

  -- whether a rolled-back point is new among them

  pub fallen_on : (a b : Bool) → Visits T x found1 found2 passed1 passed2 left1 left2 → OnTrue a (PastHasFallen T p) → OnTrue b (RolledBack T x × ¬ Contains found1 x) → OnTrue (a || b) (PastHasFallen T p)
  fallen_on true b v h r = h
  fallen_on false true v h r = record { root = x; in_past = ⊎_elim (λ i. absurd (r.1 (s.kept x i))) (λ z. z) reached; rolled_back = r.0 }
  fallen_on false false v h r = tt

  pub safe_on : (a b : Bool) → Visits T x found1 found2 passed1 passed2 left1 left2 → OnFalse a (FoundNoFallen T found0 found1) → OnFalse b (RolledBack T x → Contains found1 x) → OnFalse (a || b) (FoundNoFallen T found0 found2)
  safe_on true b v h n = tt
  safe_on false true v h n = tt
  safe_on false false v h n = by v where
    by : Visits T x found1 found2 passed1 passed2 left1 left2 → FoundNoFallen T found0 found2
    by (known i e f g) = λ q j r. h q (subst (λ (l : List Point). Contains l q) e j) r
    by (fresh not adds more f) = λ q j r. ⊎_elim (λ i. h q i r) (λ (e : q ≡ x). absurd (not (n (subst (RolledBack T) e r)))) ((adds q).0 j)

-- as the calls have them

fresh-cases : (ks : List Point) (x : Point) (b c : Bool) → has ks x ≡ c → b ≡ not c → OnTrue b (¬ Contains ks x)
fresh-cases ks x true true e f = cc
fresh-cases ks x true false e f = λ h. let g = list_any-from_Contains point_eq-laws x ks h in cc
fresh-cases ks x false c e f = tt

pub fresh_from_table : (ks : List Point) (x : Point) (added : Bool) → added ≡ not (has ks x) → OnTrue added (¬ Contains ks x)
fresh_from_table ks x added e = fresh-cases ks x added (has ks x) refl e

pub visits_fresh : (T : Run) (p : Point) (found0 found : List Point) (passed0 passed : List Bool) (left0 left : List Point) (added : Bool) → added ≡ true → OnTrue added (¬ Contains found0 p) → members.Adds found0 found p → OnTrue added (length found ≡ length found0 + 1) → AddsFollowing T p passed0 passed left0 left → Visits T p found0 found passed0 passed left0 left
visits_fresh T p found0 found passed0 passed left0 left true e not adds more f = fresh not adds more f
visits_fresh T p found0 found passed0 passed left0 left false e not adds more f = absurd (cc)

pub visits_known : (T : Run) (p : Point) (found0 found : List Point) (passed : List Bool) (left : List Point) (added : Bool) → added ≡ false → OnFalse added (Contains found0 p) → OnFalse added (found ≡ found0) → Visits T p found0 found passed passed left left
visits_known T p found0 found passed left false e h same = known h same refl refl
visits_known T p found0 found passed left true e h same = absurd (cc)

pub set_of : {E : Type 0} (r : Result (List Point) E) (points items : List Point) (P : Point → Type 0) → IfOk r (members.SameMembers points) → points ≡ items → ((q : Point) → Contains items q ↔ P q) → IfOk r (λ set. (q : Point) → Contains set q ↔ P q)
set_of r points items P same e all =
    IfOk-weaker r (members.SameMembers points) (λ set. (q : Point) → Contains set q ↔ P q)
    (λ set m q. let here = subst (λ (l : List Point). Contains l q ↔ P q) (sym e) (all q) in (λ h. here.0 ((m q).1 h), λ h. (m q).0 (here.1 h))) same

pub past_from_none : (T : Run) (p : Point) (found0 found : List Point) → found0 ≡ [] → AddsPast T p found0 found → (q : Point) → Contains found q ↔ Past T p q
past_from_none T p found0 found e a q = (
  λ h. ⊎_elim (λ i. absurd (Contains-none q (subst (λ (l : List Point). Contains l q) e i))) (λ r. r) ((a q).0 h),
  λ r. (a q).1 (inr r),
)
