-- What is kept while points are listed.
use Rattle.std.proofs.Common.{◌≡◌, ◌≢◌, ◌⊎◌, ◌↔◌, inl, inr, ⊎_elim, ℕ, suc, ◌<◌, ◌≤◌, Bool, true, false, List, Option, Some, None, length, get_or, set, refl, sym, ◌∙◌, subst, arith}
use Rattle.std.specs.Prelude.{Contains}
use Rattle.std.proofs.lemmas.Option.{slice_get_within, slice_get_read}
use Rattle.std.proofs.lemmas.List.{get_or_default}
use Rattle.std.specs.Option.{option_map_or}
use Rattle.std.proofs.lemmas.Bool.{cases_lt, cases_eq}
use Rattle.tau_points.specs.declared.point.Point.{Point}
use Rattle.tau_points.specs.Members.{AddsAll}
use Rattle.tau_points.proofs.PointOrder.{point_eq, point_eq-Decides}
use Rattle.tau_trace.specs.declared.step.Step.TheVariants.{New}
use Rattle.tau_trace.specs.Run.{Run, len}
use Rattle.tau_trace.proofs.Lists.{slice_get-set_same, slice_get-set_other}
use Rattle.tau_past.specs.declared.carrying.Carrying.{Carrying}
use Rattle.tau_past.specs.Carried.{Carried, TakesBy, by_set, by_new}
use Rattle.tau_past.specs.Pasts.{Link, takes, closing, Everywhere}
use Rattle.tau_past.specs.Tables.{CarriedFrom, TellsCarried, TellsEarlier, TakesAt, IsLast, ClosesBefore}
use Rattle.tau_past.specs.Tables as tables
use Rattle.tau_past.specs.Inner.Searching.{IsPassed, IsListed, Adds, AddsCarried, TakesSome, AddsTaken, IsOrFollows, AddsFollowing}

-- a place that may be named next is within the trace
abbrev pub IsWithin : Run → Option ℕ → Type 0
IsWithin T next = (j : ℕ) → next ≡ Some j → j < len T

-- a list of what a step carries, up to the next place of its chain

pub record Walks (T : Run) (place : ℕ) (points : List Point) (next : Option ℕ) : Type 0 where
  pub all : (q : Point) → Carried T place q ↔ (Contains points q ⊎ CarriedFrom T next q)
  pub within : IsWithin T next

pub walks_on : (T : Run) (place at : ℕ) (c : Carrying) (old new : List Point) → TellsCarried T at c → AddsAll (λ q. c.touched ≡ Some q) old new → Walks T place old (Some at) → Walks T place new c.rest
walks_on T place at c old new told adds w = record {
  all = λ q. (
    λ p. ⊎_elim (λ h. inl ((adds q).1 (inl h))) (λ r. ⊎_elim (λ t. inl ((adds q).1 (inr t))) (λ n. inr n) ((told.points q).0 r)) ((w.all q).0 p),
    λ s. (w.all q).1 (⊎_elim (λ h. ⊎_elim (λ o. inl o) (λ t. inr ((told.points q).1 (inl t))) ((adds q).0 h)) (λ n. inr ((told.points q).1 (inr n))) s),
  );
  within = λ j e. omega (arith, told.earlier j e, w.within at refl);
}

pub walks_end : (T : Run) (place : ℕ) (points : List Point) (next : Option ℕ) → next ≡ None → Walks T place points next → (q : Point) → Contains points q ↔ Carried T place q
walks_end T place points next e w q = (
  λ h. (w.all q).1 (inl h),
  λ c. ⊎_elim (λ h. h) (λ n. absurd (subst (λ o. CarriedFrom T o q) e n)) ((w.all q).0 c),
)

-- the same where places that were passed before end it

pub record Passes (T : Run) (place : ℕ) (passed0 passed : List Bool) (points0 points : List Point) (next : Option ℕ) : Type 0 where
  pub kept : (q : Point) → Contains points0 q → Contains points q
  pub allowed : (q : Point) → Contains points q → Contains points0 q ⊎ Carried T place q
  pub passed_kept : (k : ℕ) → IsPassed passed0 k → IsPassed passed k
  pub listed : (q : Point) → IsListed T passed q → Contains points q ⊎ (IsListed T passed0 q ⊎ CarriedFrom T next q)
  pub later : (k j : ℕ) → IsPassed passed k → next ≡ Some j → IsPassed passed0 k ⊎ (j < k)
  pub rest : (q : Point) → CarriedFrom T next q → Carried T place q
  pub marks : IsPassed passed place ⊎ (next ≡ Some place)
  pub within : IsWithin T next

module _ (passed : List Bool) (at : ℕ) (lt : at < length passed) where
  passed_here : IsPassed (set passed at true) at
  passed_here = slice_get-set_same passed at true lt

  passed_more : (k : ℕ) → IsPassed passed k → IsPassed (set passed at true) k
  passed_more k h = ⊎_elim
      (λ (e : k ≡ at). subst (IsPassed (set passed at true)) (sym e) passed_here)
      (λ ne. slice_get-set_other passed at k true ne ∙ h)
      (cases_eq k at)

  passed_before : (k : ℕ) → IsPassed (set passed at true) k → (k ≡ at) ⊎ IsPassed passed k
  passed_before k h = ⊎_elim (λ e. inl e) (λ ne. inr (sym (slice_get-set_other passed at k true ne) ∙ h)) (cases_eq k at)

pub passes_on : (T : Run) (place at : ℕ) (c : Carrying) (passed0 passed new_passed : List Bool) (points0 old new : List Point) → at < length passed → new_passed ≡ set passed at true → TellsCarried T at c → AddsAll (λ q. c.touched ≡ Some q) old new
    → Passes T place passed0 passed points0 old (Some at) → Passes T place passed0 new_passed points0 new c.rest
passes_on T place at c passed0 passed new_passed points0 old new lt is told adds p = subst (λ ps. Passes T place passed0 ps points0 new c.rest) (sym is) (record {
  kept = λ q h. more q (p.kept q h);
  allowed = λ q h. ⊎_elim (λ o. p.allowed q o) (λ t. inr (p.rest q (told_here q (inl t)))) ((adds q).0 h);
  passed_kept = λ k h. passed_more passed at lt k (p.passed_kept k h);
  listed = λ q h. ⊎_elim
      (λ (e : h.0 ≡ at). ⊎_elim (λ t. inl ((adds q).1 (inr t))) (λ n. inr (inr n)) ((told.points q).0 (subst (λ k. Carried T k q) e h.2)))
      (λ o. ⊎_elim (λ i. inl (more q i)) (λ r. ⊎_elim (λ l. inr (inl l)) (λ n. ⊎_elim (λ t. inl ((adds q).1 (inr t))) (λ m. inr (inr m)) ((told.points q).0 n)) r) (p.listed q (h.0, o, h.2)))
      (passed_before passed at lt h.0 h.1);
  later = λ k j h e. ⊎_elim (λ (same : k ≡ at). inr (omega (arith, told.earlier j e, same)))
      (λ o. ⊎_elim (λ z. inl z) (λ l. inr (omega (arith, l, told.earlier j e))) (p.later k at o refl))
      (passed_before passed at lt k h);
  rest = λ q n. p.rest q (told_here q (inr n));
  marks = ⊎_elim (λ m. inl (passed_more passed at lt place m)) (λ e. let same : at ≡ place = same_some e in inl (subst (IsPassed (set passed at true)) same (passed_here passed at lt))) p.marks;
  within = λ j e. omega (arith, told.earlier j e, p.within at refl);
}) where
  more : (q : Point) → Contains old q → Contains new q
  more q h = (adds q).1 (inl h)

  told_here : (q : Point) → ((c.touched ≡ Some q) ⊎ CarriedFrom T c.rest q) → Carried T at q
  told_here q s = (told.points q).1 s

  same_some : {a b : ℕ} → Some a ≡ Some b → a ≡ b
  same_some f = cc

-- the chain ends where no place is named, or one that was passed before
pub passes_end : (T : Run) (place : ℕ) (passed0 passed : List Bool) (points0 points : List Point) (next : Option ℕ) → next ≡ None → Passes T place passed0 passed points0 points next → AddsCarried T place passed0 passed points0 points
passes_end T place passed0 passed points0 points next e p = record {
  adds = record {
    kept = p.kept;
    allowed = p.allowed;
    passed_kept = p.passed_kept;
    listed = λ q h. ⊎_elim (λ i. inl i) (λ r. ⊎_elim (λ l. inr l) (λ n. absurd (subst (λ o. CarriedFrom T o q) e n)) r) (p.listed q h);
  };
  passes = ⊎_elim (λ m. m) (λ f. let x = sym e ∙ f in absurd (cc)) p.marks;
}

pub passes_known : (T : Run) (place at : ℕ) (passed0 passed : List Bool) (points0 points : List Point) → IsPassed passed at → Passes T place passed0 passed points0 points (Some at) → AddsCarried T place passed0 passed points0 points
passes_known T place at passed0 passed points0 points known p = record {
  adds = record {
    kept = p.kept;
    allowed = p.allowed;
    passed_kept = p.passed_kept;
    listed = λ q h. ⊎_elim (λ i. inl i) (λ r. ⊎_elim (λ l. inr l) (λ n. inr (at, before, n)) r) (p.listed q h);
  };
  passes = ⊎_elim (λ m. m) (λ f. let same : at ≡ place = cc in subst (IsPassed passed) same known) p.marks;
} where
  before : IsPassed passed0 at
  before = ⊎_elim (λ z. z) (λ l. absurd (omega (arith, l))) (p.later at at known refl)

-- one list after the other
pub adds_then : (T : Run) (P Q R : Point → Type 0) (passed0 passed1 passed2 : List Bool) (points0 points1 points2 : List Point) → ((q : Point) → P q → R q) → ((q : Point) → Q q → R q)
    → Adds T P passed0 passed1 points0 points1 → Adds T Q passed1 passed2 points1 points2 → Adds T R passed0 passed2 points0 points2
adds_then T P Q R passed0 passed1 passed2 points0 points1 points2 left right a b = record {
  kept = λ q h. b.kept q (a.kept q h);
  allowed = λ q h. ⊎_elim (λ i. ⊎_elim (λ o. inl o) (λ p. inr (left q p)) (a.allowed q i)) (λ r. inr (right q r)) (b.allowed q h);
  passed_kept = λ k h. b.passed_kept k (a.passed_kept k h);
  listed = λ q h. ⊎_elim (λ i. inl i) (λ l. ⊎_elim (λ i. inl (b.kept q i)) (λ m. inr m) (a.listed q l)) (b.listed q h);
}

pub adds_none : (T : Run) (P : Point → Type 0) (passed : List Bool) (points : List Point) → Adds T P passed passed points points
adds_none T P passed points = record { kept = λ q h. h; allowed = λ q h. inl h; passed_kept = λ k h. h; listed = λ q h. inr h }

-- the places at which a point takes, from the last on

pub record Taking (T : Run) (p : Point) (passed0 passed : List Bool) (points0 points : List Point) (next : Option ℕ) : Type 0 where
  pub adds : Adds T (TakesSome T p) passed0 passed points0 points
  pub passes : (j : ℕ) → TakesAt T p j → IsPassed passed j ⊎ ((n : ℕ) × (next ≡ Some n) × (j ≤ n))
  pub takes : (n : ℕ) → next ≡ Some n → TakesAt T p n
  pub within : IsWithin T next

takes_within : (T : Run) (p : Point) (j : ℕ) → TakesAt T p j → j < len T
takes_within T p j (tables.by_set d e) = slice_get_within T.steps j d.step d.stands
takes_within T p j (tables.by_new {by = t} n e) = slice_get_within T.steps j (New t n.behaviour n.node n.state) n.stands

last_or_before : (P : ℕ → Type 0) (n : ℕ) (o : Option ℕ) → IsLast P n o → (j : ℕ) → j < n → P j → (m : ℕ) × (o ≡ Some m) × (j ≤ m)
last_or_before P n None l j lt p = absurd (l j lt p)
last_or_before P n (Some m) l j lt p = (m, refl, ⊎_elim (λ b. absurd (l.2 j b lt p)) (λ b. b) (cases_lt m j))

last_holds : (P : ℕ → Type 0) (n : ℕ) (o : Option ℕ) → IsLast P n o → (m : ℕ) → o ≡ Some m → P m × (m < n)
last_holds P n None l m e = absurd (cc)
last_holds P n (Some k) l m e = let same : k ≡ m = cc in (subst P same l.1, omega (arith, l.0, same))

pub taking_start : (T : Run) (p : Point) (passed : List Bool) (points : List Point) (next : Option ℕ) → IsLast (TakesAt T p) (len T) next → Taking T p passed passed points points next
taking_start T p passed points next l = record {
  adds = adds_none T (TakesSome T p) passed points;
  passes = λ j t. inr (last_or_before (TakesAt T p) (len T) next l j (takes_within T p j t) t);
  takes = λ n e. (last_holds (TakesAt T p) (len T) next l n e).0;
  within = λ n e. (last_holds (TakesAt T p) (len T) next l n e).1;
}

pub taking_on : (T : Run) (p : Point) (place : ℕ) (passed0 passed1 passed2 : List Bool) (points0 points1 points2 : List Point) (next : Option ℕ) → AddsCarried T place passed1 passed2 points1 points2 → TellsEarlier T place next
    → Taking T p passed0 passed1 points0 points1 (Some place) → Taking T p passed0 passed2 points0 points2 next
taking_on T p place passed0 passed1 passed2 points0 points1 points2 next a told t = record {
  adds = adds_then T (TakesSome T p) (Carried T place) (TakesSome T p) passed0 passed1 passed2 points0 points1 points2 (λ q x. x) (λ q c. (place, here, c)) t.adds a.adds;
  passes = λ j x. ⊎_elim (λ m. inl (a.adds.passed_kept j m)) (λ r. below j x (same_some r.1) r.2) (t.passes j x);
  takes = λ n e. (last_holds (TakesAt T p) place next earlier n e).0;
  within = λ n e. omega (arith, (last_holds (TakesAt T p) place next earlier n e).1, t.within place refl);
} where
  here : TakesAt T p place
  here = t.takes place refl

  earlier : IsLast (TakesAt T p) place next
  earlier = told p here

  same_some : {a b : ℕ} → Some a ≡ Some b → a ≡ b
  same_some f = cc

  below : (j : ℕ) → TakesAt T p j → {n : ℕ} → place ≡ n → j ≤ n → IsPassed passed2 j ⊎ ((m : ℕ) × (next ≡ Some m) × (j ≤ m))
  below j x {n} e le = ⊎_elim (λ (same : j ≡ place). inl (subst (IsPassed passed2) (sym same) a.passes)) (λ ne. inr (last_or_before (TakesAt T p) place next earlier j (omega (arith, le, e, ne)) x)) (cases_eq j place)

pub taking_end : (T : Run) (p : Point) (passed0 passed : List Bool) (points0 points : List Point) (next : Option ℕ) → next ≡ None → Taking T p passed0 passed points0 points next → AddsTaken T p passed0 passed points0 points
taking_end T p passed0 passed points0 points next e t = record {
  adds = t.adds;
  passes = λ j x. ⊎_elim (λ m. m) (λ r. let y = sym e ∙ r.1 in absurd (cc)) (t.passes j x);
}

-- what a point takes, and its closing point, are all to which it leads

leads_on : (T : Run) (p q : Point) → TakesSome T p q → IsOrFollows T p q
leads_on T p q s = ⊎_elim (λ e. inl e) (λ ne. inr (takes tt (by ne s.1))) (same_or_not q p) where
  same_or_not : (x y : Point) → (x ≡ y) ⊎ (x ≢ y)
  same_or_not x y = by_test (point_eq x y) refl where
    by_test : (b : Bool) → point_eq x y ≡ b → (x ≡ y) ⊎ (x ≢ y)
    by_test true e = inl ((point_eq-Decides x y).0 e)
    by_test false e = inr (λ f. let g = (point_eq-Decides x y).1 f in cc)

  by : q ≢ p → TakesAt T p s.0 → TakesBy T s.0 p q
  by ne (tables.by_set d e) = by_set d e s.2 ne
  by ne (tables.by_new n e) = by_new n e s.2 ne

taken_from : (T : Run) (j : ℕ) (p q : Point) → TakesBy T j p q → TakesAt T p j × Carried T j q
taken_from T j p q (by_set d e c ne) = (tables.by_set d e, c)
taken_from T j p q (by_new n e c ne) = (tables.by_new n e, c)

pub following : (T : Run) (p : Point) (passed0 passed : List Bool) (points0 points1 points2 : List Point) (o : Option Point) → ((q : Point) → ClosesBefore T p q ↔ (o ≡ Some q)) → AddsTaken T p passed0 passed points0 points1 → AddsAll (λ q. o ≡ Some q) points1 points2
    → AddsFollowing T p passed0 passed points0 points2
following T p passed0 passed points0 points1 points2 o closes a b = record {
  adds = record {
    kept = λ q h. (b q).1 (inl (a.adds.kept q h));
    allowed = λ q h. ⊎_elim (λ i. ⊎_elim (λ z. inl z) (λ s. inr (leads_on T p q s)) (a.adds.allowed q i)) (λ e. let c = (closes q).1 e in inr (inr (closing c.1 c.2))) ((b q).0 h);
    passed_kept = a.adds.passed_kept;
    listed = λ q h. ⊎_elim (λ i. inl ((b q).1 (inl i))) (λ l. inr l) (a.adds.listed q h);
  };
  follows = by;
} where
  by : (q : Point) → Link T Everywhere p q → Contains points2 q ⊎ IsListed T passed0 q
  by q (takes {j = j} h t) =
      let both = taken_from T j p q t in
      ⊎_elim (λ i. inl ((b q).1 (inl i))) (λ l. inr l) (a.adds.listed q (j, a.passes j both.0, both.1))
  by q (closing {i = i} e c) = inl ((b q).1 (inr ((closes q).0 (i, e, c))))

-- as the calls have them

pub passed_read : (passed : List Bool) (k : ℕ) (d : Bool) → k < length passed → get_or passed k d ≡ true → IsPassed passed k
passed_read passed k d lt e = slice_get_read passed (length passed) k true refl lt (sym e ∙ get_or_default passed k d true lt)

pub taking_smaller : (T : Run) (p : Point) (place : ℕ) (passed0 passed : List Bool) (points0 points : List Point) (now next : Option ℕ) → now ≡ Some place → TellsEarlier T place next → Taking T p passed0 passed points0 points now → option_map_or suc next 0 < option_map_or suc now 0
taking_smaller T p place passed0 passed points0 points now next e told t = by next refl where
  last : IsLast (TakesAt T p) place next
  last = told p (t.takes place e)

  by : (o : Option ℕ) → next ≡ o → option_map_or suc o 0 < option_map_or suc now 0
  by None f = rw e (omega arith)
  by (Some m) f = let below : m < place = (last_holds (TakesAt T p) place next last m f).1 in rw e (omega (arith, below))
