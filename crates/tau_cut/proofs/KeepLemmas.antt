-- The Checkpoints of a trace, and the points that can't be kept, place by place.
use Rattle.std.proofs.Common.{◌≡◌, ◌⊎◌, inl, inr, ⊎_elim, ℕ, ◌+◌, ◌<◌, List, [], ◌∷◌, ◌++◌, get_or, All, Some, None, refl, sym, ap, ◌∙◌, subst, arith, length-append}
use Rattle.std.specs.Prelude.{Contains, slice_get}
use Rattle.std.proofs.lemmas.Bool.{cases_lt}
use Rattle.std.proofs.lemmas.List.{get_or_default}
use Rattle.std.proofs.lemmas.List.Elements.{Contains-append_left, Contains-push, Contains-push_cases}
use Rattle.std.proofs.lemmas.List.Quantifiers.{all_pairs_push}
use Rattle.std.proofs.lemmas.Option.{slice_get_within, slice_get-get_or, slice_get_cases}
use Rattle.tau_points.specs.declared.point.Point.{Point}
use Rattle.tau_points.proofs.Membership.{Contains-none}
use Rattle.tau_trace.specs.declared.step.Step.TheVariants.{Checkpoint}
use Rattle.tau_trace.specs.Run.{Run, len}
use Rattle.tau_trace.specs.Points.{IsOpeningPoint}
use Rattle.tau_trace.proofs.Lists.{same_some, slice_get-push_cases}
use Rattle.tau_trace.proofs.Quiet.{acts}
use Rattle.tau_past.specs.Audits.{ChecksAt}
use Rattle.tau_past.specs.Tables.{TellsMade}
use Rattle.tau_past.specs.declared.made.Made.{Made}
use Rattle.tau_past.proofs.Safety.{nothing_at_opening}
use Rattle.tau_explain.specs.Links.Links.{IsMade}
use Rattle.tau_explain.proofs.PushLemmas.{acts_within, checks_who}
use Rattle.tau_explain.specs.Inner.Causes.{IsMadePoint}
use Rattle.tau_explain.proofs.CauseLemmas.{made_point, made_once}
use Rattle.tau_cut.specs.Inner.Checkpoints.{AddsCheckpoint, no_checkpoint, one_checkpoint, AreCheckpoints, AddsUnkept, AreUnkept}

-- the Checkpoints

pub checkpoints_none : (T : Run) (places : List ℕ) (points : List Point) → places ≡ [] → points ≡ [] → AreCheckpoints T 0 places points
checkpoints_none T places points a b = subst (λ (l : List ℕ). AreCheckpoints T 0 l points) (sym a) (subst (λ (l : List Point). AreCheckpoints T 0 [] l) (sym b) (record {
  ascending = λ i j d less below. absurd (omega arith);
  all = λ k. (λ c. absurd (Contains-none k c), λ h. absurd (omega (arith, h.0)));
  count = refl;
  each = λ i k p e f. absurd (cc);
}))

module _ (T : Run) (n : ℕ) (places : List ℕ) (points : List Point) (c : AreCheckpoints T n places points) where
  -- no Checkpoint stands at place n
  pub checkpoints_pass : ((p : Point) → ¬ ChecksAt T n p) → AreCheckpoints T (n + 1) places points
  checkpoints_pass none = record {
    ascending = c.ascending;
    all = λ k. (
      λ h. let m = (c.all k).0 h in (omega (arith, m.0), m.1),
      λ h. ⊎_elim (λ lt. (c.all k).1 (lt, h.1)) (λ le. let e : k ≡ n = omega (arith, le, h.0) in absurd (none h.1.0 (subst (λ i. ChecksAt T i h.1.0) e h.1.1))) (cases_lt k n),
    );
    count = c.count;
    each = c.each;
  }

  -- one stands there, made at a point
  pub checkpoints_push : (x : Point) (places2 : List ℕ) (points2 : List Point) → ChecksAt T n x → places2 ≡ places ++ n ∷ [] → points2 ≡ points ++ x ∷ [] → AreCheckpoints T (n + 1) places2 points2
  checkpoints_push x places2 points2 checks a b = subst (λ (l : List ℕ). AreCheckpoints T (n + 1) l points2) (sym a) (subst (λ (l : List Point). AreCheckpoints T (n + 1) (places ++ n ∷ []) l) (sym b) (record {
    ascending = all_pairs_push (λ (i j : ℕ). i < j) places n c.ascending (λ k d below. ((c.all (get_or places k d)).0 (k, below, get_or_default places k (get_or places k d) d below)).0);
    all = λ k. (
      λ h. ⊎_elim (λ o. let m = (c.all k).0 o in (omega (arith, m.0), m.1)) (λ (e : n ≡ k). (omega (arith, e), (x, subst (λ i. ChecksAt T i x) e checks))) (Contains-push_cases places n k h),
      λ h. ⊎_elim
          (λ lt. Contains-append_left places (n ∷ []) k ((c.all k).1 (lt, h.1)))
          (λ le. let e : k ≡ n = omega (arith, le, h.0) in subst (Contains (places ++ n ∷ [])) (sym e) (Contains-push places n)) (cases_lt k n),
    );
    count = omega (arith, length-append places (n ∷ []), length-append points (x ∷ []), c.count);
    each = λ i k p e f. ⊎_elim
        (λ old. ⊎_elim
        (λ older. c.each i k p old older)
        (λ new. let lt = slice_get_within places i k old in absurd (omega (arith, lt, new.0, c.count)))
        (slice_get-push_cases points x p i f))
        (λ new. ⊎_elim
        (λ older. let lt = slice_get_within points i p older in absurd (omega (arith, lt, new.0, c.count)))
        (λ newer. subst (λ j. ChecksAt T j p) new.1 (subst (λ (z : Point). ChecksAt T n z) newer.1 checks))
        (slice_get-push_cases points x p i f))
        (slice_get-push_cases places n k i e);
  }))

-- as the loop has them
pub checkpoints_on : (T : Run) (n : ℕ) (places places2 : List ℕ) (points points2 : List Point) → AreCheckpoints T n places points → AddsCheckpoint T n places places2 points points2 → AreCheckpoints T (n + 1) places2 points2
checkpoints_on T n places places2 points points2 c (no_checkpoint none a b) = subst (λ (l : List ℕ). AreCheckpoints T (n + 1) l points2) (sym a) (subst (λ (l : List Point). AreCheckpoints T (n + 1) places l) (sym b) (checkpoints_pass T n places points c none))
checkpoints_on T n places places2 points points2 c (one_checkpoint {x = x} checks a b) = checkpoints_push T n places points c x places2 points2 checks a b

-- a Checkpoint's point was made by it
pub check_point : (T : Run) (k : ℕ) (p : Point) → ChecksAt T k p → IsMadePoint T k p
check_point T k p c =
    let by = checks_who T k p c in
    record { acts = acts T p.who k (Checkpoint p.who) by.0 refl; at_point = by.1 }

pub check_made : (T : Run) (k : ℕ) (p : Point) → ChecksAt T k p → IsMade T p
check_made T k p c =
    let m = check_point T k p c in
    record { place = k; acts = m.acts; at_point = m.at_point }

-- one Checkpoint has one point
pub one_point : (T : Run) (k : ℕ) (p q : Point) → ChecksAt T k p → ChecksAt T k q → p ≡ q
one_point T k p q a b = made_once T k p q (check_point T k p a) (check_point T k q b)

module _ (T : Run) (places : List ℕ) (points : List Point) (c : AreCheckpoints T (len T) places points) where
  -- each place has its point
  pub point_of_place : (i k : ℕ) → slice_get places i ≡ Some k → (p : Point) × (slice_get points i ≡ Some p) × ChecksAt T k p
  point_of_place i k e = ⊎_elim
      (λ x. (x.0, x.2, c.each i k x.0 e x.2))
      (λ x. let lt = slice_get_within places i k e in absurd (omega (arith, x.0, lt, c.count)))
      (slice_get_cases points i).1

  -- and each point its place
  pub place_of_point : (i : ℕ) (p : Point) → slice_get points i ≡ Some p → (k : ℕ) × ChecksAt T k p
  place_of_point i p e = ⊎_elim
      (λ x. (x.0, c.each i x.0 p x.2 e))
      (λ x. let lt = slice_get_within points i p e in absurd (omega (arith, x.0, lt, c.count)))
      (slice_get_cases places i).1

  pub points_made : All (IsMade T) points
  points_made i d lt = let at = place_of_point i (get_or points i d) (slice_get-get_or points i d lt) in check_made T at.0 (get_or points i d) at.1

  -- a point at which a Checkpoint was made is among them, and no other
  pub point_checked : (q : Point) → Contains points q → (k : ℕ) × ChecksAt T k q
  point_checked q h = place_of_point h.0 q (slice_get-get_or points h.0 q h.1 ∙ ap (λ (z : Point). Some z) h.2)

  pub checked_point : (k : ℕ) (q : Point) → ChecksAt T k q → Contains points q
  checked_point k q checks =
      let lt = acts_within T k q.who (check_point T k q checks).acts in
      let at = (c.all k).1 (lt, (q, checks)) in
      let found = point_of_place at.0 k (slice_get-get_or places at.0 k at.1 ∙ ap (λ n. Some n) at.2) in
      let same : found.0 ≡ q = one_point T k found.0 q found.2 checks in
      let within = slice_get_within points at.0 found.0 found.1 in
      (at.0, within, same_some (sym (slice_get-get_or points at.0 q within) ∙ found.1) ∙ same)

-- the points that can't be kept

pub unkept_none : (T : Run) (kept points : List Point) → points ≡ [] → AreUnkept T kept 0 points
unkept_none T kept points is = subst (AreUnkept T kept 0) (sym is) (record {
  unkept = λ q h. absurd (Contains-none q h);
  others = λ j q lt m. absurd (omega arith);
})

pub unkept_more : (T : Run) (kept : List Point) (n : ℕ) (points0 points : List Point) → AreUnkept T kept n points0 → AddsUnkept T kept n points0 points → AreUnkept T kept (n + 1) points
unkept_more T kept n points0 points u a = record {
  unkept = λ q h. ⊎_elim (λ o. u.unkept q o) (λ m. m) (a.allowed q h);
  others = λ j q lt m. ⊎_elim
      (λ less. ⊎_elim (λ o. inl (a.stay q o)) (λ k. inr k) (u.others j q less m))
      (λ le. let e : j ≡ n = omega (arith, le, lt) in a.added q (subst (λ i. IsMadePoint T i q) e m))
      (cases_lt j n);
}

-- the point is added
pub unkept_one : (T : Run) (kept : List Point) (j : ℕ) (m : Made) (points0 points : List Point) → TellsMade T j (Some m) → ¬ Contains kept m.point → points ≡ points0 ++ m.point ∷ [] → AddsUnkept T kept j points0 points
unkept_one T kept j m points0 points told none e = record {
  stay = λ q h. subst (λ (l : List Point). Contains l q) (sym e) (Contains-append_left points0 (m.point ∷ []) q h);
  allowed = λ q h. ⊎_elim
      (λ o. inl o)
      (λ (f : m.point ≡ q). inr (subst (IsMade T) f (record { place = j; acts = told.0; at_point = told.1 }), subst (λ (z : Point). ¬ Contains kept z) f none))
      (Contains-push_cases points0 m.point q (subst (λ (l : List Point). Contains l q) e h));
  added = λ q p. inl (subst (λ (l : List Point). Contains l q) (sym e) (subst (Contains (points0 ++ m.point ∷ [])) (made_once T j m.point q (made_point T j m told) p) (Contains-push points0 m.point)));
}

-- it is in the set
pub unkept_known : (T : Run) (kept : List Point) (j : ℕ) (m : Made) (points : List Point) → TellsMade T j (Some m) → Contains kept m.point → AddsUnkept T kept j points points
unkept_known T kept j m points told has = record {
  stay = λ q h. h;
  allowed = λ q h. inl h;
  added = λ q p. inr (subst (Contains kept) (made_once T j m.point q (made_point T j m told) p) has);
}

-- nobody made the step
pub unkept_nobody : (T : Run) (kept : List Point) (j : ℕ) (points : List Point) → TellsMade T j None → AddsUnkept T kept j points points
unkept_nobody T kept j points none = record {
  stay = λ q h. h;
  allowed = λ q h. inl h;
  added = λ q p. absurd (none q.who p.acts);
}

-- none is an opening point
pub no_opening : (T : Run) (kept : List Point) (n : ℕ) (points : List Point) → AreUnkept T kept n points → All (λ q. ¬ IsOpeningPoint T q) points
no_opening T kept n points u i d lt o =
    let q = get_or points i d in
    let m = (u.unkept q (i, lt, get_or_default points i q d lt)).0 in
    nothing_at_opening T q m.place o m.at_point

pub unkept_all : (T : Run) (kept points : List Point) (q : Point) → AreUnkept T kept (len T) points → IsMade T q → Contains points q ⊎ Contains kept q
unkept_all T kept points q u m = u.others m.place q (acts_within T m.place q.who m.acts) (record { acts = m.acts; at_point = m.at_point })
