-- Points that are collected place by place.
use Rattle.std.proofs.Common.{◌≡◌, ◌⊎◌, ◌↔◌, inl, inr, ⊎_elim, ℕ, ◌+◌, ◌<◌, ◌≤◌, Bool, true, false, IsTrue, get_or, ◌∷◌, ◌++◌, List, [], length, Some, refl, sym, ap, ◌∙◌, subst, arith}
use Rattle.std.specs.Prelude.{Contains}
use Rattle.std.proofs.lemmas.Bool.{cases_lt}
use Rattle.std.proofs.lemmas.Option.{slice_get_within, slice_get-get_or}
use Rattle.std.proofs.lemmas.List.Elements.{Contains-append_left, Contains-push, Contains-push_cases}
use Rattle.tau_points.specs.declared.point.Point.{Point}
use Rattle.tau_points.specs.Members.{AddsAll, SameMembers}
use Rattle.tau_points.proofs.Membership.{Contains-none}
use Rattle.tau_trace.specs.Run.{Run, ActsAt}
use Rattle.tau_trace.specs.Histories.{Falls}
use Rattle.tau_trace.specs.Points.{point_at, Stabilizes}
use Rattle.tau_trace.specs.declared.step.Step.TheVariants.{Stabilize}
use Rattle.tau_trace.specs.Numbering.{IsOrigin, IsSendAt}
use Rattle.tau_trace.proofs.Lists.{same_some}
use Rattle.tau_trace.proofs.Quiet.{acts}
use Rattle.tau_trace.proofs.Once.{origin_once}
use Rattle.tau_past.specs.Carried.{Carried, SentWith}
use Rattle.tau_past.proofs.Endings.{falls_within}
use Rattle.tau_past.specs.declared.made.Made.{Made}
use Rattle.tau_past.specs.Pasts.{FellIn, StabilizedIn}
use Rattle.tau_past.specs.Tables.{TellsMade}
use Rattle.tau_explain.specs.Inner.Hearing.{IsMarked}
use Rattle.tau_explain.specs.Inner.Causes.{IsMadePoint, FellAt, StabilizedAt, IsCandidate, IsUnfirm, IsSettled, AddsUnfirm}

-- the points of places below n
abbrev pub IsBelowAt : (ℕ → Point → Type 0) → ℕ → Point → Type 0
IsBelowAt P n q = (j : ℕ) × (j < n) × P j q

module _ (P : ℕ → Point → Type 0) where
  pub collects_none : (q : Point) → Contains [] q ↔ IsBelowAt P 0 q
  collects_none q = (λ c. absurd (Contains-none q c), λ b. absurd (omega (arith, b.1)))

  pub collects_more : (n : ℕ) (xs ys : List Point) → ((q : Point) → Contains xs q ↔ IsBelowAt P n q) → AddsAll (P n) xs ys → (q : Point) → Contains ys q ↔ IsBelowAt P (n + 1) q
  collects_more n xs ys told adds q = (
    λ c. ⊎_elim (λ o. let b = (told q).0 o in (b.0, omega (arith, b.1), b.2)) (λ p. (n, omega arith, p)) ((adds q).0 c),
    λ b. (adds q).1 (⊎_elim (λ l. inl ((told q).1 (b.0, l, b.2))) (λ le. let e : b.0 ≡ n = omega (arith, le, b.1) in inr (subst (λ j. P j q) e b.2)) (cases_lt b.0 n)),
  )

pub fell_all : (T : Run) (marks : List Bool) (n : ℕ) (xs : List Point) → ((j t : ℕ) → ActsAt T t j → j < n) → ((j t : ℕ) → Falls T t j → ActsAt T t j) → ((q : Point) → Contains xs q ↔ IsBelowAt (FellAt T marks) n q) → (q : Point) → Contains xs q ↔ FellIn T (IsMarked marks) q
fell_all T marks n xs within by_actor told q = (
  λ c. let b = (told q).0 c in record { place = b.0; held = b.2.marked; falls = b.2.falls; at_point = b.2.at_point },
  λ f. (told q).1 (f.place, within f.place q.who (by_actor f.place q.who f.falls), record { marked = f.held; falls = f.falls; at_point = f.at_point }),
)

pub stable_all : (T : Run) (marks : List Bool) (n : ℕ) (xs : List Point) → ((j t : ℕ) → Stabilizes T t j → j < n) → ((q : Point) → Contains xs q ↔ IsBelowAt (StabilizedAt T marks) n q) → (q : Point) → Contains xs q ↔ StabilizedIn T (IsMarked marks) q
stable_all T marks n xs within told q = (
  λ c. let b = (told q).0 c in record { place = b.0; held = b.2.marked; stabilizes = b.2.stabilizes; at_point = b.2.at_point },
  λ f. (told q).1 (f.place, within f.place q.who f.stabilizes, record { marked = f.held; stabilizes = f.stabilizes; at_point = f.at_point }),
)

-- the point at which a step was made
pub made_point : (T : Run) (j : ℕ) (m : Made) → TellsMade T j (Some m) → IsMadePoint T j m.point
made_point T j m told = record { acts = told.0; at_point = told.1 }

pub made_once : (T : Run) (j : ℕ) (p q : Point) → IsMadePoint T j p → IsMadePoint T j q → p ≡ q
made_once T j p q a b =
    let who : p.who ≡ q.who = same_some (sym a.acts ∙ b.acts) in
    a.at_point ∙ ap (λ u. point_at T u j) who ∙ sym b.at_point

-- those that are not settled
pub unfirm_none : (fallen stable : List Point) (P : Point → Type 0) (xs : List Point) → ((q : Point) → ¬ P q) → AddsUnfirm fallen stable P xs xs
unfirm_none fallen stable P xs none = record { kept = λ q h. h; allowed = λ q h. inl h; added = λ q p. absurd (none q p) }

pub unfirm_more : (fallen stable : List Point) (P Q R : Point → Type 0) (xs ys zs : List Point) → ((q : Point) → R q ↔ (P q ⊎ Q q)) → AddsUnfirm fallen stable P xs ys → AddsUnfirm fallen stable Q ys zs → AddsUnfirm fallen stable R xs zs
unfirm_more fallen stable P Q R xs ys zs both a b = record {
  kept = λ q h. b.kept q (a.kept q h);
  allowed = λ q h. ⊎_elim (λ i. ⊎_elim (λ o. inl o) (λ p. inr ((both q).1 (inl p.0), p.1)) (a.allowed q i)) (λ p. inr ((both q).1 (inr p.0), p.1)) (b.allowed q h);
  added = λ q r. ⊎_elim (λ p. ⊎_elim (λ h. inl (b.kept q h)) (λ s. inr s) (a.added q p)) (b.added q) ((both q).0 r);
}

abbrev pub IsCandidateBelow : Run → List Bool → Point → ℕ → Point → Type 0
IsCandidateBelow T marks own n q = (q ≡ own) ⊎ ((j : ℕ) × (j < n) × IsMarked marks j × IsMadePoint T j q)

pub candidates_none : (T : Run) (marks : List Bool) (own : Point) (fallen stable xs : List Point) → AddsUnfirm fallen stable (λ q. q ≡ own) [] xs → AddsUnfirm fallen stable (IsCandidateBelow T marks own 0) [] xs
candidates_none T marks own fallen stable xs a = record {
  kept = a.kept;
  allowed = λ q h. ⊎_elim (λ o. inl o) (λ p. inr (inl p.0, p.1)) (a.allowed q h);
  added = λ q c. ⊎_elim (a.added q) (λ m. absurd (omega (arith, m.1))) c;
}

pub candidates_more : (T : Run) (marks : List Bool) (own : Point) (n : ℕ) (fallen stable xs ys : List Point) → AddsUnfirm fallen stable (IsCandidateBelow T marks own n) [] xs → AddsUnfirm fallen stable (λ q. IsMarked marks n × IsMadePoint T n q) xs ys
    → AddsUnfirm fallen stable (IsCandidateBelow T marks own (n + 1)) [] ys
candidates_more T marks own n fallen stable xs ys a b = unfirm_more fallen stable (IsCandidateBelow T marks own n) (λ q. IsMarked marks n × IsMadePoint T n q) (IsCandidateBelow T marks own (n + 1)) [] xs ys
    (λ q. (
      λ c. ⊎_elim (λ e. inl (inl e)) (λ m. ⊎_elim (λ lt. inl (inr (m.0, lt, m.2, m.3))) (λ le. let e : m.0 ≡ n = omega (arith, le, m.1) in inr (subst (IsMarked marks) e m.2, subst (λ j. IsMadePoint T j q) e m.3)) (cases_lt m.0 n)) c,
      λ s. ⊎_elim (λ c. ⊎_elim (λ e. inl e) (λ m. inr (m.0, omega (arith, m.1), m.2, m.3)) c) (λ p. inr (n, omega arith, p.0, p.1)) s,
    )) a b

pub candidates_all : (T : Run) (marks : List Bool) (own : Point) (n : ℕ) (fallen stable xs : List Point) → length marks ≤ n → AddsUnfirm fallen stable (IsCandidateBelow T marks own n) [] xs
    → ((q : Point) → Contains xs q → IsCandidate T marks own q × IsUnfirm fallen stable q) × ((q : Point) → IsCandidate T marks own q → Contains xs q ⊎ IsSettled fallen stable q)
candidates_all T marks own n fallen stable xs le a = (
  λ q h. ⊎_elim (λ o. absurd (Contains-none q o)) (λ p. (⊎_elim (λ e. inl e) (λ m. inr (m.0, m.2, m.3)) p.0, p.1)) (a.allowed q h),
  λ q c. a.added q (⊎_elim (λ e. inl e) (λ m. inr (m.0, let lt = slice_get_within marks m.0 true m.1 in omega (arith, lt, le), m.1, m.2)) c),
)

-- one point more
pub adds_one : (P : Point → Type 0) (x : Point) (into0 into : List Point) → P x → ((q : Point) → P q → x ≡ q) → into ≡ into0 ++ x ∷ [] → AddsAll P into0 into
adds_one P x into0 into holds only e q = (
  λ h. ⊎_elim (λ o. inl o) (λ (f : x ≡ q). inr (subst P f holds)) (Contains-push_cases into0 x q (subst (λ (l : List Point). Contains l q) e h)),
  λ c. subst (λ (l : List Point). Contains l q) (sym e) (⊎_elim (λ o. Contains-append_left into0 (x ∷ []) q o) (λ p. subst (Contains (into0 ++ x ∷ [])) (only q p) (Contains-push into0 x)) c),
)

pub adds_nothing : (P : Point → Type 0) (into : List Point) → ((q : Point) → ¬ P q) → AddsAll P into into
adds_nothing P into none q = (λ h. inl h, λ c. ⊎_elim (λ h. h) (λ p. absurd (none q p)) c)

pub fell_one : (T : Run) (marks : List Bool) (j : ℕ) (m : Made) (into0 into : List Point) → TellsMade T j (Some m) → IsTrue m.falls → IsMarked marks j → into ≡ into0 ++ m.point ∷ [] → AddsAll (FellAt T marks j) into0 into
fell_one T marks j m into0 into told falls marked e = adds_one (FellAt T marks j) m.point into0 into
    (record { marked = marked; falls = told.2.0 falls; at_point = told.1 })
    (λ q f. made_once T j m.point q (made_point T j m told) (record { acts = (falls_within T q.who j f.falls).1; at_point = f.at_point })) e

pub stable_one : (T : Run) (marks : List Bool) (j : ℕ) (m : Made) (into0 into : List Point) → TellsMade T j (Some m) → ((t : ℕ) × Stabilizes T t j) → IsMarked marks j → into ≡ into0 ++ m.point ∷ [] → AddsAll (StabilizedAt T marks j) into0 into
stable_one T marks j m into0 into told s marked e = adds_one (StabilizedAt T marks j) m.point into0 into
    (record { marked = marked; stabilizes = subst (λ u. Stabilizes T u j) (same_some (sym (acts T s.0 j (Stabilize s.0) s.1 refl) ∙ told.0)) s.1; at_point = told.1 })
    (λ q f. made_once T j m.point q (made_point T j m told) (record { acts = acts T q.who j (Stabilize q.who) f.stabilizes refl; at_point = f.at_point })) e

-- one point, unless it is settled
pub unfirm_one : (fallen stable : List Point) (x : Point) (into0 into : List Point) → IsUnfirm fallen stable x → into ≡ into0 ++ x ∷ [] → AddsUnfirm fallen stable (λ q. q ≡ x) into0 into
unfirm_one fallen stable x into0 into unfirm e = record {
  kept = λ q h. subst (λ (l : List Point). Contains l q) (sym e) (Contains-append_left into0 (x ∷ []) q h);
  allowed = λ q h. ⊎_elim (λ o. inl o) (λ (f : x ≡ q). inr (sym f, subst (IsUnfirm fallen stable) f unfirm)) (Contains-push_cases into0 x q (subst (λ (l : List Point). Contains l q) e h));
  added = λ q (p : q ≡ x). inl (subst (λ (l : List Point). Contains l q) (sym e) (subst (Contains (into0 ++ x ∷ [])) (sym p) (Contains-push into0 x)));
}

pub unfirm_made : (fallen stable : List Point) (T : Run) (marks : List Bool) (j : ℕ) (m : Made) (into0 into : List Point) → TellsMade T j (Some m) → IsMarked marks j → AddsUnfirm fallen stable (λ q. q ≡ m.point) into0 into → AddsUnfirm fallen stable (λ q. IsMarked marks j × IsMadePoint T j q) into0 into
unfirm_made fallen stable T marks j m into0 into told marked a = record {
  kept = a.kept;
  allowed = λ q h. ⊎_elim (λ o. inl o) (λ p. inr ((marked, subst (IsMadePoint T j) (sym p.0) (made_point T j m told)), p.1)) (a.allowed q h);
  added = λ q p. a.added q (made_once T j q m.point p.1 (made_point T j m told));
}

pub marked_read : (marks : List Bool) (k : ℕ) (d : Bool) → k < length marks → get_or marks k d ≡ true → IsMarked marks k
marked_read marks k d lt e = slice_get-get_or marks k d lt ∙ ap (λ (b : Bool). Some b) e

pub unmarked_read : (marks : List Bool) (k : ℕ) (d : Bool) → k < length marks → get_or marks k d ≡ false → ¬ IsMarked marks k
unmarked_read marks k d lt e m = let f = sym m ∙ slice_get-get_or marks k d lt ∙ ap (λ (b : Bool). Some b) e in cc

-- what is carried at the Send that is the origin of a message
pub sent_told : (T : Run) (m place by : ℕ) (xs : List Point) → IsOrigin T place by m → IsSendAt T place → ((q : Point) → Contains xs q ↔ Carried T place q) → (q : Point) → Contains xs q ↔ SentWith T m q
sent_told T m place by xs origin send told q = (
  λ h. record { place = place; by = by; origin = origin; send = send; carried = (told q).0 h },
  λ s. (told q).1 (subst (λ j. Carried T j q) (origin_once T s.place place s.by by m s.origin origin) s.carried),
)

pub members_of : (xs ys : List Point) (P : Point → Type 0) → SameMembers xs ys → ((q : Point) → Contains xs q ↔ P q) → (q : Point) → Contains ys q ↔ P q
members_of xs ys P same told q = (λ h. (told q).0 ((same q).1 h), λ p. (same q).0 ((told q).1 p))
