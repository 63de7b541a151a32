-- Why a Hold, a Drop or a Fall was made.
use Rattle.std.proofs.Common.{◌≡◌, ◌⊎◌, ◌↔◌, inl, inr, ⊎_elim, ℕ, Bool, List, [], ◌∷◌, Option, Some, None, refl, sym, ap, ◌∙◌, subst, option_and_then}
use Rattle.std.specs.Prelude.{Contains}
use Rattle.tau_points.specs.declared.point.Point.{Point}
use Rattle.tau_points.specs.Members.{SameMembers}
use Rattle.tau_points.proofs.Membership.{Contains-none, Contains-head, Contains-cons_cases}
use Rattle.tau_explain.specs.Inner.Hearing.{NeededAt}
use Rattle.tau_explain.proofs.HearingLemmas.{heard_is_needed}
use Rattle.tau_explain.specs.declared.chains.chained.Chained.{Chained}
use Rattle.tau_trace.specs.declared.step.Step.TheVariants.{Hold, Drop, Fall}
use Rattle.tau_trace.specs.Steps.{actor}
use Rattle.tau_trace.specs.Run.{Run, step_at, ActsAt}
use Rattle.tau_trace.specs.Points.{point_at, IsOpeningPoint}
use Rattle.tau_trace.proofs.Lists.{same_some}
use Rattle.tau_past.specs.Carried.{SentWith}
use Rattle.tau_past.specs.Heard.{Heard, HeardBy, HeardTogether, IsCausallyClosed}
use Rattle.tau_past.specs.Pasts.{Is, FellIn, StabilizedIn, FirmIn}
use Rattle.tau_past.proofs.HeardLemmas.{heard_sets_closed, sent_touched}
use Rattle.tau_past.proofs.Safety.{nothing_at_opening}
use Rattle.tau_explain.specs.Links.Marks.{IsMarked}
use Rattle.tau_explain.specs.Links.Inner.Dependents.{CameTo}
use Rattle.tau_explain.specs.Links.Inner.Linking.{IsFirstChain}
use Rattle.tau_explain.specs.declared.answers.Why.TheVariants as answers
use Rattle.tau_explain.specs.Decisions.{IsAsked, IsWhy}
use Rattle.tau_explain.specs.Inner.Asking.{answer_of}
use Rattle.tau_explain.specs.Inner.Causes.{IsMadePoint, IsCandidate, IsUnfirm, IsSettled}
use Rattle.tau_explain.proofs.ChainLemmas.{StoodIn, stood_came, stood_touched, first_told, none_told, no_cause, past_cases}

-- sets of places that are the same
fell_same : (T : Run) (H G : ℕ → Type 0) (q : Point) → ((j : ℕ) → H j → G j) → FellIn T H q → FellIn T G q
fell_same T H G q f x = record { place = x.place; held = f x.place x.held; falls = x.falls; at_point = x.at_point }

stabilized_same : (T : Run) (H G : ℕ → Type 0) (q : Point) → ((j : ℕ) → H j → G j) → StabilizedIn T H q → StabilizedIn T G q
stabilized_same T H G q f x = record { place = x.place; held = f x.place x.held; stabilizes = x.stabilizes; at_point = x.at_point }

not_fallen_opening : (T : Run) (H : ℕ → Type 0) (q : Point) → IsOpeningPoint T q → ¬ FellIn T H q
not_fallen_opening T H q o f = nothing_at_opening T q f.place o f.at_point

-- the own point
own_is : (T : Run) (t k : ℕ) (own : Point) → ActsAt T t k → IsMadePoint T k own → own ≡ point_at T t k
own_is T t k own a m = let who : own.who ≡ t = same_some (sym m.acts ∙ a) in m.at_point ∙ ap (λ u. point_at T u k) who

own_stood : (T : Run) (k : ℕ) (own : Point) → IsMadePoint T k own → StoodIn T (λ j. j ≡ k) own
own_stood T k own m = record { place = k; held = refl; acts = m.acts; at_point = m.at_point }

-- Hold

module _ (T : Run) (t k : ℕ) (stands : step_at T k ≡ Some (Hold t)) (marks : List Bool) (same : (j : ℕ) → IsMarked marks j ↔ Heard T t k j) (own : Point) (made : IsMadePoint T k own) (from causes fallen stable : List Point)
    (from_is : (q : Point) → Contains from q ↔ (q ≡ own)) (fallen_is : (q : Point) → Contains fallen q ↔ FellIn T (IsMarked marks) q) (stable_is : (q : Point) → Contains stable q ↔ StabilizedIn T (IsMarked marks) q)
    (unfirm : (q : Point) → Contains causes q → IsCandidate T marks own q × IsUnfirm fallen stable q) (others : (q : Point) → IsCandidate T marks own q → Contains causes q ⊎ IsSettled fallen stable q) where
  abbrev heard : ℕ → Type 0
  heard = Heard T t k

  own_at : own ≡ point_at T t k
  own_at = own_is T t k own (ap (option_and_then actor) stands) made

  not_opening : (q : Point) → IsCandidate T marks own q → ¬ IsOpeningPoint T q
  not_opening q c o = ⊎_elim (λ (e : q ≡ own). nothing_at_opening T own k (subst (IsOpeningPoint T) e o) made.at_point) (λ m. nothing_at_opening T q m.0 o m.2.at_point) c

  cause_is : (q : Point) → Contains causes q → ¬ FirmIn T heard q
  cause_is q c firm =
      let u = unfirm q c in
      ⊎_elim
      (λ f. firm.not_fallen (fell_same T (IsMarked marks) heard q (λ j. (same j).0) ((fallen_is q).0 f)))
      (λ none. ⊎_elim (λ s. none ((stable_is q).1 (stabilized_same T heard (IsMarked marks) q (λ j. (same j).1) s))) (λ o. not_opening q u.0 o) firm.settled)
      u.1

  settled_firm : (q : Point) → IsSettled fallen stable q → FirmIn T heard q
  settled_firm q s = record {
    not_fallen = λ f. s.0 ((fallen_is q).1 (fell_same T heard (IsMarked marks) q (λ j. (same j).1) f));
    settled = inl (stabilized_same T (IsMarked marks) heard q (λ j. (same j).0) ((stable_is q).0 s.1));
  }

  opening_firm : (q : Point) → IsOpeningPoint T q → FirmIn T heard q
  opening_firm q o = record { not_fallen = not_fallen_opening T heard q o; settled = inr o }

  candidate : (q : Point) → Is (point_at T t k) q ⊎ StoodIn T heard q → IsCandidate T marks own q
  candidate q c = ⊎_elim (λ (e : q ≡ point_at T t k). inl (e ∙ sym own_at)) (λ s. inr (s.place, (same s.place).1 s.held, record { acts = s.acts; at_point = s.at_point })) c

  is_cause : (q : Point) → ¬ FirmIn T heard q → Is (point_at T t k) q ⊎ StoodIn T heard q → Contains causes q
  is_cause q c s = ⊎_elim (λ m. m) (λ f. absurd (c (settled_firm q f))) (others q (candidate q s))

  closed : IsCausallyClosed T heard
  closed = (heard_sets_closed T).transactor t k

  source_is : (q : Point) → Contains from q ↔ Is (point_at T t k) q
  source_is q = (λ c. (from_is q).0 c ∙ own_at, λ (e : q ≡ point_at T t k). (from_is q).1 (e ∙ sym own_at))

  came : (q : Point) → Is (point_at T t k) q → CameTo T q
  came q e = subst (CameTo T) (own_at ∙ sym e) (stood_came T (λ j. j ≡ k) own (own_stood T k own made))

  asked : IsAsked T k (Hold t)
  asked = record { stands = stands; decides = refl }

  pub why_held : (chain : Option (List Chained)) → IsFirstChain T marks (Contains from) (Contains causes) chain → IsWhy T k (answer_of chain)
  why_held (Some chain) f = (Hold t, asked, first_told T heard marks (λ j. (same j).0) (λ j lt. (same j).1) closed (Is (point_at T t k)) (λ q. ¬ FirmIn T heard q) from causes source_is came cause_is is_cause (λ q o c. c (opening_firm q o)) chain f)
  why_held None none = (
    Hold t,
    asked,
    none_told T heard marks (λ j. (same j).0) (λ j lt. (same j).1) closed (Is (point_at T t k)) (λ q. ¬ FirmIn T heard q) from causes source_is came cause_is is_cause (λ q o c. c (opening_firm q o)) none,
    λ q r. ⊎_elim (opening_firm q)
        (λ s. ⊎_elim (λ m. absurd (no_cause T heard marks (λ j. (same j).0) (λ j lt. (same j).1) closed (Is (point_at T t k)) (λ q. ¬ FirmIn T heard q) from causes source_is came cause_is is_cause (λ q o c. c (opening_firm q o)) none q r (cause_is q m))) (settled_firm q) (others q (candidate q s)))
        (past_cases T heard marks (λ j. (same j).0) (λ j lt. (same j).1) closed (Is (point_at T t k)) q r),
  )

-- Drop and Fall

module _ (T : Run) (t k m : ℕ) (marks : List Bool) (same : (j : ℕ) → IsMarked marks j ↔ HeardTogether T t k m j) (causes : List Point) (causes_are : (q : Point) → Contains causes q ↔ FellIn T (IsMarked marks) q) where
  abbrev together : ℕ → Type 0
  together = HeardTogether T t k m

  closed_together : IsCausallyClosed T together
  closed_together = (heard_sets_closed T).together t k m

  fell : (q : Point) → Contains causes q → FellIn T together q
  fell q c = fell_same T (IsMarked marks) together q (λ j. (same j).0) ((causes_are q).0 c)

  falls : (q : Point) → FellIn T together q → Contains causes q
  falls q f = (causes_are q).1 (fell_same T together (IsMarked marks) q (λ j. (same j).1) f)

  pub why_fallen : step_at T k ≡ Some (Fall t m) → (own : Point) → IsMadePoint T k own → (from : List Point) → ((q : Point) → Contains from q ↔ (q ≡ own)) → (chain : Option (List Chained)) → IsFirstChain T marks (Contains from) (Contains causes) chain → IsWhy T k (answer_of chain)
  why_fallen stands own made from from_is chain f = by chain f where
    own_here : own ≡ point_at T t k
    own_here = own_is T t k own (ap (option_and_then actor) stands) made

    source : (q : Point) → Contains from q ↔ Is (point_at T t k) q
    source q = (λ c. (from_is q).0 c ∙ own_here, λ (e : q ≡ point_at T t k). (from_is q).1 (e ∙ sym own_here))

    came_own : (q : Point) → Is (point_at T t k) q → CameTo T q
    came_own q e = subst (CameTo T) (own_here ∙ sym e) (stood_came T (λ j. j ≡ k) own (own_stood T k own made))

    asked_fall : IsAsked T k (Fall t m)
    asked_fall = record { stands = stands; decides = refl }

    by : (chain : Option (List Chained)) → IsFirstChain T marks (Contains from) (Contains causes) chain → IsWhy T k (answer_of chain)
    by (Some chain) f = (Fall t m, asked_fall, first_told T together marks (λ j. (same j).0) (λ j lt. (same j).1) closed_together (Is (point_at T t k)) (FellIn T together) from causes source came_own fell (λ q c s. falls q c) (not_fallen_opening T together) chain f)
    by None none = (
      Fall t m,
      asked_fall,
      none_told T together marks (λ j. (same j).0) (λ j lt. (same j).1) closed_together (Is (point_at T t k)) (FellIn T together) from causes source came_own fell (λ q c s. falls q c) (not_fallen_opening T together) none,
      λ h. no_cause T together marks (λ j. (same j).0) (λ j lt. (same j).1) closed_together (Is (point_at T t k)) (FellIn T together) from causes source came_own fell (λ q c s. falls q c) (not_fallen_opening T together) none h.cause h.in_past h.fallen,
    )

  pub why_dropped : step_at T k ≡ Some (Drop t m) → (from : List Point) → ((q : Point) → Contains from q ↔ SentWith T m q) → (chain : Option (List Chained)) → IsFirstChain T marks (Contains from) (Contains causes) chain → IsWhy T k (answer_of chain)
  why_dropped stands from from_is chain f = by chain f where
    came_sent : (q : Point) → SentWith T m q → CameTo T q
    came_sent q s = stood_came T (HeardBy T m) q (stood_touched T (HeardBy T m) q (sent_touched T m q s))

    asked_drop : IsAsked T k (Drop t m)
    asked_drop = record { stands = stands; decides = refl }

    by : (chain : Option (List Chained)) → IsFirstChain T marks (Contains from) (Contains causes) chain → IsWhy T k (answer_of chain)
    by (Some chain) f = (Drop t m, asked_drop, first_told T together marks (λ j. (same j).0) (λ j lt. (same j).1) closed_together (SentWith T m) (FellIn T together) from causes from_is came_sent fell (λ q c s. falls q c) (not_fallen_opening T together) chain f)
    by None none = (
      Drop t m,
      asked_drop,
      none_told T together marks (λ j. (same j).0) (λ j lt. (same j).1) closed_together (SentWith T m) (FellIn T together) from causes from_is came_sent fell (λ q c s. falls q c) (not_fallen_opening T together) none,
      λ h. no_cause T together marks (λ j. (same j).0) (λ j lt. (same j).1) closed_together (SentWith T m) (FellIn T together) from causes from_is came_sent fell (λ q c s. falls q c) (not_fallen_opening T together) none h.cause h.in_past h.fallen,
    )

-- as the code finds it

iff_trans : {A B C : Type 0} → A ↔ B → B ↔ C → A ↔ C
iff_trans a b = (λ x. b.0 (a.0 x), λ z. a.1 (b.1 z))

single : (own : Point) (from : List Point) → SameMembers (own ∷ []) from → (q : Point) → Contains from q ↔ (q ≡ own)
single own from same q = (
  λ c. ⊎_elim (λ e. e) (λ n. absurd (Contains-none q n)) (Contains-cons_cases own [] q ((same q).1 c)),
  λ (e : q ≡ own). subst (Contains from) (sym e) ((same own).0 (Contains-head own [])),
)

pub held_found : (T R : Run) (t k : ℕ) → R ≡ T → step_at T k ≡ Some (Hold t) → (marks : List Bool) → ((j : ℕ) → IsMarked marks j ↔ NeededAt T k j) → (own : Point) → IsMadePoint R k own → (from causes fallen stable : List Point) → SameMembers (own ∷ []) from
    → ((q : Point) → Contains fallen q ↔ FellIn R (IsMarked marks) q) → ((q : Point) → Contains stable q ↔ StabilizedIn R (IsMarked marks) q) → ((q : Point) → Contains causes q → IsCandidate R marks own q × IsUnfirm fallen stable q)
    → ((q : Point) → IsCandidate R marks own q → Contains causes q ⊎ IsSettled fallen stable q) → (chain : Option (List Chained)) → IsFirstChain R marks (Contains from) (Contains causes) chain → IsWhy T k (answer_of chain)
held_found T R t k same stands marks marked own made from causes fallen stable from_is fallen_is stable_is unfirm others chain f =
    let at : step_at R k ≡ Some (Hold t) = subst (λ (r : Run). step_at r k ≡ Some (Hold t)) (sym same) stands in
    let needed : (j : ℕ) → IsMarked marks j ↔ NeededAt R k j = subst (λ (r : Run). (j : ℕ) → IsMarked marks j ↔ NeededAt r k j) (sym same) marked in
    subst (λ (r : Run). IsWhy r k (answer_of chain)) same
    (why_held R t k at marks (λ j. iff_trans (needed j) (heard_is_needed R k (Hold t) at refl j)) own made from causes fallen stable (single own from from_is) fallen_is stable_is unfirm others chain f)

pub fall_found : (T R : Run) (t m k : ℕ) → R ≡ T → step_at T k ≡ Some (Fall t m) → (marks : List Bool) → ((j : ℕ) → IsMarked marks j ↔ NeededAt T k j) → (own : Point) → IsMadePoint R k own → (from causes : List Point) → SameMembers (own ∷ []) from
    → ((q : Point) → Contains causes q ↔ FellIn R (IsMarked marks) q) → (chain : Option (List Chained)) → IsFirstChain R marks (Contains from) (Contains causes) chain → IsWhy T k (answer_of chain)
fall_found T R t m k same stands marks marked own made from causes from_is causes_are chain f =
    let at : step_at R k ≡ Some (Fall t m) = subst (λ (r : Run). step_at r k ≡ Some (Fall t m)) (sym same) stands in
    let needed : (j : ℕ) → IsMarked marks j ↔ NeededAt R k j = subst (λ (r : Run). (j : ℕ) → IsMarked marks j ↔ NeededAt r k j) (sym same) marked in
    subst (λ (r : Run). IsWhy r k (answer_of chain)) same
    (why_fallen R t k m marks (λ j. iff_trans (needed j) (heard_is_needed R k (Fall t m) at refl j)) causes causes_are at own made from (single own from from_is) chain f)

pub drop_found : (T R : Run) (t m k : ℕ) → R ≡ T → step_at T k ≡ Some (Drop t m) → (marks : List Bool) → ((j : ℕ) → IsMarked marks j ↔ NeededAt T k j) → (from causes : List Point) → ((q : Point) → Contains from q ↔ SentWith T m q)
    → ((q : Point) → Contains causes q ↔ FellIn R (IsMarked marks) q) → (chain : Option (List Chained)) → IsFirstChain R marks (Contains from) (Contains causes) chain → IsWhy T k (answer_of chain)
drop_found T R t m k same stands marks marked from causes from_is causes_are chain f =
    let at : step_at R k ≡ Some (Drop t m) = subst (λ (r : Run). step_at r k ≡ Some (Drop t m)) (sym same) stands in
    let needed : (j : ℕ) → IsMarked marks j ↔ NeededAt R k j = subst (λ (r : Run). (j : ℕ) → IsMarked marks j ↔ NeededAt r k j) (sym same) marked in
    let sent : (q : Point) → Contains from q ↔ SentWith R m q = subst (λ (r : Run). (q : Point) → Contains from q ↔ SentWith r m q) (sym same) from_is in
    subst (λ (r : Run). IsWhy r k (answer_of chain)) same
    (why_dropped R t k m marks (λ j. iff_trans (needed j) (heard_is_needed R k (Drop t m) at refl j)) causes causes_are at from sent chain f)
