-- Points that are collected, and lists that are made item by item.
use Rattle.std.proofs.Common.{◌≡◌, ◌⊎◌, ◌↔◌, inl, inr, ⊎_elim, ℕ, suc, ◌+◌, ◌≤◌, List, [], ◌∷◌, ◌++◌, length, Option, Some, None, IsTrue, refl, sym, ap, ◌∙◌, subst, arith, length-append}
use Rattle.std.specs.Prelude.{Contains, slice_get}
use Rattle.std.specs.declared.alloc.Global.{Global}
use Rattle.std.specs.declared.vec.Vec.{Vec}
use Rattle.std.proofs.lemmas.Bool.{cases_lt}
use Rattle.tau_points.specs.declared.point.Point.{Point}
use Rattle.tau_points.specs.Members.{AddsAll}
use Rattle.tau_points.proofs.Membership.{Contains-none, AddsAll-then, AddsAll-same, AddsAll-none, AddsAll-push}
use Rattle.tau_explain.specs.declared.chains.chained.Chained.{Chained}
use Rattle.tau_trace.specs.Run.{Run, len}
use Rattle.tau_trace.specs.Histories.{Falls}
use Rattle.tau_trace.proofs.Lists.{same_some, slice_get-push_cases}
use Rattle.tau_past.specs.declared.made.Made.{Made}
use Rattle.tau_past.specs.Audits.{ChecksAt, RollsBackAt}
use Rattle.tau_past.specs.Safety.{RolledBack}
use Rattle.tau_past.specs.Tables.{TellsMade}
use Rattle.tau_past.proofs.Endings.{falls_within}
use Rattle.tau_explain.proofs.CauseLemmas.{IsBelowAt, adds_one, made_point, made_once}
use Rattle.tau_scene.specs.declared.causes.sources.Source.{Source}
use Rattle.tau_scene.specs.declared.causes.sources.Source.TheVariants as sources
use Rattle.tau_scene.specs.declared.causes.sources.Sourced.{Sourced}
use Rattle.tau_scene.specs.Causes.Inner.Resting.{HasChainAt, PushesIf, AsksIn, AsksInLanes, ChecksBetween}

-- one of a list of A's more
pub all_places : {A B : Type 0} (R : ℕ → A → B → Type 0) (xs : List A) (n : ℕ) (ys zs : List B) (a : A) (b : B) → length ys ≡ n → zs ≡ ys ++ b ∷ [] → slice_get xs n ≡ Some a → R n a b
    → ((i : ℕ) (x : A) (y : B) → slice_get xs i ≡ Some x → slice_get ys i ≡ Some y → R i x y) → (i : ℕ) (x : A) (y : B) → slice_get xs i ≡ Some x → slice_get zs i ≡ Some y → R i x y
all_places R xs n ys zs a b count is at r each i x y e f = ⊎_elim
    (λ old. each i x y e old)
    (λ new. let here : i ≡ n = new.0 ∙ count in
    let same : a ≡ x = same_some (sym at ∙ ap (slice_get xs) (sym here) ∙ e) in
    subst (λ j. R j x y) (sym here) (subst (λ z. R n z y) same (subst (R n a) new.1 r)))
    (slice_get-push_cases ys b y i (ap (λ l. slice_get l i) (sym is) ∙ f))

pub longer : {A : Type 0} (ys zs : List A) (b : A) (n : ℕ) → length ys ≡ n → zs ≡ ys ++ b ∷ [] → length zs ≡ n + 1
longer ys zs b n count is = omega (arith, ap length is, length-append ys (b ∷ []), count)

-- lists with the same items in the same places are one
pub same_items : {A : Type 0} (xs ys : List A) → length xs ≡ length ys → ((i : ℕ) (x y : A) → slice_get xs i ≡ Some x → slice_get ys i ≡ Some y → x ≡ y) → xs ≡ ys
same_items [] [] count same = refl
same_items [] (y ∷ ys) count same = absurd (omega (arith, count))
same_items (x ∷ xs) [] count same = absurd (omega (arith, count))
same_items (x ∷ xs) (y ∷ ys) count same =
    let head : x ≡ y = same 0 x y refl refl in
    let tail : xs ≡ ys = same_items xs ys (omega (arith, count)) (λ i a b e f. same (suc i) a b e f) in
    λ i. head i ∷ tail i

pub fallen_all : (T : Run) (n : ℕ) (xs : List Point) → len T ≤ n → ((q : Point) → Contains xs q ↔ IsBelowAt (λ j q. RollsBackAt T q j) n q) → (q : Point) → Contains xs q ↔ RolledBack T q
fallen_all T n xs le told q = (
  λ c. let b = (told q).0 c in record { place = b.0; held = tt; falls = b.2.0; at_point = b.2.1 },
  λ f. (told q).1 (f.place, omega (arith, (falls_within T q.who f.place f.falls).0, le), (f.falls, f.at_point)),
)

-- points that have a chain, one by one
below_more : (points : List Point) (chains : List (Option (List Chained))) (n : ℕ) (q : Point) → HasChainAt points chains n q → HasChainAt points chains (n + 1) q
below_more points chains n q h = record { at = h.at; below = omega (arith, h.below); chain = h.chain; point_is = h.point_is; chain_is = h.chain_is }

one_below : (points : List Point) (chains : List (Option (List Chained))) (n : ℕ) (p q : Point) (o : Option (List Chained)) → slice_get points n ≡ Some p → slice_get chains n ≡ Some o → HasChainAt points chains (n + 1) q → HasChainAt points chains n q ⊎ ((p ≡ q) × ((chain : List Chained) × (o ≡ Some chain)))
one_below points chains n p q o at is h = ⊎_elim
    (λ lt. inl (record { at = h.at; below = lt; chain = h.chain; point_is = h.point_is; chain_is = h.chain_is }))
    (λ le.
    let here : h.at ≡ n = omega (arith, le, h.below) in
    inr (same_some (sym at ∙ ap (slice_get points) (sym here) ∙ h.point_is), (h.chain, same_some (sym is ∙ ap (slice_get chains) (sym here) ∙ h.chain_is))))
    (cases_lt h.at n)

pub picks_more : (points : List Point) (chains : List (Option (List Chained))) (n : ℕ) (p : Point) (o : Option (List Chained)) (xs ys : List Point) → slice_get points n ≡ Some p → slice_get chains n ≡ Some o → PushesIf o p xs ys → ((q : Point) → Contains xs q ↔ HasChainAt points chains n q) → (q : Point) → Contains ys q ↔ HasChainAt points chains (n + 1) q
picks_more points chains n p None xs ys at is pushes told q = (
  λ c. below_more points chains n q ((told q).0 (subst (λ (l : List Point). Contains l q) pushes c)),
  λ h. ⊎_elim
      (λ old. subst (λ (l : List Point). Contains l q) (sym pushes) ((told q).1 old))
      (λ new. let f = new.1.1 in absurd (cc))
      (one_below points chains n p q None at is h),
)
picks_more points chains n p (Some chain) xs ys at is pushes told q =
    let adds = AddsAll-push xs ys p pushes q in (
      λ c. ⊎_elim
          (λ old. below_more points chains n q ((told q).0 old))
          (λ (e : q ≡ p). record { at = n; below = omega arith; chain = chain; point_is = at ∙ ap (λ (z : Point). Some z) (sym e); chain_is = is })
          (adds.0 c),
      λ h. ⊎_elim
          (λ old. adds.1 (inl ((told q).1 old)))
          (λ new. adds.1 (inr (sym new.0)))
          (one_below points chains n p q (Some chain) at is h),
    )

asks_back : (lane : List Sourced) (n : ℕ) (s : Sourced) (q : Point) → slice_get lane n ≡ Some s → AsksIn lane (n + 1) q → AsksIn lane n q ⊎ (s.source ≡ sources.Point q)
asks_back lane n s q at a = ⊎_elim
    (λ lt. inl (record { at = a.at; below = lt; sourced = a.sourced; there = a.there; asks = a.asks }))
    (λ le.
    let here : a.at ≡ n = omega (arith, le, a.below) in
    let same : s ≡ a.sourced = same_some (sym at ∙ ap (slice_get lane) (sym here) ∙ a.there) in
    inr (ap (λ (z : Sourced). z.source) same ∙ a.asks))
    (cases_lt a.at n)

asks_more : (lane : List Sourced) (n : ℕ) (s : Sourced) (q : Point) → slice_get lane n ≡ Some s → (AsksIn lane n q ⊎ (s.source ≡ sources.Point q)) ↔ AsksIn lane (n + 1) q
asks_more lane n s q at = (
  λ c. ⊎_elim
      (λ a. record { at = a.at; below = omega (arith, a.below); sourced = a.sourced; there = a.there; asks = a.asks })
      (λ e. record { at = n; below = omega arith; sourced = s; there = at; asks = e })
      c,
  asks_back lane n s q at,
)

pub asks_none : (lane : List Sourced) (xs : List Point) → AddsAll (AsksIn lane 0) xs xs
asks_none lane xs = AddsAll-none (AsksIn lane 0) xs (λ q a. absurd (omega (arith, a.below)))

pub asks_next : (lane : List Sourced) (n : ℕ) (s : Sourced) (xs ys zs : List Point) → slice_get lane n ≡ Some s → AddsAll (AsksIn lane n) xs ys → AddsAll (λ q. s.source ≡ sources.Point q) ys zs → AddsAll (AsksIn lane (n + 1)) xs zs
asks_next lane n s xs ys zs at a b = AddsAll-same (λ q. AsksIn lane n q ⊎ (s.source ≡ sources.Point q)) (AsksIn lane (n + 1)) xs zs (λ q. asks_more lane n s q at) (AddsAll-then (AsksIn lane n) (λ q. s.source ≡ sources.Point q) xs ys zs a b)

lanes_back : (lanes : List (Vec Sourced Global)) (n : ℕ) (v : Vec Sourced Global) (q : Point) → slice_get lanes n ≡ Some v → AsksInLanes lanes (n + 1) q → AsksInLanes lanes n q ⊎ AsksIn v.items (length v.items) q
lanes_back lanes n v q at a = ⊎_elim
    (λ lt. inl (record { rank = a.rank; below = lt; lane = a.lane; there = a.there; asks = a.asks }))
    (λ le.
    let here : a.rank ≡ n = omega (arith, le, a.below) in
    let same : v ≡ a.lane = same_some (sym at ∙ ap (slice_get lanes) (sym here) ∙ a.there) in
    inr (subst (λ (z : Vec Sourced Global). AsksIn z.items (length z.items) q) (sym same) a.asks))
    (cases_lt a.rank n)

lanes_more : (lanes : List (Vec Sourced Global)) (n : ℕ) (v : Vec Sourced Global) (q : Point) → slice_get lanes n ≡ Some v → (AsksInLanes lanes n q ⊎ AsksIn v.items (length v.items) q) ↔ AsksInLanes lanes (n + 1) q
lanes_more lanes n v q at = (
  λ c. ⊎_elim
      (λ a. record { rank = a.rank; below = omega (arith, a.below); lane = a.lane; there = a.there; asks = a.asks })
      (λ a. record { rank = n; below = omega arith; lane = v; there = at; asks = a })
      c,
  lanes_back lanes n v q at,
)

pub lanes_next : (lanes : List (Vec Sourced Global)) (n : ℕ) (v : Vec Sourced Global) (xs ys zs : List Point) → slice_get lanes n ≡ Some v → AddsAll (AsksInLanes lanes n) xs ys → AddsAll (AsksIn v.items (length v.items)) ys zs → AddsAll (AsksInLanes lanes (n + 1)) xs zs
lanes_next lanes n v xs ys zs at a b = AddsAll-same (λ q. AsksInLanes lanes n q ⊎ AsksIn v.items (length v.items) q) (AsksInLanes lanes (n + 1)) xs zs (λ q. lanes_more lanes n v q at) (AddsAll-then (AsksInLanes lanes n) (AsksIn v.items (length v.items)) xs ys zs a b)

checks_back : (T : Run) (from n : ℕ) (q : Point) → ChecksBetween T from (n + 1) q → ChecksBetween T from n q ⊎ ChecksAt T n q
checks_back T from n q c = ⊎_elim
    (λ lt. inl (record { place = c.place; least = c.least; most = lt; checks = c.checks }))
    (λ le. let here : c.place ≡ n = omega (arith, le, c.most) in inr (subst (λ k. ChecksAt T k q) here c.checks))
    (cases_lt c.place n)

checks_more : (T : Run) (from n : ℕ) (q : Point) → from ≤ n → (ChecksBetween T from n q ⊎ ChecksAt T n q) ↔ ChecksBetween T from (n + 1) q
checks_more T from n q le = (
  λ c. ⊎_elim
      (λ a. record { place = a.place; least = a.least; most = omega (arith, a.most); checks = a.checks })
      (λ a. record { place = n; least = le; most = omega arith; checks = a })
      c,
  checks_back T from n q,
)

pub checks_none : (T : Run) (from n : ℕ) (xs : List Point) → n ≤ from → AddsAll (ChecksBetween T from n) xs xs
checks_none T from n xs le = AddsAll-none (ChecksBetween T from n) xs (λ q c. absurd (omega (arith, c.least, c.most, le)))

pub checks_next : (T : Run) (from n : ℕ) (xs ys zs : List Point) → from ≤ n → AddsAll (ChecksBetween T from n) xs ys → AddsAll (ChecksAt T n) ys zs → AddsAll (ChecksBetween T from (n + 1)) xs zs
checks_next T from n xs ys zs le a b = AddsAll-same (λ q. ChecksBetween T from n q ⊎ ChecksAt T n q) (ChecksBetween T from (n + 1)) xs zs (λ q. checks_more T from n q le) (AddsAll-then (ChecksBetween T from n) (ChecksAt T n) xs ys zs a b)

-- the point of a Checkpoint, if one stands there
pub check_one : (T : Run) (n : ℕ) (x : Point) (xs ys : List Point) → ((p : Point) → ChecksAt T n p ↔ (Some x ≡ Some p)) → ys ≡ xs ++ x ∷ [] → AddsAll (ChecksAt T n) xs ys
check_one T n x xs ys told is = adds_one (ChecksAt T n) x xs ys ((told x).1 refl) (λ q c. same_some ((told q).0 c)) is

pub check_nothing : (T : Run) (n : ℕ) (xs : List Point) → ((p : Point) → ChecksAt T n p ↔ (None ≡ Some p)) → AddsAll (ChecksAt T n) xs xs
check_nothing T n xs told = AddsAll-none (ChecksAt T n) xs (λ q c. let f = (told q).0 c in cc)

pub asked_both : (P Q : Point → Type 0) (xs ys zs : List Point) → xs ≡ [] → AddsAll P xs ys → AddsAll Q ys zs → (q : Point) → Contains zs q ↔ (P q ⊎ Q q)
asked_both P Q xs ys zs is a b q =
    let both = AddsAll-then P Q xs ys zs a b q in (
      λ c. ⊎_elim (λ h. absurd (Contains-none q (subst (λ (l : List Point). Contains l q) is h))) (λ x. x) (both.0 c),
      λ c. both.1 (inr c),
    )
