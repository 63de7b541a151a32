-- What the searches decide.
use Rattle.std.proofs.Common.{◌≡◌, ◌≢◌, ◌⊎◌, ◌↔◌, inl, inr, ⊎_elim, ℕ, ◌<◌, ◌≤◌, max, IsTrue, cond, List, [], ◌∷◌, ◌++◌, get_or, refl, sym, ap, ◌∙◌, subst, arith}
use Rattle.std.specs.Prelude.{slice_get, Contains, IsFalse}
use Rattle.std.proofs.lemmas.Bool.{cases_Bool, cases_eq, eq-eqb, ne_eqb}
use Rattle.std.proofs.lemmas.List.Elements.{Contains-append_left, Contains-append_right, Contains-append_cases}
use Rattle.tau_history.specs.declared.fate.Fate.{Fate}
use Rattle.tau_history.specs.declared.fate.Fate.TheVariants.{Fallen}
use Rattle.tau_points.specs.declared.point.Point.{Point}
use Rattle.tau_points.specs.Reach.{start}
use Rattle.tau_points.proofs.Membership.{Contains-head, Contains-none, Contains-cons_cases}
use Rattle.tau_points.proofs.Reach.{monotone, union}
use Rattle.tau_trace.specs.Run.{Run}
use Rattle.tau_trace.specs.Points.{point_at}
use Rattle.tau_past.specs.Carried.{SentWith}
use Rattle.tau_past.specs.Heard.{Heard, HeardBy, HeardTogether, IsCausallyClosed, Bound}
use Rattle.tau_past.specs.KnownLaws.{TouchedIn}
use Rattle.tau_past.specs.Pasts.{PastIn, Is, FellIn, FirmIn}
use Rattle.tau_past.specs.Decisions.{HasFallen}
use Rattle.tau_past.proofs.BoundLemmas.{has_bounds, union_bound}
use Rattle.tau_past.proofs.HeardLemmas.{heard_sets_closed, sent_touched}
use Rattle.tau_past.proofs.Known.{heard_before, heard_by_before}
use Rattle.tau_versions.specs.declared.logs.version.Version.{Version}
use Rattle.tau_versions.specs.Logs.Versions.{IsLatest}
use Rattle.tau_versions.specs.Logs.Told.{Told}
use Rattle.tau_versions.specs.Logs.Takes.{Covered, is_listed}
use Rattle.tau_versions.proofs.Latest.{latest_grows}
use Rattle.tau_versions.proofs.Taking.{cover_on}
use Rattle.tau_versions.specs.Search.Logs.{TellsBound, IsTold}
use Rattle.tau_versions.specs.Search.Laws.{ListedNumbersTell, NumbersTogether, OwnSearchTellsFalls, RootSearchTellsDrops, OwnSearchTellsFreedom, SearchesJoin}
use Rattle.tau_versions.specs.Search.Numbered.{with_version}
use Rattle.tau_versions.specs.Search.Searching.{fate_of, is_fallen, is_not_firm, Leads, Found, Finds}
use Rattle.tau_versions.proofs.Facts.{Reached, kind, fallen_is, touched_reached, own_reached, found_reached, firm_behind, firm_of_fate, not_firm_of_fate}
use Rattle.tau_versions.proofs.Positions.{Position, found, behind, cut, position}

fallen_of : (f : Fate) → IsTrue (is_fallen f) → f ≡ Fallen
fallen_of Fallen e = refl
fallen_of f e = absurd (cc)

module _ (T : Run) (H : ℕ → Type 0) (n : ℕ) (logs : List Told) (numbers : ℕ → ℕ) (told : IsTold T H n logs numbers) (closed : IsCausallyClosed T H) (below : (j : ℕ) → H j → j < n) (P : Point → Type 0) (roots : List Point) (begins : (q : Point) → Contains roots q → Reached T H logs numbers q × P q) (covers : (q : Point) → P q → Covered T H roots n q) where
  reached : (q : Point) → Found logs numbers (Contains roots) q → Reached T H logs numbers q
  reached q f = (found_reached T H n logs numbers told closed below P roots begins q f).0

  stands : (q : Point) → PastIn T H P q → Position T H (Found logs numbers (Contains roots)) q
  stands = position T H n logs numbers P roots (λ p f. kind T H n logs numbers told closed below p (reached p f)) below covers

  is_told : (q : Point) → Found logs numbers (Contains roots) q → (fate_of logs numbers q ≡ Fallen) ↔ FellIn T H q
  is_told q f = fallen_is T H n logs numbers told closed below q (reached q f)

  pub finds_fallen : Finds is_fallen logs numbers (Contains roots) ↔ HasFallen T H P
  finds_fallen = (to, back) where
    to : Finds is_fallen logs numbers (Contains roots) → HasFallen T H P
    to f = record {
      cause = f.point;
      in_past = (found_reached T H n logs numbers told closed below P roots begins f.point f.found).1;
      fallen = (is_told f.point f.found).0 (fallen_of (fate_of logs numbers f.point) f.is);
    }

    back : HasFallen T H P → Finds is_fallen logs numbers (Contains roots)
    back h = by (stands h.cause h.in_past) where
      by : Position T H (Found logs numbers (Contains roots)) h.cause → Finds is_fallen logs numbers (Contains roots)
      by (found f) = record { point = h.cause; found = f; is = ap is_fallen ((is_told h.cause f).1 h.fallen) }
      by (behind c d r) = absurd ((firm_behind T H n logs numbers told closed below c h.cause d r).not_fallen h.fallen)
      by (cut x f d) = record { point = x; found = f; is = ap is_fallen ((is_told x f).1 d) }

  pub finds_none : (¬ Finds is_not_firm logs numbers (Contains roots)) ↔ ((q : Point) → PastIn T H P q → FirmIn T H q)
  finds_none = (to, back) where
    to : (¬ Finds is_not_firm logs numbers (Contains roots)) → (q : Point) → PastIn T H P q → FirmIn T H q
    to none q past = by (stands q past) where
      firm : (f : Found logs numbers (Contains roots) q) → IsFalse (is_not_firm (fate_of logs numbers q))
      firm f = ⊎_elim (λ s. absurd (none (record { point = q; found = f; is = s }))) (λ s. s) (cases_Bool (is_not_firm (fate_of logs numbers q)))

      by : Position T H (Found logs numbers (Contains roots)) q → FirmIn T H q
      by (found f) = firm_of_fate T H n logs numbers told closed below q (reached q f) (firm f)
      by (behind c d r) = firm_behind T H n logs numbers told closed below c q d r
      by (cut x f d) = absurd (none (record { point = x; found = f; is = ap is_not_firm ((is_told x f).1 d) }))

    back : ((q : Point) → PastIn T H P q → FirmIn T H q) → ¬ Finds is_not_firm logs numbers (Contains roots)
    back firm f =
        let r = found_reached T H n logs numbers told closed below P roots begins f.point f.found in
        not_firm_of_fate T H n logs numbers told closed below f.point r.0 f.is (firm f.point r.1)

-- the list of one point
one : (p q : Point) → Contains (p ∷ []) q → q ≡ p
one p q c = ⊎_elim (λ e. e) (λ h. absurd (Contains-none q h)) (Contains-cons_cases p [] q c)

listed : (p q : Point) → q ≡ p → Contains (p ∷ []) q
listed p q e = subst (Contains (p ∷ [])) (sym e) (Contains-head p [])

-- the own point as the one root
own_begins : (T : Run) (H : ℕ → Type 0) (logs : List Told) (numbers : ℕ → ℕ) (p : Point) → Reached T H logs numbers p → (q : Point) → Contains (p ∷ []) q → Reached T H logs numbers q × Is p q
own_begins T H logs numbers p r q c = (subst (Reached T H logs numbers) (sym (one p q c)) r, one p q c)

pub own_search_tells_falls : OwnSearchTellsFalls
own_search_tells_falls T t n m logs numbers exists there told =
    finds_fallen T H n logs numbers told closed below (Is p) (p ∷ []) (own_begins T H logs numbers p reached_own) (λ q e. is_listed (listed p q e)) where
      H : ℕ → Type 0
      H = HeardTogether T t n m

      p : Point
      p = point_at T t n

      closed : IsCausallyClosed T (HeardTogether T t n m)
      closed = (heard_sets_closed T).together t n m

      below : (j : ℕ) → HeardTogether T t n m j → j < n
      below j h = ⊎_elim (heard_before T t n j told.well_formed exists) (heard_by_before T m n j told.well_formed there) h

      reached_own : Reached T (HeardTogether T t n m) logs numbers (point_at T t n)
      reached_own = own_reached T (HeardTogether T t n m) n logs numbers told closed below t exists (λ j o. inl (start o)) ((has_bounds T n told.well_formed).together t m exists there)

pub root_search_tells_drops : RootSearchTellsDrops
root_search_tells_drops T t n m logs numbers roots exists there told tells =
    finds_fallen T (HeardTogether T t n m) n logs numbers told closed below (SentWith T m) roots begins covers where
      closed : IsCausallyClosed T (HeardTogether T t n m)
      closed = (heard_sets_closed T).together t n m

      below : (j : ℕ) → HeardTogether T t n m j → j < n
      below j h = ⊎_elim (heard_before T t n j told.well_formed exists) (heard_by_before T m n j told.well_formed there) h

      touched : (q : Point) → SentWith T m q → TouchedIn T (HeardTogether T t n m) q
      touched q s = let x = sent_touched T m q s in record { place = x.place; held = inr x.held; touching = x.touching; at_point = x.at_point }

      begins : (q : Point) → Contains roots q → Reached T (HeardTogether T t n m) logs numbers q × SentWith T m q
      begins q c = let s = tells.sent q c in (touched_reached T (HeardTogether T t n m) n logs numbers told closed below q (touched q s), s)

      covers : (q : Point) → SentWith T m q → Covered T (HeardTogether T t n m) roots n q
      covers q s = cover_on T (HeardBy T m) (HeardTogether T t n m) roots roots n n q (λ l h. inr h) (λ r c. c) (omega arith) (tells.covers q s)

pub own_search_tells_freedom : OwnSearchTellsFreedom
own_search_tells_freedom T t n logs numbers exists told =
    finds_none T (Heard T t n) n logs numbers told closed below (Is (point_at T t n)) (point_at T t n ∷ []) (own_begins T (Heard T t n) logs numbers (point_at T t n) reached_own) (λ q e. is_listed (listed (point_at T t n) q e)) where
      closed : IsCausallyClosed T (Heard T t n)
      closed = (heard_sets_closed T).transactor t n

      below : (j : ℕ) → Heard T t n j → j < n
      below j h = heard_before T t n j told.well_formed exists h

      reached_own : Reached T (Heard T t n) logs numbers (point_at T t n)
      reached_own = own_reached T (Heard T t n) n logs numbers told closed below t exists (λ j o. start o) ((has_bounds T n told.well_formed).own t exists)

pub searches_join : SearchesJoin
searches_join wanted logs numbers xs ys = (to, back) where
  split : (q : Point) → Found logs numbers (Contains (xs ++ ys)) q → Found logs numbers (Contains xs) q ⊎ Found logs numbers (Contains ys) q
  split q f = (union (Leads logs numbers) (Contains xs) (Contains ys) q).0 (monotone (Leads logs numbers) (Leads logs numbers) (Contains (xs ++ ys)) (λ z. Contains xs z ⊎ Contains ys z) (λ y z l. l) (λ z c. Contains-append_cases xs ys z c) q f)

  to : Finds wanted logs numbers (Contains (xs ++ ys)) → Finds wanted logs numbers (Contains xs) ⊎ Finds wanted logs numbers (Contains ys)
  to f = ⊎_elim (λ g. inl (record { point = f.point; found = g; is = f.is })) (λ g. inr (record { point = f.point; found = g; is = f.is })) (split f.point f.found)

  grown : (zs : List Point) → ((q : Point) → Contains zs q → Contains (xs ++ ys) q) → Finds wanted logs numbers (Contains zs) → Finds wanted logs numbers (Contains (xs ++ ys))
  grown zs more f = record { point = f.point; found = monotone (Leads logs numbers) (Leads logs numbers) (Contains zs) (Contains (xs ++ ys)) (λ y z l. l) more f.point f.found; is = f.is }

  back : Finds wanted logs numbers (Contains xs) ⊎ Finds wanted logs numbers (Contains ys) → Finds wanted logs numbers (Contains (xs ++ ys))
  back c = ⊎_elim (grown xs (λ q h. Contains-append_left xs ys q h)) (grown ys (λ q h. Contains-append_right xs ys q h)) c

pub listed_numbers_tell : (H : ℕ → Type 0) → ListedNumbersTell H
listed_numbers_tell H T n who version logs numbers own others u log e = ⊎_elim same other (cases_eq u who) where
  same : u ≡ who → TellsBound T H n u log (with_version who version numbers u)
  same s =
      let F : ℕ → Type 0 = λ w. TellsBound T H n w log version in
      let G : ℕ → Type 0 = TellsBound T H n u log in
      subst G (sym (ap (λ b. cond b version (get_or numbers u 0)) (eq-eqb u who s))) (subst F (sym s) (own log (ap (slice_get logs) (sym s) ∙ e)))

  other : u ≢ who → TellsBound T H n u log (with_version who version numbers u)
  other ne =
      let G : ℕ → Type 0 = TellsBound T H n u log in
      subst G (sym (ap (λ b. cond b version (get_or numbers u 0)) (ne_eqb u who ne))) (others u log ne e)

pub numbers_together : NumbersTogether
numbers_together T t n m logs own theirs x y u log e = ⊎_elim first second (order a.place b.place) where
  a : TellsBound T (Heard T t n) n u log (own u)
  a = x u log e

  b : TellsBound T (HeardBy T m) n u log (theirs u)
  b = y u log e

  order : (i j : ℕ) → (j ≤ i) ⊎ (i ≤ j)
  order i j = grind arith

  bound : Bound T (HeardTogether T t n m) u (max a.place b.place)
  bound = union_bound (Heard T t n) (HeardBy T m) T u a.place b.place a.bound b.bound

  made : (place number : ℕ) (v : Version) → place ≤ n → max a.place b.place ≡ place → max (own u) (theirs u) ≡ number → IsLatest log.versions place number v → TellsBound T (HeardTogether T t n m) n u log (max (own u) (theirs u))
  made place number v within same greater latest =
      let F : ℕ → Type 0 = Bound T (HeardTogether T t n m) u in
      let G : ℕ → Type 0 = λ i. IsLatest log.versions place i v in
      record { place = place; within = within; bound = subst F same bound; version = v; latest = subst G (sym greater) latest }

  first : b.place ≤ a.place → TellsBound T (HeardTogether T t n m) n u log (max (own u) (theirs u))
  first le = made a.place (own u) a.version a.within (omega (arith, le)) (omega (arith, latest_grows log.versions b.place a.place (theirs u) (own u) b.version a.version le b.latest a.latest)) a.latest

  second : a.place ≤ b.place → TellsBound T (HeardTogether T t n m) n u log (max (own u) (theirs u))
  second le = made b.place (theirs u) b.version b.within (omega (arith, le)) (omega (arith, latest_grows log.versions a.place b.place (own u) (theirs u) a.version b.version le a.latest b.latest)) b.latest
