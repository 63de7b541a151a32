-- What points take, step by step.
use Rattle.std.proofs.Common.{◌≡◌, ◌≢◌, ◌⊎◌, inl, inr, ⊎_elim, ℕ, suc, ◌-◌, ◌<◌, ◌≤◌, Bool, true, false, IsTrue, List, [], ◌∷◌, ◌++◌, length, take, drop, Some, refl, sym, ap, ◌∙◌, subst, arith, length-append, length-drop}
use Rattle.std.specs.Prelude.{slice_get, Contains}
use Rattle.std.proofs.lemmas.List.{take-append-le, drop-append-le}
use Rattle.std.proofs.lemmas.Option.{slice_get_within}
use Rattle.tau_history.specs.Timeline.{Timeline, interval, keep, moved}
use Rattle.tau_points.specs.declared.point.Point.{Point}
use Rattle.tau_points.proofs.PointOrder.{point_eq, point_eq-Decides}
use Rattle.tau_points.proofs.Membership.{Contains-none}
use Rattle.tau_trace.specs.declared.step.Step.{Step}
use Rattle.tau_trace.specs.declared.step.Step.TheVariants.{Set}
use Rattle.tau_trace.specs.Run.{Run, ActsAt, Does}
use Rattle.tau_trace.specs.Histories.{history, move_of}
use Rattle.tau_trace.specs.Points.{point_at, IsUpTo, IsEarlier}
use Rattle.tau_trace.specs.Numbering.{IsNew}
use Rattle.tau_trace.specs.Known.{WellFormed}
use Rattle.tau_trace.proofs.Lists.{same_some, slice_get-front, slice_get-push_cases}
use Rattle.tau_trace.proofs.Counted.{history-suc, move_at-own}
use Rattle.tau_trace.proofs.PointLemmas.{points_grow}
use Rattle.tau_trace.proofs.Quiet.{acts}
use Rattle.tau_trace.proofs.Sequences.{cases_last}
use Rattle.tau_past.specs.Carried.{Pending, Carried, TakesBy, by_set, by_new, is_set}
use Rattle.tau_past.specs.Heard.{Own, own_step, own_birth, Heard}
use Rattle.tau_past.specs.Pasts.{ClosesAt, checkpoint, opening}
use Rattle.tau_past.proofs.HeardLemmas.{heard_grows}
use Rattle.tau_past.proofs.Known.{acts_known}
use Rattle.tau_versions.specs.declared.logs.version.Version.{Version}
use Rattle.tau_versions.specs.Logs.Versions.{IsLatest}
use Rattle.tau_versions.specs.Logs.Takes.{taken, Covered, is_listed, is_closed, through, TellsTaken, TakenStays, ReachedPointsHaveTakenNothing, SetsTakeTheRoots, LaterSetsTakeNothingNew, TakesGoOn}
use Rattle.tau_versions.proofs.Latest.{latest_is_unique, newest_is_latest}

closed_on : (T : Run) (H G : ℕ → Type 0) (t i : ℕ) (q : Point) → ((j : ℕ) → H j → G j) → ClosesAt T H t i q → ClosesAt T G t i q
closed_on T H G t i q grows (checkpoint {j = j} h c e f) = checkpoint (grows j h) c e f
closed_on T H G t i q grows (opening a b c) = opening a b c

-- what is covered stays so in a greater set, by a greater list and at a later place
pub cover_on : (T : Run) (H G : ℕ → Type 0) (xs ys : List Point) (j k : ℕ) (q : Point) → ((l : ℕ) → H l → G l) → ((r : Point) → Contains xs r → Contains ys r) → j ≤ k → Covered T H xs j q → Covered T G ys k q
cover_on T H G xs ys j k q grows more le (is_listed l) = is_listed (more q l)
cover_on T H G xs ys j k q grows more le (is_closed d) = is_closed (closed_on T H G q.who q.interval q grows d)
cover_on T H G xs ys j k q grows more le (through {r = r} {i = i} l lt h t) = through (⊎_elim (λ a. inl (more r a)) (λ d. inr (closed_on T H G r.who r.interval r grows d)) l) (omega (arith, lt, le)) (grows i h) t

own_on : (T : Run) (u n j : ℕ) → Own T u n j → Own T u (suc n) j
own_on T u n j (own_step a lt) = own_step a (omega (arith, lt))
own_on T u n j (own_birth b) = own_birth b

own_cases : (T : Run) (u n j : ℕ) → Own T u (suc n) j → Own T u n j ⊎ (j ≡ n)
own_cases T u n j (own_step a lt) = ⊎_elim (λ e. inr e) (λ l. inl (own_step a l)) (cases_last j n lt)
own_cases T u n j (own_birth b) = inl (own_birth b)

-- u's point stays, and takes at most what is listed further
goes_on : (T : Run) (u n : ℕ) (xs ys : List Point) → point_at T u (suc n) ≡ point_at T u n → ((q : Point) → Contains xs q → Contains ys q)
    → ((q : Point) → Contains ys q → Contains xs q ⊎ (ActsAt T u n × TakesBy T n (point_at T u n) q))
    → ((q : Point) → TakesBy T n (point_at T u n) q → Covered T (Heard T u (suc n)) ys n q) → TellsTaken T u n xs → TellsTaken T u (suc n) ys
goes_on T u n xs ys same more fresh now x = record { took = took; covers = covers } where
  there : (j : ℕ) (q : Point) → TakesBy T j (point_at T u n) q → TakesBy T j (point_at T u (suc n)) q
  there j q t = let F : Point → Type 0 = λ p. TakesBy T j p q in subst F (sym same) t

  back : (j : ℕ) (q : Point) → TakesBy T j (point_at T u (suc n)) q → TakesBy T j (point_at T u n) q
  back j q t = let F : Point → Type 0 = λ p. TakesBy T j p q in subst F same t

  took : (q : Point) → Contains ys q → (j : ℕ) × Own T u (suc n) j × TakesBy T j (point_at T u (suc n)) q
  took q c = ⊎_elim (λ l. let y = x.took q l in (y.0, own_on T u n y.0 y.1, there y.0 q y.2)) (λ p. (n, own_step p.0 (omega arith), there n q p.1)) (fresh q c)

  covers : (j : ℕ) (q : Point) → Own T u (suc n) j → TakesBy T j (point_at T u (suc n)) q → Covered T (Heard T u (suc n)) ys j q
  covers j q own t =
      ⊎_elim
      (λ o. cover_on T (Heard T u n) (Heard T u (suc n)) xs ys j j q (heard_grows T u n (suc n) (omega arith)) more (omega arith) (x.covers j q o (back j q t)))
      (
      λ e.
      let F : ℕ → Type 0 = λ k. Covered T (Heard T u (suc n)) ys k q in
      let G : ℕ → Type 0 = λ k. TakesBy T k (point_at T u n) q in
      subst F (sym e) (now q (subst G e (back j q t)))
      )
      (own_cases T u n j own)

pub taken_stays : TakenStays
taken_stays T u n listed same none x = goes_on T u n listed listed same (λ q c. c) (λ q c. inl c) (λ q t. absurd (none q t)) x

set_keeps : (b : Bool) (s : Step) → IsTrue (is_set s) → move_of b s ≡ keep
set_keeps b (Set t v) p = refl
set_keeps b s p = absurd (cc)

-- a Set leaves the point where it is
set_stays : (T : Run) (u n : ℕ) → Does is_set T u n → point_at T u (suc n) ≡ point_at T u n
set_stays T u n d =
    let same : history T u (suc n) ≡ history T u n = history-suc T u n ∙ ap (λ m. moved m (history T u n)) (move_at-own T u n d.step d.stands d.by ∙ set_keeps (history T u n).stable d.step d.passes) in
    let F : Timeline → Point = λ h. record { who = u; interval = interval h; incarnation = h.last } in ap F same

-- what a point takes by a step of u is pending for u
pending_of : (T : Run) (u n : ℕ) (q : Point) → ActsAt T u n → Carried T n q → Pending T u n q
pending_of T u n q a c = let F : ℕ → Type 0 = λ t. Pending T t n q in subst F (same_some (sym c.acts ∙ a)) c.pending

pub takes_pending : (T : Run) (u n : ℕ) (p q : Point) → ActsAt T u n → TakesBy T n p q → Pending T u n q × (q ≢ p)
takes_pending T u n p q a (by_set d e c ne) = (pending_of T u n q a c, ne)
takes_pending T u n p q a (by_new b e c ne) = (pending_of T u n q a c, ne)

-- a place at which u's point takes is u's own
own_of : (T : Run) (u n i : ℕ) (q : Point) → i < n → TakesBy T i (point_at T u n) q → Own T u n i
own_of T u n i q lt (by_set {t = t} d e c ne) =
    let who : u ≡ t = ap (λ p. p.who) e in own_step (acts T u i d.step d.stands (d.by ∙ ap Some (sym who))) lt
own_of T u n i q lt (by_new {by = by} {u = w} b e c ne) =
    let who : u ≡ w = ap (λ p. p.who) e in
    let F : ℕ → Type 0 = IsNew T i by in own_birth (subst F (sym who) b)

pub later_sets_take_nothing_new : LaterSetsTakeNothingNew
later_sets_take_nothing_new T u n listed d told x = goes_on T u n listed listed (set_stays T u n d) (λ q c. c) (λ q c. inl c) now x where
  now : (q : Point) → TakesBy T n (point_at T u n) q → Covered T (Heard T u (suc n)) listed n q
  now q t =
      let p = takes_pending T u n (point_at T u n) q (acts T u n d.step d.stands d.by) t in
      let e = told q p.0 p.1 in
      cover_on T (Heard T u n) (Heard T u (suc n)) listed listed e.0 n q (heard_grows T u n (suc n) (omega arith)) (λ r c. c) (omega (arith, e.1)) (x.covers e.0 q e.2 e.3)

point_cases : (p q : Point) → (p ≡ q) ⊎ (p ≢ q)
point_cases p q = by (point_eq p q) refl where
  by : (b : Bool) → point_eq p q ≡ b → (p ≡ q) ⊎ (p ≢ q)
  by true e = inl ((point_eq-Decides p q).0 e)
  by false e = inr (λ h. let f : point_eq p q ≡ true = (point_eq-Decides p q).1 h in absurd (cc))

pub sets_take_the_roots : SetsTakeTheRoots
sets_take_the_roots T u n roots before after d tells x step = goes_on T u n before after (set_stays T u n d) (λ q c. (step q).1 (inl c)) fresh now x where
  fresh : (q : Point) → Contains after q → Contains before q ⊎ (ActsAt T u n × TakesBy T n (point_at T u n) q)
  fresh q c = ⊎_elim (λ b. inl b) (λ r. inr (acts T u n d.step d.stands d.by, by_set d refl (record { by = u; acts = acts T u n d.step d.stands d.by; pending = tells.pending q r.0 }) r.1)) ((step q).0 c)

  by_root : (q r : Point) (i : ℕ) → Contains roots r → i < n → Heard T u n i → TakesBy T i r q → (r ≡ point_at T u n) ⊎ (r ≢ point_at T u n) → Covered T (Heard T u (suc n)) after n q
  by_root q r i a lt h t (inl e) =
      let F : Point → Type 0 = λ p. TakesBy T i p q in
      let own = subst F e t in
      cover_on T (Heard T u n) (Heard T u (suc n)) before after i n q (heard_grows T u n (suc n) (omega arith)) (λ s c. (step s).1 (inl c)) (omega (arith, lt)) (x.covers i q (own_of T u n i q lt own) own)
  by_root q r i a lt h t (inr ne) = through (inl ((step r).1 (inr (a, ne)))) lt (heard_grows T u n (suc n) (omega arith) i h) t

  covered : (q : Point) → q ≢ point_at T u n → Covered T (Heard T u n) roots n q → Covered T (Heard T u (suc n)) after n q
  covered q ne (is_listed l) = is_listed ((step q).1 (inr (l, ne)))
  covered q ne (is_closed c) = is_closed (closed_on T (Heard T u n) (Heard T u (suc n)) q.who q.interval q (heard_grows T u n (suc n) (omega arith)) c)
  covered q ne (through {r = r} {i = i} l lt h t) =
      ⊎_elim (λ a. by_root q r i a lt h t (point_cases r (point_at T u n)))
      (λ c. through (inr (closed_on T (Heard T u n) (Heard T u (suc n)) r.who r.interval r (heard_grows T u n (suc n) (omega arith)) c)) lt (heard_grows T u n (suc n) (omega arith) i h) t) l

  now : (q : Point) → TakesBy T n (point_at T u n) q → Covered T (Heard T u (suc n)) after n q
  now q t =
      let p = takes_pending T u n (point_at T u n) q (acts T u n d.step d.stands d.by) t in
      covered q p.1 (tells.covers q p.0)

-- takes that are added don't reach into the range of an earlier version
taken_stays_taken : (xs more : List Point) (v : Version) → v.first ≤ v.last → v.last ≤ length xs → taken (xs ++ more) v ≡ taken xs v
taken_stays_taken xs more v ordered within =
    ap (take (v.last - v.first)) (drop-append-le v.first xs more (omega (arith, ordered, within))) ∙ take-append-le (v.last - v.first) (drop v.first xs) more (omega (arith, within, length-drop v.first xs))

last_place : (a n : ℕ) → a ≤ suc n → (a ≤ n) ⊎ (a ≡ suc n)
last_place a n le = grind (arith, le)

-- which version was the latest before the newest one
latest_before : (vs : List Version) (v w : Version) (a i : ℕ) → a < v.from → IsLatest (vs ++ v ∷ []) a i w → IsLatest vs a i w
latest_before vs v w a i early x = record {
  stands = ⊎_elim (λ f. f) (λ p. absurd (let same : v.from ≡ w.from = ap (λ z. z.from) p.1 in omega (arith, same, early, x.begun))) (slice_get-push_cases vs v w i x.stands);
  begun = x.begun;
  none_later = λ j y lt f. x.none_later j y lt (sym (slice_get-front vs v j (slice_get_within vs j y f)) ∙ f);
}

pub takes_go_on : TakesGoOn
takes_go_on T u n old new v more pushed grown from ordered fits tells x = record { within = within; told = told } where
  within : (i : ℕ) (w : Version) → slice_get new.versions i ≡ Some w → (w.first ≤ w.last) × (w.last ≤ length new.takes)
  within i w s =
      ⊎_elim (λ f. let y = x.within i w f in (y.0, omega (arith, y.1, ap length grown, length-append old.takes more)))
      (λ p. let first : v.first ≡ w.first = ap (λ z. z.first) p.1 in let last : v.last ≡ w.last = ap (λ z. z.last) p.1 in (omega (arith, first, last, ordered), omega (arith, last, fits)))
      (slice_get-push_cases old.versions v w i (ap (λ vs. slice_get vs i) (sym pushed) ∙ s))

  told : (a i : ℕ) (w : Version) → a ≤ suc n → IsLatest new.versions a i w → TellsTaken T u a (taken new.takes w)
  told a i w le latest = ⊎_elim before now (last_place a n le) where
    before : a ≤ n → TellsTaken T u a (taken new.takes w)
    before lt =
        let F : List Version → Type 0 = λ vs. IsLatest vs a i w in
        let y = latest_before old.versions v w a i (omega (arith, from, lt)) (subst F pushed latest) in
        let fits_in = x.within i w y.stands in
        let G : List Point → Type 0 = TellsTaken T u a in
        subst G (sym (ap (λ ps. taken ps w) grown ∙ taken_stays_taken old.takes more w fits_in.0 fits_in.1)) (x.told a i w lt y)

    now : a ≡ suc n → TellsTaken T u a (taken new.takes w)
    now e =
        let F : List Version → Type 0 = λ vs. IsLatest vs a i w in
        let same : v ≡ w = (latest_is_unique (old.versions ++ v ∷ []) a (length old.versions) i v w (newest_is_latest old.versions v a (omega (arith, from, e))) (subst F pushed latest)).1 in
        let G : Version → Type 0 = λ z. TellsTaken T u a (taken new.takes z) in
        let H : ℕ → Type 0 = λ k. TellsTaken T u k (taken new.takes v) in subst G same (subst H (sym e) tells)

-- a point up to one before another isn't the other
not_up : (a b c : Point) → IsUpTo a b → IsEarlier b c → c.interval ≡ a.interval → c.incarnation ≡ a.incarnation → ⊥
not_up a b c (inl x) (inl y) e f = omega (arith, x, y, e)
not_up a b c (inl x) (inr y) e f = omega (arith, x, y.0, e)
not_up a b c (inr x) (inl y) e f = omega (arith, x.0, y, e)
not_up a b c (inr x) (inr y) e f = omega (arith, x.0, x.1, y.0, y.1, f)

-- nor is it the first one of all
not_first : (b c : Point) → IsEarlier b c → c.interval ≡ 0 → c.incarnation ≡ 0 → ⊥
not_first b c (inl y) e f = omega (arith, y, e)
not_first b c (inr y) e f = omega (arith, y.1, f)

not_yet : (T : Run) (u n j : ℕ) (q : Point) → WellFormed T → IsEarlier (point_at T u n) (point_at T u (suc n)) → ((i : ℕ) → i ≤ n → IsUpTo (point_at T u i) (point_at T u n)) → Own T u (suc n) j → TakesBy T j (point_at T u (suc n)) q → ⊥
not_yet T u n j q known later grows own (by_new b e c ne) = not_first (point_at T u n) (point_at T u (suc n)) later (ap (λ p. p.interval) e) (ap (λ p. p.incarnation) e)
not_yet T u n j q known later grows (own_step a lt) (by_set {t = t} d e c ne) =
    let who : u ≡ t = ap (λ p. p.who) e in
    let F : ℕ → Type 0 = λ w. point_at T u (suc n) ≡ point_at T w j in
    let same : point_at T u (suc n) ≡ point_at T u j = subst F (sym who) e in
    not_up (point_at T u j) (point_at T u n) (point_at T u (suc n)) (grows j (omega (arith, lt))) later (ap (λ p. p.interval) same) (ap (λ p. p.incarnation) same)
not_yet T u n j q known later grows (own_birth b) (by_set {t = t} d e c ne) =
    let who : u ≡ t = ap (λ p. p.who) e in omega (arith, acts_known T u j known (acts T u j d.step d.stands (d.by ∙ ap Some (sym who))), b.made)

pub reached_points_have_taken_nothing : ReachedPointsHaveTakenNothing
reached_points_have_taken_nothing T u n known leaves =
    let grow = points_grow T u n in record { took = λ q c. absurd (Contains-none q c); covers = λ j q own t. absurd (not_yet T u n j q known (grow.leaves leaves) grow.grows own t) }
