-- The points to which transactors came, and what a search pushes.
use Rattle.std.proofs.Common.{◌≡◌, ◌⊎◌, ◌↔◌, inl, inr, ⊎_elim, ℕ, ◌+◌, ◌-◌, ◌^◌, ◌<◌, ◌≤◌, Bool, true, false, List, [], ◌∷◌, ◌++◌, length, get_or, Option, Some, None, refl, sym, ap, ◌∙◌, subst, arith, length-append}
use Rattle.std.specs.Prelude.{Contains, slice_get, is_some, option_and_then, if◌then◌else◌}
use Rattle.std.proofs.lemmas.Bool.{cases_lt}
use Rattle.std.proofs.lemmas.List.Elements.{Contains-append_left, Contains-push, Contains-push_cases}
use Rattle.std.proofs.lemmas.Option.{slice_get_within, slice_get-get_or}
use Rattle.tau_history.specs.Timeline.{numbers, interval}
use Rattle.tau_points.specs.declared.point.Point.{Point}
use Rattle.tau_points.specs.Members.{AddsAll}
use Rattle.tau_points.proofs.PointOrder.{point_eq, point_eq-Decides}
use Rattle.tau_explain.specs.Chains.Inner.Incoming.{PushesIncoming}
use Rattle.tau_trace.specs.declared.step.Step.TheVariants.{New, Checkpoint}
use Rattle.tau_trace.specs.declared.step.Step.{Step}
use Rattle.tau_trace.specs.Steps.{actor}
use Rattle.tau_trace.specs.Run.{Run, len, step_at, ActsAt}
use Rattle.tau_trace.specs.Numbering.{born}
use Rattle.tau_trace.specs.Histories.{history, Closes}
use Rattle.tau_trace.specs.Points.{point_at}
use Rattle.tau_trace.specs.Known.{WellFormed}
use Rattle.tau_trace.proofs.Agreement.{born-grows}
use Rattle.tau_trace.proofs.Counted.{history_goes}
use Rattle.tau_trace.proofs.Fates as fates
use Rattle.tau_trace.proofs.Lists.{same_some}
use Rattle.tau_trace.proofs.Quiet.{acts}
use Rattle.tau_past.specs.Audits.{ChecksAt}
use Rattle.tau_past.specs.Carried.{Carried, TakesBy, by_set, by_new, first_point}
use Rattle.tau_past.specs.Tables.{TakesAt, same_point}
use Rattle.tau_past.specs.Tables as tables
use Rattle.tau_past.proofs.Known.{acts_known}
use Rattle.tau_past.proofs.NextTables.{interval_small}
use Rattle.tau_explain.specs.Links.Links.{Makes, takes, closes}
use Rattle.tau_explain.specs.Links.Marks.{IsMarked}
use Rattle.tau_explain.specs.Links.Inner.Dependents.{CameTo, IsLinked, Takes, HasPassed, TellsCheckpoint, AddsTakers, IsBelowNumber, IsUpToNumber, IsAbove}

came_of : (T : Run) (p : Point) → fates.IsReached p.interval p.incarnation (history T p.who (len T)) → CameTo T p
came_of T p r =
    let h = history T p.who (len T) in
    record { number = get_or (numbers h) p.interval 0; has = slice_get-get_or (numbers h) p.interval 0 (omega (arith, r.within, length-append h.closed (h.last ∷ []))); reached = r.number }

-- a point at which a transactor was
pub came_at : (T : Run) (p : Point) (j : ℕ) → p ≡ point_at T p.who j → j ≤ len T → CameTo T p
came_at T p j e le = came_of T p
    (fates.kept (history_goes T p.who) (fates.IsReached p.interval p.incarnation) (fates.reached-keeps p.interval p.incarnation) j (len T) le
    (fates.reached-own p.interval p.incarnation (history T p.who j) (record { interval_is = ap (λ (z : Point). z.interval) e; incarnation_is = ap (λ (z : Point). z.incarnation) e })))

pub came_by : (T : Run) (p : Point) (t j : ℕ) → p ≡ point_at T t j → j ≤ len T → CameTo T p
came_by T p t j e le = let who : t ≡ p.who = sym (ap (λ (z : Point). z.who) e) in came_at T p j (subst (λ u. p ≡ point_at T u j) who e) le

came_first : (T : Run) (p : Point) (u : ℕ) → p ≡ first_point u → CameTo T p
came_first T p u e =
    let i : p.interval ≡ 0 = ap (λ (z : Point). z.interval) e in
    let n : p.incarnation ≡ 0 = ap (λ (z : Point). z.incarnation) e in
    came_of T p (record { within = omega (arith, i); number = omega (arith, n) })

pub takes_within : (T : Run) (p : Point) (j : ℕ) → TakesAt T p j → j < len T
takes_within T p j (tables.by_set d e) = slice_get_within T.steps j d.step d.stands
takes_within T p j (tables.by_new {by = t} n e) = slice_get_within T.steps j (New t n.behaviour n.node n.state) n.stands

pub takes_came : (T : Run) (p : Point) (j : ℕ) → TakesAt T p j → CameTo T p
takes_came T p j (tables.by_set {t = t} d e) = came_by T p t j e (let lt = slice_get_within T.steps j d.step d.stands in omega (arith, lt))
takes_came T p j (tables.by_new {u = u} n e) = came_first T p u e

-- taking
pub taken_by : (T : Run) (p q : Point) (j : ℕ) → TakesAt T p j → Carried T j q → (q ≡ p → ⊥) → TakesBy T j p q
taken_by T p q j (tables.by_set d e) c ne = by_set d e c ne
taken_by T p q j (tables.by_new n e) c ne = by_new n e c ne

pub takes_of : (T : Run) (p q : Point) (j : ℕ) → TakesBy T j p q → TakesAt T p j × Carried T j q
takes_of T p q j (by_set d e c ne) = (tables.by_set d e, c)
takes_of T p q j (by_new n e c ne) = (tables.by_new n e, c)

pub acts_within : (T : Run) (j t : ℕ) → ActsAt T t j → j < len T
acts_within T j t a = by (step_at T j) refl a where
  by : (o : Option Step) → step_at T j ≡ o → option_and_then actor o ≡ Some t → j < len T
  by None e f = absurd (cc)
  by (Some s) e f = slice_get_within T.steps j s e

pub carried_within : (T : Run) (j : ℕ) (q : Point) → Carried T j q → j < len T
carried_within T j q c = acts_within T j c.by c.acts

pub makes_within : (T : Run) (j : ℕ) (p q : Point) → Makes T j p q → j < len T
makes_within T j p q (takes t) = takes_within T p j (takes_of T p q j t).0
makes_within T j p q (closes c e i) = slice_get_within T.steps j (Checkpoint p.who) c

-- what takes q by a step is q, or the step makes a link to q
pub taker_makes : (T : Run) (p q : Point) (j : ℕ) → TakesAt T p j → Carried T j q → (p ≡ q) ⊎ Makes T j p q
taker_makes T p q j t c = by (point_eq p q) refl where
  by : (b : Bool) → point_eq p q ≡ b → (p ≡ q) ⊎ Makes T j p q
  by true e = inl ((point_eq-Decides p q).0 e)
  by false e = inr (takes (taken_by T p q j t c (λ s. let f = sym e ∙ (point_eq-Decides p q).1 (sym s) in cc)))

pub taker_linked : (T : Run) (marks : List Bool) (p q : Point) (j : ℕ) → Takes T marks p j → Carried T j q → (p ≡ q) ⊎ IsLinked T marks p q
taker_linked T marks p q j t c = ⊎_elim (λ e. inl e) (λ m. inr (record { came = takes_came T p j t.takes; place = j; marked = t.marked; makes = m })) (taker_makes T p q j t.takes c)

-- the Checkpoint at q closed the interval before p's
above_linked : (T : Run) (marks : List Bool) (p q : Point) → IsAbove T marks q p → IsLinked T marks p q
above_linked T marks p q a =
    let who : a.checks.by ≡ p.who = sym (ap (λ (z : Point). z.who) a.checks.at_point) ∙ sym a.who_is in
    record {
      came = a.came;
      place = a.place;
      marked = a.marked;
      makes = closes (subst (λ u. Closes T u a.place) who a.checks.closes) (subst (λ u. q ≡ point_at T u a.place) who a.checks.at_point) a.interval_is;
    }

module _ (T : Run) (marks : List Bool) (q : Point) (passed0 passed : List Bool) (into0 into1 into2 : List Point) (adds : AddsTakers T marks q passed0 passed into0 into1) (above : AddsAll (IsAbove T marks q) into1 into2) where
  found_by : (p : Point) (l : IsLinked T marks p q) → Makes T l.place p q → Contains into2 p ⊎ HasPassed T marks passed0 p
  found_by p l (takes t) =
      let parts = takes_of T p q l.place t in
      let taking : Takes T marks p l.place = record { marked = l.marked; takes = parts.0 } in
      ⊎_elim (λ h. inl ((above p).1 (inl h))) (λ m. inr (record { place = l.place; gone_through = m; takes = taking })) (adds.takers p l.place (adds.all l.place parts.1) taking)
  found_by p l (closes c e i) = inl ((above p).1 (inr (record {
    place = l.place;
    marked = l.marked;
    checks = record { by = p.who; closes = c; at_point = e };
    who_is = sym (ap (λ (z : Point). z.who) e);
    interval_is = i;
    came = l.came;
  })))

  pub pushes : PushesIncoming (IsLinked T marks) (IsLinked T marks) (HasPassed T marks passed0) (HasPassed T marks passed) q into0 into2
  pushes = record {
    same = λ p r. (λ l. l, λ l. l);
    allowed = λ p h. ⊎_elim (λ i. ⊎_elim (λ o. inl o) (λ t. inr (taker_linked T marks p q t.0 t.1 t.2)) (adds.allowed p i)) (λ a. inr (inr (above_linked T marks p q a))) ((above p).0 h);
    found = λ p l. found_by p l l.makes;
    passed = λ p h. ⊎_elim (λ i. inl ((above p).1 (inl i))) (λ m. inr (record { place = h.place; gone_through = m; takes = h.takes })) (adds.takers p h.place h.gone_through h.takes);
  }

-- points of the next interval

pub adds_none : (P : Point → Type 0) (into : List Point) → ((p : Point) → ¬ P p) → AddsAll P into into
adds_none P into none p = (λ h. inl h, λ c. ⊎_elim (λ h. h) (λ h. absurd (none p h)) c)

pub none_above : (T : Run) (marks : List Bool) (q : Point) (o : Option ℕ) → o ≡ None → TellsCheckpoint T marks q o → (p : Point) → ¬ IsAbove T marks q p
none_above T marks q None e told p a = told a.place a.marked a.checks
none_above T marks q (Some j) e told p a = cc

at_interval : (T : Run) (p q : Point) (i : ℕ) → p.who ≡ q.who → p.interval ≡ i → slice_get (numbers (history T p.who (len T))) p.interval ≡ slice_get (numbers (history T q.who (len T))) i
at_interval T p q i who is = ap (λ u. slice_get (numbers (history T u (len T))) p.interval) who ∙ ap (slice_get (numbers (history T q.who (len T)))) is

pub above_up_to : (T : Run) (marks : List Bool) (q : Point) (j number : ℕ) (into0 into : List Point) → IsMarked marks j → ChecksAt T j q → Some number ≡ slice_get (numbers (history T q.who (len T))) (q.interval + 1) → AddsAll (IsUpToNumber q.who (q.interval + 1) number) into0 into
    → AddsAll (IsAbove T marks q) into0 into
above_up_to T marks q j number into0 into marked checks e adds p = (
  λ h. ⊎_elim (λ o. inl o) (λ u. inr (record {
    place = j;
    marked = marked;
    checks = checks;
    who_is = u.0;
    interval_is = omega (arith, u.1);
    came = record { number = number; has = at_interval T p q (q.interval + 1) u.0 u.1 ∙ sym e; reached = u.2 };
  })) ((adds p).0 h),
  λ c. (adds p).1 (⊎_elim (λ o. inl o) (λ a.
      let i : p.interval ≡ q.interval + 1 = omega (arith, a.interval_is) in
      let same : a.came.number ≡ number = same_some (sym a.came.has ∙ at_interval T p q (q.interval + 1) a.who_is i ∙ sym e) in
      inr (a.who_is, i, subst (λ n. p.incarnation ≤ n) same a.came.reached)) c),
)

-- who made a Checkpoint exists, and its interval is small
pub checks_who : (T : Run) (j : ℕ) (q : Point) → ChecksAt T j q → Closes T q.who j × (q ≡ point_at T q.who j)
checks_who T j q c = let who : c.by ≡ q.who = sym (ap (λ (z : Point). z.who) c.at_point) in (subst (λ u. Closes T u j) who c.closes, subst (λ u. q ≡ point_at T u j) who c.at_point)

pub checks_born : (T : Run) (j : ℕ) (q : Point) → WellFormed T → ChecksAt T j q → q.who < born T (len T)
checks_born T j q w c =
    let by = checks_who T j q c in
    let lt = slice_get_within T.steps j (Checkpoint q.who) by.0 in
    omega (arith, acts_known T q.who j w (acts T q.who j (Checkpoint q.who) by.0 refl), born-grows T j (len T) (omega (arith, lt)))

pub checks_interval : (T : Run) (j : ℕ) (q : Point) → WellFormed T → ChecksAt T j q → q.interval < 2 ^ 32 - 1
checks_interval T j q w c =
    let by = checks_who T j q c in
    let lt = slice_get_within T.steps j (Checkpoint q.who) by.0 in
    omega (arith, interval_small T q.who j (history T q.who j) w lt refl, ap (λ (z : Point). z.interval) by.1)

pub told_some : (T : Run) (marks : List Bool) (q : Point) (o : Option ℕ) → is_some o ≡ true → TellsCheckpoint T marks q o → (j : ℕ) × IsMarked marks j × ChecksAt T j q
told_some T marks q None e told = absurd (cc)
told_some T marks q (Some j) e told = (j, told.0, told.1)

pub none_of : (o : Option ℕ) → is_some o ≡ false → o ≡ None
none_of None e = refl
none_of (Some j) e = cc

-- incarnations one after the other

pub below_none : (who interval : ℕ) (into : List Point) → AddsAll (IsBelowNumber who interval 0) into into
below_none who interval into = adds_none (IsBelowNumber who interval 0) into (λ p b. omega (arith, b.2))

same_parts : (p : Point) (who interval n : ℕ) → p.who ≡ who → p.interval ≡ interval → p.incarnation ≡ n → p ≡ record { who = who; interval = interval; incarnation = n }
same_parts p who interval n a b c = λ i. record { who = a i; interval = b i; incarnation = c i }

pub below_more : (who interval n : ℕ) (x : Point) (into0 into1 into2 : List Point) → x ≡ record { who = who; interval = interval; incarnation = n } → into2 ≡ into1 ++ x ∷ [] → AddsAll (IsBelowNumber who interval n) into0 into1 → AddsAll (IsBelowNumber who interval (n + 1)) into0 into2
below_more who interval n x into0 into1 into2 is e adds p = (
  λ h. ⊎_elim (λ i. ⊎_elim (λ o. inl o) (λ b. inr (b.0, b.1, omega (arith, b.2))) ((adds p).0 i))
      (λ (f : x ≡ p). let g : p ≡ record { who = who; interval = interval; incarnation = n } = sym f ∙ is in inr (ap (λ (z : Point). z.who) g, ap (λ (z : Point). z.interval) g, omega (arith, ap (λ (z : Point). z.incarnation) g)))
      (Contains-push_cases into1 x p (subst (λ (l : List Point). Contains l p) e h)),
  λ c. subst (λ (l : List Point). Contains l p) (sym e) (⊎_elim (λ o. Contains-append_left into1 (x ∷ []) p ((adds p).1 (inl o)))
      (λ b. ⊎_elim (λ lt. Contains-append_left into1 (x ∷ []) p ((adds p).1 (inr (b.0, b.1, lt))))
      (λ le. let m : p.incarnation ≡ n = omega (arith, le, b.2) in subst (Contains (into1 ++ x ∷ [])) (is ∙ sym (same_parts p who interval n b.0 b.1 m)) (Contains-push into1 x))
      (cases_lt p.incarnation n)) c),
)

pub up_to_below : (who interval n : ℕ) (into0 into : List Point) → AddsAll (IsBelowNumber who interval (n + 1)) into0 into → AddsAll (IsUpToNumber who interval n) into0 into
up_to_below who interval n into0 into adds p = (
  λ h. ⊎_elim (λ o. inl o) (λ b. inr (b.0, b.1, omega (arith, b.2))) ((adds p).0 h),
  λ c. (adds p).1 (⊎_elim (λ o. inl o) (λ u. inr (u.0, u.1, omega (arith, u.2))) c),
)

-- the Checkpoints at places below n

abbrev pub TellsBelow : Run → List Bool → ℕ → Point → Option ℕ → Type 0
TellsBelow T marks n q None = (j : ℕ) → j < n → IsMarked marks j → ¬ ChecksAt T j q
TellsBelow T marks n q (Some j) = IsMarked marks j × ChecksAt T j q

-- nothing is put at place n
pub tells_pass : (T : Run) (marks : List Bool) (n : ℕ) (q : Point) (o : Option ℕ) → (IsMarked marks n → ¬ ChecksAt T n q) → TellsBelow T marks n q o → TellsBelow T marks (n + 1) q o
tells_pass T marks n q None none told = λ j lt m c. ⊎_elim (λ l. told j l m c) (λ le. let e : j ≡ n = omega (arith, lt, le) in none (subst (IsMarked marks) e m) (subst (λ i. ChecksAt T i q) e c)) (cases_lt j n)
tells_pass T marks n q (Some j) none told = told

pub tells_put : (T : Run) (marks : List Bool) (n : ℕ) (x q : Point) (o o2 : Option ℕ) → IsMarked marks n → ((p : Point) → ChecksAt T n p ↔ (Some x ≡ Some p)) → o2 ≡ (if same_point x q then Some n else o) → TellsBelow T marks n q o → TellsBelow T marks (n + 1) q o2
tells_put T marks n x q o o2 m checks puts told = by (same_point x q) refl where
  by : (b : Bool) → same_point x q ≡ b → TellsBelow T marks (n + 1) q o2
  by true f =
      let same : x ≡ q = (point_eq-Decides x q).0 f in
      let is : Some n ≡ o2 = sym (puts ∙ ap (λ (b : Bool). if b then Some n else o) f) in
      subst (TellsBelow T marks (n + 1) q) is (m, (checks q).1 (ap (λ (z : Point). Some z) same))
  by false f =
      let is : o ≡ o2 = sym (puts ∙ ap (λ (b : Bool). if b then Some n else o) f) in
      subst (TellsBelow T marks (n + 1) q) is (tells_pass T marks n q o (λ h c. let same : x ≡ q = same_some ((checks q).0 c) in let g = sym f ∙ (point_eq-Decides x q).1 same in cc) told)

pub tells_all : (T : Run) (marks : List Bool) (n : ℕ) (q : Point) (o : Option ℕ) → length marks ≤ n → TellsBelow T marks n q o → TellsCheckpoint T marks q o
tells_all T marks n q None le told = λ j m. told j (let lt = slice_get_within marks j true m in omega (arith, lt, le)) m
tells_all T marks n q (Some j) le told = told

-- who takes by the step at a place
pub taker_pushed : (T : Run) (marks : List Bool) (place : ℕ) (x : Point) (o : Option Point) (into0 into : List Point) → ((p : Point) → TakesAt T p place ↔ (o ≡ Some p)) → o ≡ Some x → IsMarked marks place → into ≡ into0 ++ x ∷ [] → AddsAll (λ p. Takes T marks p place) into0 into
taker_pushed T marks place x o into0 into told is marked e p = (
  λ h. ⊎_elim (λ i. inl i) (λ (f : x ≡ p). inr (record { marked = marked; takes = (told p).1 (is ∙ ap (λ (z : Point). Some z) f) })) (Contains-push_cases into0 x p (subst (λ (l : List Point). Contains l p) e h)),
  λ c. subst (λ (l : List Point). Contains l p) (sym e) (⊎_elim (λ i. Contains-append_left into0 (x ∷ []) p i) (λ t. let same : x ≡ p = same_some (sym is ∙ (told p).0 t.takes) in subst (Contains (into0 ++ x ∷ [])) same (Contains-push into0 x)) c),
)

pub no_taker : (T : Run) (marks : List Bool) (place : ℕ) (o : Option Point) (into : List Point) → ((p : Point) → TakesAt T p place ↔ (o ≡ Some p)) → o ≡ None → AddsAll (λ p. Takes T marks p place) into into
no_taker T marks place o into told is = adds_none (λ p. Takes T marks p place) into (λ p t. let f = sym is ∙ (told p).0 t.takes in cc)

pub not_marked : (T : Run) (marks : List Bool) (place : ℕ) (into : List Point) → ¬ IsMarked marks place → AddsAll (λ p. Takes T marks p place) into into
not_marked T marks place into n = adds_none (λ p. Takes T marks p place) into (λ p t. n t.marked)

pub marked_read : (marks : List Bool) (k : ℕ) (d : Bool) → k < length marks → get_or marks k d ≡ true → IsMarked marks k
marked_read marks k d lt e = slice_get-get_or marks k d lt ∙ ap (λ (b : Bool). Some b) e

pub unmarked_read : (marks : List Bool) (k : ℕ) (d : Bool) → k < length marks → get_or marks k d ≡ false → ¬ IsMarked marks k
unmarked_read marks k d lt e m = let f = sym m ∙ slice_get-get_or marks k d lt ∙ ap (λ (b : Bool). Some b) e in cc
