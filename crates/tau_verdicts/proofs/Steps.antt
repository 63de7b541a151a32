-- What is noted for a step is right after it.
use Rattle.std.proofs.Common.{◌≡◌, ◌≢◌, ◌⊎◌, inl, inr, ⊎_elim, ℕ, suc, ◌<◌, Bool, true, false, IsTrue, List, [], Option, Some, None, refl, sym, ap, ◌∙◌, subst, arith}
use Rattle.std.specs.Prelude.{slice_get, Contains, IsFalse, option_and_then}
use Rattle.std.proofs.lemmas.Option.{slice_get_within, slice_get_cases}
use Rattle.std.proofs.lemmas.List.Elements.{Contains-push_cases}
use Rattle.tau_points.specs.declared.point.Point.{Point}
use Rattle.tau_points.proofs.Membership.{Contains-none, Contains-cons_cases}
use Rattle.tau_value.specs.declared.shared.Value.{Value}
use Rattle.tau_trace.specs.declared.step.Step.{Step}
use Rattle.tau_trace.specs.declared.step.Step.TheVariants.{Fall, Set, New, Checkpoint, Rollback, Trap, Fail}
use Rattle.tau_trace.specs.Steps.{actor, is_new}
use Rattle.tau_trace.specs.Run.{Run, ActsAt, Does, len, step_at, appended}
use Rattle.tau_trace.specs.Numbering.{born, IsNew}
use Rattle.tau_trace.specs.Histories.{history, IsFallingStep, by_fall, by_rollback, by_trap, by_fail}
use Rattle.tau_trace.specs.Points.{point_at, Leaves, IsUpTo}
use Rattle.tau_trace.specs.Known.{WellFormed, MayFollow, IsKnownAt}
use Rattle.tau_trace.proofs.Agreement.{agree_appended, step_at-appended, born-same, history-same}
use Rattle.tau_trace.proofs.Counted.{falls_falling, falling_falls}
use Rattle.tau_trace.proofs.Indexing.{len-appended}
use Rattle.tau_trace.proofs.Lists.{same_some}
use Rattle.tau_trace.proofs.PointLemmas.{points_grow}
use Rattle.tau_past.specs.Carried.{is_set, Pending, Carried, TakesBy, by_set, by_new, first_point}
use Rattle.tau_past.specs.Heard.{Heard}
use Rattle.tau_past.proofs.Agreement.{point-same}
use Rattle.tau_past.proofs.Known.{heard_before}
use Rattle.tau_versions.specs.Logs.Told.{Told}
use Rattle.tau_versions.specs.Logs.Takes.{Covered, TellsPending}
use Rattle.tau_versions.specs.Search.Searching.{takes_of}
use Rattle.tau_heard.specs.declared.own.Own.{Own}
use Rattle.tau_heard.specs.declared.hearing.Hearing.{Hearing}
use Rattle.tau_heard.specs.Hears.{Hears, Knows}
use Rattle.tau_heard.specs.Next.{falls_if_volatile}
use Rattle.tau_heard.specs.Turns.{taken_along}
use Rattle.tau_heard.proofs.Places.{hears_is_local}
use Rattle.tau_heard.proofs.Sending.{new_of}
use Rattle.tau_heard.proofs.Turns.{along_pending}
use Rattle.tau_verdicts.specs.Clean.{GoesOn}
use Rattle.tau_verdicts.specs.Doomed.{AreNoted, AreDoomed, cleared}
use Rattle.tau_verdicts.specs.Freedom.{LeavesAtMost}
use Rattle.tau_verdicts.specs.Kinds.{taker, faller, closer}
use Rattle.tau_verdicts.specs.Latest.{latest}
use Rattle.tau_verdicts.specs.Noting.{IsListed, AreListed, AreAdded, MayTake, AreNew}
use Rattle.tau_verdicts.specs.Spreading.{IsSpread}
use Rattle.tau_verdicts.proofs.Doomed.{more_doomed, more_takers, IsTaking, IsHandled, closed, taken, listed, taking_noted, IsLeaving, nobody, closes, falls, leaving_noted}
use Rattle.tau_verdicts.proofs.Telling.{closed_told, present_told, left_told, taken_told}

-- By a step that makes no point take others none takes.

set_taker : (x : Step) (u : ℕ) → IsTrue (is_set x) → actor x ≡ Some u → taker x ≡ Some u
set_taker (Set t v) u h a = a
set_taker x u h a = absurd (cc)

no_takes : (V : Run) (n : ℕ) (s : Step) → step_at V n ≡ Some s → None ≡ taker s → (p q : Point) → ¬ TakesBy V n p q
no_takes V n s here none p q (by_set {t = t} d e c ne) =
    let same : s ≡ d.step = same_some (sym here ∙ d.stands) in
    let clash : None ≡ Some t = none ∙ ap taker same ∙ set_taker d.step t d.passes d.by in cc
no_takes V n s here none p q (by_new {by = by} b e c ne) =
    let clash : None ≡ Some by = none ∙ ap taker (same_some (sym here ∙ b.stands)) in cc

-- Who leaves its point.

module _ (V : Run) (n : ℕ) (s : Step) (here : step_at V n ≡ Some s) where
  closing_is : (u : ℕ) → step_at V n ≡ Some (Checkpoint u) → closer s ≡ Some u
  closing_is u e = ap closer (same_some (sym here ∙ e))

  falling_is : (u : ℕ) → IsFallingStep V u n → faller s ≡ Some u
  falling_is u (by_fall {m = m} e) = ap faller (same_some (sym here ∙ e))
  falling_is u (by_rollback e) = ap faller (same_some (sym here ∙ e))
  falling_is u (by_trap e v) = ap faller (same_some (sym here ∙ e))
  falling_is u (by_fail e v) = ap faller (same_some (sym here ∙ e))

  none_leaves : None ≡ closer s → None ≡ faller s → (u : ℕ) → ¬ Leaves V u n
  none_leaves c f u (inl e) = let clash : None ≡ Some u = c ∙ closing_is u e in cc
  none_leaves c f u (inr e) = let clash : None ≡ Some u = f ∙ falling_is u (falls_falling V u n e) in cc

  closer_none : (t : ℕ) → Some t ≡ faller s → None ≡ closer s
  closer_none t e = by s e where
    by : (x : Step) → Some t ≡ faller x → None ≡ closer x
    by (Checkpoint u) f = absurd (cc)
    by x f = refl

  taker_none : (t : ℕ) → Some t ≡ taker s → (None ≡ closer s) × (None ≡ faller s)
  taker_none t e = by s e where
    by : (x : Step) → Some t ≡ taker x → (None ≡ closer x) × (None ≡ faller x)
    by (Set u v) f = (refl, refl)
    by (New u b k v) f = (refl, refl)
    by x f = absurd (cc)

  -- the point is left by a falling step, unless it is one only of a volatile transactor and this one is stable
  falls_now : (t : ℕ) → Some t ≡ faller s → (falls_if_volatile s ≡ false) ⊎ IsFalse (history V t n).stable → IsFallingStep V t n
  falls_now t e v = by s e here v where
    by : (x : Step) → Some t ≡ faller x → step_at V n ≡ Some x → (falls_if_volatile x ≡ false) ⊎ IsFalse (history V t n).stable → IsFallingStep V t n
    by (Fall u m) f h v = by_fall {m = m} (h ∙ ap (λ w. Some (Fall w m)) (sym (same_some f)))
    by (Rollback u) f h v = by_rollback (h ∙ ap (λ w. Some (Rollback w)) (sym (same_some f)))
    by (Trap u c) f h v = by_trap {c = c} (h ∙ ap (λ w. Some (Trap w c)) (sym (same_some f))) (⊎_elim (λ (z : true ≡ false). absurd (cc)) (λ z. z) v)
    by (Fail u) f h v = by_fail (h ∙ ap (λ w. Some (Fail w)) (sym (same_some f))) (⊎_elim (λ (z : true ≡ false). absurd (cc)) (λ z. z) v)
    by x f h v = absurd (cc)

  stable_stays : (t : ℕ) → Some t ≡ faller s → falls_if_volatile s ≡ true → IsTrue (history V t n).stable → (u : ℕ) → ¬ Leaves V u n
  stable_stays t e v stable u (inl c) = let clash : None ≡ Some u = closer_none t e ∙ closing_is u c in cc
  stable_stays t e v stable u (inr f) = by (falls_falling V u n f) where
    volatile : IsFallingStep V u n → IsFalse (history V u n).stable → ⊥
    volatile g h =
        let who : u ≡ t = same_some (sym (falling_is u g) ∙ sym e) in
        let F : ℕ → Type 0 = λ w. IsFalse (history V w n).stable in
        let clash : true ≡ false = sym stable ∙ subst F who h in cc

    by : IsFallingStep V u n → ⊥
    by (by_fall {m = m} g) = let clash : true ≡ false = sym v ∙ ap falls_if_volatile (same_some (sym here ∙ g)) in cc
    by (by_rollback g) = let clash : true ≡ false = sym v ∙ ap falls_if_volatile (same_some (sym here ∙ g)) in cc
    by (by_trap {c = c} g h) = volatile (by_trap {c = c} g h) h
    by (by_fail g h) = volatile (by_fail g h) h

closer_is : (x : Step) (u : ℕ) → closer x ≡ Some u → x ≡ Checkpoint u
closer_is (Checkpoint t) u e = ap Checkpoint (same_some e)
closer_is x u e = absurd (cc)

-- However the run goes on.

pub goes_before : (T : Run) (s : Step) (V : Run) → GoesOn (appended T s) (suc (len T)) V → GoesOn T (len T) V
goes_before T s V go =
    let a = agree_appended T s in
    record { known = go.known; agree = record { opening = a.opening ∙ go.agree.opening; steps = λ j lt. a.steps j lt ∙ go.agree.steps j (omega (arith, lt)) }; rules = go.rules }

pub goes_here : (T : Run) (s : Step) (V : Run) → GoesOn (appended T s) (suc (len T)) V → step_at V (len T) ≡ Some s
goes_here T s V go = sym (go.agree.steps (len T) (omega arith)) ∙ step_at-appended T s

-- what is noted is right in the run with one step more, where it is in each that goes on with the step
leads : (T : Run) (s : Step) (D : ℕ → Bool) (K : ℕ → List Point) (l : Option ℕ) → AreDoomed T (len T) D K
    → ((V : Run) → GoesOn T (len T) V → step_at V (len T) ≡ Some s → AreNoted V (len T) D K → AreNoted V (suc (len T)) (cleared l false D) (cleared l [] K))
    → AreDoomed (appended T s) (len (appended T s)) (cleared l false D) (cleared l [] K)
leads T s D K l are on =
    let F : ℕ → Type 0 = λ k. AreDoomed (appended T s) k (cleared l false D) (cleared l [] K) in
    subst F (sym (len-appended T s)) (λ V go. let before = goes_before T s V go in on V before (goes_here T s V go) (are V before))

-- Who leaves its point at most.

pub closer_leaves : (T : Run) (s : Step) → None ≡ faller s → LeavesAtMost T s (closer s)
closer_leaves T s f = λ V go here u l. by V here u l where
  by : (V : Run) → step_at V (len T) ≡ Some s → (u : ℕ) → Leaves V u (len T) → closer s ≡ Some u
  by V here u (inl c) = closing_is V (len T) s here u c
  by V here u (inr e) = absurd (let clash : None ≡ Some u = f ∙ falling_is V (len T) s here u (falls_falling V u (len T) e) in cc)

pub faller_leaves : (T : Run) (s : Step) (t : ℕ) → Some t ≡ faller s → LeavesAtMost T s (Some t)
faller_leaves T s t e = λ V go here u l. by V here u l where
  by : (V : Run) → step_at V (len T) ≡ Some s → (u : ℕ) → Leaves V u (len T) → Some t ≡ Some u
  by V here u (inl c) = absurd (let clash : None ≡ Some u = closer_none V (len T) s here t e ∙ closing_is V (len T) s here u c in cc)
  by V here u (inr f) = e ∙ falling_is V (len T) s here u (falls_falling V u (len T) f)

pub stable_leaves : (T : Run) (s : Step) (t : ℕ) → Some t ≡ faller s → falls_if_volatile s ≡ true → IsTrue (history T t (len T)).stable → LeavesAtMost T s None
stable_leaves T s t e v stable = λ V go here u l. absurd (stable_stays V (len T) s here t e v (ap (λ h. h.stable) (sym (history-same t (len T) go.agree)) ∙ stable) u l)

module _ (T : Run) (s : Step) (D : ℕ → Bool) (K : ℕ → List Point) (are : AreDoomed T (len T) D K) where
  -- a step that is neither a Set nor a New, and none that may fall
  pub quiet_leads : None ≡ taker s → None ≡ faller s → AreDoomed (appended T s) (len (appended T s)) (cleared (closer s) false D) (cleared (closer s) [] K)
  quiet_leads nobody_takes nobody_falls = leads T s D K (closer s) are (λ V go here x. leaving_noted V (len T) D K x (no_takes V (len T) s here nobody_takes) (closer s) (leaving V here)) where
    leaving : (V : Run) → step_at V (len T) ≡ Some s → IsLeaving V (len T) D (closer s)
    leaving V here = by (closer s) refl where
      by : (o : Option ℕ) → closer s ≡ o → IsLeaving V (len T) D o
      by None e = nobody (none_leaves V (len T) s here (sym e) nobody_falls)
      by (Some u) e = closes (here ∙ ap Some (closer_is s u e))

  -- a falling step of a doomed transactor
  pub fall_leads : (t : ℕ) → Some t ≡ faller s → None ≡ taker s → IsTrue (D t) → (falls_if_volatile s ≡ false) ⊎ IsFalse (history T t (len T)).stable
      → AreDoomed (appended T s) (len (appended T s)) (cleared (Some t) false D) (cleared (Some t) [] K)
  fall_leads t is nobody_takes doomed v = leads T s D K (Some t) are (λ V go here x.
      let stable : (falls_if_volatile s ≡ false) ⊎ IsFalse (history V t (len T)).stable = ⊎_elim (λ a. inl a) (λ b. inr (ap (λ h. h.stable) (sym (history-same t (len T) go.agree)) ∙ b)) v in
      leaving_noted V (len T) D K x (no_takes V (len T) s here nobody_takes) (Some t) (falls (falling_falls V t (len T) (falls_now V (len T) s here t is stable)) doomed))

  -- a Trap or a Fail of a stable transactor
  pub stable_leads : (t : ℕ) → Some t ≡ faller s → None ≡ taker s → falls_if_volatile s ≡ true → IsTrue (history T t (len T)).stable → AreDoomed (appended T s) (len (appended T s)) D K
  stable_leads t is nobody_takes v stable = leads T s D K None are (λ V go here x.
      leaving_noted V (len T) D K x (no_takes V (len T) s here nobody_takes) None
      (nobody (stable_stays V (len T) s here t is v (ap (λ h. h.stable) (sym (history-same t (len T) go.agree)) ∙ stable))))

-- the step of a transactor that may fall makes no point take others
pub faller_takes_none : (s : Step) (t : ℕ) → Some t ≡ faller s → None ≡ taker s
faller_takes_none (Set u v) t e = absurd (cc)
faller_takes_none (New u b n v) t e = absurd (cc)
faller_takes_none s t e = refl

-- What is kept, in runs that go on.

module _ (T : Run) (h : Hearing) (knows : Knows h T) (w : WellFormed T) (D : ℕ → Bool) (K : ℕ → List Point) (are : AreDoomed T (len T) D K) where
  abbrev logs : List Told
  logs = h.logs.items

  -- more is doomed
  pub spread_doomed : (who : ℕ) (E : ℕ → Bool) → IsSpread logs K who D E → AreDoomed T (len T) E K
  spread_doomed who E s = λ V go. by V go (are V go) where
    by : (V : Run) → GoesOn T (len T) V → AreNoted V (len T) D K → AreNoted V (len T) E K
    by V go x = more_doomed V (len T) D K x E s.kept spread where
      hears : Hears V (len T) h.logs.items h.own.items h.letters.items h.falls
      hears = hears_is_local T V (len T) h.logs.items h.own.items h.letters.items h.falls w go.known go.agree knows

      spread : (u : ℕ) (p : Point) → IsTrue (E u) → Contains (K u) p → p ≡ point_at V p.who (len T) → IsTrue (E p.who)
      spread u p e c here = ⊎_elim (λ old. s.kept p.who (x.spread u p old c here))
          (λ y. ⊎_elim (λ l. absurd (left_told V (len T) h.logs.items h.own.items h.letters.items h.falls hears go.known w.few_steps p l here)) (λ d. d) y)
          (s.passed u p e c (omega (arith, x.exist u p c, hears.logs_are.count)))

  -- a taker is added
  pub added_doomed : (p : Point) (M : ℕ → List Point) → MayTake T p → AreAdded D p K M → AreDoomed T (len T) D M
  added_doomed p M may a = λ V go.
      let F : Point → Type 0 = IsUpTo p in
      more_takers V (len T) D K (are V go) M p a (omega (arith, may.exists, born-same (len T) go.agree)) (subst F (point-same p.who (len T) go.agree) may.reached)

-- what a turn takes along is its own point, or a root, where it hasn't depended
along_cases : (touched depended : Bool) (me : Point) (roots : List Point) (q : Point) → Contains (taken_along touched depended me roots) q → (q ≡ me) ⊎ (depended ≡ false) × Contains roots q
along_cases touched true me roots q c = ⊎_elim (λ e. inl e) (λ n. absurd (Contains-none q n)) (Contains-cons_cases me [] q c)
along_cases true false me roots q c = ⊎_elim (λ r. inr (refl, r)) (λ (e : me ≡ q). inl (sym e)) (Contains-push_cases roots me q c)
along_cases false false me roots q c = inr (refl, c)

module _ (T : Run) (s : Step) (t : ℕ) (by : actor s ≡ Some t) (h : Hearing) (knows : Knows h T) (w : WellFormed T) (D : ℕ → Bool) (K : ℕ → List Point) (are : AreDoomed T (len T) D K) (x : Own) (kept : slice_get h.own.items t ≡ Some x) (me : Point) (is : me ≡ point_at T t (len T)) where
  abbrev along : List Point
  along = taken_along x.touched x.depended me x.roots

  module _ (V : Run) (go : GoesOn T (len T) V) (here : step_at V (len T) ≡ Some s) where
    hears : Hears V (len T) h.logs.items h.own.items h.letters.items h.falls
    hears = hears_is_local T V (len T) h.logs.items h.own.items h.letters.items h.falls w go.known go.agree knows

    mine : me ≡ point_at V t (len T)
    mine = is ∙ point-same t (len T) go.agree

    exists : t < born V (len T)
    exists = omega (arith, slice_get_within h.own.items t x kept, hears.transactors)

    acts_now : ActsAt V t (len T)
    acts_now = ap (option_and_then actor) here ∙ by

    pending : TellsPending V t (len T) along
    pending = let F : Point → Type 0 = λ p. TellsPending V t (len T) (taken_along x.touched x.depended p x.roots) in
        subst F (sym mine) (along_pending V t (len T) x.roots x.touched x.depended (hears.each t x kept).turn)

    carried : (q : Point) → Contains along q → Carried V (len T) q
    carried q c = record { by = t; acts = acts_now; pending = pending.pending q c }

    covered : (q : Point) → Carried V (len T) q → Covered V (Heard V t (len T)) along (len T) q
    covered q c = pending.covers q (let F : ℕ → Type 0 = λ u. Pending V u (len T) q in subst F (same_some (sym c.acts ∙ acts_now)) c.pending)

    stays : Some t ≡ taker s → (u : ℕ) → point_at V u (suc (len T)) ≡ point_at V u (len T)
    stays e u = let k = taker_none V (len T) s here t e in (points_grow V u (len T)).stays (none_leaves V (len T) s here k.0 k.1 u)

    handled_listed : (p q : Point) → IsListed h.logs.items K p q → IsHandled V (len T) K p q
    handled_listed p q (inl e) = closed (closed_told V (len T) h.logs.items h.own.items h.letters.items h.falls hears go.known w.few_steps q e)
    handled_listed p q (inr l) = listed (present_told V (len T) h.logs.items h.own.items h.letters.items h.falls hears go.known w.few_steps q l.0) l.1

    -- By a Set.

    module _ (set : IsTrue (is_set s)) where
      sets : Does is_set V t (len T)
      sets = record { step = s; stands = here; by = by; passes = set }

      set_taking : IsTaking V (len T) me (Heard V t (len T)) along
      set_taking = record {
        taker = λ a q b. takers a q b;
        takes_listed = λ q c ne. by_set sets mine (carried q c) ne;
        before = λ i k. heard_before V t (len T) i go.known exists k;
      } where
        takers : (a q : Point) → TakesBy V (len T) a q → (a ≡ me) × Covered V (Heard V t (len T)) along (len T) q
        takers a q (by_set {t = u} d e c ne) =
            let who : u ≡ t = same_some (sym d.by ∙ ap actor (same_some (sym d.stands ∙ here)) ∙ by) in
            let F : ℕ → Type 0 = λ v. a ≡ point_at V v (len T) in (subst F who e ∙ sym mine, covered q c)
        takers a q (by_new {by = u} b e c ne) =
            let clash : true ≡ false = sym set ∙ ap is_set (same_some (sym here ∙ b.stands)) in absurd (cc)

      set_handled : (points : List Point) → AreNew x me (takes_of h.logs.items (latest h.logs.items) t) points → AreListed h.logs.items K me points → (q : Point) → Contains along q → q ≢ me → IsHandled V (len T) K me q
      set_handled points new all q c ne = ⊎_elim (λ e. absurd (ne e)) (λ k. of_root k.0 k.1) (along_cases x.touched x.depended me x.roots q c) where
        of_taken : (i : ℕ) × (i < len T) × TakesBy V i (point_at V t (len T)) q → IsHandled V (len T) K me q
        of_taken k = taken {i = k.0} k.1 (let F : Point → Type 0 = λ y. TakesBy V k.0 y q in subst F (sym mine) k.2)

        of_root : x.depended ≡ false → Contains x.roots q → IsHandled V (len T) K me q
        of_root apart r = ⊎_elim (λ d. absurd (let clash : true ≡ false = sym d ∙ apart in cc))
            (λ f. ⊎_elim (λ old. of_taken (taken_told V (len T) h.logs.items h.own.items h.letters.items h.falls hears go.known w.few_steps t q old)) (λ k. handled_listed me q (all q k)) (f.all q r ne))
            new

    -- By a New.

    module _ (behaviour node : ℕ) (v : Value) (new : s ≡ New t behaviour node v) where
      made : IsNew V (len T) t (born V (len T))
      made = record { behaviour = behaviour; node = node; state = v; stands = here ∙ ap Some new; made = refl }

      new_taking : IsTaking V (len T) (first_point (born V (len T))) (Heard V t (len T)) along
      new_taking = record {
        taker = λ a q b. takers a q b;
        takes_listed = λ q c ne. by_new made refl (carried q c) ne;
        before = λ i k. heard_before V t (len T) i go.known exists k;
      } where
        takers : (a q : Point) → TakesBy V (len T) a q → (a ≡ first_point (born V (len T))) × Covered V (Heard V t (len T)) along (len T) q
        takers a q (by_new {u = u} b e c ne) = (e ∙ ap first_point b.made, covered q c)
        takers a q (by_set {t = u} d e c ne) =
            let clash : true ≡ false = sym d.passes ∙ ap is_set (same_some (sym d.stands ∙ here) ∙ new) in absurd (cc)

  -- a Set, where the own point is doomed, or what it takes newly is listed
  pub set_leads : IsTrue (is_set s) → (points : List Point) → AreNew x me (takes_of h.logs.items (latest h.logs.items) t) points → IsTrue (D t) ⊎ AreListed h.logs.items K me points → AreDoomed (appended T s) (len (appended T s)) D K
  set_leads set points new noted = leads T s D K None are (λ V go here y.
      let F : ℕ → Type 0 = λ u. IsTrue (D u) in
      taking_noted V (len T) D K y (stays V go here (sym (set_taker s t set by))) me (Heard V t (len T)) along (set_taking V go here set)
      (⊎_elim (λ d. inl (subst F (sym (ap (λ p. p.who) is)) d)) (λ all. inr (set_handled V go here set points new all)) noted))

  -- a New, where the first point of the new transactor is doomed, or what it takes is listed
  pub new_leads : IsTrue (is_new s) → (b : ℕ) → b ≡ born T (len T) → IsTrue (D b) ⊎ AreListed h.logs.items K (first_point b) along → AreDoomed (appended T s) (len (appended T s)) D K
  new_leads made_new b born_is noted = leads T s D K None are (λ V go here y.
      let k = new_of s t made_new by in
      let same : born V (len T) ≡ b = sym (born-same (len T) go.agree) ∙ sym born_is in
      let F : ℕ → Type 0 = λ u. IsTrue (D u) ⊎ AreListed h.logs.items K (first_point u) along in
      let noted_there = subst F (sym same) noted in
      taking_noted V (len T) D K y (stays V go here (sym (ap taker k.3))) (first_point (born V (len T))) (Heard V t (len T)) along (new_taking V go here k.0 k.1 k.2 k.3)
      (⊎_elim (λ d. inl d) (λ all. inr (λ q c ne. handled_listed V go here (first_point (born V (len T))) q (all q c))) noted_there))

-- The same, where the transactor is only known to exist.
pub set_leads_on : (T : Run) (s : Step) (t : ℕ) → actor s ≡ Some t → (h : Hearing) → Knows h T → WellFormed T → (D : ℕ → Bool) (K : ℕ → List Point) → AreDoomed T (len T) D K → t < born T (len T) → (me : Point) → me ≡ point_at T t (len T)
    → IsTrue (is_set s) → (points : List Point) → ((x : Own) → slice_get h.own.items t ≡ Some x → AreNew x me (takes_of h.logs.items (latest h.logs.items) t) points) → IsTrue (D t) ⊎ AreListed h.logs.items K me points → AreDoomed (appended T s) (len (appended T s)) D K
set_leads_on T s t by h knows w D K are lt me is set points new noted = set_leads T s t by h knows w D K are there.0 there.1 me is set points (new there.0 there.1) noted where
  there : (x : Own) × (slice_get h.own.items t ≡ Some x)
  there = ⊎_elim (λ x. (x.0, x.2)) (λ p. absurd (omega (arith, p.0, knows.transactors, lt))) (slice_get_cases h.own.items t).1

pub faller_exists : (T : Run) (s : Step) (t : ℕ) → MayFollow T s → Some t ≡ faller s → t < born T (len T)
faller_exists T s t follows is = by s is follows.known where
  by : (x : Step) → Some t ≡ faller x → IsKnownAt T (len T) x → t < born T (len T)
  by (Fall u m) e k = let F : ℕ → Type 0 = λ w. w < born T (len T) in subst F (sym (same_some e)) k.0
  by (Rollback u) e k = let F : ℕ → Type 0 = λ w. w < born T (len T) in subst F (sym (same_some e)) k
  by (Trap u c) e k = let F : ℕ → Type 0 = λ w. w < born T (len T) in subst F (sym (same_some e)) k.0
  by (Fail u) e k = let F : ℕ → Type 0 = λ w. w < born T (len T) in subst F (sym (same_some e)) k
  by x e k = absurd (cc)
