-- The courses of lanes, step by step.
use Rattle.std.proofs.Common.{◌≡◌, ◌⊎◌, ◌↔◌, inl, inr, ⊎_elim, ℕ, zero, suc, ◌+◌, ◌<◌, List, [], ◌∷◌, ◌++◌, get_or, length, Option, Some, None, refl, sym, ap, ◌∙◌, subst, arith, length-append}
use Rattle.std.specs.Prelude.{IsTrue, slice_get, option_and_then}
use Rattle.std.specs.declared.alloc.Global.{Global}
use Rattle.std.specs.declared.vec.Vec.{Vec}
use Rattle.std.proofs.lemmas.Bool.{cases_eq}
use Rattle.std.proofs.lemmas.Option.{slice_get_within}
use Rattle.tau_trace.specs.declared.step.Step.{Step}
use Rattle.tau_trace.specs.Steps.{actor}
use Rattle.tau_trace.specs.Run.{Run, len, step_at, starts, ActsAt}
use Rattle.tau_trace.specs.Known.{WellFormed}
use Rattle.tau_trace.specs.Numbering.{IsNew, IsHome}
use Rattle.tau_trace.specs.Histories.{Falls}
use Rattle.tau_trace.specs.Points.{point_at}
use Rattle.tau_trace.proofs.Lists.{same_some}
use Rattle.tau_trace.proofs.Once.{home_once}
use Rattle.tau_past.specs.declared.made.Made.{Made}
use Rattle.tau_past.specs.Tables.{TellsMade}
use Rattle.tau_svg.specs.declared.shapes.window.Window.{Window}
use Rattle.tau_layout.specs.declared.lanes.Lane.{Lane}
use Rattle.tau_layout.specs.Lanes.{AreLanes, ComesBefore}
use Rattle.tau_layout.specs.Plans.{Plan, IsRank}
use Rattle.tau_scene.specs.declared.timelines.states.State.{State}
use Rattle.tau_scene.specs.declared.timelines.states.Course.{Course}
use Rattle.tau_scene.specs.Timelines.States.{AreStates, AreLaneStates}
use Rattle.tau_scene.specs.Timelines.Inner.Courses.{begun, with_last, Notes, Rewrites, IsCourse, AreCourses, AreMidway, AreFirst, AreSeen, IsNewCourse, IsLowPoint}
use Rattle.tau_scene.proofs.Beginnings.{cases_lt, point, acting, interval_few, last_few, before_birth}
use Rattle.tau_scene.proofs.Following.{course_first, course_idle, course_new, course_acts, course_end}

-- lists

pub some_at : {A : Type 0} (xs : List A) (k : ℕ) → k < length xs → (x : A) × (slice_get xs k ≡ Some x)
some_at [] k lt = absurd (omega (arith, lt))
some_at (x ∷ xs) zero lt = (x, refl)
some_at (x ∷ xs) (suc k) lt = some_at xs k (omega (arith, lt))

push_cases : {A : Type 0} (xs : List A) (x : A) (k : ℕ) (y : A) → slice_get (xs ++ x ∷ []) k ≡ Some y → (slice_get xs k ≡ Some y) ⊎ ((k ≡ length xs) × (x ≡ y))
push_cases [] x zero y e = inr (refl, same_some e)
push_cases [] x (suc k) y e = absurd (cc)
push_cases (z ∷ xs) x zero y e = inl e
push_cases (z ∷ xs) x (suc k) y e = ⊎_elim (λ o. inl o) (λ p. inr (ap suc p.0, p.1)) (push_cases xs x k y e)

get_is : (ls : List Lane) (k : ℕ) (l d : Lane) → slice_get ls k ≡ Some l → get_or ls k d ≡ l
get_is [] k l d e = absurd (cc)
get_is (x ∷ xs) zero l d e = same_some e
get_is (x ∷ xs) (suc k) l d e = get_is xs k l d e

-- the place at which a step stands has one actor
one_actor : (T : Run) (t u k : ℕ) → ActsAt T t k → ActsAt T u k → t ≡ u
one_actor T t u k a b = same_some (sym a ∙ b)

module _ (T : Run) (w : WellFormed T) (plan : Plan) (is : AreLanes T plan.window plan.lanes) where
  -- a transactor has one lane
  apart : (q r : ℕ) (l m : Lane) → slice_get plan.lanes q ≡ Some l → slice_get plan.lanes r ≡ Some m → l.who ≡ m.who → q < r → ⊥
  apart q r l m e f who lt =
      let before = is.ascending q r l lt (slice_get_within plan.lanes r m f) in
      let first = get_is plan.lanes q l l e in
      let second = get_is plan.lanes r m l f in
      let at = subst (λ (x : Lane). ComesBefore x m) first (subst (λ (x : Lane). ComesBefore (get_or plan.lanes q l) x) second before) in
      ⊎_elim (λ n. omega (arith, n, nodes)) (λ p. omega (arith, p.1, who)) at
    where
      nodes : l.node ≡ m.node
      nodes = home_once T l.who l.node m.node w.opening (is.only l (q, slice_get_within plan.lanes q l e, get_is plan.lanes q l l e)).1 (subst (λ (t : ℕ). IsHome T t m.node) (sym who) (is.only m (r, slice_get_within plan.lanes r m f, get_is plan.lanes r m m f)).1)

  one_rank : (q r : ℕ) (l m : Lane) → slice_get plan.lanes q ≡ Some l → slice_get plan.lanes r ≡ Some m → l.who ≡ m.who → q ≡ r
  one_rank q r l m e f who = ⊎_elim (λ a. absurd (apart q r l m e f who a)) (λ ge. ⊎_elim (λ b. absurd (apart r q m l f e (sym who) b)) (λ le. omega (arith, ge, le)) (cases_lt r q)) (cases_lt q r)

  -- the rank that is told of a transactor is that of its lane
  rank_is : (t r : ℕ) (l : Lane) (o : Option ℕ) → IsRank plan t o → slice_get plan.lanes r ≡ Some l → l.who ≡ t → o ≡ Some r
  rank_is t r l None h e who = absurd (h r (record { lane = l; at_rank = e; of = who }))
  rank_is t r l (Some q) h e who = ap Some (one_rank q r h.lane l h.at_rank e (h.of ∙ sym who))

  rank_who : (t r : ℕ) (l : Lane) → IsRank plan t (Some r) → slice_get plan.lanes r ≡ Some l → l.who ≡ t
  rank_who t r l h e = ap (λ x. x.who) (same_some (sym e ∙ h.at_rank)) ∙ h.of

  -- the step of an actor is noted
  pub midway : (k : ℕ) (x : Step) (m : Made) (o : Option ℕ) (old new : List Course) → step_at T k ≡ Some x → TellsMade T k (Some m) → IsRank plan m.point.who o → AreCourses T plan k old → Rewrites o (Notes plan.window x m k) old new → AreMidway T plan k new
  midway k x m o old new e told h before n = record {
    count_is = n.count_is ∙ before.count_is;
    acts = λ r l d f g a.
        let who = one_actor T l.who m.point.who k a told.0 in
        let c = some_at old r (omega (arith, slice_get_within new r d g, n.count_is)) in
        let s = acting T l.who k a in
        let by : actor x ≡ Some l.who = ap actor (same_some (sym e ∙ s.1)) ∙ s.2 in
        course_acts T w plan.window l.who k x m c.0 d e by a (told.1 ∙ ap (λ t. point_at T t k) (sym who)) (subst (λ (t : ℕ). IsTrue m.falls ↔ Falls T t k) (sym who) told.2) (before.each r l c.0 f c.1) (n.there r c.0 d (rank_is m.point.who r l o h f who) c.1 g);
    idle = λ r l d f g none. before.each r l d f (sym (n.others r (λ q. none (subst (λ (t : ℕ). ActsAt T t k) (sym (rank_who m.point.who r l (subst (IsRank plan m.point.who) q h) f)) told.0))) ∙ g);
  }

  pub midway_none : (k : ℕ) (old : List Course) → TellsMade T k None → AreCourses T plan k old → AreMidway T plan k old
  midway_none k old told before = record {
    count_is = before.count_is;
    acts = λ r l d f g a. absurd (told l.who a);
    idle = λ r l d f g none. before.each r l d f g;
  }

  -- and the birth of a transactor
  pub behind_birth : (k t by : ℕ) (x : Step) (o : Option ℕ) (old new : List Course) → step_at T k ≡ Some x → IsNew T k by t → IsRank plan t o → AreMidway T plan k old → Rewrites o (λ c d. (d.done.items ≡ c.done.items) × (d.last ≡ Some (begun (point t 0 0) (k + 1)))) old new → AreCourses T plan (suc k) new
  behind_birth k t by x o old new e n h mid re = record {
    count_is = re.count_is ∙ mid.count_is;
    each = λ r l d f g. ⊎_elim
        (λ who.
        let c = some_at old r (omega (arith, slice_get_within new r d g, re.count_is)) in
        let p = re.there r c.0 d (rank_is t r l o h f who) c.1 g in
        let none : ¬ ActsAt T l.who k = λ a. before_birth T w t k by k n (omega arith) (subst (λ (u : ℕ). ActsAt T u k) who a) in
        subst (λ (u : ℕ). IsCourse T plan.window u (suc k) d) (sym who) (course_new T w plan.window t k by c.0 d n p.0 p.1 (subst (λ (u : ℕ). IsCourse T plan.window u k c.0) who (mid.idle r l c.0 f c.1 none))))
        (λ ne. other r l d f (sym (re.others r (λ q. ne (rank_who t r l (subst (IsRank plan t) q h) f))) ∙ g) ne (decide l.who))
        (cases_eq l.who t);
  } where
    n_acts : ActsAt T by k
    n_acts = ap (option_and_then actor) n.stands

    decide : (u : ℕ) → ActsAt T u k ⊎ ((ActsAt T u k) → ⊥)
    decide u = ⊎_elim (λ s. inl (n_acts ∙ ap Some (sym s))) (λ ne. inr (λ a. ne (same_some (sym a ∙ n_acts)))) (cases_eq u by)

    other : (r : ℕ) (l : Lane) (d : Course) → slice_get plan.lanes r ≡ Some l → slice_get old r ≡ Some d → (l.who ≡ t → ⊥) → ActsAt T l.who k ⊎ (ActsAt T l.who k → ⊥) → IsCourse T plan.window l.who (suc k) d
    other r l d f g ne (inl a) = mid.acts r l d f g a
    other r l d f g ne (inr never) = course_idle T w plan.window l.who k x d e never (λ u m. ne (m.made ∙ sym n.made)) (mid.idle r l d f g never)

  pub without_birth : (k : ℕ) (x : Step) (old : List Course) → step_at T k ≡ Some x → ((by t : ℕ) → ¬ IsNew T k by t) → AreMidway T plan k old → AreCourses T plan (suc k) old
  without_birth k x old e none mid = record {
    count_is = mid.count_is;
    each = λ r l d f g. one r l d f g (by_actor (actor x) refl l.who);
  } where
    acts_is : (o : Option ℕ) → actor x ≡ o → option_and_then actor (step_at T k) ≡ o
    acts_is o f = ap (option_and_then actor) e ∙ f

    by_actor : (o : Option ℕ) → actor x ≡ o → (u : ℕ) → ActsAt T u k ⊎ (ActsAt T u k → ⊥)
    by_actor None f u = inr (λ a. let b = acts_is None f in absurd (cc))
    by_actor (Some v) f u = ⊎_elim (λ s. inl (acts_is (Some v) f ∙ ap Some (sym s))) (λ ne. inr (λ a. ne (same_some (sym a ∙ acts_is (Some v) f)))) (cases_eq u v)

    one : (r : ℕ) (l : Lane) (d : Course) → slice_get plan.lanes r ≡ Some l → slice_get old r ≡ Some d → ActsAt T l.who k ⊎ (ActsAt T l.who k → ⊥) → IsCourse T plan.window l.who (suc k) d
    one r l d f g (inl a) = mid.acts r l d f g a
    one r l d f g (inr never) = course_idle T w plan.window l.who k x d e never (λ u m. none u l.who m) (mid.idle r l d f g never)

  -- the first courses
  pub first_next : (k : ℕ) (old new : List Course) (c : Course) (l : Lane) → AreFirst T plan k old → new ≡ old ++ c ∷ [] → slice_get plan.lanes k ≡ Some l → IsNewCourse (starts T) l.who c → AreFirst T plan (k + 1) new
  first_next k old new c l h e at n = subst (AreFirst T plan (k + 1)) (sym e) (record {
    count_is = omega (arith, h.count_is, length-append old (c ∷ []));
    each = λ r m d f g. ⊎_elim (λ o. h.each r m d f o) (λ p. there r m d f p.0 p.1) (push_cases old c r d g);
  }) where
    there : (r : ℕ) (m : Lane) (d : Course) → slice_get plan.lanes r ≡ Some m → r ≡ length old → c ≡ d → IsCourse T plan.window m.who 0 d
    there r m d f q s =
        let here : r ≡ k = q ∙ h.count_is in
        let lane : l ≡ m = same_some (sym at ∙ ap (slice_get plan.lanes) (sym here) ∙ f) in
        subst (λ (y : Course). IsCourse T plan.window m.who 0 y) s (course_first T w plan.window m.who c (subst (λ (y : Lane). IsNewCourse (starts T) y.who c) lane n))

  pub first_all : (k : ℕ) (all : List Course) → k ≡ length plan.lanes → AreFirst T plan k all → AreCourses T plan 0 all
  first_all k all e h = record { count_is = h.count_is ∙ e; each = h.each }

  -- the states of lanes
  pub lane_states : (n : ℕ) (cs : List Course) (states : List (Vec State Global)) → n ≡ len T → AreCourses T plan n cs → AreSeen plan.window cs (length cs) states → AreLaneStates T plan states
  lane_states n cs states e h seen = record {
    count_is = seen.count_is ∙ h.count_is;
    each = λ r l v f g.
        let c = some_at cs r (omega (arith, slice_get_within plan.lanes r l f, h.count_is)) in
        let at = subst (λ (m : ℕ). IsCourse T plan.window l.who m c.0) e (h.each r l c.0 f c.1) in
        subst (AreStates T plan.window l.who) (sym (seen.each r c.0 v c.1 g)) (course_end T w plan.window l.who c.0 at);
  }

pub seen_next : (v : Window) (cs : List Course) (k : ℕ) (old new : List (Vec State Global)) (c : Course) (l : Vec State Global) → AreSeen v cs k old → new ≡ old ++ l ∷ [] → slice_get cs k ≡ Some c → l.items ≡ with_last v c.last c.done.items → AreSeen v cs (k + 1) new
seen_next v cs k old new c l h e at is = subst (AreSeen v cs (k + 1)) (sym e) (record {
  count_is = omega (arith, h.count_is, length-append old (l ∷ []));
  each = λ r d m f g. ⊎_elim (λ o. h.each r d m f o) (λ p. there r d m f p.0 p.1) (push_cases old l r m g);
}) where
  there : (r : ℕ) (d : Course) (m : Vec State Global) → slice_get cs r ≡ Some d → r ≡ length old → l ≡ m → m.items ≡ with_last v d.last d.done.items
  there r d m f q s =
      let here : r ≡ k = q ∙ h.count_is in
      let same : c ≡ d = same_some (sym at ∙ ap (slice_get cs) (sym here) ∙ f) in
      ap (λ (y : Vec State Global). y.items) (sym s) ∙ is ∙ ap (λ (y : Course). with_last v y.last y.done.items) same

pub low_point : (T : Run) (w : WellFormed T) (k : ℕ) (m : Made) → k < len T → TellsMade T k (Some m) → IsLowPoint m.point
low_point T w k m lt told = record {
  interval = omega (arith, interval_few T m.point.who k, ap (λ p. p.interval) told.1, w.few_steps);
  incarnation = omega (arith, last_few T m.point.who k, ap (λ p. p.incarnation) told.1, w.few_steps);
}
