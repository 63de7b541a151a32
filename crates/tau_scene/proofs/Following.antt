-- The course of a transactor behind a step, and at the end of the trace.
use Rattle.std.proofs.Common.{◌≡◌, ◌⊎◌, ◌↔◌, inl, inr, ⊎_elim, ℕ, suc, ◌+◌, ◌<◌, ◌≤◌, Bool, true, false, ◌||◌, cond, eqb, List, [], Option, Some, None, refl, sym, ap, ◌∙◌, subst, arith, add-one, eqb-true, eq-eqb}
use Rattle.std.specs.Prelude.{IsTrue, Contains}
use Rattle.tau_history.specs.Timeline.{interval}
use Rattle.tau_points.specs.declared.point.Point.{Point}
use Rattle.tau_trace.specs.declared.step.Step.{Step}
use Rattle.tau_trace.specs.declared.step.Step.TheVariants.{Checkpoint, New}
use Rattle.tau_trace.specs.Steps.{actor, is_checkpoint}
use Rattle.tau_trace.specs.Run.{Run, len, step_at, starts, ActsAt}
use Rattle.tau_trace.specs.Known.{WellFormed}
use Rattle.tau_trace.specs.Numbering.{born, IsNew}
use Rattle.tau_trace.specs.Histories.{history, Falls, Closes, EndsAt, Ended}
use Rattle.tau_trace.specs.Points.{point_at, Leaves}
use Rattle.tau_trace.proofs.Agreement.{born-grows}
use Rattle.tau_trace.proofs.Indexing.{born-next}
use Rattle.std.proofs.lemmas.Option.{slice_get_within}
use Rattle.tau_trace.proofs.Lists.{same_some}
use Rattle.tau_trace.proofs.Once.{new-rises}
use Rattle.tau_past.specs.declared.made.Made.{Made}
use Rattle.tau_svg.specs.declared.shapes.window.Window.{Window}
use Rattle.tau_scene.specs.declared.timelines.states.State.{State}
use Rattle.tau_scene.specs.declared.timelines.states.Course.{Course}
use Rattle.tau_scene.specs.Timelines.States.{Begins, opens, created, leaves, IsState, IsSeen, AreStates}
use Rattle.tau_scene.specs.Timelines.Inner.Courses as courses
use Rattle.tau_scene.specs.Timelines.Inner.Courses.{begun, after, ended, next, ends_in, is_seen, with_seen, with_last, noted_done, noted_last, Notes, ArePast, IsLast, IsLastOf, IsCourse, IsNewCourse}
use Rattle.tau_scene.proofs.Beginnings.{cases_lt, point, acts_within, leaves_acts, next_closed, next_fallen, ended_before, acts_known, before_birth}
use Rattle.tau_scene.proofs.Currents.{last_start, last_new, last_left, last_idle, last_after, state_last}
use Rattle.tau_trace.proofs.Counts.{count-zero}
use Rattle.tau_trace.specs.Steps.{is_new}
use Rattle.std.specs.Option.{option_map_or}
use Rattle.tau_scene.proofs.Passing.{IsLeast, push_ascending, push_only, push_old, push_new, state_same, begins_once, past_begins, past_same, stays_none, ended_none, past_more}

either_true : (a b : Bool) → (a || b) ≡ true → (a ≡ true) ⊎ (b ≡ true)
either_true true b e = inl refl
either_true false b e = inr e

either_false : (a b : Bool) → (a || b) ≡ false → (a ≡ false) × (b ≡ false)
either_false true b e = absurd (cc)
either_false false b e = (refl, e)

one_more : (k : ℕ) → suc k ≡ k + 1
one_more k = omega arith

checks : (t : ℕ) (x : Step) → is_checkpoint x ≡ true → actor x ≡ Some t → x ≡ Checkpoint t
checks t (Checkpoint u) e by = ap Checkpoint (same_some by)
checks t x e by = absurd (cc)

module _ (T : Run) (w : WellFormed T) where
  -- before the first step
  first_of : (t : ℕ) (c : Course) → IsNewCourse (starts T) t c → (t < starts T) ⊎ (starts T ≤ t) → IsLastOf T t 0 c.last
  first_of t c new (inl lt) = subst (IsLastOf T t 0) (sym (new.start lt)) (refl, last_start T w t lt)
  first_of t c new (inr ge) =
      let none : born T 0 ≤ t = omega (arith, ge, count-zero (λ j. option_map_or is_new (step_at T j) false)) in
      subst (IsLastOf T t 0) (sym (new.other ge)) (inl none)

  no_past : (v : Window) (t : ℕ) → ArePast T v t 0 []
  no_past v t = record {
    ascending = λ i j d l lt. absurd (omega (arith, lt));
    only = λ s c. absurd (omega (arith, c.1));
    all = λ s e who x seen ends lt. absurd (omega (arith, lt));
  }

  pub course_first : (v : Window) (t : ℕ) (c : Course) → IsNewCourse (starts T) t c → IsCourse T v t 0 c
  course_first v t c new = record { past = subst (ArePast T v t 0) (sym new.none_done) (no_past v t); last_is = first_of t c new (cases_lt t (starts T)) }

  -- behind a step of another
  unborn_next : (t k : ℕ) (s : Step) → step_at T k ≡ Some s → ((by : ℕ) → ¬ IsNew T k by t) → born T k ≤ t → born T (suc k) ≤ t
  unborn_next t k (New by b n v) e never le = ⊎_elim
      (λ lt. omega (arith, lt, born-next T k (New by b n v) e))
      (λ ge. absurd (never by (record { behaviour = b; node = n; state = v; stands = e; made = omega (arith, ge, le) })))
      (cases_lt (born T k) t)
  unborn_next t k s e never le = omega (arith, le, born-next T k s e)

  idle_last : (t k : ℕ) (s : Step) (o : Option State) → step_at T k ≡ Some s → ¬ ActsAt T t k → ((by : ℕ) → ¬ IsNew T k by t) → IsLastOf T t k o → IsLastOf T t (suc k) o
  idle_last t k s None e none never (inl le) = inl (unborn_next t k s e never le)
  idle_last t k s None e none never (inr h) = inr (record { place = h.place; before = omega (arith, h.before); ends = h.ends })
  idle_last t k s (Some st) e none never h = (h.0, last_idle T w k st (λ a. none (subst (λ (u : ℕ). ActsAt T u k) h.0 a)) h.1)

  pub course_idle : (v : Window) (t k : ℕ) (s : Step) (c : Course) → step_at T k ≡ Some s → ¬ ActsAt T t k → ((by : ℕ) → ¬ IsNew T k by t) → IsCourse T v t k c → IsCourse T v t (suc k) c
  course_idle v t k s c e none never h = record {
    past = past_same T w v t k c.done.items (stays_none T w t k (λ l. none (leaves_acts T t k l))) h.past;
    last_is = idle_last t k s c.last e none never h.last_is;
  }

  -- behind its New
  pub course_new : (v : Window) (t k by : ℕ) (c d : Course) → IsNew T k by t → d.done.items ≡ c.done.items → d.last ≡ Some (begun (point t 0 0) (k + 1)) → IsCourse T v t k c → IsCourse T v t (suc k) d
  course_new v t k by c d n done last h =
      let first : IsLastOf T t (suc k) (Some (begun (point t 0 0) (k + 1))) = (refl, rw add-one (last_new T w t k by n)) in
      record {
        past = subst (ArePast T v t (suc k)) (sym done) (past_same T w v t k c.done.items (stays_none T w t k (λ l. before_birth T w t k by k n (omega arith) (leaves_acts T t k l))) h.past);
        last_is = subst (IsLastOf T t (suc k)) (sym last) first;
      }

  -- behind a step of its own
  leaves_true : (t k : ℕ) (x : Step) (m : Made) → step_at T k ≡ Some x → actor x ≡ Some t → (IsTrue m.falls ↔ Falls T t k) → courses.leaves x m ≡ true → Leaves T t k
  leaves_true t k x m e by f h = ⊎_elim (λ c. inl (e ∙ ap Some (checks t x c by))) (λ g. inr (f.0 g)) (either_true (is_checkpoint x) m.falls h)

  leaves_false : (t k : ℕ) (x : Step) (m : Made) → step_at T k ≡ Some x → (IsTrue m.falls ↔ Falls T t k) → courses.leaves x m ≡ false → ¬ Leaves T t k
  leaves_false t k x m e f h (inl c) =
      let same : x ≡ Checkpoint t = same_some (sym e ∙ c) in
      let is = ap is_checkpoint same in
      let p = either_false (is_checkpoint x) m.falls h in
      let q = p.0 in
      absurd (cc)
  leaves_false t k x m e f h (inr g) =
      let p = either_false (is_checkpoint x) m.falls h in
      let q = p.1 in
      let r = f.1 g in
      absurd (cc)

  never_ended : (k : ℕ) (s : State) → IsLast T k s → (e : ℕ) → e < k → EndsAt T s.point.who e → ⊥
  never_ended k s h e lt x = ⊎_elim (λ l. ended_before T w s.point.who s.begin e h.begins x l) (λ ge. h.stays e ge lt (inr x.falls)) (cases_lt e s.begin)

  never_until : (k : ℕ) (s : State) → IsLast T k s → (EndsAt T s.point.who k → ⊥) → (e : ℕ) → e ≤ k → EndsAt T s.point.who e → ⊥
  never_until k s h now e le x = ⊎_elim (λ l. never_ended k s h e l x) (λ ge. now (subst (EndsAt T s.point.who) (omega (arith, ge, le)) x)) (cases_lt e k)

  closed_by : (k : ℕ) (s : State) (p : Point) → IsLast T k s → p ≡ point_at T s.point.who k → Closes T s.point.who k → ¬ Falls T s.point.who k → IsLastOf T s.point.who (suc k) (Some (begun (point p.who (p.interval + 1) 0) (k + 1)))
  closed_by k s p h e c none =
      let t = s.point.who in
      let who : p.who ≡ t = ap (λ q. q.who) e in
      let count : p.interval ≡ interval (history T t k) = ap (λ q. q.interval) e in
      let is : point p.who (p.interval + 1) 0 ≡ point t (interval (history T t k) + 1) 0 = λ i. point (who i) (count i + 1) 0 in
      (who, subst (λ (n : ℕ). IsLast T (suc k) (begun (point p.who (p.interval + 1) 0) n)) (one_more k) (last_left T w t k (point p.who (p.interval + 1) 0) who (inl c) (never_until k s h (λ x. none x.falls)) (is ∙ sym (next_closed T t k c))))

  fallen_by : (k : ℕ) (s : State) (p : Point) (z : Bool) → IsLast T k s → p ≡ point_at T s.point.who k → Falls T s.point.who k → eqb p.interval 0 ≡ z → IsLastOf T s.point.who (suc k) (cond z None (Some (begun (point p.who p.interval (p.incarnation + 1)) (k + 1))))
  fallen_by k s p true h e f zero_is =
      let count : p.interval ≡ interval (history T s.point.who k) = ap (λ q. q.interval) e in
      inr (record { place = k; before = omega arith; ends = record { falls = f; at_opening = sym count ∙ eqb-true p.interval 0 zero_is } })
  fallen_by k s p false h e f zero_is =
      let t = s.point.who in
      let who : p.who ≡ t = ap (λ q. q.who) e in
      let count : p.interval ≡ interval (history T t k) = ap (λ q. q.interval) e in
      let number : p.incarnation ≡ (history T t k).last = ap (λ q. q.incarnation) e in
      let is : point p.who p.interval (p.incarnation + 1) ≡ point t (interval (history T t k)) ((history T t k).last + 1) = λ i. point (who i) (count i) (number i + 1) in
      (who, subst (λ (n : ℕ). IsLast T (suc k) (begun (point p.who p.interval (p.incarnation + 1)) n)) (one_more k) (last_left T w t k (point p.who p.interval (p.incarnation + 1)) who (inr f) (never_until k s h (λ x. let o = eq-eqb p.interval 0 (count ∙ x.at_opening) in absurd (cc))) (is ∙ sym (next_fallen T t k f))))

  left_by : (k : ℕ) (s : State) (p : Point) (b : Bool) → IsLast T k s → Leaves T s.point.who k → p ≡ point_at T s.point.who k → ((b ≡ true) ↔ Falls T s.point.who k) → IsLastOf T s.point.who (suc k) (next p b k)
  left_by k s p true h l e f = fallen_by k s p (eqb p.interval 0) h e (f.0 refl) refl
  left_by k s p false h (inl c) e f = closed_by k s p h e c (λ g. let q = f.1 g in absurd (cc))
  left_by k s p false h (inr g) e f = absurd (let q = f.1 g in cc)

  acts_by : (v : Window) (k : ℕ) (s : State) (x : Step) (m : Made) (c d : Course) (b : Bool) → step_at T k ≡ Some x → actor x ≡ Some s.point.who → m.point ≡ point_at T s.point.who k → (IsTrue m.falls ↔ Falls T s.point.who k) → IsLast T k s → ArePast T v s.point.who k c.done.items → courses.leaves x m ≡ b → d.done.items ≡ cond b (with_seen v (ended (after s x k) k) c.done.items) c.done.items → d.last ≡ cond b (next m.point m.falls k) (Some (after s x k)) → IsCourse T v s.point.who (suc k) d
  acts_by v k s x m c d true e by is f h past leaves_is done last =
      let l = leaves_true s.point.who k x m e by f leaves_is in
      record {
        past = subst (ArePast T v s.point.who (suc k)) (sym done) (past_more T w v k s x c.done.items e by l h past);
        last_is = subst (IsLastOf T s.point.who (suc k)) (sym last) (left_by k s m.point m.falls h l is f);
      }
  acts_by v k s x m c d false e by is f h past leaves_is done last =
      let stays = leaves_false s.point.who k x m e f leaves_is in
      let next_last : IsLastOf T s.point.who (suc k) (Some (after s x k)) = (refl, last_after T w k s x e by stays h) in
      record {
        past = subst (ArePast T v s.point.who (suc k)) (sym done) (past_same T w v s.point.who k c.done.items (stays_none T w s.point.who k stays) past);
        last_is = subst (IsLastOf T s.point.who (suc k)) (sym last) next_last;
      }

  -- an ended transactor's states stay
  acts_none : (v : Window) (t k : ℕ) (c d : Course) → ActsAt T t k → (born T k ≤ t) ⊎ Ended T t k → ArePast T v t k c.done.items → d.done.items ≡ c.done.items → d.last ≡ None → IsCourse T v t (suc k) d
  acts_none v t k c d a (inl le) past done last = absurd (omega (arith, le, acts_known T w t k a))
  acts_none v t k c d a (inr h) past done last =
      let still : IsLastOf T t (suc k) None = inr (record { place = h.place; before = omega (arith, h.before); ends = h.ends }) in
      record {
        past = subst (ArePast T v t (suc k)) (sym done) (past_same T w v t k c.done.items (ended_none T w t k h) past);
        last_is = subst (IsLastOf T t (suc k)) (sym last) still;
      }

  acts_of : (v : Window) (t k : ℕ) (x : Step) (m : Made) (c d : Course) (o : Option State) → c.last ≡ o → step_at T k ≡ Some x → actor x ≡ Some t → ActsAt T t k → m.point ≡ point_at T t k → (IsTrue m.falls ↔ Falls T t k) → ArePast T v t k c.done.items → IsLastOf T t k o → d.done.items ≡ noted_done v o x m k c.done.items → d.last ≡ noted_last o x m k → IsCourse T v t (suc k) d
  acts_of v t k x m c d None at e by a is f past h done last = acts_none v t k c d a h past done last
  acts_of v t k x m c d (Some s) at e by a is f past h done last =
      let who = sym h.0 in
      subst (λ (u : ℕ). IsCourse T v u (suc k) d) h.0
      (acts_by v k s x m c d (courses.leaves x m) e (by ∙ ap Some who) (is ∙ ap (λ u. point_at T u k) who) (subst (λ (u : ℕ). IsTrue m.falls ↔ Falls T u k) who f) h.1 (subst (λ (u : ℕ). ArePast T v u k c.done.items) who past) refl done last)

  pub course_acts : (v : Window) (t k : ℕ) (x : Step) (m : Made) (c d : Course) → step_at T k ≡ Some x → actor x ≡ Some t → ActsAt T t k → m.point ≡ point_at T t k → (IsTrue m.falls ↔ Falls T t k) → IsCourse T v t k c → Notes v x m k c d → IsCourse T v t (suc k) d
  course_acts v t k x m c d e by a is f h n = acts_of v t k x m c d c.last refl e by a is f h.past h.last_is n.done_is n.last_is

  -- at the end of the trace
  begins_within : (t b : ℕ) → Begins T t b → b ≤ len T
  begins_within t b (opens lt) = omega arith
  begins_within t b (created {j = j} {by = by} n) = omega (arith, slice_get_within T.steps j (New by n.behaviour n.node n.state) n.stands)
  begins_within t b (leaves {j = j} x e) = omega (arith, acts_within T t j (leaves_acts T t j x))

  unborn_never : (t b : ℕ) → born T (len T) ≤ t → Begins T t b → ⊥
  unborn_never t b le (opens lt) = omega (arith, le, lt)
  unborn_never t b le (created {j = j} {by = by} n) = omega (arith, le, n.made, new-rises T j by t n, born-grows T (suc j) (len T) (omega (arith, slice_get_within T.steps j (New by n.behaviour n.node n.state) n.stands)))
  unborn_never t b le (leaves {j = j} x e) = omega (arith, le, acts_known T w t j (leaves_acts T t j x), born-grows T j (len T) (omega (arith, acts_within T t j (leaves_acts T t j x))))

  none_lasts : (t : ℕ) → (born T (len T) ≤ t) ⊎ Ended T t (len T) → (s : State) → s.point.who ≡ t → IsState T s → s.end ≡ None → ⊥
  none_lasts t (inl le) s who x ends = unborn_never t s.begin le (subst (λ (u : ℕ). Begins T u s.begin) who x.begins)
  none_lasts t (inr h) s who x ends =
      let stays = subst (λ (o : Option ℕ). IsLeast T s.begin s.point.who o) ends x.ends in
      ⊎_elim
      (λ l. ended_before T w t s.begin h.place (subst (λ (u : ℕ). Begins T u s.begin) who x.begins) h.ends l)
      (λ ge. stays h.place ge h.before (subst (λ (u : ℕ). Leaves T u h.place) (sym who) (inr h.ends.falls)))
      (cases_lt h.place s.begin)

  ends_all : (v : Window) (t : ℕ) (list : List State) → ArePast T v t (len T) list → (s : State) (o : Option ℕ) → s.end ≡ o → s.point.who ≡ t → IsState T s → IsSeen v s → (s.end ≡ None → Contains list s) → Contains list s
  ends_all v t list past s None e who x seen last = last e
  ends_all v t list past s (Some i) e who x seen last =
      let at = subst (λ (o : Option ℕ). IsLeast T s.begin s.point.who o) e x.ends in
      past.all s i who x seen e at.1

  end_none : (v : Window) (t : ℕ) (list : List State) → ArePast T v t (len T) list → (born T (len T) ≤ t) ⊎ Ended T t (len T) → AreStates T v t list
  end_none v t list past h = record {
    ascending = past.ascending;
    only = λ s c. let p = past.only s c in (p.0, p.1, p.2);
    all = λ s who x seen. ends_all v t list past s s.end refl who x seen (λ e. absurd (none_lasts t h s who x e));
  }

  last_same : (s r : State) → IsLast T (len T) s → r.point.who ≡ s.point.who → IsState T r → r.end ≡ None → s ≡ r
  last_same s r h who y ends =
      let stays = subst (λ (o : Option ℕ). IsLeast T r.begin r.point.who o) ends y.ends in
      let begins = subst (λ (u : ℕ). Begins T u r.begin) who y.begins in
      let once = begins_once T w (len T) s r.begin h begins (begins_within s.point.who r.begin begins) (λ j ge lt z. stays j ge lt (subst (λ (u : ℕ). Leaves T u j) (sym who) z)) in
      state_same T s r (state_last T w (len T) s refl h) y (sym who) (sym once)

  end_some : (v : Window) (s : State) (list : List State) → ArePast T v s.point.who (len T) list → IsLast T (len T) s → AreStates T v s.point.who (with_seen v s list)
  end_some v s list past h = record {
    ascending = push_ascending v s list (is_seen v s) past.ascending (past_begins T w v (len T) s list h past);
    only = λ r c. ⊎_elim
        (λ o. let p = past.only r o in (p.0, p.1, p.2))
        (λ n. subst (λ (q : State). (q.point.who ≡ s.point.who) × IsState T q × IsSeen v q) n.0 (refl, state_last T w (len T) s refl h, n.1))
        (push_only v s list (is_seen v s) refl r c);
    all = λ r who y seen. by_end r r.end refl who y seen;
  } where
    by_end : (r : State) (o : Option ℕ) → r.end ≡ o → r.point.who ≡ s.point.who → IsState T r → IsSeen v r → Contains (with_seen v s list) r
    by_end r None e who y seen =
        let one = last_same s r h who y e in
        subst (Contains (with_seen v s list)) one (push_new v s list (is_seen v s) refl (subst (IsSeen v) (sym one) seen))
    by_end r (Some i) e who y seen =
        let at = subst (λ (o : Option ℕ). IsLeast T r.begin r.point.who o) e y.ends in
        push_old v s list (is_seen v s) r (past.all r i who y seen e at.1)

  end_of : (v : Window) (t : ℕ) (list : List State) (o : Option State) → ArePast T v t (len T) list → IsLastOf T t (len T) o → AreStates T v t (with_last v o list)
  end_of v t list None past h = end_none v t list past h
  end_of v t list (Some s) past h = subst (λ (u : ℕ). AreStates T v u (with_seen v s list)) h.0 (end_some v s list (subst (λ (u : ℕ). ArePast T v u (len T) list) (sym h.0) past) h.1)

  pub course_end : (v : Window) (t : ℕ) (c : Course) → IsCourse T v t (len T) c → AreStates T v t (with_last v c.last c.done.items)
  course_end v t c h = end_of v t c.done.items c.last h.past h.last_is
