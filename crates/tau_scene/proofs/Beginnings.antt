-- Where transactors come to points, and where these are left.
use Rattle.std.proofs.Common.{◌≡◌, ◌⊎◌, inl, inr, ⊎_elim, ℕ, zero, suc, ◌+◌, ◌<◌, ◌≤◌, [], ◌∷◌, Bool, true, false, cond, Option, Some, None, refl, sym, ap, ◌∙◌, arith, ltb, length-append}
use Rattle.std.specs.Prelude.{option_and_then}
use Rattle.std.proofs.lemmas.Bool.{lt-ltb, ltb-true}
use Rattle.std.proofs.lemmas.Option.{slice_get_within}
use Rattle.tau_history.specs.Timeline.{Timeline, opening, newborn, interval, Move, keep, stabilize, close, fall, moved}
use Rattle.tau_points.specs.declared.point.Point.{Point}
use Rattle.tau_trace.specs.declared.step.Step.{Step}
use Rattle.tau_trace.specs.declared.step.Step.TheVariants.{Checkpoint}
use Rattle.tau_trace.specs.Steps.{actor}
use Rattle.tau_trace.specs.Run.{Run, len, step_at, starts, ActsAt}
use Rattle.tau_trace.specs.Known.{WellFormed}
use Rattle.tau_trace.specs.Numbering.{born, IsNew}
use Rattle.tau_trace.specs.Histories.{history, opened, move_at, Falls, Closes, EndsAt}
use Rattle.tau_trace.specs.Points.{point_at, Leaves}
use Rattle.tau_trace.proofs.Agreement.{born-grows}
use Rattle.tau_trace.proofs.Counted.{history-suc, history-zero, closes_move}
use Rattle.tau_trace.proofs.Moves.{own_move}
use Rattle.tau_trace.proofs.Once.{new_once}
use Rattle.tau_trace.proofs.PointLemmas.{points_grow}
use Rattle.tau_trace.proofs.Quiet.{acts, acts_born, quiet_history}
use Rattle.tau_scene.specs.Timelines.States.{Begins, opens, created, leaves}

abbrev pub point : ℕ → ℕ → ℕ → Point
point t i n = record { who = t; interval = i; incarnation = n }

pub cases_lt : (a b : ℕ) → (a < b) ⊎ (b ≤ a)
cases_lt a b = grind arith

pub at_or_under : (j k : ℕ) → j < suc k → (j ≡ k) ⊎ (j < k)
at_or_under j k l = grind arith

-- the step of an actor
acted_by : (T : Run) (t k : ℕ) (o : Option Step) → step_at T k ≡ o → option_and_then actor o ≡ Some t → (s : Step) × (step_at T k ≡ Some s) × (actor s ≡ Some t)
acted_by T t k None e a = absurd (cc)
acted_by T t k (Some s) e a = (s, e, a)

pub acting : (T : Run) (t k : ℕ) → ActsAt T t k → (s : Step) × (step_at T k ≡ Some s) × (actor s ≡ Some t)
acting T t k a = acted_by T t k (step_at T k) refl a

pub acts_within : (T : Run) (t k : ℕ) → ActsAt T t k → k < len T
acts_within T t k a = let s = acting T t k a in slice_get_within T.steps k s.0 s.1

-- a point is left by a step of its transactor
pub falls_acts : (T : Run) (t k : ℕ) → Falls T t k → ActsAt T t k
falls_acts T t k f =
    let own = own_move t (history T t k).stable (step_at T k) fall (λ e. cc) f in
    acts T t k own.step own.stands own.by

pub leaves_acts : (T : Run) (t k : ℕ) → Leaves T t k → ActsAt T t k
leaves_acts T t k (inl c) = acts T t k (Checkpoint t) c refl
leaves_acts T t k (inr f) = falls_acts T t k f

-- the points that follow
next_of : (t : ℕ) (h g : Timeline) → g ≡ moved close h → point t (interval g) (g.last) ≡ point t (interval h + 1) (0)
next_of t h g e =
    let count : interval g ≡ interval h + 1 = ap interval e ∙ length-append h.closed (h.last ∷ []) in
    let last : g.last ≡ 0 = ap (λ x. x.last) e in
    λ i. point t (count i) (last i)

pub next_closed : (T : Run) (t k : ℕ) → Closes T t k → point_at T t (suc k) ≡ point t (interval (history T t k) + 1) 0
next_closed T t k c = next_of t (history T t k) (history T t (suc k)) (history-suc T t k ∙ ap (λ m. moved m (history T t k)) (closes_move T t k c))

next_low : (t : ℕ) (h g : Timeline) → g ≡ moved fall h → point t (interval g) (g.last) ≡ point t (interval h) (h.last + 1)
next_low t h g e =
    let count : interval g ≡ interval h = ap interval e in
    let last : g.last ≡ h.last + 1 = ap (λ x. x.last) e in
    λ i. point t (count i) (last i)

pub next_fallen : (T : Run) (t k : ℕ) → Falls T t k → point_at T t (suc k) ≡ point t (interval (history T t k)) ((history T t k).last + 1)
next_fallen T t k f = next_low t (history T t k) (history T t (suc k)) (history-suc T t k ∙ ap (λ m. moved m (history T t k)) f)

-- bounds of points
moved_interval : (m : Move) (h : Timeline) → interval (moved m h) ≤ interval h + 1
moved_interval keep h = omega arith
moved_interval stabilize h = omega arith
moved_interval close h = omega (arith, length-append h.closed (h.last ∷ []))
moved_interval fall h = omega arith

moved_last : (m : Move) (h : Timeline) → (moved m h).last ≤ h.last + 1
moved_last keep h = omega arith
moved_last stabilize h = omega arith
moved_last close h = omega arith
moved_last fall h = omega arith

opened_is : (T : Run) (t : ℕ) (b : Bool) → ltb t (starts T) ≡ b → opened T t ≡ cond b opening newborn
opened_is T t b e = ap (λ x. cond x opening newborn) e

opened_low : (b : Bool) → (interval (cond b opening newborn) ≤ 1) × ((cond b opening newborn).last ≡ 0)
opened_low true = (omega arith, refl)
opened_low false = (omega arith, refl)

pub interval_few : (T : Run) (t k : ℕ) → interval (history T t k) ≤ k + 1
interval_few T t zero = omega (arith, ap interval (history-zero T t ∙ opened_is T t (ltb t (starts T)) refl), (opened_low (ltb t (starts T))).0)
interval_few T t (suc k) = omega (arith, interval_few T t k, ap interval (history-suc T t k), moved_interval (move_at T t k) (history T t k))

pub last_few : (T : Run) (t k : ℕ) → (history T t k).last ≤ k
last_few T t zero = omega (arith, ap (λ h. h.last) (history-zero T t ∙ opened_is T t (ltb t (starts T)) refl), (opened_low (ltb t (starts T))).1)
last_few T t (suc k) = omega (arith, last_few T t k, ap (λ h. h.last) (history-suc T t k), moved_last (move_at T t k) (history T t k))

point_of : (t : ℕ) (h g : Timeline) → h ≡ g → point t (interval h) (h.last) ≡ point t (interval g) (g.last)
point_of t h g e =
    let count : interval h ≡ interval g = ap interval e in
    let last : h.last ≡ g.last = ap (λ x. x.last) e in
    λ i. point t (count i) (last i)

pub first_of_start : (T : Run) (t : ℕ) → t < starts T → point t 1 0 ≡ point_at T t 0
first_of_start T t l = sym (point_of t (history T t 0) opening (history-zero T t ∙ opened_is T t true (lt-ltb t (starts T) l)))

not_start : (T : Run) (t : ℕ) (b : Bool) → ltb t (starts T) ≡ b → starts T ≤ t → cond b opening newborn ≡ newborn
not_start T t true e l = absurd (omega (arith, ltb-true t (starts T) e))
not_start T t false e l = refl

module _ (T : Run) (w : WellFormed T) where
  pub acts_known : (t k : ℕ) → ActsAt T t k → t < born T k
  acts_known t k a = acts_born T t k (w.known k) a

  -- a created transactor makes no step at its New or before
  pub before_birth : (t j by k : ℕ) → IsNew T j by t → k ≤ j → ActsAt T t k → ⊥
  before_birth t j by k n l a = omega (arith, acts_known t k a, born-grows T k j l, n.made)

  pub first_of_created : (t j by : ℕ) → IsNew T j by t → point t 0 0 ≡ point_at T t (suc j)
  first_of_created t j by n =
      let quiet = quiet_history T t (suc j) (λ i l a. before_birth t j by i n (omega arith) a) in
      let late : starts T ≤ t = omega (arith, n.made) in
      let new = history-zero T t ∙ opened_is T t (ltb t (starts T)) refl ∙ not_start T t (ltb t (starts T)) refl late in
      sym (point_of t (history T t (suc j)) newborn (quiet ∙ new))

  created_first : (t a j by : ℕ) → Begins T t a → IsNew T j by t → a < suc j → ⊥
  created_first t a j by (opens lt) n l = omega (arith, lt, n.made)
  created_first t a j by (created {j = i} {by = x} m) n l = omega (arith, l, new_once T i j x by t m n)
  created_first t a j by (leaves {j = i} x e) n l = before_birth t j by i n (omega arith) (leaves_acts T t i x)

  -- between two begins the transactor leaves its point
  pub one_leave : (t a b : ℕ) → Begins T t a → Begins T t b → a < b → (j : ℕ) × (a ≤ j) × (j < b) × Leaves T t j
  one_leave t a b p (opens lt) l = absurd (omega (arith, l))
  one_leave t a b p (created {j = j} {by = by} n) l = absurd (created_first t a j by p n l)
  one_leave t a b p (leaves {j = j} x e) l = (j, omega arith, omega arith, x)

  -- and behind its end it comes to no point
  pub ended_before : (t b e : ℕ) → Begins T t b → EndsAt T t e → e < b → ⊥
  ended_before t b e (opens lt) x l = omega (arith, l)
  ended_before t b e (created {j = j} {by = by} n) x l = before_birth t j by e n (omega arith) (falls_acts T t e x.falls)
  ended_before t b e (leaves {j = j} y never) x l = never e (omega arith) x

  -- where it acts, it has come to a point
  pub acts_begun : (t b k : ℕ) → Begins T t b → ActsAt T t k → k < b → (j : ℕ) × (k ≤ j) × (j < b) × Leaves T t j
  acts_begun t b k (opens lt) a l = absurd (omega (arith, l))
  acts_begun t b k (created {j = j} {by = by} n) a l = absurd (before_birth t j by k n (omega arith) a)
  acts_begun t b k (leaves {j = j} x e) a l = (j, omega arith, omega arith, x)

-- a point that isn't left stays
pub stays_from : (T : Run) (t b k : ℕ) → b ≤ k → ((j : ℕ) → b ≤ j → j < k → ¬ Leaves T t j) → point_at T t k ≡ point_at T t b
stays_from T t b zero l none = ap (point_at T t) (omega (arith, l))
stays_from T t b (suc k) l none = ⊎_elim
    (λ lt. (points_grow T t k).stays (none k (omega (arith, lt)) (omega arith)) ∙ stays_from T t b k (omega (arith, lt)) (λ j h x. none j h (omega (arith, x))))
    (λ ge. ap (point_at T t) (omega (arith, ge, l)))
    (cases_lt b (suc k))
