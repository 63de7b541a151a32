-- The states of a lane that are seen, and their looks, are told once.
use Rattle.std.proofs.Common.{◌≡◌, inl, ⊎_elim, ℕ, ◌<◌, List, [], ◌∷◌, length, Option, Some, None, refl, sym, ap, ◌∙◌, subst, arith}
use Rattle.std.specs.Prelude.{Contains, map, slice_get}
use Rattle.std.specs.Option.{option_map_or}
use Rattle.std.specs.declared.alloc.Global.{Global}
use Rattle.std.specs.declared.vec.Vec.{Vec}
use Rattle.std.proofs.lemmas.List.Elements.{All-contains}
use Rattle.std.proofs.lemmas.Option.{slice_get_within, slice_get_cases}
use Rattle.tau_points.specs.declared.point.Point.{Point}
use Rattle.tau_points.proofs.Membership.{Contains-head, Contains-later, Contains-none, Contains-cons_cases}
use Rattle.tau_trace.specs.declared.step.Step.TheVariants.{Checkpoint}
use Rattle.tau_trace.specs.Run.{Run, len}
use Rattle.tau_trace.specs.Known.{WellFormed}
use Rattle.tau_trace.specs.Places.{IsLeastFrom}
use Rattle.tau_trace.specs.Histories.{Closes}
use Rattle.tau_trace.specs.Points.{point_at, Leaves}
use Rattle.tau_trace.proofs.PointLemmas.{no_return}
use Rattle.tau_svg.specs.declared.shapes.window.Window.{Window}
use Rattle.tau_layout.specs.declared.lanes.Lane.{Lane}
use Rattle.tau_layout.specs.Plans.{Plan}
use Rattle.tau_scene.specs.declared.timelines.states.State.{State}
use Rattle.tau_scene.specs.Timelines.States.{Begins, IsState, AreStates}
use Rattle.tau_scene.proofs.Beginnings.{cases_lt, one_leave}
use Rattle.tau_scene.proofs.Passing.{state_same}
use Rattle.tau_cut.specs.declared.cut.Marked.{Marked}
use Rattle.tau_scene.specs.declared.looks.kinds.StateLook.{StateLook}
use Rattle.tau_scene.specs.declared.looks.kinds.StateLook.TheVariants as states
use Rattle.tau_scene.specs.declared.looks.looks.Seen.{Seen}
use Rattle.tau_scene.specs.Causes.Looks.{IsSaved, IsKept, IsStateLook, AreSeen, AreLaneSeen}
use Rattle.tau_picture.proofs.Ordered.{same_ordered}

-- the states

states_once : (T : Run) (v : Window) (t : ℕ) (rs ss : List State) → AreStates T v t rs → AreStates T v t ss → rs ≡ ss
states_once T v t rs ss a b = same_ordered (λ r s. r.begin < s.begin) (λ r s lt gt. omega (arith, lt, gt)) rs ss a.ascending b.ascending (λ s. (
  λ c. let is = a.only s c in b.all s is.0 is.1 is.2,
  λ c. let is = b.only s c in a.all s is.0 is.1 is.2,
))

-- a transactor comes to a point once
begins_once : (T : Run) → WellFormed T → (r s : State) → IsState T r → IsState T s → r.point ≡ s.point → r.begin < s.begin → ⊥
begins_once T w r s a b e lt =
    let t = s.point.who in
    let who : r.point.who ≡ t = ap (λ (p : Point). p.who) e in
    let first = subst (λ (u : ℕ). Begins T u r.begin) who a.begins in
    let left = one_leave T w t r.begin s.begin first b.begins lt in
    no_return T t r.begin s.begin left.0 left.1 left.2 (ap (λ u. point_at T u r.begin) (sym who) ∙ sym a.point_is ∙ e ∙ b.point_is) left.3

pub state_of_point : (T : Run) → WellFormed T → (r s : State) → IsState T r → IsState T s → r.point ≡ s.point → r ≡ s
state_of_point T w r s a b e = state_same T r s a b (ap (λ (p : Point). p.who) e) (⊎_elim
    (λ lt. absurd (begins_once T w r s a b e lt))
    (λ ge. ⊎_elim (λ lt. absurd (begins_once T w s r b a (sym e) lt)) (λ le. omega (arith, ge, le)) (cases_lt s.begin r.begin))
    (cases_lt r.begin s.begin))

-- their looks: a state at whose point a Checkpoint was made ends

saved_ends : (T : Run) (s : State) → IsState T s → s.end ≡ None → ¬ IsSaved T s.point
saved_ends T s is e saved =
    let t = s.point.who in
    let k = saved.0 in
    let checks = saved.1 in
    let who : checks.by ≡ t = sym (ap (λ (p : Point). p.who) checks.at_point) in
    let closes : Closes T t k = subst (λ (u : ℕ). Closes T u k) who checks.closes in
    let at : point_at T t k ≡ s.point = ap (λ u. point_at T u k) (sym who) ∙ sym checks.at_point in
    let stays : IsLeastFrom s.begin (Leaves T t) (len T) None = subst (λ (o : Option ℕ). IsLeastFrom s.begin (Leaves T t) (len T) o) e is.ends in
    ⊎_elim
    (λ lt. no_return T t k s.begin k (omega arith) lt (at ∙ is.point_is) (inl closes))
    (λ ge. stays k ge (slice_get_within T.steps k (Checkpoint t) closes) (inl closes))
    (cases_lt k s.begin)

kept_saved : (T : Run) (cut : List Marked) (p : Point) → IsKept T cut p → IsSaved T p
kept_saved T cut p k = (k.place, k.checks)

pub look_once : (T : Run) (cut : List Marked) (s : State) → IsState T s → (a b : StateLook) → IsStateLook T cut s a → IsStateLook T cut s b → a ≡ b
look_once T cut s is states.Fallen states.Fallen p q = refl
look_once T cut s is states.Fallen states.Kept p q = absurd (q.0 p)
look_once T cut s is states.Fallen states.Broken p q = absurd (q.0 p)
look_once T cut s is states.Fallen states.Unkept p q = absurd (q.0 p)
look_once T cut s is states.Fallen states.Doomed p q = absurd (q.0 p)
look_once T cut s is states.Fallen states.Open p q = absurd (q.0 p)
look_once T cut s is states.Kept states.Fallen p q = absurd (p.0 q)
look_once T cut s is states.Kept states.Kept p q = refl
look_once T cut s is states.Kept states.Broken p q = absurd (q.2 p.1)
look_once T cut s is states.Kept states.Unkept p q = absurd (q.2 p.1)
look_once T cut s is states.Kept states.Doomed p q = absurd (saved_ends T s is q.1 (kept_saved T cut s.point p.1))
look_once T cut s is states.Kept states.Open p q = absurd (saved_ends T s is q.1 (kept_saved T cut s.point p.1))
look_once T cut s is states.Broken states.Fallen p q = absurd (p.0 q)
look_once T cut s is states.Broken states.Kept p q = absurd (p.2 q.1)
look_once T cut s is states.Broken states.Broken p q = refl
look_once T cut s is states.Broken states.Unkept p q = absurd (q.3 p.3)
look_once T cut s is states.Broken states.Doomed p q = absurd (saved_ends T s is q.1 p.1)
look_once T cut s is states.Broken states.Open p q = absurd (q.2 p.3)
look_once T cut s is states.Unkept states.Fallen p q = absurd (p.0 q)
look_once T cut s is states.Unkept states.Kept p q = absurd (p.2 q.1)
look_once T cut s is states.Unkept states.Broken p q = absurd (p.3 q.3)
look_once T cut s is states.Unkept states.Unkept p q = refl
look_once T cut s is states.Unkept states.Doomed p q = absurd (p.3 q.2)
look_once T cut s is states.Unkept states.Open p q = absurd (saved_ends T s is q.1 p.1)
look_once T cut s is states.Doomed states.Fallen p q = absurd (p.0 q)
look_once T cut s is states.Doomed states.Kept p q = absurd (saved_ends T s is p.1 (kept_saved T cut s.point q.1))
look_once T cut s is states.Doomed states.Broken p q = absurd (saved_ends T s is p.1 q.1)
look_once T cut s is states.Doomed states.Unkept p q = absurd (q.3 p.2)
look_once T cut s is states.Doomed states.Doomed p q = refl
look_once T cut s is states.Doomed states.Open p q = absurd (q.2 p.2)
look_once T cut s is states.Open states.Fallen p q = absurd (p.0 q)
look_once T cut s is states.Open states.Kept p q = absurd (saved_ends T s is p.1 (kept_saved T cut s.point q.1))
look_once T cut s is states.Open states.Broken p q = absurd (p.2 q.3)
look_once T cut s is states.Open states.Unkept p q = absurd (saved_ends T s is p.1 q.1)
look_once T cut s is states.Open states.Doomed p q = absurd (p.2 q.2)
look_once T cut s is states.Open states.Open p q = refl

-- what is seen of a transactor

-- a state that is seen, with its look
pub record IsLooked (T : Run) (cut : List Marked) (s : Seen) : Type 0 where
  pub state_is : IsState T s.state
  pub look_is : IsStateLook T cut s.state s.look

seen_of : (T : Run) (cut : List Marked) (a b : Seen) → a.state ≡ b.state → IsLooked T cut a → IsLooked T cut b → a ≡ b
seen_of T cut a b e p q =
    let look : a.look ≡ b.look = look_once T cut b.state q.state_is a.look b.look (subst (λ (s : State). IsStateLook T cut s a.look) e p.look_is) q.look_is in
    λ i. record { state = e i; look = look i }

all_same : (T : Run) (cut : List Marked) (rs ss : List Seen) → map (λ s. s.state) rs ≡ map (λ s. s.state) ss → ((s : Seen) → Contains rs s → IsLooked T cut s) → ((s : Seen) → Contains ss s → IsLooked T cut s) → rs ≡ ss
all_same T cut [] [] e p q = refl
all_same T cut [] (b ∷ ss) e p q = absurd (cc)
all_same T cut (a ∷ rs) [] e p q = absurd (cc)
all_same T cut (a ∷ rs) (b ∷ ss) e p q =
    let state : a.state ≡ b.state = cc in
    let first : a ≡ b = seen_of T cut a b state (p a (Contains-head a rs)) (q b (Contains-head b ss)) in
    let rest : rs ≡ ss = all_same T cut rs ss (cc) (λ s c. p s (Contains-later a rs s c)) (λ s c. q s (Contains-later b ss s c)) in
    cc

-- a state that is seen is one
state_there : (xs : List Seen) (s : Seen) → Contains xs s → Contains (map (λ x. x.state) xs) s.state
state_there [] s c = absurd (Contains-none s c)
state_there (x ∷ xs) s c = ⊎_elim
    (λ e. subst (λ (y : Seen). Contains (map (λ z. z.state) (x ∷ xs)) y.state) (sym e) (Contains-head x.state (map (λ z. z.state) xs)))
    (λ d. Contains-later x.state (map (λ z. z.state) xs) s.state (state_there xs s d))
    (Contains-cons_cases x xs s c)

looked_at : (T : Run) (plan : Plan) (cut : List Marked) (t : ℕ) (seen : List Seen) → AreSeen T plan cut t seen → (s : Seen) → Contains seen s → IsLooked T cut s
looked_at T plan cut t seen are s c = record {
  state_is = (are.states_are.only s.state (state_there seen s c)).1;
  look_is = All-contains (λ x. IsStateLook T cut x.state x.look) seen s are.looks_are c;
}

seen_once : (T : Run) (plan : Plan) (cut : List Marked) (t : ℕ) (rs ss : List Seen) → AreSeen T plan cut t rs → AreSeen T plan cut t ss → rs ≡ ss
seen_once T plan cut t rs ss p q = all_same T cut rs ss (states_once T plan.window t (map (λ s. s.state) rs) (map (λ s. s.state) ss) p.states_are q.states_are) (looked_at T plan cut t rs p) (looked_at T plan cut t ss q)

-- and of the transactor of each lane

abbrev pub items_at : List (Vec Seen Global) → ℕ → List Seen
items_at seen rank = option_map_or (λ v. v.items) (slice_get seen rank) []

-- the same place of two lists of one length
pub none_beside : {A B : Type 0} (xs : List A) (ys : List B) (k : ℕ) (x : A) → length xs ≡ length ys → slice_get xs k ≡ Some x → ¬ (slice_get ys k ≡ None)
none_beside xs ys k x e f g = ⊎_elim
    (λ p. let both = sym g ∙ p.2 in cc)
    (λ p. omega (arith, p.0, slice_get_within xs k x f, e))
    (slice_get_cases ys k).1

module _ (T : Run) (plan : Plan) (cut : List Marked) where
  items_once : (rs ss : List (Vec Seen Global)) → AreLaneSeen T plan cut rs → AreLaneSeen T plan cut ss → (rank : ℕ) (l : Option Lane) (o q : Option (Vec Seen Global))
      → slice_get plan.lanes rank ≡ l → slice_get rs rank ≡ o → slice_get ss rank ≡ q → option_map_or (λ v. v.items) o [] ≡ option_map_or (λ v. v.items) q []
  items_once rs ss x y rank l None None d e f = refl
  items_once rs ss x y rank (Some l) (Some v) (Some w) d e f = seen_once T plan cut l.who v.items w.items (x.each rank l v d e) (y.each rank l w d f)
  items_once rs ss x y rank None (Some v) (Some w) d e f = absurd (none_beside rs plan.lanes rank v x.count_is e d)
  items_once rs ss x y rank l None (Some w) d e f = absurd (none_beside ss rs rank w (y.count_is ∙ sym x.count_is) f e)
  items_once rs ss x y rank l (Some v) None d e f = absurd (none_beside rs ss rank v (x.count_is ∙ sym y.count_is) e f)

  pub lanes_seen_once : (rs ss : List (Vec Seen Global)) → AreLaneSeen T plan cut rs → AreLaneSeen T plan cut ss → (rank : ℕ) → items_at rs rank ≡ items_at ss rank
  lanes_seen_once rs ss x y rank = items_once rs ss x y rank (slice_get plan.lanes rank) (slice_get rs rank) (slice_get ss rank) refl refl refl

  looked_in : (rs : List (Vec Seen Global)) → AreLaneSeen T plan cut rs → (rank : ℕ) (s : Seen) (l : Option Lane) (o : Option (Vec Seen Global))
      → slice_get plan.lanes rank ≡ l → slice_get rs rank ≡ o → Contains (option_map_or (λ v. v.items) o []) s → IsLooked T cut s
  looked_in rs x rank s l None d e c = absurd (Contains-none s c)
  looked_in rs x rank s None (Some v) d e c = absurd (none_beside rs plan.lanes rank v x.count_is e d)
  looked_in rs x rank s (Some l) (Some v) d e c = looked_at T plan cut l.who v.items (x.each rank l v d e) s c

  pub looked : (rs : List (Vec Seen Global)) → AreLaneSeen T plan cut rs → (rank : ℕ) (s : Seen) → Contains (items_at rs rank) s → IsLooked T cut s
  looked rs x rank s c = looked_in rs x rank s (slice_get plan.lanes rank) (slice_get rs rank) refl refl c
