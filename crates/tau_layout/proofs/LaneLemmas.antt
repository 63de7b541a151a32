-- The lanes of steps, marks of transactors, and the lanes of nodes.
use Rattle.std.proofs.Common.{◌≡◌, ◌≢◌, ◌⊎◌, ◌↔◌, inl, inr, ⊎_elim, ℕ, zero, suc, ◌+◌, ◌*◌, ◌<◌, ◌≤◌, Bool, true, false, List, [], ◌∷◌, ◌++◌, length, set, replicate, Option, Some, None, refl, sym, ap, ◌∙◌, subst, arith, get_or, length-append}
use Rattle.std.specs.Prelude.{slice_get, Contains, if◌then◌else◌}
use Rattle.std.specs.List.{AllPairs}
use Rattle.std.proofs.lemmas.Bool.{cases_eq}
use Rattle.std.proofs.lemmas.List.{append-nil, length-set, length-replicate, get_or_append_left, get_or_at}
use Rattle.std.proofs.lemmas.List.Elements.{Contains-append_left, Contains-get_or, Contains-push, Contains-push_cases}
use Rattle.std.proofs.lemmas.List.Quantifiers.{all_pairs_push}
use Rattle.tau_trace.specs.declared.step.Step.{Step}
use Rattle.tau_trace.specs.declared.step.Step.TheVariants.{Lose, Repeat}
use Rattle.tau_trace.specs.Steps.{actor}
use Rattle.tau_trace.specs.Run.{Run, len, step_at}
use Rattle.tau_trace.specs.Numbering.{born, IsReceiver, IsHome}
use Rattle.tau_trace.proofs.Lists.{same_some, slice_get-set_same, slice_get-set_other}
use Rattle.tau_trace.proofs.Once.{receives_once}
use Rattle.tau_layout.specs.declared.lanes.Lane.{Lane}
use Rattle.tau_svg.specs.declared.shapes.window.Window.{Window}
use Rattle.tau_svg.specs.Shapes.Windows.{IsDrawn}
use Rattle.tau_layout.specs.Lanes.{StepStandsIn, StandsIn, IsLaneOfStep, IsLaneAt, HasLane, ComesBefore, AreLanes}
use Rattle.tau_layout.specs.Inner.Marking.{IsMarked, Marks, AreMarks, AreMarked, HasLaneBefore, lane_of, AddsLane, there, away, AddsLanes, no_numbers, next_number, AddsNodes, no_nodes, next_node}

-- the lane of a step

acts : (T : Run) (s : Step) (t : ℕ) → ((m : ℕ) → s ≡ Lose m → ⊥) → ((m : ℕ) → s ≡ Repeat m → ⊥) → StepStandsIn T s t → actor s ≡ Some t
acts T (Lose m) t never nor h = absurd (never m refl)
acts T (Repeat m) t never nor h = absurd (nor m refl)
acts T s t never nor h = h

stands : (T : Run) (s : Step) (t : ℕ) → ((m : ℕ) → s ≡ Lose m → ⊥) → ((m : ℕ) → s ≡ Repeat m → ⊥) → actor s ≡ Some t → StepStandsIn T s t
stands T (Lose m) t never nor h = absurd (never m refl)
stands T (Repeat m) t never nor h = absurd (nor m refl)
stands T s t never nor h = h

pub lost : (T : Run) (s : Step) (m : ℕ) (r : Option ℕ) → s ≡ Lose m → IsReceiver T m r → IsLaneOfStep T s r
lost T s m None e never = λ t h. never t (subst (λ (x : Step). StepStandsIn T x t) e h)
lost T s m (Some t) e h = subst (λ (x : Step). StepStandsIn T x t) (sym e) h

pub copied : (T : Run) (s : Step) (m : ℕ) (r : Option ℕ) → s ≡ Repeat m → IsReceiver T m r → IsLaneOfStep T s r
copied T s m None e never = λ t h. never t (subst (λ (x : Step). StepStandsIn T x t) e h)
copied T s m (Some t) e h = subst (λ (x : Step). StepStandsIn T x t) (sym e) h

pub acted : (T : Run) (s : Step) (r : Option ℕ) → ((m : ℕ) → s ≡ Lose m → ⊥) → ((m : ℕ) → s ≡ Repeat m → ⊥) → r ≡ actor s → IsLaneOfStep T s r
acted T s None never nor e = λ t h. let a = acts T s t never nor h in cc
acted T s (Some t) never nor e = stands T s t never nor (sym e)

pub lane_of_step : (T : Run) (k t : ℕ) (s : Step) → step_at T k ≡ Some s → StandsIn T k t → StepStandsIn T s t
lane_of_step T k t s e h = subst (λ (x : Step). StepStandsIn T x t) (same_some (sym h.stands ∙ e)) h.lane

pub lane_found : (T : Run) (k : ℕ) (s : Step) (r : Option ℕ) → step_at T k ≡ Some s → IsLaneOfStep T s r → IsLaneAt T k r
lane_found T k s None e never = λ t h. never t (lane_of_step T k t s e h)
lane_found T k s (Some t) e h = record { step = s; stands = e; lane = h }

pub lane_none : (T : Run) (k : ℕ) → step_at T k ≡ None → IsLaneAt T k None
lane_none T k e = λ t h. let a = h.stands in cc

-- marks

pub marks_as : (P Q : ℕ → Type 0) (old new : List Bool) → ((t : ℕ) → P t → Q t) → ((t : ℕ) → Q t → P t) → Marks P old new → Marks Q old new
marks_as P Q old new to from m = record {
  count = m.count;
  marked = λ t. (
    λ h. ⊎_elim (λ a. inl a) (λ p. inr (to t p.0, p.1)) ((m.marked t).0 h),
    λ h. (m.marked t).1 (⊎_elim (λ a. inl a) (λ q. inr (from t q.0, q.1)) h),
  );
}

-- a step stands in one lane: one actor makes it, and a message has one receiver
one_of_step : (T : Run) (s : Step) (t u : ℕ) → StepStandsIn T s t → StepStandsIn T s u → t ≡ u
one_of_step T (Lose m) t u a b = receives_once T m t u a b
one_of_step T (Repeat m) t u a b = receives_once T m t u a b
one_of_step T s t u a b = same_some (sym a ∙ b)

pub one_lane : (T : Run) (k t u : ℕ) → StandsIn T k t → StandsIn T k u → t ≡ u
one_lane T k t u a b = one_of_step T b.step t u (lane_of_step T k t b.step b.stands a) b.lane

-- the marks by an answer on lanes
pub marks_lane : (T : Run) (k : ℕ) (r : Option ℕ) (old new : List Bool) → IsLaneAt T k r → Marks (λ t. r ≡ Some t) old new → Marks (StandsIn T k) old new
marks_lane T k None old new never m = marks_as (λ t. None ≡ Some t) (StandsIn T k) old new (λ t e. absurd (cc)) (λ t h. absurd (never t h)) m
marks_lane T k (Some w) old new at m = marks_as (λ t. Some w ≡ Some t) (StandsIn T k) old new (λ t e. subst (StandsIn T k) (same_some e) at) (λ t h. ap Some (one_lane T k w t at h)) m

-- the marks of a window, place by place

unmarked : (n t : ℕ) → IsMarked (replicate n false) t → ⊥
unmarked zero t m = cc
unmarked (suc n) zero m = cc
unmarked (suc n) (suc t) m = unmarked n t m

pub marks_first : (P : ℕ → Type 0) (n : ℕ) (marks : List Bool) → marks ≡ replicate n false → ((t : ℕ) → ¬ P t) → AreMarks P n marks
marks_first P n marks e none = record {
  count_is = ap length e ∙ length-replicate n false;
  marked = λ t. (λ m. absurd (unmarked n t (sym (ap (λ x. slice_get x t) e) ∙ m)), λ p. absurd (none t p.0));
}

at_or_before : (j k : ℕ) → j < k + 1 → (j ≡ k) ⊎ (j < k)
at_or_before j k l = grind arith

pub marks_next : (T : Run) (v : Window) (k n : ℕ) (old new : List Bool) → IsDrawn v k → AreMarks (HasLaneBefore T v k) n old → Marks (StandsIn T k) old new → AreMarks (HasLaneBefore T v (k + 1)) n new
marks_next T v k n old new d a m = record {
  count_is = m.count ∙ a.count_is;
  marked = λ t. (to t, from t);
} where
  to : (t : ℕ) → IsMarked new t → HasLaneBefore T v (k + 1) t × (t < n)
  to t h = ⊎_elim
      (λ o. let p = (a.marked t).0 o in (record { has = p.0.has; before = omega (arith, p.0.before) }, p.1))
      (λ s. (record { has = record { place = k; drawn = d; stands = s.0 }; before = omega arith }, omega (arith, s.1, a.count_is)))
      ((m.marked t).0 h)

  from : (t : ℕ) → HasLaneBefore T v (k + 1) t × (t < n) → IsMarked new t
  from t p = (m.marked t).1 (⊎_elim
      (λ e. inr (subst (λ j. StandsIn T j t) e p.0.has.stands, omega (arith, p.1, a.count_is)))
      (λ l. inl ((a.marked t).1 (record { has = p.0.has; before = l }, p.1)))
      (at_or_before p.0.has.place k p.0.before))

pub marks_end : (T : Run) (v : Window) (k n : ℕ) (marks : List Bool) → v.to ≤ k → AreMarks (HasLaneBefore T v k) n marks → AreMarks (HasLane T v) n marks
marks_end T v k n marks l a = record {
  count_is = a.count_is;
  marked = λ t. (
    λ h. let p = (a.marked t).0 h in (p.0.has, p.1),
    λ p. (a.marked t).1 (record { has = p.0; before = omega (arith, p.0.drawn.1) }, p.1),
  );
}

-- the marked numbers

pub marked_none : (marks : List Bool) → AreMarked marks 0 []
marked_none marks = record {
  ascending = λ i j d l lt. absurd (omega (arith, lt));
  all = λ t. (λ c. absurd (omega (arith, c.1)), λ p. absurd (omega (arith, p.1)));
  few = omega arith;
}

marked_at : (marks : List Bool) (k : ℕ) (b : Bool) (all : List ℕ) → slice_get marks k ≡ Some b → AreMarked marks k all → AreMarked marks (k + 1) (all ++ (if b then k ∷ [] else []))
marked_at marks k true all e a = record {
  ascending = all_pairs_push (λ x y. x < y) all k a.ascending (λ i d lt. ((a.all (get_or all i d)).0 (Contains-get_or all i d lt)).1);
  all = λ t. (
    λ c. ⊎_elim (λ o. let p = (a.all t).0 o in (p.0, omega (arith, p.1))) (λ s. (ap (slice_get marks) (sym s) ∙ e, omega (arith, s))) (Contains-push_cases all k t c),
    λ p. ⊎_elim (λ s. subst (Contains (all ++ k ∷ [])) (sym s) (Contains-push all k)) (λ l. Contains-append_left all (k ∷ []) t ((a.all t).1 (p.0, l))) (at_or_before t k p.1),
  );
  few = omega (arith, length-append all (k ∷ []), a.few);
}
marked_at marks k false all e a =
    let plain : AreMarked marks (k + 1) all = record {
      ascending = a.ascending;
      all = λ t. (
        λ c. let p = (a.all t).0 c in (p.0, omega (arith, p.1)),
        λ p. ⊎_elim (λ s. absurd (not_both (sym e ∙ ap (slice_get marks) (sym s) ∙ p.0))) (λ l. (a.all t).1 (p.0, l)) (at_or_before t k p.1),
      );
      few = omega (arith, a.few);
    } in
    subst (AreMarked marks (k + 1)) (sym (append-nil all)) plain
  where
    not_both : Some false ≡ Some true → ⊥
    not_both x = cc

pub marked_next : (marks : List Bool) (k : ℕ) (b : Bool) (all new : List ℕ) → slice_get marks k ≡ Some b → new ≡ all ++ (if b then k ∷ [] else []) → AreMarked marks k all → AreMarked marks (k + 1) new
marked_next marks k b all new e is a = subst (AreMarked marks (k + 1)) (sym is) (marked_at marks k b all e a)

-- the lanes of a node

pairs_front : (xs : List ℕ) (y : ℕ) → AllPairs (λ a b. a < b) (xs ++ y ∷ []) → AllPairs (λ a b. a < b) xs
pairs_front xs y up i j d l lt = omega (arith, up i j d l (omega (arith, length-append xs (y ∷ []))), get_or_append_left xs (y ∷ []) d i (omega arith), get_or_append_left xs (y ∷ []) d j lt)

pairs_last : (xs : List ℕ) (y u : ℕ) → AllPairs (λ a b. a < b) (xs ++ y ∷ []) → Contains xs u → u < y
pairs_last xs y u up c = omega (arith, up c.0 (length xs) u c.1 (omega (arith, length-append xs (y ∷ []))), get_or_append_left xs (y ∷ []) u c.0 c.1, c.2, get_or_at xs y [] u (length xs) refl)

-- what a lane of node n among ts is
record IsAt (T : Run) (n : ℕ) (ts : List ℕ) (l : Lane) : Type 0 where
  node : l.node ≡ n
  listed : Contains ts l.who
  home : IsHome T l.who n

at_push : (T : Run) (n : ℕ) (ts : List ℕ) (t : ℕ) (l : Lane) → IsAt T n ts l → IsAt T n (ts ++ t ∷ []) l
at_push T n ts t l a = record { node = a.node; listed = Contains-append_left ts (t ∷ []) l.who a.listed; home = a.home }

same_lane : (l : Lane) (n t : ℕ) → l.node ≡ n → l.who ≡ t → lane_of n t ≡ l
same_lane l n t e f = λ i. record { node = sym e i; who = sym f i }

one_members : (T : Run) (n t : ℕ) (old new : List Lane) → AddsLane T n t old new → (l : Lane) → Contains new l ↔ (Contains old l ⊎ ((l.node ≡ n) × (l.who ≡ t) × IsHome T t n))
one_members T n t old new (there h) l = (
  λ c. ⊎_elim (λ o. inl o) (λ s. inr (sym (ap (λ x. x.node) s), sym (ap (λ x. x.who) s), h)) (Contains-push_cases old (lane_of n t) l c),
  λ q. ⊎_elim (λ o. Contains-append_left old (lane_of n t ∷ []) l o) (λ p. subst (Contains (old ++ lane_of n t ∷ [])) (same_lane l n t p.0 p.1) (Contains-push old (lane_of n t))) q,
)
one_members T n t old new (away never) l = (λ c. inl c, λ q. ⊎_elim (λ o. o) (λ p. absurd (never p.2)) q)

to_all : (T : Run) (n t : ℕ) (ts : List ℕ) (old middle new : List Lane) (l : Lane) → (Contains middle l ↔ (Contains old l ⊎ IsAt T n ts l)) → AddsLane T n t middle new → Contains new l → Contains old l ⊎ IsAt T n (ts ++ t ∷ []) l
to_all T n t ts old middle new l before one c = ⊎_elim
    (λ m. ⊎_elim (λ o. inl o) (λ a. inr (at_push T n ts t l a)) (before.0 m))
    (λ p. inr (record { node = p.0; listed = subst (Contains (ts ++ t ∷ [])) (sym p.1) (Contains-push ts t); home = subst (λ x. IsHome T x n) (sym p.1) p.2 }))
    ((one_members T n t middle new one l).0 c)

from_all : (T : Run) (n t : ℕ) (ts : List ℕ) (old middle new : List Lane) (l : Lane) → (Contains middle l ↔ (Contains old l ⊎ IsAt T n ts l)) → AddsLane T n t middle new → Contains old l ⊎ IsAt T n (ts ++ t ∷ []) l → Contains new l
from_all T n t ts old middle new l before one q = (one_members T n t middle new one l).1 (⊎_elim
    (λ o. inl (before.1 (inl o)))
    (λ a. ⊎_elim
    (λ c. inl (before.1 (inr (record { node = a.node; listed = c; home = a.home }))))
    (λ s. inr (a.node, sym s, subst (λ x. IsHome T x n) (sym s) a.home))
    (Contains-push_cases ts t l.who a.listed))
    q)

all_members : (T : Run) (n : ℕ) (ts : List ℕ) (old new : List Lane) → AddsLanes T n ts old new → (l : Lane) → Contains new l ↔ (Contains old l ⊎ IsAt T n ts l)
all_members T n ts old new no_numbers l = (λ c. inl c, λ q. ⊎_elim (λ o. o) (λ a. absurd (omega (arith, a.listed.1))) q)
all_members T n ts old new (next_number {ts = us} {t = t} {new = middle} more one) l =
    let before = all_members T n us old middle more l in
    (to_all T n t us old middle new l before one, from_all T n t us old middle new l before one)

-- lanes of nodes below n, in their order
pub record AreBelow (n : ℕ) (lanes : List Lane) : Type 0 where
  pub ascending : AllPairs ComesBefore lanes
  pub below : (l : Lane) → Contains lanes l → l.node < n

one_ascending : (T : Run) (n t : ℕ) (ts : List ℕ) (old middle new : List Lane) → AllPairs (λ a b. a < b) (ts ++ t ∷ []) → AreBelow n old → AllPairs ComesBefore middle → AddsLanes T n ts old middle → AddsLane T n t middle new → AllPairs ComesBefore new
one_ascending T n t ts old middle new up b asc more (away never) = asc
one_ascending T n t ts old middle new up b asc more (there h) = all_pairs_push ComesBefore middle (lane_of n t) asc (λ k d lt. ⊎_elim
    (λ o. inl (b.below (get_or middle k d) o))
    (λ a. inr (a.node, pairs_last ts t (get_or middle k d).who up a.listed))
    ((all_members T n ts old middle more (get_or middle k d)).0 (Contains-get_or middle k d lt)))

all_ascending : (T : Run) (n : ℕ) (ts : List ℕ) (old new : List Lane) → AllPairs (λ a b. a < b) ts → AreBelow n old → AddsLanes T n ts old new → AllPairs ComesBefore new
all_ascending T n ts old new up b no_numbers = b.ascending
all_ascending T n ts old new up b (next_number {ts = us} {t = t} {new = middle} more one) =
    one_ascending T n t us old middle new up b (all_ascending T n us old middle (pairs_front us t up) b more) more one

all_below : (T : Run) (n : ℕ) (ts : List ℕ) (old new : List Lane) → AllPairs (λ a b. a < b) ts → AreBelow n old → AddsLanes T n ts old new → AreBelow (suc n) new
all_below T n ts old new up b adds = record {
  ascending = all_ascending T n ts old new up b adds;
  below = λ l c. ⊎_elim (λ o. omega (arith, b.below l o)) (λ a. omega (arith, a.node)) ((all_members T n ts old new adds l).0 c);
}

pub nodes_below_are : (T : Run) (ts : List ℕ) (n : ℕ) (lanes : List Lane) → AllPairs (λ a b. a < b) ts → AddsNodes T ts n lanes → AreBelow n lanes
nodes_below_are T ts n lanes up no_nodes = record { ascending = λ i j d l lt. absurd (omega (arith, lt)); below = λ l c. absurd (omega (arith, c.1)) }
nodes_below_are T ts n lanes up (next_node {n = m} {old = old} more adds) = all_below T m ts old lanes up (nodes_below_are T ts m old up more) adds

-- what a lane of a node below n among ts is
record IsAmong (T : Run) (n : ℕ) (ts : List ℕ) (l : Lane) : Type 0 where
  node : l.node < n
  listed : Contains ts l.who
  home : IsHome T l.who l.node

at_or_under : (j k : ℕ) → j < suc k → (j ≡ k) ⊎ (j < k)
at_or_under j k b = grind arith

to_nodes : (T : Run) (ts : List ℕ) (m : ℕ) (old lanes : List Lane) (l : Lane) → (Contains old l ↔ IsAmong T m ts l) → AddsLanes T m ts old lanes → Contains lanes l → IsAmong T (suc m) ts l
to_nodes T ts m old lanes l before adds c = ⊎_elim
    (λ o. let a = before.0 o in record { node = omega (arith, a.node); listed = a.listed; home = a.home })
    (λ a. record { node = omega (arith, a.node); listed = a.listed; home = subst (IsHome T l.who) (sym a.node) a.home })
    ((all_members T m ts old lanes adds l).0 c)

from_nodes : (T : Run) (ts : List ℕ) (m : ℕ) (old lanes : List Lane) (l : Lane) → (Contains old l ↔ IsAmong T m ts l) → AddsLanes T m ts old lanes → IsAmong T (suc m) ts l → Contains lanes l
from_nodes T ts m old lanes l before adds a = (all_members T m ts old lanes adds l).1 (⊎_elim
    (λ e. inr (record { node = e; listed = a.listed; home = subst (IsHome T l.who) e a.home }))
    (λ b. inl (before.1 (record { node = b; listed = a.listed; home = a.home })))
    (at_or_under l.node m a.node))

nodes_members : (T : Run) (ts : List ℕ) (n : ℕ) (lanes : List Lane) → AddsNodes T ts n lanes → (l : Lane) → Contains lanes l ↔ IsAmong T n ts l
nodes_members T ts n lanes no_nodes l = (λ c. absurd (omega (arith, c.1)), λ a. absurd (omega (arith, a.node)))
nodes_members T ts n lanes (next_node {n = m} {old = old} more adds) l =
    let before = nodes_members T ts m old more l in
    (to_nodes T ts m old lanes l before adds, from_nodes T ts m old lanes l before adds)

-- how many lanes there are at most

one_few : (T : Run) (n t : ℕ) (old new : List Lane) → AddsLane T n t old new → length new ≤ length old + 1
one_few T n t old new (there h) = omega (arith, length-append old (lane_of n t ∷ []))
one_few T n t old new (away never) = omega arith

all_few : (T : Run) (n : ℕ) (ts : List ℕ) (old new : List Lane) → AddsLanes T n ts old new → length new ≤ length old + length ts
all_few T n ts old new no_numbers = omega arith
all_few T n ts old new (next_number {ts = us} {t = t} {new = middle} more one) = omega (arith, one_few T n t middle new one, all_few T n us old middle more, length-append us (t ∷ []))

suc_times : (a b : ℕ) → suc a * b ≡ a * b + b
suc_times a b = omega arith

pub nodes_few : (T : Run) (ts : List ℕ) (n : ℕ) (lanes : List Lane) → AddsNodes T ts n lanes → length lanes ≤ n * length ts
nodes_few T ts n lanes no_nodes = omega arith
nodes_few T ts n lanes (next_node {n = m} {old = old} more adds) = omega (arith, nodes_few T ts m old more, all_few T m ts old lanes adds, suc_times m (length ts))

-- the lanes of all nodes, of the transactors that are marked
pub lanes_are : (T : Run) (v : Window) (marks : List Bool) (ts : List ℕ) (nodes : ℕ) (lanes : List Lane) → ((t n : ℕ) → IsHome T t n → n < nodes) → ((t : ℕ) → HasLane T v t → t < born T (len T)) → AreMarks (HasLane T v) (born T (len T)) marks → AreMarked marks (length marks) ts → AddsNodes T ts nodes lanes → AreLanes T v lanes
lanes_are T v marks ts nodes lanes home known m a adds = record {
  ascending = (nodes_below_are T ts nodes lanes a.ascending adds).ascending;
  only = λ l c. let x = (nodes_members T ts nodes lanes adds l).0 c in (((m.marked l.who).0 ((a.all l.who).0 x.listed).0).0, x.home);
  all = λ t n h at. (nodes_members T ts nodes lanes adds (lane_of n t)).1 (record { node = home t n at; listed = (a.all t).1 ((m.marked t).1 (h, known t h), omega (arith, known t h, m.count_is)); home = at });
}
