-- What is heard: closed sets, what was touched, and one step further.
use Rattle.std.proofs.Common.{◌≡◌, ◌⊎◌, inl, inr, ⊎_elim, ℕ, suc, ◌<◌, ◌≤◌, length, Some, None, refl, sym, ap, ◌∙◌, subst, arith}
use Rattle.std.specs.Prelude.{option_and_then}
use Rattle.tau_points.specs.declared.point.Point.{Point}
use Rattle.tau_points.specs.Reach.{start, next, IsWithin}
use Rattle.tau_points.proofs.Reach.{least, monotone}
use Rattle.tau_trace.specs.declared.step.Step.TheVariants.{Take, New}
use Rattle.tau_trace.specs.Run.{Run, ActsAt}
use Rattle.tau_trace.specs.Numbering.{IsNew, IsRepeated, IsOrigin, direct, echoed, copied}
use Rattle.tau_trace.specs.Points.{point_at}
use Rattle.tau_trace.specs.Known.{WellFormed}
use Rattle.tau_trace.proofs.Agreement.{born-grows}
use Rattle.tau_trace.proofs.Lists.{same_some}
use Rattle.tau_trace.proofs.Once.{new_once, origin_once, origin_acts, copies_have_their_origin, posts_have_no_origin}
use Rattle.tau_trace.proofs.Quiet.{acts}
use Rattle.tau_trace.proofs.Sequences.{cases_last}
use Rattle.tau_past.specs.Carried.{Pending, touched, came, Carried, SentWith}
use Rattle.tau_past.specs.Heard.{heard_by, Needs, earlier, message, birth, IsCausallyClosed, Own, own_step, own_birth, OriginOf, Heard, HeardBy, HeardTogether}
use Rattle.tau_past.specs.KnownLaws.{TouchedIn, HearsOf, HearsOfNone, IsSame, Union, With, HeardSetsAreClosed, HoldsHeardAt, HeardStandsBefore, HeardAfterStep}
use Rattle.tau_past.proofs.Known.{acts_known, needs_before, heard_before, heard_by_before, heard_closed}

one_actor : (T : Run) (t u k : ℕ) → ActsAt T t k → ActsAt T u k → t ≡ u
one_actor T t u k a b = same_some (sym a ∙ b)

pub new_acts : (T : Run) (k by u : ℕ) → IsNew T k by u → ActsAt T by k
new_acts T k by u n = acts T by k (New by n.behaviour n.node n.state) n.stands refl

-- closed sets
pub heard_by_closed : (T : Run) (m : ℕ) → IsCausallyClosed T (HeardBy T m)
heard_by_closed T m = record { closed = λ i j h n. next h n }

pub union_closed : (H G : ℕ → Type 0) (T : Run) → IsCausallyClosed T H → IsCausallyClosed T G → IsCausallyClosed T (Union H G)
union_closed H G T c d = record { closed = λ i j h n. ⊎_elim (λ x. inl (c.closed i j x n)) (λ x. inr (d.closed i j x n)) h }

pub heard_sets_closed : (T : Run) → HeardSetsAreClosed T
heard_sets_closed T = record {
  transactor = heard_closed T;
  message = heard_by_closed T;
  together = λ t k m. union_closed (Heard T t k) (HeardBy T m) T (heard_closed T t k) (heard_by_closed T m);
}

-- a closed set with one more place, all of whose needs it holds
with_closed : (T : Run) (H : ℕ → Type 0) (k : ℕ) → IsCausallyClosed T H → ((j : ℕ) → Needs T k j → H j) → IsCausallyClosed T (With H k)
with_closed T H k c needed = record { closed = λ i j h n. ⊎_elim (λ x. inl (c.closed i j x n)) (λ e. inl (needed j (subst (λ x. Needs T x j) e n))) h }

pub absorbs : (T : Run) (H : ℕ → Type 0) (j u : ℕ) → IsCausallyClosed T H → H j → ActsAt T u j → IsWithin (Heard T u j) H
absorbs T H j u c h a = least (Needs T) (Own T u j) H (record { starts = own; follows = λ x y hx n. c.closed x y hx n }) where
  own : (i : ℕ) → Own T u j i → H i
  own i (own_step b lt) = c.closed j i h (earlier a b lt)
  own i (own_birth n) = c.closed j i h (birth a n)

pub absorbs_message : (T : Run) (H : ℕ → Type 0) (j m : ℕ) → IsCausallyClosed T H → H j → HearsOf T j m → IsWithin (HeardBy T m) H
absorbs_message T H j m c h e = least (Needs T) (OriginOf T m) H (record { starts = λ i o. c.closed j i h (message e o.origin); follows = λ x y hx n. c.closed x y hx n })

pub holds_heard_at : (H : ℕ → Type 0) (T : Run) (j : ℕ) → IsCausallyClosed T H → H j → HoldsHeardAt T H j
holds_heard_at H T j c h = record { actor = λ u a. absorbs T H j u c h a; message = λ m e. absorbs_message T H j m c h e }

-- what is pending was touched
touched_within : (T : Run) (H G : ℕ → Type 0) (q : Point) → IsWithin H G → TouchedIn T H q → TouchedIn T G q
touched_within T H G q within s = record { place = s.place; held = within s.place s.held; touching = s.touching; at_point = s.at_point }

pub pending_touched : (T : Run) (t k : ℕ) (q : Point) → Pending T t k q → TouchedIn T (Heard T t k) q
pending_touched T t k q (touched {j = j} u lt le d e) = subst (TouchedIn T (Heard T t k)) (sym e) here where
  here : TouchedIn T (Heard T t k) (point_at T t j)
  here = record { place = j; held = start (own_step (acts T t j d.step d.stands d.by) le); touching = d; at_point = refl }
pending_touched T t k q (came {take = b} {m = m} {j = j} {by = by} u o x p) = touched_within T (Heard T by j) (Heard T t k) q (absorbs T (Heard T t k) j by (heard_closed T t k) send (origin_acts T j by m o)) (pending_touched T by j q p) where
  send : Heard T t k j
  send = next (start (own_step (acts T t b (Take t m) u.takes refl) u.before)) (message (ap (option_and_then heard_by) u.takes) o)

pub carried_touched : (H : ℕ → Type 0) (T : Run) (j : ℕ) (q : Point) → IsCausallyClosed T H → H j → Carried T j q → TouchedIn T H q
carried_touched H T j q c h x = touched_within T (Heard T x.by j) H q (absorbs T H j x.by c h x.acts) (pending_touched T x.by j q x.pending)

pub sent_touched : (T : Run) (m : ℕ) (q : Point) → SentWith T m q → TouchedIn T (HeardBy T m) q
sent_touched T m q s = carried_touched (HeardBy T m) T s.place q (heard_by_closed T m) (start (record { by = s.by; origin = s.origin })) s.carried

-- where what is heard stands
pub stands_before : (T : Run) → WellFormed T → HeardStandsBefore T
stands_before T w = record {
  transactor = λ t k j lt h. heard_before T t k j w lt h;
  message = up_to;
  sent_message = λ m k j lt h. heard_by_before T m k j w lt h;
  post = λ m j lt h. none m lt j h;
} where
  up_to : (m k by j : ℕ) → IsOrigin T k by m → HeardBy T m j → j ≤ k
  up_to m k by j o = least (Needs T) (OriginOf T m) (λ i. i ≤ k) (record { starts = own; follows = λ x y le n. omega (arith, needs_before T x y w n) }) j where
    own : (i : ℕ) → OriginOf T m i → i ≤ k
    own i p = omega (arith, origin_once T i k p.by by m p.origin o)

  none : (m : ℕ) → m < length T.opening.targets → (j : ℕ) → ¬ HeardBy T m j
  none m lt = least (Needs T) (OriginOf T m) (λ i. ⊥) (record { starts = λ i o. posts_have_no_origin T i o.by m lt o.origin; follows = λ x y h n. h })

-- what was heard stays heard
pub heard_grows : (T : Run) (t j k : ℕ) → j ≤ k → IsWithin (Heard T t j) (Heard T t k)
heard_grows T t j k le = monotone (Needs T) (Needs T) (Own T t j) (Own T t k) (λ x y n. n) own where
  own : (i : ℕ) → Own T t j i → Own T t k i
  own i (own_step a lt) = own_step a (omega arith)
  own i (own_birth n) = own_birth n

-- one step further
heard_other : (T : Run) (t k : ℕ) → ¬ ActsAt T t k → IsSame (Heard T t (suc k)) (Heard T t k)
heard_other T t k none j = (monotone (Needs T) (Needs T) (Own T t (suc k)) (Own T t k) (λ x y n. n) own j, heard_grows T t k (suc k) (omega arith) j) where
  own : (i : ℕ) → Own T t (suc k) i → Own T t k i
  own i (own_step a lt) = own_step a (⊎_elim (λ e. absurd (none (subst (ActsAt T t) e a))) (λ l. l) (cases_last i k lt))
  own i (own_birth n) = own_birth n

-- a step needs what its actor has heard, and what the message that it hears of has heard
needs_heard : (T : Run) (t k : ℕ) → ActsAt T t k → (j : ℕ) → Needs T k j → Heard T t k j ⊎ ((m : ℕ) × HearsOf T k m × OriginOf T m j)
needs_heard T t k a j (earlier {t = u} b c lt) = inl (start (own_step (subst (λ x. ActsAt T x j) (one_actor T u t k b a) c) lt))
needs_heard T t k a j (message {m = m} {by = by} e o) = inr (m, e, record { by = by; origin = o })
needs_heard T t k a j (birth {u = u} {by = by} b n) = inl (start (own_birth (subst (IsNew T j by) (one_actor T u t k b a) n)))

needs_alone : (T : Run) (t k : ℕ) → ActsAt T t k → HearsOfNone T k → (j : ℕ) → Needs T k j → Heard T t k j
needs_alone T t k a none j n = ⊎_elim (λ h. h) (λ x. absurd (clash x.0 x.1)) (needs_heard T t k a j n) where
  clash : (m : ℕ) → HearsOf T k m → ⊥
  clash m e = let both : None ≡ Some m = sym none ∙ e in cc

needs_together : (T : Run) (t k m : ℕ) → ActsAt T t k → HearsOf T k m → (j : ℕ) → Needs T k j → HeardTogether T t k m j
needs_together T t k m a e j n = ⊎_elim (λ h. inl h) (λ x. inr (start (subst (λ i. OriginOf T i j) (same_some (sym x.1 ∙ e)) x.2))) (needs_heard T t k a j n)

-- what t has heard after its own step at k lies in each closed set that holds what it had heard, with k
own_step_within : (T : Run) (t k : ℕ) (G : ℕ → Type 0) → IsCausallyClosed T (With G k) → IsWithin (Heard T t k) G → IsWithin (Heard T t (suc k)) (With G k)
own_step_within T t k G c within = least (Needs T) (Own T t (suc k)) (With G k) (record { starts = own; follows = λ x y h n. c.closed x y h n }) where
  own : (i : ℕ) → Own T t (suc k) i → With G k i
  own i (own_step a lt) = ⊎_elim (λ e. inr e) (λ l. inl (within i (start (own_step a l)))) (cases_last i k lt)
  own i (own_birth n) = inl (within i (start (own_birth n)))

own_place : (T : Run) (t k : ℕ) → ActsAt T t k → Heard T t (suc k) k
own_place T t k a = start (own_step a (omega arith))

heard_alone : (T : Run) (t k : ℕ) → ActsAt T t k → HearsOfNone T k → IsSame (Heard T t (suc k)) (With (Heard T t k) k)
heard_alone T t k a none j = (
  own_step_within T t k (Heard T t k) (with_closed T (Heard T t k) k (heard_closed T t k) (needs_alone T t k a none)) (λ i h. h) j,
  λ s. ⊎_elim (heard_grows T t k (suc k) (omega arith) j) (λ e. subst (Heard T t (suc k)) (sym e) (own_place T t k a)) s,
)

heard_hearing : (T : Run) (t k m : ℕ) → ActsAt T t k → HearsOf T k m → IsSame (Heard T t (suc k)) (With (HeardTogether T t k m) k)
heard_hearing T t k m a e j = (
  own_step_within T t k (HeardTogether T t k m) (with_closed T (HeardTogether T t k m) k ((heard_sets_closed T).together t k m) (needs_together T t k m a e)) (λ i h. inl h) j,
  λ s. ⊎_elim both (λ f. subst (Heard T t (suc k)) (sym f) (own_place T t k a)) s,
) where
  both : HeardTogether T t k m j → Heard T t (suc k) j
  both h = ⊎_elim (heard_grows T t k (suc k) (omega arith) j) (absorbs_message T (Heard T t (suc k)) k m (heard_closed T t (suc k)) (own_place T t k a) e j) h

-- a New, a Send and an Echo hear of no message
new_alone : (T : Run) (k by u : ℕ) → IsNew T k by u → HearsOfNone T k
new_alone T k by u n = ap (option_and_then heard_by) n.stands

origin_alone : (T : Run) (k by m : ℕ) → IsOrigin T k by m → HearsOfNone T k
origin_alone T k by m (direct o) = ap (option_and_then heard_by) o.stands
origin_alone T k by m (echoed o) = ap (option_and_then heard_by) o.stands
origin_alone T k by m (copied {n = n} c o) = origin_alone T k by n o

heard_created : (T : Run) (t k by : ℕ) → WellFormed T → IsNew T k by t → IsSame (Heard T t (suc k)) (With (Heard T by k) k)
heard_created T t k by w n j = (
  least (Needs T) (Own T t (suc k)) (With (Heard T by k) k) (record { starts = own; follows = λ x y h f. closed.closed x y h f }) j,
  λ s. ⊎_elim (absorbs T (Heard T t (suc k)) k by (heard_closed T t (suc k)) (start (own_birth n)) (new_acts T k by t n) j) (λ e. subst (Heard T t (suc k)) (sym e) (start (own_birth n))) s,
) where
  closed : IsCausallyClosed T (With (Heard T by k) k)
  closed = with_closed T (Heard T by k) k (heard_closed T by k) (needs_alone T by k (new_acts T k by t n) (new_alone T k by t n))

  own : (i : ℕ) → Own T t (suc k) i → With (Heard T by k) k i
  own i (own_step a lt) = absurd (omega (arith, acts_known T t i w a, born-grows T i k (omega arith), n.made))
  own i (own_birth {by = other} x) = inr (new_once T i k other by t x n)

pub heard_with_sender : (T : Run) (m k by : ℕ) → IsOrigin T k by m → IsSame (HeardBy T m) (With (Heard T by k) k)
heard_with_sender T m k by o j = (
  least (Needs T) (OriginOf T m) (With (Heard T by k) k) (record { starts = λ i p. inr (origin_once T i k p.by by m p.origin o); follows = λ x y h f. closed.closed x y h f }) j,
  λ s. ⊎_elim (absorbs T (HeardBy T m) k by (heard_by_closed T m) send (origin_acts T k by m o) j) (λ e. subst (HeardBy T m) (sym e) send) s,
) where
  closed : IsCausallyClosed T (With (Heard T by k) k)
  closed = with_closed T (Heard T by k) k (heard_closed T by k) (needs_alone T by k (origin_acts T k by m o) (origin_alone T k by m o))

  send : HeardBy T m k
  send = start (record { by = by; origin = o })

-- a copy has heard what the message that it repeats has heard
pub copies_hear : (T : Run) (k n m : ℕ) → IsRepeated T k n m → IsSame (HeardBy T m) (HeardBy T n)
copies_hear T k n m c j = (
  monotone (Needs T) (Needs T) (OriginOf T m) (OriginOf T n) (λ x y f. f) (λ i o. record { by = o.by; origin = (copies_have_their_origin T k n m i o.by c).0 o.origin }) j,
  monotone (Needs T) (Needs T) (OriginOf T n) (OriginOf T m) (λ x y f. f) (λ i o. record { by = o.by; origin = (copies_have_their_origin T k n m i o.by c).1 o.origin }) j,
)

pub heard_after_step : (T : Run) (t k : ℕ) → WellFormed T → HeardAfterStep T t k
heard_after_step T t k w = record {
  other = heard_other T t k;
  alone = heard_alone T t k;
  hearing = heard_hearing T t k;
  created = λ by n. heard_created T t k by w n;
}
