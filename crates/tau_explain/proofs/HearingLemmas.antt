-- What was heard, marked in one pass downwards.
use Rattle.std.proofs.Common.{◌≡◌, ◌⊎◌, ◌↔◌, inl, inr, ⊎_elim, ℕ, ◌<◌, ◌≤◌, Bool, true, false, List, [], take, drop, ◌∷◌, ◌++◌, ◌+◌, get_or, Option, Some, None, length, refl, sym, ap, ◌∙◌, subst, arith, IsTrue, option_and_then}
use Rattle.std.specs.Prelude.{Contains, IsSome, IfSome}
use Rattle.std.specs.List.{AllPairs}
use Rattle.std.specs.List.Sorted.{IsStrictlySortedBy}
use Rattle.std.specs.Ordering.{nat_cmp}
use Rattle.std.proofs.lemmas.Bool.{cases_eq}
use Rattle.std.proofs.lemmas.List.{get_or_default, append-nil, take_all, drop_all}
use Rattle.std.proofs.lemmas.Option.{slice_get_within, slice_get-get_or}
use Rattle.std.proofs.lemmas.List.Elements.{Contains-append_left, Contains-push, Contains-push_cases}
use Rattle.std.proofs.lemmas.List.Quantifiers.{all_pairs_push}
use Rattle.std.proofs.lemmas.Map.Keys.{sorted_from_strictly_increasing}
use Rattle.tau_points.specs.Reach.{Reach, start, next}
use Rattle.tau_points.proofs.Reach.{least, monotone, union}
use Rattle.tau_value.specs.declared.shared.Value.{Value}
use Rattle.tau_trace.specs.declared.step.Step.{Step}
use Rattle.tau_trace.specs.declared.step.Step.TheVariants.{Hold, Drop, Fall, New}
use Rattle.tau_trace.specs.Steps.{actor}
use Rattle.tau_trace.specs.Run.{Run, len, step_at, ActsAt}
use Rattle.tau_trace.specs.Numbering.{born, IsNew, IsOrigin}
use Rattle.tau_trace.specs.Known.{WellFormed}
use Rattle.tau_trace.proofs.Lists.{same_some}
use Rattle.tau_trace.specs.Stored.{IsMadeAt}
use Rattle.tau_trace.proofs.Agreement.{born-grows}
use Rattle.tau_trace.proofs.Once.{origin_once, origin_acts}
use Rattle.tau_past.specs.Heard.{heard_by, Needs, earlier, message, birth, Own, own_step, own_birth, OriginOf}
use Rattle.tau_past.specs.KnownLaws.{HearsOf}
use Rattle.tau_past.proofs.Known.{acts_known, needs_before}
use Rattle.tau_explain.specs.Decisions.{is_decision, HeardAt, IsDecision}
use Rattle.tau_explain.specs.Inner.Hearing.{IsMarked, IsMarkedOption, NeededAt, IsEnteredAt, HearsFrom, IsNoted, AreMarks, MarksOne, MarksNeeds}

-- what a decision has heard is what it needs

module _ (T : Run) (k t : ℕ) (acts : ActsAt T t k) where
  own_needed : (j : ℕ) → Own T t k j → Needs T k j
  own_needed j (own_step a lt) = earlier acts a lt
  own_needed j (own_birth n) = birth acts n

  needed_own : (j : ℕ) → Needs T k j → Own T t k j ⊎ ((m : ℕ) × HearsOf T k m × OriginOf T m j)
  needed_own j (earlier {t = u} a b lt) = inl (own_step (subst (λ x. ActsAt T x j) (same_some (sym a ∙ acts)) b) lt)
  needed_own j (message {m = m} {by = by} e o) = inr (m, e, record { by = by; origin = o })
  needed_own j (birth {u = u} {by = by} a n) = inl (own_birth (subst (IsNew T j by) (same_some (sym a ∙ acts)) n))

  alone : ((m : ℕ) → ¬ HearsOf T k m) → (j : ℕ) → NeededAt T k j ↔ Reach (Needs T) (Own T t k) j
  alone none j = (
    monotone (Needs T) (Needs T) (Needs T k) (Own T t k) (λ x y n. n) (λ x n. ⊎_elim (λ o. o) (λ h. absurd (none h.0 h.1)) (needed_own x n)) j,
    monotone (Needs T) (Needs T) (Own T t k) (Needs T k) (λ x y n. n) own_needed j,
  )

  together : (m : ℕ) → HearsOf T k m → (j : ℕ) → NeededAt T k j ↔ (Reach (Needs T) (Own T t k) j ⊎ Reach (Needs T) (OriginOf T m) j)
  together m hears j = (
    λ r. (union (Needs T) (Own T t k) (OriginOf T m) j).0 (monotone (Needs T) (Needs T) (Needs T k) (λ z. Own T t k z ⊎ OriginOf T m z) (λ x y n. n)
        (λ x n. ⊎_elim (λ o. inl o) (λ h. inr (subst (λ i. OriginOf T i x) (same_some (sym h.1 ∙ hears)) h.2)) (needed_own x n)) j r),
    λ s. monotone (Needs T) (Needs T) (λ z. Own T t k z ⊎ OriginOf T m z) (Needs T k) (λ x y n. n)
        (λ x c. ⊎_elim (own_needed x) (λ o. message hears o.origin) c) j ((union (Needs T) (Own T t k) (OriginOf T m) j).1 s),
  )

pub heard_is_needed : (T : Run) (k : ℕ) (s : Step) → step_at T k ≡ Some s → IsTrue (is_decision s) → (j : ℕ) → NeededAt T k j ↔ HeardAt T k s j
heard_is_needed T k (Hold t) e d = alone T k t (ap (option_and_then actor) e) (λ m h. let x = sym (ap (option_and_then heard_by) e) ∙ h in absurd (cc))
heard_is_needed T k (Drop t m) e d = together T k t (ap (option_and_then actor) e) m (ap (option_and_then heard_by) e)
heard_is_needed T k (Fall t m) e d = together T k t (ap (option_and_then actor) e) m (ap (option_and_then heard_by) e)
heard_is_needed T k s e d = absurd (cc)

-- marks

pub marks_none : (marks : List Bool) → MarksOne None marks marks
marks_none marks = record { count = refl; kept = λ k h. h; marked = λ k e. absurd (cc); allowed = λ k h. inl h }

pub noted_more : (T : Run) (j : ℕ) (known0 known entered0 entered : List Bool) → ((i : ℕ) → IsMarked known0 i → IsMarked known i) → ((u : ℕ) → IsMarked entered0 u → IsMarked entered u) → IsNoted T j known0 entered0 → IsNoted T j known entered
noted_more T j known0 known entered0 entered f g n = ⊎_elim (λ h. inl (f j h)) (λ x. inr (x.0, x.1, g x.0 x.2)) n

from_message : (T : Run) (k m j by : ℕ) (o : Option ℕ) (known : List Bool) → HearsFrom T k o → HearsOf T k m → IsOrigin T j by m → ((i : ℕ) → o ≡ Some i → IsMarked known i) → IsMarked known j
from_message T k m j by None known h e o f = absurd (h m j by e o)
from_message T k m j by (Some i) known h e o f = f j (ap (λ x. Some x) (origin_once T i j h.2.0 by m (subst (IsOrigin T i h.2.0) (same_some (sym h.1 ∙ e)) h.2.1) o))

from_needed : (T : Run) (k j : ℕ) (o : Option ℕ) → HearsFrom T k o → o ≡ Some j → Needs T k j
from_needed T k j None h e = absurd (cc)
from_needed T k j (Some i) h e = subst (Needs T k) (same_some e) (message h.1 h.2.1)

pub needs_marked : (T : Run) (k : ℕ) (who from : Option ℕ) (known0 known entered0 entered : List Bool) → who ≡ option_and_then actor (step_at T k) → HearsFrom T k from → MarksOne who entered0 entered → MarksOne from known0 known → AreMarks T known0 entered0
    → MarksNeeds T k known0 known entered0 entered
needs_marked T k who from known0 known entered0 entered is hears e f marks = record {
  marks = record { places = f.count ∙ marks.places; transactors = e.count ∙ marks.transactors };
  places_kept = f.kept;
  entered_kept = e.kept;
  places_allowed = λ j h. ⊎_elim (λ o. inl o) (λ s. inr (from_needed T k j from hears s)) (f.allowed j h);
  entered_allowed = λ u h. ⊎_elim (λ o. inl o) (λ s. inr (sym is ∙ s)) (e.allowed u h);
  needed = λ j n. by j n;
} where
  by : (j : ℕ) → Needs T k j → IsNoted T j known entered
  by j (earlier {t = u} a b lt) = inr (u, inl b, e.marked u (is ∙ a))
  by j (message {m = m} {by = s} h o) = inl (from_message T k m j s from known hears h o f.marked)
  by j (birth {u = u} {by = s} a n) = inr (u, inr (s, n), e.marked u (is ∙ a))

-- one pass

-- the decision's place, or one that it needs
abbrev pub IsSeen : Run → ℕ → ℕ → Type 0
IsSeen T k x = (x ≡ k) ⊎ NeededAt T k x

-- what is marked once the places from a on were gone through
pub record Marked (T : Run) (k a : ℕ) (known entered : List Bool) : Type 0 where
  pub marks : AreMarks T known entered
  pub sound : (j : ℕ) → IsMarked known j → NeededAt T k j
  pub entered_sound : (u : ℕ) → IsMarked entered u → (x : ℕ) × IsSeen T k x × (a ≤ x) × ActsAt T u x
  pub all : (j : ℕ) → a ≤ j → NeededAt T k j → IsMarked known j
  pub left : (x j : ℕ) → IsSeen T k x → a ≤ x → Needs T x j → j < a → IsNoted T j known entered

module _ (T : Run) (k : ℕ) (w : WellFormed T) where
  pub needed_before : (j : ℕ) → NeededAt T k j → j < k
  needed_before = least (Needs T) (Needs T k) (λ j. j < k) (record { starts = λ j n. needs_before T k j w n; follows = λ x y lt n. omega (arith, needs_before T x y w n) })

  seen_needs : (x j : ℕ) → IsSeen T k x → Needs T x j → NeededAt T k j
  seen_needs x j s n = ⊎_elim (λ e. start (subst (λ y. Needs T y j) e n)) (λ r. next r n) s

  pub marked_start : (known0 known entered0 entered : List Bool) → ((j : ℕ) → ¬ IsMarked known0 j) → ((u : ℕ) → ¬ IsMarked entered0 u) → MarksNeeds T k known0 known entered0 entered → Marked T k k known entered
  marked_start known0 known entered0 entered none not_entered m = record {
    marks = m.marks;
    sound = λ j h. ⊎_elim (λ o. absurd (none j o)) (λ n. start n) (m.places_allowed j h);
    entered_sound = λ u h. ⊎_elim (λ o. absurd (not_entered u o)) (λ a. (k, inl refl, omega arith, a)) (m.entered_allowed u h);
    all = λ j le r. absurd (omega (arith, le, needed_before j r));
    left = λ x j s le n lt. ⊎_elim (λ (e : x ≡ k). m.needed j (subst (λ y. Needs T y j) e n)) (λ r. absurd (omega (arith, le, needed_before x r))) s;
  }

  pub marked_end : (known entered : List Bool) → Marked T k 0 known entered → (j : ℕ) → IsMarked known j ↔ NeededAt T k j
  marked_end known entered m j = (m.sound j, m.all j (omega arith))

  module _ (a : ℕ) (known entered : List Bool) (m : Marked T k (a + 1) known entered) (below : a < k) where
    noted_needed : IsNoted T a known entered → NeededAt T k a
    noted_needed n = ⊎_elim (λ h. m.sound a h) (λ x. let s = m.entered_sound x.0 x.2 in
        ⊎_elim (λ b. seen_needs s.0 a s.1 (earlier s.3 b (omega (arith, s.2)))) (λ b. seen_needs s.0 a s.1 (birth s.3 b.1)) x.1) n

    needed_noted : NeededAt T k a → IsNoted T a known entered
    needed_noted (start n) = m.left k a (inl refl) (omega (arith, below)) n (omega arith)
    needed_noted (next {x = x} r n) = m.left x a (inr r) (omega (arith, needs_before T x a w n)) n (omega arith)

    pub marked_passed : ¬ IsNoted T a known entered → Marked T k a known entered
    marked_passed not_noted = record {
      marks = m.marks;
      sound = m.sound;
      entered_sound = λ u h. let s = m.entered_sound u h in (s.0, s.1, omega (arith, s.2), s.3);
      all = λ j le r. ⊎_elim (λ (e : j ≡ a). absurd (not_noted (needed_noted (subst (NeededAt T k) e r)))) (λ ne. m.all j (omega (arith, le, ne)) r) (cases_eq j a);
      left = λ x j s le n lt. ⊎_elim (λ (e : x ≡ a). absurd (unseen (subst (IsSeen T k) e s))) (λ ne. m.left x j s (omega (arith, le, ne)) n (omega (arith, lt))) (cases_eq x a);
    } where
      unseen : ¬ IsSeen T k a
      unseen s = ⊎_elim (λ e. omega (arith, e, below)) (λ r. not_noted (needed_noted r)) s

    module _ (known1 known2 entered2 : List Bool) (one : MarksOne (Some a) known known1) (needs : MarksNeeds T a known1 known2 entered entered2) where
      kept : (j : ℕ) → IsMarked known j → IsMarked known2 j
      kept j h = needs.places_kept j (one.kept j h)

      pub marked_more : IsNoted T a known entered → Marked T k a known2 entered2
      marked_more noted = record {
        marks = needs.marks;
        sound = λ j h. ⊎_elim (λ o. ⊎_elim (m.sound j) (λ e. subst (NeededAt T k) (same_some e) here) (one.allowed j o)) (λ n. next here n) (needs.places_allowed j h);
        entered_sound = λ u h. ⊎_elim (λ o. let s = m.entered_sound u o in (s.0, s.1, omega (arith, s.2), s.3)) (λ b. (a, inr here, omega arith, b)) (needs.entered_allowed u h);
        all = λ j le r. ⊎_elim (λ (e : j ≡ a). needs.places_kept j (one.marked j (ap (λ x. Some x) (sym e)))) (λ ne. kept j (m.all j (omega (arith, le, ne)) r)) (cases_eq j a);
        left = λ x j s le n lt. ⊎_elim (λ (e : x ≡ a). needs.needed j (subst (λ y. Needs T y j) e n))
            (λ ne. noted_more T j known known2 entered entered2 kept needs.entered_kept (m.left x j s (omega (arith, le, ne)) n (omega (arith, lt)))) (cases_eq x a);
      } where
        here : NeededAt T k a
        here = noted_needed noted

-- the list of marked places

pub ascending_of : (xs : List ℕ) → AllPairs (λ a b. a < b) xs → IsStrictlySortedBy nat_cmp xs
ascending_of xs all = sorted_from_strictly_increasing xs (λ k l. all k (k + 1) 0 (omega arith) l)

module _ (marks : List Bool) (n : ℕ) (xs : List ℕ) (members : (j : ℕ) → Contains xs j ↔ ((j < n) × IsMarked marks j)) where
  pub pairs_push : AllPairs (λ (a b : ℕ). a < b) xs → AllPairs (λ (a b : ℕ). a < b) (xs ++ n ∷ [])
  pairs_push all = all_pairs_push (λ (a b : ℕ). a < b) xs n all (λ k d below. ((members (get_or xs k d)).0 (k, below, get_or_default xs k (get_or xs k d) d below)).0)

  pub members_push : IsMarked marks n → (j : ℕ) → Contains (xs ++ n ∷ []) j ↔ ((j < n + 1) × IsMarked marks j)
  members_push h j = (
    λ c. ⊎_elim (λ o. let m = (members j).0 o in (omega (arith, m.0), m.1)) (λ (e : n ≡ j). (omega (arith, e), subst (IsMarked marks) e h)) (Contains-push_cases xs n j c),
    λ m. ⊎_elim (λ (e : j ≡ n). subst (Contains (xs ++ n ∷ [])) (sym e) (Contains-push xs n)) (λ ne. Contains-append_left xs (n ∷ []) j ((members j).1 (omega (arith, m.0, ne), m.1))) (cases_eq j n),
  )

  pub members_pass : (¬ IsMarked marks n) → (j : ℕ) → Contains xs j ↔ ((j < n + 1) × IsMarked marks j)
  members_pass none j = (
    λ c. let m = (members j).0 c in (omega (arith, m.0), m.1),
    λ m. ⊎_elim (λ (e : j ≡ n). absurd (none (subst (IsMarked marks) e m.1))) (λ ne. (members j).1 (omega (arith, m.0, ne), m.1)) (cases_eq j n),
  )

-- as the calls have them

pub written : (n : ℕ) (xs ys : List Bool) → length xs ≡ length ys → n ≡ length ys → take n (xs ++ drop (length xs) ys) ≡ xs
written n xs ys same is =
    let rest : drop (length xs) ys ≡ [] = drop_all (length xs) ys (omega (arith, same)) in
    ap (λ (l : List Bool). take n (xs ++ l)) rest ∙ ap (take n) (append-nil xs) ∙ take_all n xs (omega (arith, same, is))

pub marked_read : (marks : List Bool) (k : ℕ) (d : Bool) → k < length marks → get_or marks k d ≡ true → IsMarked marks k
marked_read marks k d lt e = slice_get-get_or marks k d lt ∙ ap (λ (b : Bool). Some b) e

pub unmarked_read : (marks : List Bool) (k : ℕ) (d : Bool) → k < length marks → get_or marks k d ≡ false → ¬ IsMarked marks k
unmarked_read marks k d lt e m = let f = sym m ∙ slice_get-get_or marks k d lt ∙ ap (λ (b : Bool). Some b) e in cc

pub acts_within : (T : Run) (t k : ℕ) → ActsAt T t k → k < len T
acts_within T t k a = by (step_at T k) refl a where
  by : (o : Option Step) → step_at T k ≡ o → option_and_then actor o ≡ Some t → k < len T
  by None e f = absurd (cc)
  by (Some s) e f = slice_get_within T.steps k s e

pub actor_born : (T : Run) (k t : ℕ) (o : Option ℕ) → WellFormed T → o ≡ option_and_then actor (step_at T k) → o ≡ Some t → t < born T (len T)
actor_born T k t o w is e = let a : ActsAt T t k = sym is ∙ e in omega (arith, acts_known T t k w a, born-grows T k (len T) (let lt = acts_within T t k a in omega (arith, lt)))

pub heard_within : (T : Run) (k j : ℕ) (o : Option ℕ) → HearsFrom T k o → o ≡ Some j → j < len T
heard_within T k j None h e = absurd (cc)
heard_within T k j (Some i) h e = subst (λ n. n < len T) (same_some e) (acts_within T h.2.0 i (origin_acts T i h.2.0 h.0 h.2.1))

pub made_new : (T : Run) (k who behaviour node : ℕ) (state : Value) (o : Option ℕ) → step_at T k ≡ Some (New who behaviour node state) → (IsSome o ↔ (k < len T)) → IfSome o (IsMadeAt T k) → (u : ℕ) → ((by : ℕ) × IsNew T k by u) ↔ (o ≡ Some u)
made_new T k who behaviour node state None e exists made u = absurd (let s = exists.1 (slice_get_within T.steps k (New who behaviour node state) e) in cc)
made_new T k who behaviour node state (Some m) e exists made u = (
  λ n. ap (λ x. Some x) (number ∙ sym n.1.made),
  λ f. (who, record { behaviour = behaviour; node = node; state = state; stands = e; made = sym (same_some f) ∙ number }),
) where
  number : m ≡ born T k
  number = made (New who behaviour node state) e

-- two tests, one after the other
pub second_only : {A B : Type 0} (first second : Bool) → first ≡ false → IsTrue first ↔ A → IsTrue second ↔ B → IsTrue second ↔ (A ⊎ B)
second_only first second e f g = (λ t. inr (g.0 t), λ c. ⊎_elim (λ a. absurd (let t : first ≡ true = f.1 a in let x = sym e ∙ t in cc)) g.1 c)

pub one_marked : (marks : List Bool) (k : ℕ) (b : Bool) → IsTrue b ↔ IsMarkedOption marks (Some k) → IsTrue b ↔ IsMarked marks k
one_marked marks k b f = (λ t. let m = f.0 t in subst (IsMarked marks) (sym (same_some m.1)) m.2, λ m. f.1 (k, refl, m))

entered_of : (T : Run) (k : ℕ) (entered : List Bool) (who made : Option ℕ) → who ≡ option_and_then actor (step_at T k) → ((u : ℕ) → ((by : ℕ) × IsNew T k by u) ↔ (made ≡ Some u)) → IsEnteredAt T k entered ↔ (IsMarkedOption entered who ⊎ IsMarkedOption entered made)
entered_of T k entered who made is told = (
  λ x. ⊎_elim (λ a. inl (x.0, is ∙ a, x.2)) (λ n. inr (x.0, (told x.0).0 n, x.2)) x.1,
  λ c. ⊎_elim (λ m. (m.0, inl (sym is ∙ m.1), m.2)) (λ m. (m.0, inr ((told m.0).1 m.1), m.2)) c,
)

pub entered_second : (T : Run) (k : ℕ) (entered : List Bool) (who made : Option ℕ) (first second : Bool) → who ≡ option_and_then actor (step_at T k) → ((u : ℕ) → ((by : ℕ) × IsNew T k by u) ↔ (made ≡ Some u)) → first ≡ false → IsTrue first ↔ IsMarkedOption entered who → IsTrue second ↔ IsMarkedOption entered made
    → IsTrue second ↔ IsEnteredAt T k entered
entered_second T k entered who made first second is told e f g =
    let both = second_only first second e f g in
    let same = entered_of T k entered who made is told in
    (λ t. same.1 (both.0 t), λ x. both.1 (same.0 x))

pub heard_members : (T : Run) (k : ℕ) → WellFormed T → IsDecision T k → (known read : List Bool) (items result : List ℕ) → result ≡ items → read ≡ known → ((j : ℕ) → Contains items j ↔ ((j < k) × IsMarked read j)) → ((j : ℕ) → IsMarked known j ↔ NeededAt T k j)
    → (s : Step) → step_at T k ≡ Some s → (j : ℕ) → Contains result j ↔ HeardAt T k s j
heard_members T k w d known read items result is same members marked s e j = (
  λ c. told.0 ((marked j).0 (subst (λ (l : List Bool). IsMarked l j) same ((members j).0 (subst (λ (l : List ℕ). Contains l j) is c)).1)),
  λ h. let n = told.1 h in subst (λ (l : List ℕ). Contains l j) (sym is) ((members j).1 (needed_before T k w j n, subst (λ (l : List Bool). IsMarked l j) (sym same) ((marked j).1 n))),
) where
  told : NeededAt T k j ↔ HeardAt T k s j
  told = heard_is_needed T k s e (subst (λ x. IsTrue (is_decision x)) (same_some (sym d.1.stands ∙ e)) d.1.decides) j
