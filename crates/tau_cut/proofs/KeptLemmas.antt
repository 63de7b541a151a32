-- The states that are kept, place by place.
use Rattle.std.proofs.Common.{◌≡◌, ◌⊎◌, inl, inr, ⊎_elim, ℕ, suc, ◌+◌, ◌<◌, ◌≤◌, Bool, true, false, cond, List, [], ◌∷◌, ◌++◌, length, set, map, Option, Some, None, refl, sym, ap, ◌∙◌, subst, arith, length-append, lt-ltb}
use Rattle.std.specs.Prelude.{slice_get, option_map, Result, Ok, Err, OnOk}
use Rattle.std.specs.Option.{option_map_or}
use Rattle.std.proofs.Math.ListN.{length-set}
use Rattle.std.proofs.lemmas.Bool.{cases_lt, cases_eq}
use Rattle.std.proofs.lemmas.List.{length-map}
use Rattle.std.proofs.lemmas.Option.{slice_get_within, slice_get-map, slice_get_cases}
use Rattle.tau_value.specs.declared.shared.Value.{Value}
use Rattle.tau_history.specs.Timeline.{interval, close, moved, opening, newborn}
use Rattle.tau_points.specs.declared.point.Point.{Point}
use Rattle.tau_trace.specs.declared.step.Step.{Step}
use Rattle.tau_trace.specs.declared.step.Step.TheVariants.{Checkpoint}
use Rattle.tau_trace.specs.Steps.{is_new}
use Rattle.tau_trace.specs.Run.{Run, len, step_at, starts}
use Rattle.tau_trace.specs.Numbering.{born}
use Rattle.tau_trace.specs.Histories.{history, Closes}
use Rattle.tau_trace.specs.Points.{point_at, IsUpTo}
use Rattle.tau_trace.specs.Known.{WellFormed}
use Rattle.tau_trace.proofs.Agreement.{agree_sym, born-same, born-grows, history-same}
use Rattle.tau_trace.proofs.Counted.{history-zero, history-suc, closes_move}
use Rattle.tau_trace.proofs.Counts.{count-zero}
use Rattle.tau_trace.proofs.Lists.{same_some, slice_get-set_same, slice_get-set_other, slice_get-front, slice_get-push_cases}
use Rattle.tau_trace.proofs.PointLemmas.{points_grow}
use Rattle.tau_trace.proofs.Prefix.{prefix, agree_prefix, len-prefix, may_follow_prefix}
use Rattle.tau_trace.proofs.Quiet.{acts}
use Rattle.tau_past.specs.States.{SavedWith}
use Rattle.tau_past.proofs.Agreement.{saved-same}
use Rattle.tau_past.proofs.Known.{acts_known}
use Rattle.tau_states.specs.declared.state_record.StateRecord.{StateRecord}
use Rattle.tau_states.specs.Table.{IsBase, Describes, Holds, Advances, opened_run}
use Rattle.tau_report.proofs.Prefixes.{prefix_next, well_formed_prefix}
use Rattle.tau_explain.specs.Links.Marks.{IsMarked}
use Rattle.tau_cut.specs.declared.states.Kept.{Kept}
use Rattle.tau_cut.specs.Inner.Keeping.{kept_of, KeepsOf, KeepsClosed, KeepsHeld, IsKeptFirst, KeepsBelow, at_checkpoint, at_opening, IsKeptBelow, AreKept}

-- what is kept at first, row by row

pub record Firsts (rs : List StateRecord) (n : ℕ) (kept : List (Option Kept)) : Type 0 where
  pub count : length kept ≡ n
  pub within : length rs ≤ n
  pub starts : (t : ℕ) (r : StateRecord) → slice_get rs t ≡ Some r → slice_get kept t ≡ Some (Some (kept_of r))
  pub others : (t : ℕ) (o : Option Kept) → length rs ≤ t → slice_get kept t ≡ Some o → o ≡ None

pub firsts_start : (rs : List StateRecord) (kept : List (Option Kept)) → kept ≡ map (λ r. Some (kept_of r)) rs → Firsts rs (length rs) kept
firsts_start rs kept is = record {
  count = count;
  within = omega arith;
  starts = λ t r e. ap (λ (l : List (Option Kept)). slice_get l t) is ∙ slice_get-map (λ (x : StateRecord). Some (kept_of x)) rs t ∙ ap (option_map (λ (x : StateRecord). Some (kept_of x))) e;
  others = λ t o le e. let lt = slice_get_within kept t o e in absurd (omega (arith, lt, le, count));
} where
  count : length kept ≡ length rs
  count = ap (λ (l : List (Option Kept)). length l) is ∙ length-map rs (λ (x : StateRecord). Some (kept_of x))

pub firsts_more : (rs : List StateRecord) (n : ℕ) (kept0 kept : List (Option Kept)) → kept ≡ kept0 ++ None ∷ [] → Firsts rs n kept0 → Firsts rs (n + 1) kept
firsts_more rs n kept0 kept e f = record {
  count = omega (arith, ap (λ (l : List (Option Kept)). length l) e, length-append kept0 (None ∷ []), f.count);
  within = omega (arith, f.within);
  starts = λ t r h. let at = f.starts t r h in let lt = slice_get_within kept0 t (Some (kept_of r)) at in
      ap (λ (l : List (Option Kept)). slice_get l t) e ∙ sym (slice_get-front kept0 None t lt) ∙ at;
  others = λ t o le h. ⊎_elim (λ old. f.others t o le old) (λ new. sym new.1) (slice_get-push_cases kept0 None o t (sym (ap (λ (l : List (Option Kept)). slice_get l t) e) ∙ h));
}

pub first_of_firsts : (rs : List StateRecord) (n m : ℕ) (kept : List (Option Kept)) → Firsts rs m kept → (length rs ≤ n → m ≡ n) → IsKeptFirst rs n kept
first_of_firsts rs n m kept f all = record { count = λ le. f.count ∙ all le; starts = f.starts; others = f.others }

-- a step is held or not
pub held_kept : (held : Bool) (s : Step) (rs : List StateRecord) (kept0 kept : List (Option Kept)) → held ≡ true → KeepsClosed s rs kept0 kept → KeepsHeld held s rs kept0 kept
held_kept true s rs kept0 kept e k = k
held_kept false s rs kept0 kept e k = absurd (cc)

pub not_held : (held : Bool) (s : Step) (rs : List StateRecord) (kept : List (Option Kept)) → held ≡ false → KeepsHeld held s rs kept kept
not_held true s rs kept e = absurd (cc)
not_held false s rs kept e = refl

-- a Checkpoint ends its interval
closes_later : (T : Run) (t j : ℕ) → Closes T t j → interval (history T t (suc j)) ≡ suc (interval (history T t j))
closes_later T t j c =
    let more : history T t (suc j) ≡ moved close (history T t j) = history-suc T t j ∙ ap (λ m. moved m (history T t j)) (closes_move T t j c) in
    omega (arith, ap interval more, length-append (history T t j).closed ((history T t j).last ∷ []))

up_to_interval : (p q : Point) → IsUpTo p q → p.interval ≤ q.interval
up_to_interval p q (inl l) = omega arith
up_to_interval p q (inr e) = omega arith

-- intervals don't fall
grows : (T : Run) (t j k : ℕ) → j ≤ k → interval (history T t j) ≤ interval (history T t k)
grows T t j k le = up_to_interval (point_at T t j) (point_at T t k) ((points_grow T t k).grows j le)

module _ (T : Run) (w : WellFormed T) (values : List Value) (marks : List Bool) where
  -- what a record of the first steps tells was saved in the whole run
  record_saved : (k t i : ℕ) (rs : List StateRecord) (r : StateRecord) → k ≤ len T → Holds (prefix T k) values rs → slice_get rs t ≡ Some r → interval (history T t k) ≡ suc i → (r.interval ≡ suc i) × SavedWith T values t i r.base
  record_saved k t i rs r le h e at =
      let U = prefix T k in
      let there : Describes U values t (len U) r = h.each t r e in
      let back = agree_sym (agree_prefix T k) in
      let long : len U ≡ k = len-prefix T k le in
      let here : interval (history U t (len U)) ≡ suc i = ap (λ n. interval (history U t n)) long ∙ ap interval (history-same t k back) ∙ at in
      let is : r.interval ≡ suc i = there.interval ∙ here in
      let P : ℕ → Type 0 = λ n. IsBase U values t n r.base in
      let saved : SavedWith U values t i r.base = subst P is there.base in
      (is, saved-same values t i k r.base (well_formed_prefix T k w le) back (omega (arith, ap (λ n. interval (history U t n)) long, here)) saved)

  -- before any step

  start_interval : (t : ℕ) → t < starts T → interval (history T t 0) ≡ 1
  start_interval t lt = ap interval (history-zero T t ∙ ap (λ b. cond b opening newborn) (lt-ltb t (starts T) lt))

  none_below : (t i : ℕ) → KeepsBelow T marks 0 t i → (t < starts T) × (i ≡ 0)
  none_below t i (at_checkpoint {j = j} lt m c e) = absurd (omega (arith, lt))
  none_below t i (at_opening lt e) = (lt, e)

  kept_zero : (rs : List StateRecord) (kept : List (Option Kept)) → Holds (prefix T 0) values rs → IsKeptFirst rs (born T (len T)) kept → AreKept T values marks 0 kept
  kept_zero rs kept h f = record {
    count = f.count (omega (arith, count, born-grows T 0 (len T) (omega arith), first));
    each = λ t o e. ⊎_elim (λ lt. of_start t o lt e) (λ le. of_other t o le e) (cases_lt t (length rs));
  } where
    first : born T 0 ≡ starts T
    first = omega (arith, count-zero (λ j. option_map_or is_new (step_at T j) false))

    count : length rs ≡ born T 0
    count = h.count ∙ ap (born (prefix T 0)) (len-prefix T 0 (omega arith)) ∙ sym (born-same 0 (agree_prefix T 0))

    of_start : (t : ℕ) (o : Option Kept) → t < length rs → slice_get kept t ≡ Some o → IsKeptBelow T values marks 0 t o
    of_start t o lt e = ⊎_elim
        (λ x.
        let is : Some (kept_of x.0) ≡ o = same_some (sym (f.starts t x.0 x.2) ∙ e) in
        let below : t < starts T = omega (arith, lt, count, first) in
        let s = record_saved 0 t 0 rs x.0 (omega arith) h x.2 (start_interval t below) in
        subst (IsKeptBelow T values marks 0 t) is (0, s.0, at_opening below refl, (λ j b. let n = none_below t j b in omega (arith, n.1)), s.1))
        (λ x. absurd (omega (arith, x.0, lt)))
        (slice_get_cases rs t).1

    of_other : (t : ℕ) (o : Option Kept) → length rs ≤ t → slice_get kept t ≡ Some o → IsKeptBelow T values marks 0 t o
    of_other t o le e = subst (IsKeptBelow T values marks 0 t) (sym (f.others t o le e)) (λ i b. let n = none_below t i b in omega (arith, n.0, le, count, first))

  -- one place further

  below_on : (k t i : ℕ) → KeepsBelow T marks k t i → KeepsBelow T marks (k + 1) t i
  below_on k t i (at_checkpoint {j = j} lt m c e) = at_checkpoint {j = j} (omega (arith, lt)) m c e
  below_on k t i (at_opening lt e) = at_opening lt e

  below_back : (k t i : ℕ) → KeepsBelow T marks (k + 1) t i → KeepsBelow T marks k t i ⊎ (IsMarked marks k × Closes T t k × (interval (history T t k) ≡ i))
  below_back k t i (at_checkpoint {j = j} lt m c e) = ⊎_elim
      (λ less. inl (at_checkpoint {j = j} less m c e))
      (λ le. let same : j ≡ k = omega (arith, le, lt) in inr (subst (IsMarked marks) same m, subst (Closes T t) same c, subst (λ n. interval (history T t n) ≡ i) same e))
      (cases_lt j k)
  below_back k t i (at_opening lt e) = inl (at_opening lt e)

  -- no marked Checkpoint of t stands at k
  kept_passed : (k t : ℕ) (o : Option Kept) → (IsMarked marks k → ¬ Closes T t k) → IsKeptBelow T values marks k t o → IsKeptBelow T values marks (k + 1) t o
  kept_passed k t None none a = λ i b. ⊎_elim (a i) (λ x. none x.0 x.1) (below_back k t i b)
  kept_passed k t (Some kept) none a = (a.0, a.1, below_on k t a.0 a.2, (λ j b. ⊎_elim (a.3 j) (λ x. absurd (none x.0 x.1)) (below_back k t j b)), a.4)

  kept_same : (k : ℕ) (kept0 kept : List (Option Kept)) → kept ≡ kept0 → ((t : ℕ) → IsMarked marks k → ¬ Closes T t k) → AreKept T values marks k kept0 → AreKept T values marks (k + 1) kept
  kept_same k kept0 kept is none a = record {
    count = ap (λ (l : List (Option Kept)). length l) is ∙ a.count;
    each = λ t o e. kept_passed k t o (none t) (a.each t o (sym (ap (λ (l : List (Option Kept)). slice_get l t) is) ∙ e));
  }

  -- one stands there
  greatest_here : (k t i : ℕ) → Closes T t k → KeepsBelow T marks (k + 1) t i → i ≤ interval (history T t k)
  greatest_here k t i c (at_checkpoint {j = j} lt m d e) = ⊎_elim
      (λ less. let later = closes_later T t j d in let up = grows T t (suc j) k (omega (arith, less)) in omega (arith, later, up, e))
      (λ le. let same : j ≡ k = omega (arith, le, lt) in omega (arith, e, ap (λ n. interval (history T t n)) same))
      (cases_lt j k)
  greatest_here k t i c (at_opening lt e) = omega (arith, e)

  kept_here : (k t : ℕ) (rs : List StateRecord) (r : StateRecord) → k < len T → Closes T t k → IsMarked marks k → Holds (prefix T (suc k)) values rs → slice_get rs t ≡ Some r → IsKeptBelow T values marks (k + 1) t (Some (kept_of r))
  kept_here k t rs r lt c m h e =
      let s = record_saved (suc k) t (interval (history T t k)) rs r (omega (arith, lt)) h e (closes_later T t k c) in
      (interval (history T t k), s.0, at_checkpoint {j = k} (omega arith) m c refl, (λ j b. greatest_here k t j c b), s.1)

  one_checkpoint : (t u k : ℕ) → Closes T t k → Closes T u k → t ≡ u
  one_checkpoint t u k c d = let same : Checkpoint t ≡ Checkpoint u = same_some (sym c ∙ d) in cc

  kept_put : (k t : ℕ) (rs : List StateRecord) (kept0 kept : List (Option Kept)) → k < len T → Closes T t k → IsMarked marks k → Holds (prefix T (suc k)) values rs → KeepsOf rs t kept0 kept → AreKept T values marks k kept0 → AreKept T values marks (k + 1) kept
  kept_put k t rs kept0 kept lt c m h puts a = record {
    count = ap (λ (l : List (Option Kept)). length l) is ∙ length-set kept0 t (Some (kept_of row.0)) ∙ a.count;
    each = λ u o e. ⊎_elim (λ same. own u o same (read u o e)) (λ other. another u o other (read u o e)) (cases_eq u t);
  } where
    known : t < born T k
    known = acts_known T t k w (acts T t k (Checkpoint t) c refl)

    count : length rs ≡ born T (suc k)
    count = h.count ∙ ap (born (prefix T (suc k))) (len-prefix T (suc k) (omega (arith, lt))) ∙ sym (born-same (suc k) (agree_prefix T (suc k)))

    row : (r : StateRecord) × (slice_get rs t ≡ Some r)
    row = ⊎_elim (λ x. (x.0, x.2)) (λ x. absurd (omega (arith, x.0, known, count, born-grows T k (suc k) (omega arith)))) (slice_get_cases rs t).1

    within : t < length kept0
    within = omega (arith, a.count, known, born-grows T k (len T) (omega (arith, lt)))

    is : kept ≡ set kept0 t (Some (kept_of row.0))
    is = puts row.0 row.1 within

    read : (u : ℕ) (o : Option Kept) → slice_get kept u ≡ Some o → slice_get (set kept0 t (Some (kept_of row.0))) u ≡ Some o
    read u o e = sym (ap (λ (l : List (Option Kept)). slice_get l u) is) ∙ e

    own : (u : ℕ) (o : Option Kept) → u ≡ t → slice_get (set kept0 t (Some (kept_of row.0))) u ≡ Some o → IsKeptBelow T values marks (k + 1) u o
    own u o same e =
        let o_is : Some (kept_of row.0) ≡ o = same_some (sym (slice_get-set_same kept0 t (Some (kept_of row.0)) within) ∙ ap (slice_get (set kept0 t (Some (kept_of row.0)))) (sym same) ∙ e) in
        subst (λ n. IsKeptBelow T values marks (k + 1) n o) (sym same) (subst (IsKeptBelow T values marks (k + 1) t) o_is (kept_here k t rs row.0 lt c m h row.1))

    another : (u : ℕ) (o : Option Kept) → ¬ (u ≡ t) → slice_get (set kept0 t (Some (kept_of row.0))) u ≡ Some o → IsKeptBelow T values marks (k + 1) u o
    another u o other e = kept_passed k u o (λ mk cu. other (one_checkpoint u t k cu c)) (a.each u o (sym (slice_get-set_other kept0 t u (Some (kept_of row.0)) other) ∙ e))

  -- what a step keeps

  other_step : (k t : ℕ) (s : Step) → step_at T k ≡ Some s → Closes T t k → s ≡ Checkpoint t
  other_step k t s e c = same_some (sym e ∙ c)

  kept_step : (k : ℕ) (s : Step) (rs : List StateRecord) (kept0 kept : List (Option Kept)) → k < len T → step_at T k ≡ Some s → IsMarked marks k → Holds (prefix T (suc k)) values rs → KeepsClosed s rs kept0 kept → AreKept T values marks k kept0 → AreKept T values marks (k + 1) kept
  kept_step k (Checkpoint t) rs kept0 kept lt e m h puts a = kept_put k t rs kept0 kept lt e m h puts a
  kept_step k s rs kept0 kept lt e m h puts a = kept_same k kept0 kept puts (λ t mk c. let same = other_step k t s e c in cc) a

  pub kept_next : (k : ℕ) (held : Bool) (s : Step) (rs : List StateRecord) (kept0 kept : List (Option Kept)) → k < len T → step_at T k ≡ Some s → slice_get marks k ≡ Some held → Holds (prefix T (suc k)) values rs → KeepsHeld held s rs kept0 kept → AreKept T values marks k kept0 → AreKept T values marks (k + 1) kept
  kept_next k true s rs kept0 kept lt e m h puts a = kept_step k s rs kept0 kept lt e m h puts a
  kept_next k false s rs kept0 kept lt e m h puts a = kept_same k kept0 kept puts (λ t mk c. let both = sym m ∙ mk in cc) a

  -- the states, step by step
  pub holds_next : (k : ℕ) (s : Step) (old new : List StateRecord) → step_at T k ≡ Some s → Advances s old new → Holds (prefix T k) values old → Holds (prefix T (suc k)) values new
  holds_next k s old new e advances x =
      let below = slice_get_within T.steps k s e in
      let P : Run → Type 0 = λ U. Holds U values new in
      subst P (prefix_next T k s e) (advances (prefix T k) values (well_formed_prefix T k w (omega (arith, below))) (may_follow_prefix T k s w e) x)

  pub kept_start : (rs : List StateRecord) (kept : List (Option Kept)) → Holds (opened_run T.opening) values rs → IsKeptFirst rs (born T (len T)) kept → AreKept T values marks 0 kept
  kept_start rs kept h f = kept_zero rs kept h f

-- as the calls have them

pub keeps_of : {A E : Type 0} (rs : List StateRecord) (t : ℕ) (r : StateRecord) (kept0 kept : List (Option Kept)) (found : Result A E) → Some r ≡ slice_get rs t → OnOk found (t < length kept0 → kept ≡ set kept0 t (Some (kept_of r))) → OnOk found (KeepsOf rs t kept0 kept)
keeps_of rs t r kept0 kept (Ok x) at puts = λ q e lt. let same : r ≡ q = same_some (at ∙ e) in puts lt ∙ ap (λ (z : StateRecord). set kept0 t (Some (kept_of z))) same
keeps_of rs t r kept0 kept (Err x) at puts = puts

pub keeps_nothing : (rs : List StateRecord) (t : ℕ) (kept : List (Option Kept)) → None ≡ slice_get rs t → KeepsOf rs t kept kept
keeps_nothing rs t kept none = λ r e lt. let f = none ∙ e in absurd (cc)
