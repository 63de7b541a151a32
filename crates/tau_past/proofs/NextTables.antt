-- How the tables go on with one step.
use Rattle.std.proofs.Common.{◌≡◌, ◌≢◌, ◌⊎◌, ◌↔◌, ⊎_elim, ℕ, zero, suc, ◌+◌, ◌-◌, ◌<◌, ◌≤◌, ◌^◌, Bool, true, false, cond, IsTrue, List, [], ◌∷◌, ◌++◌, Option, Some, None, length, get_or, set, refl, sym, ap, ◌∙◌, subst, arith, length-append}
use Rattle.std.specs.Prelude.{option_and_then, slice_get}
use Rattle.std.proofs.Math.ListN.{length-set}
use Rattle.std.proofs.lemmas.Option.{slice_get_read}
use Rattle.std.proofs.lemmas.Bool.{cases_eq}
use Rattle.std.specs.Option.{option_map_or}
use Rattle.tau_history.specs.Stored.{Stored}
use Rattle.tau_history.specs.Timeline.{Timeline, interval, Move, keep, stabilize, close, fall, moved, opening, newborn}
use Rattle.tau_points.specs.declared.point.Point.{Point}
use Rattle.tau_trace.specs.declared.step.Step.{Step}
use Rattle.tau_trace.specs.declared.step.Step.TheVariants.{Take}
use Rattle.tau_trace.specs.Steps.{actor}
use Rattle.tau_trace.specs.Run.{Run, len, step_at, starts, ActsAt}
use Rattle.tau_trace.specs.Numbering.{born, sent}
use Rattle.tau_trace.specs.Histories.{history, move_at, move_of, is_fall, Falls}
use Rattle.tau_trace.specs.Points.{point_at}
use Rattle.tau_trace.specs.Known.{WellFormed}
use Rattle.tau_trace.proofs.Agreement.{born-grows}
use Rattle.tau_trace.proofs.Counts.{count-suc, count-zero}
use Rattle.tau_trace.proofs.Counted.{history-zero, history-suc, move_at-own}
use Rattle.tau_trace.proofs.Indexing.{born-next}
use Rattle.tau_trace.proofs.Lists.{same_some, slice_get-set_same, slice_get-set_other, slice_get-push_cases}
use Rattle.tau_trace.proofs.Moves.{move_by-other}
use Rattle.tau_trace.proofs.Quiet.{acts}
use Rattle.tau_past.specs.declared.carrying.Carrying.{Carrying}
use Rattle.std.specs.Prelude.{if◌then◌else◌}
use Rattle.tau_trace.specs.declared.step.Step.TheVariants.{Set, New}
use Rattle.tau_trace.specs.Steps.{is_new}
use Rattle.tau_trace.specs.Numbering.{IsNew}
use Rattle.tau_trace.proofs.Sequences.{cases_last}
use Rattle.tau_trace.proofs.Reading.{past_end}
use Rattle.tau_points.proofs.PointOrder.{point_eq-Decides}
use Rattle.tau_past.specs.Carried.{is_set, first_point}
use Rattle.tau_past.specs.TableSteps.{taker, latest_for, latest_after, opening_history}
use Rattle.tau_past.specs.Tables.{IsSendPlaceOf, TakesAt, by_set, by_new, IsLast, TellsEarlier, TellsLatest, same_point}
use Rattle.tau_past.specs.Tables.{Lists, TellsTurn, TellsHistory, TellsCarrier, TellsCarried, TellsMade, IsBirth, all_born}
use Rattle.tau_past.specs.TableSteps.{turn_after, carrying_of, carried_by, point_of}
use Rattle.tau_past.proofs.Known.{acts_known}
use Rattle.tau_past.proofs.Turning.{tells_other, tells_own, tells_carried, tells_nobody}

pub next_place : (F : ℕ → Type 0) (k : ℕ) → F (suc k) → F (k + 1)
next_place F k x = let e : suc k ≡ k + 1 = omega arith in subst F e x

module _ {A : Type 0} where
  pub lists_push : (n : ℕ) (P : ℕ → A → Type 0) (xs ys : List A) (x : A) → ys ≡ xs ++ x ∷ [] → P n x → Lists n P xs → Lists (n + 1) P ys
  lists_push n P xs ys x e p l = subst (Lists (n + 1) P) (sym e) (record { count = omega (arith, length-append xs (x ∷ []), l.count); each = each }) where
    each : (k : ℕ) (y : A) → slice_get (xs ++ x ∷ []) k ≡ Some y → P k y
    each k y f = ⊎_elim
        (λ g. l.each k y g)
        (λ g. let same : k ≡ n = g.0 ∙ l.count in subst (λ (z : A). P k z) g.1 (subst (λ i. P i x) (sym same) p))
        (slice_get-push_cases xs x y k f)

  pub lists_set : (n : ℕ) (P Q : ℕ → A → Type 0) (xs ys : List A) (i : ℕ) (x : A) → ys ≡ set xs i x → i < n → ((k : ℕ) (y : A) → k ≢ i → P k y → Q k y) → Q i x → Lists n P xs → Lists n Q ys
  lists_set n P Q xs ys i x e lt others here l = subst (Lists n Q) (sym e) (record { count = length-set xs i x ∙ l.count; each = each }) where
    each : (k : ℕ) (y : A) → slice_get (set xs i x) k ≡ Some y → Q k y
    each k y f = ⊎_elim
        (λ (same : k ≡ i).
        let at : slice_get (set xs i x) i ≡ Some x = slice_get-set_same xs i x (omega (arith, lt, l.count)) in
        let is : x ≡ y = same_some (sym at ∙ ap (slice_get (set xs i x)) (sym same) ∙ f) in
        subst (λ (z : A). Q k z) is (subst (λ j. Q j x) (sym same) here))
        (λ other. others k y other (l.each k y (sym (slice_get-set_other xs i k x other) ∙ f)))
        (cases_eq k i)

  pub lists_all : (n : ℕ) (P Q : ℕ → A → Type 0) (xs : List A) → ((k : ℕ) (y : A) → P k y → Q k y) → Lists n P xs → Lists n Q xs
  lists_all n P Q xs f l = record { count = l.count; each = λ k y e. f k y (l.each k y e) }

  -- the item that was read at a place
  pub lists_read : (n : ℕ) (P : ℕ → A → Type 0) (xs : List A) (i : ℕ) (x : A) → i < n → x ≡ get_or xs i x → Lists n P xs → P i x
  lists_read n P xs i x lt e l = l.each i x (slice_get_read xs (length xs) i x refl (omega (arith, lt, l.count)) e)

-- histories

own-history : (T : Run) (t k : ℕ) (s : Step) (h new : Timeline) → step_at T k ≡ Some s → actor s ≡ Some t → h ≡ history T t k → new ≡ moved (move_of h.stable s) h → new ≡ history T t (suc k)
own-history T t k s h new e by is made =
    let move : move_at T t k ≡ move_of (history T t k).stable s = move_at-own T t k s e by in
    made ∙ ap (λ x. moved (move_of x.stable s) x) is ∙ ap (λ m. moved m (history T t k)) (sym move) ∙ sym (history-suc T t k)

pub other_history : (T : Run) (t k : ℕ) → ¬ ActsAt T t k → history T t (suc k) ≡ history T t k
other_history T t k not =
    history-suc T t k ∙ ap (λ m. moved m (history T t k)) (move_by-other t (history T t k).stable (step_at T k) (λ s e by. not (acts T t k s e by)))

not_other : (T : Run) (t u k : ℕ) → ActsAt T t k → u ≢ t → ¬ ActsAt T u k
not_other T t u k a ne b = ne (same_some (sym b ∙ a))

pub histories_own : (T : Run) (k t : ℕ) (s : Step) (xs ys : List Stored) (old new : Stored) → step_at T k ≡ Some s → actor s ≡ Some t → t < all_born T → ys ≡ set xs t new → old.history ≡ history T t k → new.history ≡ moved (move_of old.history.stable s) old.history
    → Lists (all_born T) (TellsHistory T k) xs → Lists (all_born T) (TellsHistory T (k + 1)) ys
histories_own T k t s xs ys old new e by lt is at made l =
    next_place (λ n. Lists (all_born T) (TellsHistory T n) ys) k (lists_set (all_born T) (TellsHistory T k) (TellsHistory T (suc k)) xs ys t new is lt
    (λ u h ne p. p ∙ sym (other_history T u k (not_other T t u k (acts T t k s e by) ne)))
    (own-history T t k s old.history new.history e by at made) l)

pub histories_other : (T : Run) (k : ℕ) (xs : List Stored) → ((t : ℕ) → ¬ ActsAt T t k) → Lists (all_born T) (TellsHistory T k) xs → Lists (all_born T) (TellsHistory T (k + 1)) xs
histories_other T k xs none l =
    next_place (λ n. Lists (all_born T) (TellsHistory T n) xs) k (lists_all (all_born T) (TellsHistory T k) (TellsHistory T (suc k)) xs (λ u h p. p ∙ sym (other_history T u k (none u))) l)

-- how far a history can have come
record Small (n : ℕ) (h : Timeline) : Type 0 where
  last_small : h.last ≤ n
  interval_small : interval h ≤ n + 1

small-moved : (m : Move) (n : ℕ) (h : Timeline) → Small n h → Small (suc n) (moved m h)
small-moved keep n h s = record { last_small = omega (arith, s.last_small); interval_small = omega (arith, s.interval_small) }
small-moved stabilize n h s = record { last_small = omega (arith, s.last_small); interval_small = omega (arith, s.interval_small) }
small-moved close n h s = record { last_small = omega arith; interval_small = omega (arith, s.interval_small, length-append h.closed (h.last ∷ [])) }
small-moved fall n h s = record { last_small = omega (arith, s.last_small); interval_small = omega (arith, s.interval_small) }

small-first : (b : Bool) → Small 0 (cond b opening newborn)
small-first true = record { last_small = omega arith; interval_small = omega arith }
small-first false = record { last_small = omega arith; interval_small = omega arith }

small-at : (T : Run) (t k : ℕ) → Small k (history T t k)
small-at T t zero = subst (Small 0) (sym (history-zero T t)) (small-first _)
small-at T t (suc k) = subst (Small (suc k)) (sym (history-suc T t k)) (small-moved (move_at T t k) k (history T t k) (small-at T t k))

pub last_small : (T : Run) (t k : ℕ) (h : Timeline) → WellFormed T → k < len T → h ≡ history T t k → h.last < 2 ^ 32 - 1
last_small T t k h w lt e = let s : Small k h = subst (Small k) (sym e) (small-at T t k) in omega (arith, s.last_small, w.few_steps)

pub interval_small : (T : Run) (t k : ℕ) (h : Timeline) → WellFormed T → k < len T → h ≡ history T t k → interval h < 2 ^ 32 - 1
interval_small T t k h w lt e = let s : Small k h = subst (Small k) (sym e) (small-at T t k) in omega (arith, s.interval_small, w.few_steps)

-- who acts exists, and is told of
pub acts_told : (T : Run) (t k : ℕ) (s : Step) → WellFormed T → k < len T → step_at T k ≡ Some s → actor s ≡ Some t → t < all_born T
acts_told T t k s w lt e by = omega (arith, acts_known T t k w (acts T t k s e by), born-grows T k (len T) (omega (arith, lt)))

pub nobody : (T : Run) (k : ℕ) (s : Step) → step_at T k ≡ Some s → actor s ≡ None → (t : ℕ) → ¬ ActsAt T t k
nobody T k s e none t a = let x = ap (option_and_then actor) e in cc

pub missing : (T : Run) (k : ℕ) → k < len T → None ≡ step_at T k → ⊥
missing T k lt e = let x = past_end T.steps k (sym e) in omega (arith, lt, x)

-- turns

pub turns_own : (T : Run) (k t : ℕ) (s : Step) (xs ys : List (Option Carrying)) (own : Point) (h : Timeline) (turn next : Option Carrying) (origin : Option ℕ) → WellFormed T → k < len T → step_at T k ≡ Some s → actor s ≡ Some t
    → h ≡ history T t k → own ≡ point_of t h → TellsCarrier T s origin → next ≡ turn_after s k own origin turn → turn ≡ get_or xs t turn → ys ≡ set xs t next
    → Lists (all_born T) (TellsTurn T k) xs → Lists (all_born T) (TellsTurn T (k + 1)) ys
turns_own T k t s xs ys own h turn next origin w lt e by past is from made read is_set told =
    next_place (λ n. Lists (all_born T) (TellsTurn T n) ys) k
    (lists_set (all_born T) (TellsTurn T k) (TellsTurn T (suc k)) xs ys t next is_set exists
    (λ u o ne p. tells_other T k u o (not_other T t u k (acts T t k s e by) ne) p)
    (subst (TellsTurn T (suc k) t) (sym made) (tells_own T k t s own origin turn e by (is ∙ ap (point_of t) past) of_message (lists_read (all_born T) (TellsTurn T k) xs t turn exists read told)))
    told) where
      exists : t < all_born T
      exists = acts_told T t k s w lt e by

      of_message : (m : ℕ) → s ≡ Take t m → (m < sent T k) × IsSendPlaceOf T m origin
      of_message m f =
          let known : (t < born T k) × (m < sent T k) = w.known k (Take t m) (e ∙ ap (λ (x : Step). Some x) f) in
          (known.1, subst (λ r. TellsCarrier T r origin) f from)

pub turns_other : (T : Run) (k : ℕ) (xs : List (Option Carrying)) → ((t : ℕ) → ¬ ActsAt T t k) → Lists (all_born T) (TellsTurn T k) xs → Lists (all_born T) (TellsTurn T (k + 1)) xs
turns_other T k xs none l = next_place (λ n. Lists (all_born T) (TellsTurn T n) xs) k (lists_all (all_born T) (TellsTurn T k) (TellsTurn T (suc k)) xs (λ u o p. tells_other T k u o (none u) p) l)

-- what steps carry

carried_told : (T : Run) (k : ℕ) (turns : List (Option Carrying)) (who : Option ℕ) → WellFormed T → k < len T → option_and_then actor (step_at T k) ≡ who → Lists (all_born T) (TellsTurn T k) turns → TellsCarried T k (carried_by turns who)
carried_told T k turns None w lt e l = tells_nobody T k (λ t a. let x = sym e ∙ a in cc)
carried_told T k turns (Some t) w lt e l = by (slice_get turns t) refl where
  by : (o : Option (Option Carrying)) → slice_get turns t ≡ o → TellsCarried T k (carrying_of o)
  by None f = let none = past_end turns t f in absurd (omega (arith, none, l.count, acts_known T t k w e, born-grows T k (len T) (omega (arith, lt))))
  by (Some o) f = tells_carried T k t o e (l.each t o f)

pub carried_next : (T : Run) (k : ℕ) (xs ys : List Carrying) (turns : List (Option Carrying)) (c : Carrying) (who : Option ℕ) → WellFormed T → k < len T → who ≡ option_and_then actor (step_at T k) → c ≡ carried_by turns who → ys ≡ xs ++ c ∷ [] → Lists (all_born T) (TellsTurn T k) turns → Lists k (TellsCarried T) xs → Lists (k + 1) (TellsCarried T) ys
carried_next T k xs ys turns c who w lt by is e l told = lists_push k (TellsCarried T) xs ys c e (subst (TellsCarried T k) (sym is) (carried_told T k turns who w lt (sym by) l)) told

-- points of steps

falls_iff : (m : Move) (b : Bool) → b ≡ is_fall m → IsTrue b ↔ (m ≡ fall)
falls_iff keep b e = (λ t. let x = sym e ∙ t in cc, λ f. absurd (cc))
falls_iff stabilize b e = (λ t. let x = sym e ∙ t in cc, λ f. absurd (cc))
falls_iff close b e = (λ t. let x = sym e ∙ t in cc, λ f. absurd (cc))
falls_iff fall b e = (λ t. refl, λ f. e)

pub made_told : (T : Run) (k t : ℕ) (s : Step) (h : Timeline) (p : Point) (stable falls : Bool) → step_at T k ≡ Some s → actor s ≡ Some t → h ≡ history T t k → p ≡ point_of t h → stable ≡ h.stable → falls ≡ is_fall (move_of stable s) → TellsMade T k (Some (record { point = p; falls = falls }))
made_told T k t s h p stable falls e by at is mode f =
    let who : t ≡ p.who = sym (ap (λ x. x.who) is) in
    let move : move_at T t k ≡ move_of stable s = move_at-own T t k s e by ∙ ap (λ x. move_of x.stable s) (sym at) ∙ ap (λ b. move_of b s) (sym mode) in
    let here = falls_iff (move_at T t k) falls (f ∙ ap is_fall (sym move)) in
    (subst (λ u. ActsAt T u k) who (acts T t k s e by), is ∙ ap (point_of t) at ∙ ap (λ u. point_at T u k) who, subst (λ u. IsTrue falls ↔ Falls T u k) who here)

-- where transactors were made

pub born_zero : (T : Run) (n : ℕ) → n ≡ starts T → n ≡ born T 0
born_zero T n e = omega (arith, e, count-zero (λ j. option_map_or is_new (step_at T j) false))

new_starts_later : (T : Run) (j by u : ℕ) → IsNew T j by u → starts T ≤ u
new_starts_later T j by u n = omega (arith, n.made)

pub births_first : (T : Run) (n : ℕ) (xs : List (Option ℕ)) → n ≡ starts T → Lists n (IsBirth T) xs → Lists (born T 0) (IsBirth T) xs
births_first T n xs e l = subst (λ k. Lists k (IsBirth T) xs) (born_zero T n e) l

pub births_start : (T : Run) (n k : ℕ) (xs ys : List (Option ℕ)) → n ≡ starts T → k < n → ys ≡ xs ++ None ∷ [] → Lists k (IsBirth T) xs → Lists (k + 1) (IsBirth T) ys
births_start T n k xs ys few lt e l = lists_push k (IsBirth T) xs ys None e (λ j by x. omega (arith, few, lt, new_starts_later T j by k x)) l

pub births_next : (T : Run) (k : ℕ) (xs ys : List (Option ℕ)) → option_map_or is_new (step_at T k) false ≡ true → ys ≡ xs ++ Some k ∷ [] → Lists (born T k) (IsBirth T) xs → Lists (born T (k + 1)) (IsBirth T) ys
births_next T k xs ys e is l = by (step_at T k) refl where
  by_step : (s : Step) → step_at T k ≡ Some s → is_new s ≡ true → Lists (born T (k + 1)) (IsBirth T) ys
  by_step (New u b n v) f g =
      let count : born T k + 1 ≡ born T (k + 1) = omega (arith, born-next T k (New u b n v) f, next_place (λ i. born T (suc k) ≡ born T i) k refl) in
      subst (λ i. Lists i (IsBirth T) ys) count (lists_push (born T k) (IsBirth T) xs ys (Some k) is (u, record { behaviour = b; node = n; state = v; stands = f; made = refl }) l)
  by_step s f g = absurd (cc)

  by : (o : Option Step) → step_at T k ≡ o → Lists (born T (k + 1)) (IsBirth T) ys
  by None f = absurd (let x = sym (ap (λ o. option_map_or is_new o false) f) ∙ e in cc)
  by (Some s) f = by_step s f (sym (ap (λ o. option_map_or is_new o false) f) ∙ e)

pub births_same : (T : Run) (k : ℕ) (xs : List (Option ℕ)) → option_map_or is_new (step_at T k) false ≡ false → Lists (born T k) (IsBirth T) xs → Lists (born T (k + 1)) (IsBirth T) xs
births_same T k xs e l =
    let x = count-suc (λ j. option_map_or is_new (step_at T j) false) k in
    let y = ap {B = ℕ} (λ b. cond b 1 0) e in
    let count : born T k ≡ born T (suc k) = omega (arith, x, y) in
    next_place (λ i. Lists (born T i) (IsBirth T) xs) k (subst (λ i. Lists i (IsBirth T) xs) count l)

-- points that take

same_step : (T : Run) (k : ℕ) (s r : Step) → step_at T k ≡ Some s → step_at T k ≡ Some r → r ≡ s
same_step T k s r e f = same_some (sym f ∙ e)

takes_set : (T : Run) (k t : ℕ) (s : Step) (own p : Point) → step_at T k ≡ Some s → actor s ≡ Some t → own ≡ point_at T t k → is_set s ≡ true → is_new s ≡ false → TakesAt T p k ↔ (Some own ≡ Some p)
takes_set T k t s own p e by at set_is new_is = (forth, λ f. by_set {t = t} (record { step = s; stands = e; by = by; passes = set_is }) (sym (same_some f) ∙ at)) where
  forth : TakesAt T p k → Some own ≡ Some p
  forth (by_set {t = u} d f) =
      let same : u ≡ t = same_some (sym d.by ∙ ap actor (same_step T k s d.step e d.stands) ∙ by) in
      ap (λ (q : Point). Some q) (at ∙ ap (λ w. point_at T w k) (sym same) ∙ sym f)
  forth (by_new {by = u} n f) =
      let x : is_new s ≡ true = sym (ap is_new (same_step T k s (New u n.behaviour n.node n.state) e n.stands)) in absurd (cc)

takes_new : (T : Run) (k b : ℕ) (s : Step) (p : Point) → step_at T k ≡ Some s → b ≡ born T k → is_set s ≡ false → ((u : ℕ) → u ≡ b → (by : ℕ) × IsNew T k by u) → TakesAt T p k ↔ (Some (first_point b) ≡ Some p)
takes_new T k b s p e is set_is new_is = (forth, λ f. by_new {u = b} (new_is b refl).1 (sym (same_some f))) where
  forth : TakesAt T p k → Some (first_point b) ≡ Some p
  forth (by_set {t = u} d f) =
      let x : is_set s ≡ true = sym (ap is_set (same_step T k s d.step e d.stands)) ∙ d.passes in absurd (cc)
  forth (by_new {u = u} n f) = ap (λ (q : Point). Some q) (ap first_point (is ∙ sym n.made) ∙ sym f)

takes_none : (T : Run) (k : ℕ) (s : Step) (p : Point) → step_at T k ≡ Some s → is_set s ≡ false → is_new s ≡ false → TakesAt T p k ↔ (None ≡ Some p)
takes_none T k s p e set_is new_is = (forth, λ f. absurd (cc)) where
  forth : TakesAt T p k → None ≡ Some p
  forth (by_set {t = u} d f) =
      let x : is_set s ≡ true = sym (ap is_set (same_step T k s d.step e d.stands)) ∙ d.passes in absurd (cc)
  forth (by_new {by = u} n f) =
      let x : is_new s ≡ true = sym (ap is_new (same_step T k s (New u n.behaviour n.node n.state) e n.stands)) in absurd (cc)

pub taker_told : (T : Run) (k t b : ℕ) (s : Step) (own : Point) → step_at T k ≡ Some s → actor s ≡ Some t → own ≡ point_at T t k → b ≡ born T k → (p : Point) → TakesAt T p k ↔ (taker s own b ≡ Some p)
taker_told T k t b (Set u v) own e by at is p = takes_set T k t (Set u v) own p e by at refl refl
taker_told T k t b (New u c n v) own e by at is p =
    takes_new T k b (New u c n v) p e is refl (λ w same. (u, record { behaviour = c; node = n; state = v; stands = e; made = same ∙ is }))
taker_told T k t b s own e by at is p = takes_none T k s p e refl refl

pub takes_nobody : (T : Run) (k : ℕ) → ((t : ℕ) → ¬ ActsAt T t k) → (p : Point) → TakesAt T p k ↔ (None ≡ Some p)
takes_nobody T k none p = (forth, λ f. absurd (cc)) where
  forth : TakesAt T p k → None ≡ Some p
  forth (by_set {t = u} d f) = absurd (none u (acts T u k d.step d.stands d.by))
  forth (by_new {by = u} n f) = absurd (none u (acts T u k (New u n.behaviour n.node n.state) n.stands refl))

-- the last place, one place further
last_not : (P : ℕ → Type 0) (k : ℕ) (o : Option ℕ) → ¬ P k → IsLast P k o → IsLast P (suc k) o
last_not P k None not f = λ j l p. ⊎_elim (λ (e : j ≡ k). not (subst P e p)) (λ b. f j b p) (cases_last j k l)
last_not P k (Some i) not f = (omega (arith, f.0), f.1, λ j a l p. ⊎_elim (λ (e : j ≡ k). not (subst P e p)) (λ b. f.2 j a b p) (cases_last j k l))

last_here : (P : ℕ → Type 0) (k : ℕ) → P k → IsLast P (suc k) (Some k)
last_here P k p = (omega arith, p, λ j a b. absurd (omega (arith, a, b)))

pub latest_next : (T : Run) (k : ℕ) (x : Point) (old new : Point → Option ℕ) → ((p : Point) → TakesAt T p k ↔ (Some x ≡ Some p)) → ((p : Point) → new p ≡ cond (same_point x p) (Some k) (old p)) → TellsLatest T k old → TellsLatest T (k + 1) new
latest_next T k x old new taker puts told = next_place (λ n. TellsLatest T n new) k (λ p. subst (IsLast (TakesAt T p) (suc k)) (sym (puts p)) (by p (same_point x p) refl)) where
  by : (p : Point) (b : Bool) → same_point x p ≡ b → IsLast (TakesAt T p) (suc k) (cond b (Some k) (old p))
  by p true e = last_here (TakesAt T p) k ((taker p).1 (ap (λ (q : Point). Some q) ((point_eq-Decides x p).0 e)))
  by p false e = last_not (TakesAt T p) k (old p) (λ t. let f = (point_eq-Decides x p).1 (same_some ((taker p).0 t)) in let g : same_point x p ≡ true = f in cc) (told p)

pub latest_same : (T : Run) (k : ℕ) (old : Point → Option ℕ) → ((p : Point) → TakesAt T p k ↔ (None ≡ Some p)) → TellsLatest T k old → TellsLatest T (k + 1) old
latest_same T k old none told = next_place (λ n. TellsLatest T n old) k (λ p. last_not (TakesAt T p) k (old p) (λ t. let f : None ≡ Some p = (none p).0 t in cc) (told p))

pub earlier_next : (T : Run) (k : ℕ) (x : Point) (old : Point → Option ℕ) (o : Option ℕ) (xs ys : List (Option ℕ)) → ((p : Point) → TakesAt T p k ↔ (Some x ≡ Some p)) → o ≡ old x → ys ≡ xs ++ o ∷ [] → TellsLatest T k old → Lists k (TellsEarlier T) xs → Lists (k + 1) (TellsEarlier T) ys
earlier_next T k x old o xs ys taker is e told l =
    lists_push k (TellsEarlier T) xs ys o e
    (λ p t. let same : x ≡ p = same_some ((taker p).0 t) in
    subst (IsLast (TakesAt T p) k) (sym (is ∙ ap old same)) (told p)) l

pub earlier_none : (T : Run) (k : ℕ) (xs ys : List (Option ℕ)) → ((p : Point) → TakesAt T p k ↔ (None ≡ Some p)) → ys ≡ xs ++ None ∷ [] → Lists k (TellsEarlier T) xs → Lists (k + 1) (TellsEarlier T) ys
earlier_none T k xs ys none e l = lists_push k (TellsEarlier T) xs ys None e (λ p t. let f : None ≡ Some p = (none p).0 t in absurd (cc)) l

pub takes_latest : (T : Run) (k : ℕ) (taker : Option Point) (old new : Point → Option ℕ) → ((p : Point) → TakesAt T p k ↔ (taker ≡ Some p)) → ((p : Point) → new p ≡ latest_after old taker k p) → TellsLatest T k old → TellsLatest T (k + 1) new
takes_latest T k (Some x) old new takes puts told = latest_next T k x old new takes puts told
takes_latest T k None old new takes puts told = λ p. subst (IsLast (TakesAt T p) (k + 1)) (sym (puts p)) (latest_same T k old takes told p)

pub takes_earlier : (T : Run) (k : ℕ) (taker : Option Point) (old : Point → Option ℕ) (o : Option ℕ) (xs ys : List (Option ℕ)) → ((p : Point) → TakesAt T p k ↔ (taker ≡ Some p)) → o ≡ latest_for old taker → ys ≡ xs ++ o ∷ [] → TellsLatest T k old → Lists k (TellsEarlier T) xs → Lists (k + 1) (TellsEarlier T) ys
takes_earlier T k (Some x) old o xs ys takes is e told l = earlier_next T k x old o xs ys takes is e told l
takes_earlier T k None old o xs ys takes is e told l = earlier_none T k xs ys takes (e ∙ ap (λ z. xs ++ z ∷ []) is) l

-- how many transactors exist
pub born_next : (T : Run) (k b : ℕ) (made : Bool) → made ≡ option_map_or is_new (step_at T k) false → b ≡ born T k → (if made then b + 1 else b) ≡ born T (k + 1)
born_next T k b made is at = next_place (λ n. (if made then b + 1 else b) ≡ born T n) k (by made is) where
  by : (m : Bool) → m ≡ option_map_or is_new (step_at T k) false → (if m then b + 1 else b) ≡ born T (suc k)
  by true e = let x = count-suc (λ j. option_map_or is_new (step_at T j) false) k in let y = ap {B = ℕ} (λ m. cond m 1 0) e in omega (arith, x, y, at)
  by false e = let x = count-suc (λ j. option_map_or is_new (step_at T j) false) k in let y = ap {B = ℕ} (λ m. cond m 1 0) e in omega (arith, x, y, at)

-- at the opening

pub lists_none : {A : Type 0} (P : ℕ → A → Type 0) (xs : List A) → xs ≡ [] → Lists 0 P xs
lists_none P xs e = subst (Lists 0 P) (sym e) (record { count = refl; each = λ k x f. absurd (cc) })

pub history_told : (T : Run) (t n : ℕ) (h : Timeline) → n ≡ starts T → h ≡ opening_history n t → h ≡ history T t 0
history_told T t n h few e = e ∙ ap (λ m. opening_history m t) few ∙ sym (history-zero T t)

pub idle_told : (T : Run) (t : ℕ) → TellsTurn T 0 t None
idle_told T t = λ place m u. omega (arith, u.before)

pub latest_zero : (T : Run) (latest : Point → Option ℕ) → ((p : Point) → latest p ≡ None) → TellsLatest T 0 latest
latest_zero T latest none p = subst (IsLast (TakesAt T p) 0) (sym (none p)) (λ j l. absurd (omega (arith, l)))
