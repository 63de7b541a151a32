-- What is kept stays right with a change that is that of the step.
use Rattle.std.proofs.Common.{◌≡◌, ◌≢◌, ◌⊎◌, inl, inr, ⊎_elim, ℕ, zero, suc, ◌+◌, ◌-◌, ◌<◌, ◌≤◌, Bool, true, false, cond, List, [], ◌∷◌, ◌++◌, length, Option, Some, None, refl, sym, ap, ◌∙◌, subst, arith, length-append, length-set}
use Rattle.std.specs.Prelude.{slice_get, slice_set}
use Rattle.std.specs.Option.{option_map, option_map_or}
use Rattle.std.proofs.lemmas.Bool.{cases_eq}
use Rattle.std.proofs.lemmas.Option.{slice_get_within}
use Rattle.tau_trace.specs.Run.{Run, ActsAt}
use Rattle.tau_trace.specs.Numbering.{born, sent, IsOrigin, HasSender, InFlight, direct, echoed}
use Rattle.tau_trace.specs.Known.{WellFormed}
use Rattle.tau_trace.proofs.Counts.{count-suc}
use Rattle.tau_trace.proofs.Lists.{same_some, slice_get-front, slice_get-last, slice_get-push_cases}
use Rattle.tau_trace.proofs.Once.{new-rises, IsMaker, sent_maker, echoed_maker, repeated_maker, maker-rises}
use Rattle.tau_past.specs.Heard.{HeardBy}
use Rattle.tau_past.proofs.Known.{acts_known}
use Rattle.tau_points.specs.declared.point.Point.{Point}
use Rattle.tau_versions.specs.Logs.Told.{Told}
use Rattle.tau_versions.specs.Logs.Takes.{TellsSent}
use Rattle.tau_heard.specs.declared.own.Own.{Own}
use Rattle.tau_heard.specs.declared.letter.Letter.{Letter}
use Rattle.tau_heard.specs.declared.letter.Sender.{Sender}
use Rattle.tau_heard.specs.declared.hearing.Hearing.{Hearing}
use Rattle.tau_heard.specs.declared.change.ActorChange.{ActorChange}
use Rattle.tau_heard.specs.declared.change.Newborn.{Newborn}
use Rattle.tau_heard.specs.declared.change.LogChange.{LogChange}
use Rattle.tau_heard.specs.declared.change.LogChange.TheVariants as log
use Rattle.tau_heard.specs.declared.change.HearingChange.{HearingChange}
use Rattle.tau_heard.specs.After.{with_last, without, one_if, ActorAfter, IsActorAfter, IsAfter}
use Rattle.tau_heard.specs.Bounds.{TellsBounds, TellsHeardBy, last_number, AreRaised}
use Rattle.tau_heard.specs.Changed.{IsLogAfter, IsHeardAfter, AreRaisedBy, IsOwnAfter}
use Rattle.tau_heard.specs.Facts.{HearsRightly, ActorFollows, FollowsActor, FollowsBirth, CarriesRightly, sends, echoes, IsSameSender, FollowsLetter, IsChange, ChangesFollow}
use Rattle.tau_heard.specs.Falls.{falls_at, falling_steps}
use Rattle.tau_heard.specs.Hears.{TellsOwn, TellsLetter, Hears}
use Rattle.tau_heard.specs.Laws.{LogsFollow, TellsNext, BoundsAfterStep, TurnAfterStep}
use Rattle.tau_versions.specs.Search.Logs.{TellsLog, AreLogs}
use Rattle.tau_heard.specs.Logs.{KeepsLatest, LogsGoOn}
use Rattle.tau_heard.specs.Turns.{TellsTurn}
use Rattle.tau_heard.proofs.Bounds.{bounds_step_by_step, letters_stay, copies_hear_alike}
use Rattle.tau_heard.proofs.Moves.{logs_step_by_step}
use Rattle.tau_heard.proofs.Turns.{turns_step_by_step, carried_stays, copies_carry_alike}

-- Lists with one item more.

length-with_last : {A : Type 0} (o : Option A) (xs : List A) → length (with_last o xs) ≡ length xs + option_map_or (λ x. 1) o 0
length-with_last None xs = omega arith
length-with_last (Some x) xs = length-append xs (x ∷ [])

front-with_last : {A : Type 0} (o : Option A) (xs : List A) (i : ℕ) → i < length xs → slice_get (with_last o xs) i ≡ slice_get xs i
front-with_last None xs i lt = refl
front-with_last (Some x) xs i lt = sym (slice_get-front xs x i lt)

-- an item is one of the list, or the one more
cases-with_last : {A : Type 0} (o : Option A) (xs : List A) (i : ℕ) (y : A) → slice_get (with_last o xs) i ≡ Some y → (slice_get xs i ≡ Some y) ⊎ ((i ≡ length xs) × (o ≡ Some y))
cases-with_last None xs i y e = inl e
cases-with_last (Some x) xs i y e = ⊎_elim (λ f. inl f) (λ p. inr (p.0, ap Some p.1)) (slice_get-push_cases xs x y i e)

element : {A : Type 0} (xs : List A) (i : ℕ) → i < length xs → (x : A) × (slice_get xs i ≡ Some x)
element [] i l = absurd (omega arith)
element (x ∷ xs) zero l = (x, refl)
element (x ∷ xs) (suc i) l = element xs i (omega arith)

-- an item that is left was there before, and those of other numbers are left
left_by : {A : Type 0} (xs : List (Option A)) (k m : ℕ) (x : A) → slice_get (slice_set xs k None) m ≡ Some (Some x) → slice_get xs m ≡ Some (Some x)
left_by [] k m x e = e
left_by (y ∷ ys) zero zero x e = absurd (cc)
left_by (y ∷ ys) zero (suc m) x e = e
left_by (y ∷ ys) (suc k) zero x e = e
left_by (y ∷ ys) (suc k) (suc m) x e = left_by ys k m x e

left_in : {A : Type 0} (o : Option ℕ) (xs : List (Option A)) (m : ℕ) (x : A) → slice_get (without o xs) m ≡ Some (Some x) → slice_get xs m ≡ Some (Some x)
left_in None xs m x e = e
left_in (Some k) xs m x e = left_by xs k m x e

kept_by : {A : Type 0} (xs : List (Option A)) (k m : ℕ) → m ≢ k → slice_get (slice_set xs k None) m ≡ slice_get xs m
kept_by [] k m ne = refl
kept_by (y ∷ ys) zero zero ne = absurd (ne refl)
kept_by (y ∷ ys) zero (suc m) ne = refl
kept_by (y ∷ ys) (suc k) zero ne = refl
kept_by (y ∷ ys) (suc k) (suc m) ne = kept_by ys k m (λ e. ne (ap suc e))

kept_in : {A : Type 0} (o : Option ℕ) (xs : List (Option A)) (m : ℕ) → ¬ (o ≡ Some m) → slice_get (without o xs) m ≡ slice_get xs m
kept_in None xs m ne = refl
kept_in (Some k) xs m ne = kept_by xs k m (λ e. ne (ap Some (sym e)))

length-without : {A : Type 0} (o : Option ℕ) (xs : List (Option A)) → length (without o xs) ≡ length xs
length-without None xs = refl
length-without (Some k) xs = length-set xs k None

abbrev one_more : {A : Type 0} → Option A → ℕ
one_more o = option_map_or (λ x. 1) o 0

-- Logs.

-- the log of u went on
record Went (T : Run) (u n : ℕ) (old : Told) (logs : List Told) : Type 0 where
  next : Told
  stands : slice_get logs u ≡ Some next
  tells : TellsLog T u (suc n) next
  keeps : KeepsLatest n old next

-- what is kept of the actor's turn
record ActorTurn (T : Run) (n : ℕ) (O : List Own) (a : ActorChange) : Type 0 where
  own : Own
  stands : slice_get O a.who ≡ Some own
  tells : TellsTurn T a.who n own.roots own.touched own.depended

acts_once : (T : Run) (t u n : ℕ) → ActsAt T t n → ActsAt T u n → t ≡ u
acts_once T t u n a b = same_some (sym a ∙ b)

module _ (T : Run) (n : ℕ) (known : WellFormed T) (letters : List (Option Letter)) (L M : List Told) (O P : List Own) where
  -- the change of one transactor leaves the logs of others, and what is kept of them
  log_count : (o : Option ActorChange) → IsActorAfter o letters L M O P → length M ≡ length L
  log_count None x = ap length x.0
  log_count (Some a) x = x.log_count

  own_count : (o : Option ActorChange) → IsActorAfter o letters L M O P → length P ≡ length O
  own_count None x = ap length x.1
  own_count (Some a) x = x.own_count

  log_same : (o : Option ActorChange) → FollowsActor T n letters L O o → IsActorAfter o letters L M O P → (u : ℕ) → ¬ ActsAt T u n → slice_get M u ≡ slice_get L u
  log_same None f x u none = ap (λ xs. slice_get xs u) x.0
  log_same (Some a) f x u none = x.other_logs u (λ e. none (let F : ℕ → Type 0 = λ t. ActsAt T t n in subst F (sym e) f.acts))

  own_same : (o : Option ActorChange) → FollowsActor T n letters L O o → IsActorAfter o letters L M O P → (u : ℕ) → ¬ ActsAt T u n → slice_get P u ≡ slice_get O u
  own_same None f x u none = ap (λ xs. slice_get xs u) x.1
  own_same (Some a) f x u none = x.other_own u (λ e. none (let F : ℕ → Type 0 = λ t. ActsAt T t n in subst F (sym e) f.acts))

  -- who acts is the transactor of the change
  acts_or_not : (o : Option ActorChange) → FollowsActor T n letters L O o → (u : ℕ) → ((a : ActorChange) × (o ≡ Some a) × (u ≡ a.who)) ⊎ ¬ ActsAt T u n
  acts_or_not None f u = inr (f u)
  acts_or_not (Some a) f u = ⊎_elim (λ e. inl (a, refl, e)) (λ ne. inr (λ acts. ne (acts_once T u a.who n acts f.acts))) (cases_eq u a.who)

  went : (o : Option ActorChange) → FollowsActor T n letters L O o → IsActorAfter o letters L M O P → ((a : ActorChange) → ActsAt T a.who n → ActorTurn T n O a) → (u : ℕ) (old : Told) → slice_get L u ≡ Some old → u < born T n → TellsLog T u n old → Went T u n old M
  went o f x turn_of u old e there tells = ⊎_elim actor quiet (acts_or_not o f u) where
    quiet : ¬ ActsAt T u n → Went T u n old M
    quiet none = record { next = old; stands = log_same o f x u none ∙ e; tells = (logs_step_by_step T u n old known tells).other none there; keeps = λ a i v le l. l }

    at : (a : ActorChange) → ActorFollows T n letters L O a → ActorAfter a letters L M O P → u ≡ a.who → Went T u n old M
    at a g y same =
        let here : slice_get L a.who ≡ Some old = ap (slice_get L) (sym same) ∙ e in
        let z = y.log old here in
        let F : ℕ → Type 0 = λ t. TellsLog T t n old in
        let G : ℕ → Type 0 = λ t. TellsLog T t (suc n) z.0 in
        let turn = turn_of a g.acts in
        let w = g.log old z.0 turn.own here turn.stands z.2 (subst F same tells) turn.tells in
        record { next = z.0; stands = ap (slice_get M) same ∙ z.1; tells = subst G (sym same) w.0; keeps = w.1 }

    actor : (a : ActorChange) × (o ≡ Some a) × (u ≡ a.who) → Went T u n old M
    actor s =
        let F : Option ActorChange → Type 0 = FollowsActor T n letters L O in
        let G : Option ActorChange → Type 0 = λ p. IsActorAfter p letters L M O P in
        at s.0 (subst F s.1 f) (subst G s.1 x) s.2

last_same : (xs ys : List Told) (u : ℕ) → slice_get xs u ≡ slice_get ys u → last_number xs u ≡ last_number ys u
last_same xs ys u e = ap (λ o. option_map_or (λ (l : Told). length l.versions - 1) o 0) e

-- All parts together.
module _ (T : Run) (n : ℕ) (known : WellFormed T) (h : Hearing) (c : HearingChange) (g : Hearing) (x : Hears T n h.logs.items h.own.items h.letters.items h.falls) (after : IsAfter h c g) (change : IsChange T n h c) where
  abbrev L : List Told
  L = h.logs.items

  abbrev M : List Told
  M = after.mid_logs

  abbrev G : List Told
  G = g.logs.items

  abbrev O : List Own
  O = h.own.items

  abbrev P : List Own
  P = after.mid_own

  abbrev Ls : List (Option Letter)
  Ls = h.letters.items

  mid_count : length M ≡ born T n
  mid_count = log_count T n known Ls L M O P c.actor after.actor ∙ x.logs_are.count

  mid_own_count : length P ≡ born T n
  mid_own_count = own_count T n known Ls L M O P c.actor after.actor ∙ x.transactors

  -- a log that was there
  front : (u : ℕ) → u < born T n → slice_get G u ≡ slice_get M u
  front u lt = ap (λ xs. slice_get xs u) after.logs ∙ front-with_last (option_map (λ b. b.log) c.newborn) M u (omega (arith, lt, mid_count))

  -- what is kept of the actor
  actor_own : (a : ActorChange) → ActsAt T a.who n → (y : Own) × (slice_get O a.who ≡ Some y) × TellsOwn T a.who n L y
  actor_own a acts =
      let y = element O a.who (omega (arith, acts_known T a.who n known acts, x.transactors)) in (y.0, y.1, x.each a.who y.0 y.1)

  actor_turn : (a : ActorChange) → ActsAt T a.who n → ActorTurn T n O a
  actor_turn a acts = let y = actor_own a acts in record { own = y.0; stands = y.1; tells = y.2.turn }

  goes : (u : ℕ) (old : Told) → slice_get L u ≡ Some old → Went T u n old M
  goes u old e = went T n known Ls L M O P c.actor change.actor after.actor actor_turn u old e (omega (arith, slice_get_within L u old e, x.logs_are.count)) (x.logs_are.each u old e)

  go_on : LogsGoOn n L G
  go_on = record {
    each = λ u old e.
        let w = goes u old e in (w.next, front u (omega (arith, slice_get_within L u old e, x.logs_are.count)) ∙ w.stands, w.keeps);
  }

  after_turn : (t : ℕ) (y : Own) → TellsOwn T t n L y → TurnAfterStep T t n y.roots y.touched y.depended
  after_turn t y tells = turns_step_by_step T t n y.roots y.touched y.depended known tells.turn

  -- the log of the newborn
  newborn_log : (o : Option ActorChange) (b : Newborn) → FollowsActor T n Ls L O o → FollowsBirth T n L O o (Some b) → TellsLog T (born T n) (suc n) b.log
  newborn_log None b f w = absurd w
  newborn_log (Some a) b f w =
      let y = actor_own a f.acts in w.log y.0 y.1 (λ along same. (after_turn a.who y.0 y.2).taken (born T n) along w.birth same)

  born_next : (o : Option ActorChange) (b : Option Newborn) → FollowsBirth T n L O o b → born T (suc n) ≡ born T n + one_more b
  born_next o None w = omega (arith, w)
  born_next None (Some b) w = absurd w
  born_next (Some a) (Some b) w = new-rises T n a.who (born T n) w.birth

  map_one : {A B : Type 0} (f : A → B) (o : Option A) → one_more (option_map f o) ≡ one_more o
  map_one f None = refl
  map_one f (Some y) = refl

  map_some : {A B : Type 0} (f : A → B) (o : Option A) (z : B) → option_map f o ≡ Some z → (y : A) × (o ≡ Some y) × (f y ≡ z)
  map_some f None z e = absurd (cc)
  map_some f (Some y) z e = (y, refl, same_some e)

  logs_after : AreLogs T (suc n) G
  logs_after = record { count = count; each = each } where
    count : length G ≡ born T (suc n)
    count = omega (arith, ap length after.logs, length-with_last (option_map (λ b. b.log) c.newborn) M, map_one (λ (b : Newborn). b.log) c.newborn, mid_count, born_next c.actor c.newborn change.newborn)

    old_one : (u : ℕ) (log : Told) → slice_get M u ≡ Some log → TellsLog T u (suc n) log
    old_one u log e =
        let y = element L u (omega (arith, slice_get_within M u log e, mid_count, x.logs_are.count)) in
        let w = goes u y.0 y.1 in
        let F : Told → Type 0 = TellsLog T u (suc n) in subst F (same_some (sym w.stands ∙ e)) w.tells

    new_one : (u : ℕ) (log : Told) → u ≡ length M → option_map (λ b. b.log) c.newborn ≡ Some log → TellsLog T u (suc n) log
    new_one u log at e =
        let b = map_some (λ (b : Newborn). b.log) c.newborn log e in
        let F : Option Newborn → Type 0 = FollowsBirth T n L O c.actor in
        let H : ℕ → Type 0 = λ v. TellsLog T v (suc n) b.0.log in
        let K : Told → Type 0 = TellsLog T u (suc n) in
        subst K b.2 (subst H (sym (at ∙ mid_count)) (newborn_log c.actor b.0 change.actor (subst F b.1 change.newborn)))

    each : (u : ℕ) (log : Told) → slice_get G u ≡ Some log → TellsLog T u (suc n) log
    each u log e = ⊎_elim (old_one u log) (λ p. new_one u log p.0 p.1) (cases-with_last (option_map (λ b. b.log) c.newborn) M u log (ap (λ xs. slice_get xs u) (sym after.logs) ∙ e))

  follow : LogsFollow T n L G
  follow = record { before = x.logs_are; after = logs_after; go_on = go_on }

  -- Transactors.

  bounds : (t : ℕ) (y : Own) → t < born T n → TellsOwn T t n L y → BoundsAfterStep T t n L G y.numbers.numbers
  bounds t y there tells = bounds_step_by_step T t n L G y.numbers.numbers known there follow tells.heard

  quiet_own : (t : ℕ) (y : Own) → t < born T n → ¬ ActsAt T t n → TellsOwn T t n L y → TellsOwn T t (suc n) G y
  quiet_own t y there none tells = record {
    heard = (bounds t y there tells).other none (last_same G L t (front t there ∙ log_same T n known Ls L M O P c.actor change.actor after.actor t none));
    turn = (after_turn t y tells).other none;
  }

  -- the numbers of the actor, by what it hears of
  actor_heard : (a : ActorChange) (y z : Own) (hears : Option ℕ) → ActsAt T a.who n → TellsOwn T a.who n L y → HearsRightly T a.who n Ls hears → IsHeardAfter hears Ls y.numbers.numbers z.numbers.numbers → TellsNext T a.who n G z.numbers.numbers
  actor_heard a y z None acts tells right heard =
      let F : List ℕ → Type 0 = TellsNext T a.who n G in
      let step = bounds a.who y (acts_known T a.who n known acts) tells in
      subst F (sym heard) (⊎_elim (λ none. step.alone acts none) (λ m. step.own_message m.0 acts m.1 m.2) right)
  actor_heard a y z (Some m) acts tells right heard = by right.1.0.sender refl (heard right.1.0 right.1.1) where
    step : BoundsAfterStep T a.who n L G y.numbers.numbers
    step = bounds a.who y (acts_known T a.who n known acts) tells

    letter : TellsHeardBy T m n L right.1.0.sender
    letter = (x.letter m right.1.0 right.1.1).heard

    by : (s : Option Sender) → right.1.0.sender ≡ s → AreRaisedBy right.1.0.sender y.numbers.numbers z.numbers.numbers → TellsNext T a.who n G z.numbers.numbers
    by None e raised =
        let F : Option Sender → Type 0 = λ s. AreRaisedBy s y.numbers.numbers z.numbers.numbers in
        let H : Option Sender → Type 0 = TellsHeardBy T m n L in
        let K : List ℕ → Type 0 = TellsNext T a.who n G in
        subst K (sym (subst F e raised)) (step.post m acts right.0 (subst H e letter))
    by (Some s) e raised =
        let F : Option Sender → Type 0 = λ s. AreRaisedBy s y.numbers.numbers z.numbers.numbers in
        let H : Option Sender → Type 0 = TellsHeardBy T m n L in
        step.hearing m s.who s.version s.numbers.value.items z.numbers.numbers acts right.0 (subst H e letter).1 (subst F e raised)

  actor_after : (a : ActorChange) (y z : Own) → ActorFollows T n Ls L O a → TellsOwn T a.who n L y → IsOwnAfter a.hears Ls a.turn y z → TellsOwn T a.who (suc n) G z
  actor_after a y z f tells is = record {
    heard = actor_heard a y z a.hears f.acts tells f.hears is.numbers;
    turn = rw (is.roots, is.touched, is.depended) (f.turn y.roots y.touched y.depended tells.turn);
  }

  -- of a transactor that was there
  old_own : (t : ℕ) (z : Own) → slice_get P t ≡ Some z → TellsOwn T t (suc n) G z
  old_own t z e = ⊎_elim actor quiet (acts_or_not T n known Ls L M O P c.actor change.actor t) where
    there : t < born T n
    there = omega (arith, slice_get_within P t z e, mid_own_count)

    quiet : ¬ ActsAt T t n → TellsOwn T t (suc n) G z
    quiet none = quiet_own t z there none (x.each t z (sym (own_same T n known Ls L M O P c.actor change.actor after.actor t none) ∙ e))

    at : (a : ActorChange) → ActorFollows T n Ls L O a → ActorAfter a Ls L M O P → t ≡ a.who → TellsOwn T t (suc n) G z
    at a f is same =
        let y = actor_own a f.acts in
        let w = is.own y.0 y.1 in
        let one : w.0 ≡ z = same_some (sym w.1 ∙ ap (slice_get P) (sym same) ∙ e) in
        let F : Own → Type 0 = IsOwnAfter a.hears Ls a.turn y.0 in
        let H : ℕ → Type 0 = λ u. TellsOwn T u (suc n) G z in
        subst H (sym same) (actor_after a y.0 z f y.2 (subst F one w.2))

    actor : (a : ActorChange) × (c.actor ≡ Some a) × (t ≡ a.who) → TellsOwn T t (suc n) G z
    actor s =
        let F : Option ActorChange → Type 0 = FollowsActor T n Ls L O in
        let H : Option ActorChange → Type 0 = λ p. IsActorAfter p Ls L M O P in
        at s.0 (subst F s.1 change.actor) (subst H s.1 after.actor) s.2

  -- where the actor's log stays, its last version is the one that it was
  stays_last : (a : ActorChange) → ActsAt T a.who n → a.log ≡ log.Stays → ActorAfter a Ls L M O P → last_number G a.who ≡ last_number L a.who
  stays_last a acts stays is =
      let old = element L a.who (omega (arith, acts_known T a.who n known acts, x.logs_are.count)) in
      let w = is.log old.0 old.1 in
      let F : LogChange → Type 0 = λ k. IsLogAfter k old.0 w.0 in
      let same : w.0 ≡ old.0 = subst F stays w.2 in
      last_same G L a.who (front a.who (acts_known T a.who n known acts) ∙ w.1 ∙ ap Some same ∙ sym old.1)

  newborn_own : (o : Option ActorChange) (b : Newborn) → FollowsActor T n Ls L O o → IsActorAfter o Ls L M O P → FollowsBirth T n L O o (Some b) → slice_get G (born T n) ≡ Some b.log → TellsOwn T (born T n) (suc n) G b.own
  newborn_own None b f is w e = absurd w
  newborn_own (Some a) b f is w e =
      let y = actor_own a f.acts in
      let F : ℕ → Type 0 = λ v. AreRaised y.0.numbers.numbers a.who v [] b.own.numbers.numbers in
      let raised = subst F (sym (stays_last a f.acts w.log_stays is)) (w.numbers y.0 y.1) in
      let first : last_number G (born T n) ≡ 0 = ap (λ l. option_map_or (λ (k : Told). length k.versions - 1) l 0) e ∙ omega (arith, w.one_version) in record {
        heard = (bounds a.who y.0 (acts_known T a.who n known f.acts) y.2).newborn (born T n) b.own.numbers.numbers w.birth first raised;
        turn = rw (w.roots, w.touched, w.depended) ((after_turn a.who y.0 y.2).newborn (born T n) w.birth);
      }

  new_own : (t : ℕ) (z : Own) → t ≡ length P → option_map (λ b. b.own) c.newborn ≡ Some z → TellsOwn T t (suc n) G z
  new_own t z at e =
      let b = map_some (λ (b : Newborn). b.own) c.newborn z e in
      let F : Option Newborn → Type 0 = FollowsBirth T n L O c.actor in
      let H : ℕ → Type 0 = λ v. TellsOwn T v (suc n) G z in
      let K : Own → Type 0 = TellsOwn T (born T n) (suc n) G in
      let stands : slice_get G (born T n) ≡ Some b.0.log =
      ap (λ xs. slice_get xs (born T n)) (after.logs ∙ ap (λ o. with_last (option_map (λ (b : Newborn). b.log) o) M) b.1) ∙ ap (slice_get (M ++ b.0.log ∷ [])) (sym mid_count) ∙ slice_get-last M b.0.log in
      subst H (sym (at ∙ mid_own_count)) (subst K b.2 (newborn_own c.actor b.0 change.actor after.actor (subst F b.1 change.newborn) stands))

  own_each : (t : ℕ) (z : Own) → slice_get g.own.items t ≡ Some z → TellsOwn T t (suc n) G z
  own_each t z e = ⊎_elim (old_own t z) (λ p. new_own t z p.0 p.1) (cases-with_last (option_map (λ b. b.own) c.newborn) P t z (ap (λ xs. slice_get xs t) (sym after.own) ∙ e))

  own_all : length g.own.items ≡ born T (suc n)
  own_all = omega (arith, ap length after.own, length-with_last (option_map (λ b. b.own) c.newborn) P, map_one (λ (b : Newborn). b.own) c.newborn, mid_own_count, born_next c.actor c.newborn change.newborn)

  -- Messages.

  old_letter : (m : ℕ) (l : Letter) → slice_get Ls m ≡ Some (Some l) → TellsLetter T m (suc n) G l
  old_letter m l e =
      let there : m < sent T n = omega (arith, slice_get_within Ls m (Some l) e, x.messages) in
      let y = x.letter m l e in record {
        heard = letters_stay T m n L G l.sender known there follow y.heard;
        roots = carried_stays T m n l.roots y.roots;
      }

  -- the origin of the message that the step makes, and what it carries
  origin_of : (t : ℕ) (roots : List Point) → CarriesRightly T n O t roots → IsOrigin T n t (sent T n)
  origin_of t roots (sends s c) = direct s
  origin_of t roots (echoes {m = m} e is) = echoed {n = m} e

  carried_of : (a : ActorChange) (y : Own) → slice_get O a.who ≡ Some y → TellsOwn T a.who n L y → (roots : List Point) → CarriesRightly T n O a.who roots → TellsSent T (sent T n) (suc n) roots
  carried_of a y e tells roots (sends s c) = (after_turn a.who y tells).message (sent T n) roots s (c y e)
  carried_of a y e tells roots (echoes {m = m} o is) = let F : List Point → Type 0 = TellsSent T (sent T n) (suc n) in subst F (sym is) ((after_turn a.who y tells).notice m (sent T n) o)

  maker_of : (t : ℕ) (roots : List Point) → CarriesRightly T n O t roots → IsMaker T n (sent T n)
  maker_of t roots (sends s c) = sent_maker T n t (sent T n) s
  maker_of t roots (echoes {m = m} e is) = echoed_maker T n t m (sent T n) e

  -- what is told of a sender is told of the same one
  same_sender : (m k : ℕ) (logs : List Told) (s r : Option Sender) → IsSameSender s r → TellsHeardBy T m k logs s → TellsHeardBy T m k logs r
  same_sender m k logs None None e h = h
  same_sender m k logs (Some s) (Some r) e h =
      let F : ℕ → Type 0 = λ u. HasSender T m u × TellsBounds T (HeardBy T m) k logs u s.version s.numbers.value.items in
      let H : ℕ → Type 0 = λ v. HasSender T m r.who × TellsBounds T (HeardBy T m) k logs r.who v s.numbers.value.items in
      let K : List ℕ → Type 0 = λ xs. HasSender T m r.who × TellsBounds T (HeardBy T m) k logs r.who r.version xs in
      subst K (sym e.2) (subst H (sym e.1) (subst F (sym e.0) h))
  same_sender m k logs None (Some r) e h = absurd e
  same_sender m k logs (Some s) None e h = absurd e

  letter_of : (o : Option ActorChange) (l : Letter) → FollowsActor T n Ls L O o → IsActorAfter o Ls L M O P → FollowsLetter T n Ls L O o (Some l) → TellsLetter T (sent T n) (suc n) G l
  letter_of None l f is w =
      let y = old_letter w.repeated w.letter w.stands in
      let F : List Point → Type 0 = TellsSent T (sent T n) (suc n) in record {
        heard = same_sender (sent T n) (suc n) G w.letter.sender l.sender w.sender (copies_hear_alike T n w.repeated (sent T n) (suc n) G w.letter.sender w.copies y.heard);
        roots = subst F (sym w.roots) (copies_carry_alike T n w.repeated (sent T n) (suc n) w.letter.roots w.copies y.roots);
      }
  letter_of (Some a) l f is w =
      let y = actor_own a f.acts in
      let there = acts_known T a.who n known f.acts in
      let origin = origin_of a.who l.roots w.carries in
      let told = (bounds a.who y.0 there y.2).message (sent T n) origin in
      let version : last_number G a.who ≡ w.sender.version = stays_last a f.acts w.log_stays is ∙ sym w.version in
      let F : ℕ → Type 0 = λ v. TellsBounds T (HeardBy T (sent T n)) (suc n) G a.who v y.0.numbers.numbers in
      let H : List ℕ → Type 0 = λ xs. TellsBounds T (HeardBy T (sent T n)) (suc n) G a.who w.sender.version xs in
      let K : ℕ → Type 0 = λ s. HasSender T (sent T n) s × TellsBounds T (HeardBy T (sent T n)) (suc n) G s w.sender.version w.sender.numbers.value.items in
      let Q : Option Sender → Type 0 = TellsHeardBy T (sent T n) (suc n) G in
      record {
        heard = subst Q (sym w.is_sender) (subst K (sym w.who) (record { place = n; origin = origin }, subst H (sym (w.numbers y.0 y.1)) (subst F version told)));
        roots = carried_of a y.0 y.1 y.2 l.roots w.carries;
      }

  left_count : length (without c.gone Ls) ≡ sent T n
  left_count = length-without c.gone Ls ∙ x.messages

  letter_each : (m : ℕ) (l : Letter) → slice_get g.letters.items m ≡ Some (Some l) → TellsLetter T m (suc n) G l
  letter_each m l e = ⊎_elim (λ f. old_letter m l (left_in c.gone Ls m l f)) (λ p. new_letter p.0 p.1) (cases-with_last (option_map Some c.letter) (without c.gone Ls) m (Some l) (ap (λ xs. slice_get xs m) (sym after.letters) ∙ e)) where
    new_letter : m ≡ length (without c.gone Ls) → option_map Some c.letter ≡ Some (Some l) → TellsLetter T m (suc n) G l
    new_letter at is =
        let b = map_some Some c.letter (Some l) is in
        let F : Option Letter → Type 0 = FollowsLetter T n Ls L O c.actor in
        let H : ℕ → Type 0 = λ k. TellsLetter T k (suc n) G l in
        let K : Letter → Type 0 = TellsLetter T (sent T n) (suc n) G in
        subst H (sym (at ∙ left_count)) (subst K (same_some b.2) (letter_of c.actor b.0 change.actor after.actor (subst F b.1 change.letter)))

  sent_next : (o : Option ActorChange) (l : Option Letter) → FollowsLetter T n Ls L O o l → sent T (suc n) ≡ sent T n + one_more l
  sent_next o None w = omega (arith, w)
  sent_next None (Some l) w = maker-rises T n (sent T n) (repeated_maker T n w.repeated (sent T n) w.copies)
  sent_next (Some a) (Some l) w = maker-rises T n (sent T n) (maker_of a.who l.roots w.carries)

  letter_count : length g.letters.items ≡ sent T (suc n)
  letter_count = omega (arith, ap length after.letters, length-with_last (option_map Some c.letter) (without c.gone Ls), map_one Some c.letter, left_count, sent_next c.actor c.letter change.letter)

  in_flight : (m : ℕ) → InFlight T m (suc n) → (l : Letter) × (slice_get g.letters.items m ≡ Some (Some l))
  in_flight m flies = ⊎_elim old new (before (m) (sent T n)) where
    before : (a b : ℕ) → (a < b) ⊎ (b ≤ a)
    before a b = grind arith

    old : m < sent T n → (l : Letter) × (slice_get g.letters.items m ≡ Some (Some l))
    old there =
        let y = x.in_flight m (record { exists = there; not_removed = λ j lt. flies.not_removed j (omega (arith, lt)) }) in
        (y.0, ap (λ xs. slice_get xs m) after.letters ∙ front-with_last (option_map Some c.letter) (without c.gone Ls) m (omega (arith, there, left_count)) ∙ kept_in c.gone Ls m (λ e. flies.not_removed n (omega arith) (change.gone m e)) ∙ y.1)

    new : sent T n ≤ m → (l : Letter) × (slice_get g.letters.items m ≡ Some (Some l))
    new late = by c.letter refl where
      by : (o : Option Letter) → c.letter ≡ o → (l : Letter) × (slice_get g.letters.items m ≡ Some (Some l))
      by None e = absurd (omega (arith, flies.exists, late, sent_next c.actor c.letter change.letter, ap one_more e))
      by (Some l) e =
          let at : m ≡ length (without c.gone Ls) = omega (arith, flies.exists, late, sent_next c.actor c.letter change.letter, ap one_more e, left_count) in
          (l, ap (λ xs. slice_get xs m) (after.letters ∙ ap (λ o. with_last (option_map Some o) (without c.gone Ls)) e) ∙ ap (slice_get (without c.gone Ls ++ Some l ∷ [])) at ∙ slice_get-last (without c.gone Ls) (Some l))

  falls_next : g.falls ≡ falling_steps T (suc n)
  falls_next = omega (arith, after.falls, x.falls_is, count-suc (falls_at T) n, counted (falls_at T n) c.falls change.falls) where
    counted : (a b : Bool) → a ≡ b → cond a 1 0 ≡ one_if b
    counted true b e = ap one_if e
    counted false b e = ap one_if e

  pub follows : Hears T (suc n) G g.own.items g.letters.items g.falls
  follows = record {
    logs_are = logs_after;
    transactors = own_all;
    each = own_each;
    messages = letter_count;
    letter = letter_each;
    in_flight = in_flight;
    falls_is = falls_next;
  }

pub changes_follow : ChangesFollow
changes_follow T n h g c known x after change = follows T n known h c g x after change
