-- Numbers of versions, step by step.
use Rattle.std.proofs.Common.{◌≡◌, ◌≢◌, ◌⊎◌, inl, inr, ⊎_elim, ℕ, zero, suc, ◌-◌, ◌<◌, ◌≤◌, max, List, [], ◌∷◌, length, get_or, Option, Some, None, refl, sym, ap, ◌∙◌, subst, arith}
use Rattle.std.specs.Prelude.{slice_get}
use Rattle.std.specs.Option.{option_map_or}
use Rattle.std.proofs.lemmas.Bool.{cases_eq}
use Rattle.std.proofs.lemmas.List.{get_or_past}
use Rattle.std.proofs.lemmas.Option.{slice_get_within}
use Rattle.tau_points.specs.Reach.{start}
use Rattle.tau_trace.specs.Run.{Run, ActsAt}
use Rattle.tau_trace.specs.Numbering.{born, sent, IsNew, IsOrigin, copied, HasSender}
use Rattle.tau_trace.specs.Histories.{history}
use Rattle.tau_trace.specs.Known.{WellFormed}
use Rattle.tau_trace.proofs.Agreement.{born-grows}
use Rattle.tau_trace.proofs.Lists.{same_some}
use Rattle.tau_trace.proofs.Once.{new-rises, origin_acts}
use Rattle.tau_past.specs.Heard.{own_step, Heard, HeardBy, HeardTogether, HoldsStepsBefore, Bound}
use Rattle.tau_past.specs.KnownLaws.{HearsOf, HearsOfNone, IsSame, Union, With}
use Rattle.tau_past.proofs.Known.{acts_known, hears_known, heard_before, heard_by_before}
use Rattle.tau_past.proofs.HeardLemmas.{new_acts, heard_grows, heard_after_step, heard_with_sender, copies_hear}
use Rattle.tau_past.proofs.BoundLemmas.{union_bound, bounds_with_step, has_bounds}
use Rattle.tau_versions.specs.declared.logs.version.Version.{Version}
use Rattle.tau_versions.specs.Logs.Versions.{IsVersionOf, IsLatest}
use Rattle.tau_versions.specs.Logs.Told.{Told, TellsHistories}
use Rattle.tau_versions.proofs.Latest.{latest_of_the_greater_place}
use Rattle.tau_heard.specs.declared.letter.Sender.{Sender}
use Rattle.tau_heard.specs.Bounds.{TellsNumber, TellsBounds, TellsHeardBy, last_number, AreRaised}
use Rattle.tau_versions.specs.Search.Logs.{AreLogs}
use Rattle.tau_heard.specs.Logs.{LogsGoOn}
use Rattle.tau_heard.specs.Laws.{LogsFollow, BoundsTogether, TellsNext, BoundsAfterStep, BoundsStepByStep, LettersStay, CopiesHearAlike}

-- Numbers at places.

-- the version of u with this number is its latest one at place a
pub record IsNumberAt (logs : List Told) (u a number : ℕ) : Type 0 where
  pub log : Told
  pub stands : slice_get logs u ≡ Some log
  pub version : Version
  pub latest : IsLatest log.versions a number version

pub number_of : {T : Run} {H : ℕ → Type 0} {n : ℕ} {logs : List Told} {u i : ℕ} (x : TellsNumber T H n logs u i) → IsNumberAt logs u x.tells.place i
number_of x = record { log = x.log; stands = x.stands; version = x.tells.version; latest = x.tells.latest }

pub number_told : {T : Run} {H : ℕ → Type 0} {n : ℕ} {logs : List Told} {u i : ℕ} (place : ℕ) → place ≤ n → Bound T H u place → IsNumberAt logs u place i → TellsNumber T H n logs u i
number_told place within bound x = record { log = x.log; stands = x.stands; tells = record { place = place; within = within; bound = bound; version = x.version; latest = x.latest } }

-- Bounds of sets with the same places.

same_bound : (T : Run) (H G : ℕ → Type 0) (u a : ℕ) → IsSame H G → Bound T H u a → Bound T G u a
same_bound T H G u a same x = record {
  steps = λ j acts. (λ g. (x.steps j acts).0 ((same j).1 g), λ l. (same j).0 ((x.steps j acts).1 l));
  last = ⊎_elim (λ z. inl z) (λ s. inr (s.0, s.1, s.2, (same s.0).0 s.3)) x.last;
}

same_told : (T : Run) (H G : ℕ → Type 0) (n : ℕ) (logs : List Told) (u number : ℕ) → IsSame H G → TellsNumber T H n logs u number → TellsNumber T G n logs u number
same_told T H G n logs u number same x = number_told x.tells.place x.tells.within (same_bound T H G u x.tells.place same x.tells.bound) (number_of x)

pub same_bounds : (T : Run) (H G : ℕ → Type 0) (n : ℕ) (logs : List Told) (t v : ℕ) (xs : List ℕ) → IsSame H G → TellsBounds T H n logs t v xs → TellsBounds T G n logs t v xs
same_bounds T H G n logs t v xs same x = record {
  own = same_told T H G n logs t v same x.own;
  others = λ u lt ne. same_told T H G n logs u (get_or xs u 0) same (x.others u lt ne);
  not_later = x.not_later;
  few = x.few;
}

back : (H G : ℕ → Type 0) → IsSame H G → IsSame G H
back H G same j = ((same j).1, (same j).0)

-- Numbers.

same_number : (T : Run) (H : ℕ → Type 0) (n : ℕ) (logs : List Told) (u i j : ℕ) → i ≡ j → TellsNumber T H n logs u i → TellsNumber T H n logs u j
same_number T H n logs u i j e x = subst (TellsNumber T H n logs u) e x

-- the log of u, which has the number
has_log : (T : Run) (H : ℕ → Type 0) (n : ℕ) (logs : List Told) (u i : ℕ) → TellsNumber T H n logs u i → u < length logs
has_log T H n logs u i x = slice_get_within logs u x.log x.stands

pub last_of : (logs : List Told) (u : ℕ) (log : Told) → slice_get logs u ≡ Some log → last_number logs u ≡ length log.versions - 1
last_of logs u log e = ap (λ o. option_map_or (λ (l : Told). length l.versions - 1) o 0) e

-- a number is at most the last one
up_to_last : (logs : List Told) (u a i : ℕ) → IsNumberAt logs u a i → i ≤ last_number logs u
up_to_last logs u a i x = omega (arith, last_of logs u x.log x.stands, slice_get_within x.log.versions i x.version x.latest.stands)

-- of two places the later one has the greater number
number_of_greater : (logs : List Told) (u a b i j : ℕ) → IsNumberAt logs u a i → IsNumberAt logs u b j → IsNumberAt logs u (max a b) (max i j)
number_of_greater logs u a b i j x y = ⊎_elim second first (either a b) where
  either : (m n : ℕ) → ((m ≤ n) × (max m n ≡ n)) ⊎ ((n ≤ m) × (max m n ≡ m))
  either m n = grind arith

  one : x.log ≡ y.log
  one = same_some (sym x.stands ∙ y.stands)

  -- both over the log of x
  other : IsLatest x.log.versions b j y.version
  other = let F : Told → Type 0 = λ l. IsLatest l.versions b j y.version in subst F (sym one) y.latest

  first : (b ≤ a) × (max a b ≡ a) → IsNumberAt logs u (max a b) (max i j)
  first e =
      let here : IsLatest x.log.versions (max a b) i x.version = let F : ℕ → Type 0 = λ k. IsLatest x.log.versions k i x.version in subst F (sym e.1) x.latest in
      let same : i ≡ max i j = latest_of_the_greater_place x.log.versions a b i j i x.version y.version x.version x.latest other here in
      record { log = x.log; stands = x.stands; version = x.version; latest = let F : ℕ → Type 0 = λ k. IsLatest x.log.versions (max a b) k x.version in subst F same here }

  second : (a ≤ b) × (max a b ≡ b) → IsNumberAt logs u (max a b) (max i j)
  second e =
      let here : IsLatest x.log.versions (max a b) j y.version = let F : ℕ → Type 0 = λ k. IsLatest x.log.versions k j y.version in subst F (sym e.1) other in
      let same : j ≡ max i j = latest_of_the_greater_place x.log.versions a b i j j x.version y.version y.version x.latest other here in
      record { log = x.log; stands = x.stands; version = y.version; latest = let F : ℕ → Type 0 = λ k. IsLatest x.log.versions (max a b) k y.version in subst F same here }

told_together : (T : Run) (H G : ℕ → Type 0) (n : ℕ) (logs : List Told) (u i j : ℕ) → TellsNumber T H n logs u i → TellsNumber T G n logs u j → TellsNumber T (Union H G) n logs u (max i j)
told_together T H G n logs u i j x y =
    number_told (max x.tells.place y.tells.place) (omega (arith, x.tells.within, y.tells.within)) (union_bound H G T u x.tells.place y.tells.place x.tells.bound y.tells.bound)
    (number_of_greater logs u x.tells.place y.tells.place i j (number_of x) (number_of y))

-- raised numbers tell what is known in both sets
pub bounds_of_union : (T : Run) (H G : ℕ → Type 0) (n : ℕ) (logs : List Told) (t who version : ℕ) (xs ys zs : List ℕ) → TellsBounds T H n logs t (last_number logs t) xs → TellsBounds T G n logs who version ys
    → AreRaised xs who version ys zs → TellsBounds T (Union H G) n logs t (last_number logs t) zs
bounds_of_union T H G n logs t who version xs ys zs x y z = record {
  own = same_number T (Union H G) n logs t (max (last_number logs t) theirs) (last_number logs t) (omega (arith, not_later_theirs)) (told_together T H G n logs t (last_number logs t) theirs x.own (of_theirs t has_own));
  others = λ u lt ne. same_number T (Union H G) n logs u (max (get_or xs u 0) (number u)) (get_or zs u 0) (sym (raised u)) (told_together T H G n logs u (get_or xs u 0) (number u) (x.others u lt ne) (of_theirs u lt));
  not_later = omega (arith, raised t, x.not_later, not_later_theirs);
  few = omega (arith, z.length_is, x.few, y.few, has_log T G n logs who version y.own);
} where
  has_own : t < length logs
  has_own = has_log T H n logs t (last_number logs t) x.own

  -- the number of u that the others have
  number : ℕ → ℕ
  number u = ⊎_elim (λ (e : u ≡ who). version) (λ ne. get_or ys u 0) (cases_eq u who)

  theirs : ℕ
  theirs = number t

  of_theirs : (u : ℕ) → u < length logs → TellsNumber T G n logs u (number u)
  of_theirs u lt = by (cases_eq u who) where
    by : (c : (u ≡ who) ⊎ (u ≢ who)) → TellsNumber T G n logs u (⊎_elim (λ (e : u ≡ who). version) (λ ne. get_or ys u 0) c)
    by (inl e) = let F : ℕ → Type 0 = λ w. TellsNumber T G n logs w version in subst F (sym e) y.own
    by (inr ne) = y.others u lt ne

  raised : (u : ℕ) → get_or zs u 0 ≡ max (get_or xs u 0) (number u)
  raised u = by (cases_eq u who) where
    by : (c : (u ≡ who) ⊎ (u ≢ who)) → get_or zs u 0 ≡ max (get_or xs u 0) (⊎_elim (λ (e : u ≡ who). version) (λ ne. get_or ys u 0) c)
    by (inl e) = let F : ℕ → Type 0 = λ w. get_or zs w 0 ≡ max (get_or xs w 0) version in subst F (sym e) (omega (arith, z.at_who, y.not_later))
    by (inr ne) = z.elsewhere u ne

  not_later_theirs : theirs ≤ last_number logs t
  not_later_theirs = let b = of_theirs t has_own in up_to_last logs t b.tells.place theirs (number_of b)

-- Logs that go on.

number_on : (n : ℕ) (old new : List Told) (u a i : ℕ) → LogsGoOn n old new → a ≤ n → IsNumberAt old u a i → IsNumberAt new u a i
number_on n old new u a i grows le x = let y = grows.each u x.log x.stands in record { log = y.0; stands = y.1; version = x.version; latest = y.2 a i x.version le x.latest }

element : {A : Type 0} (xs : List A) (i : ℕ) → i < length xs → (x : A) × (slice_get xs i ≡ Some x)
element [] i l = absurd (omega arith)
element (x ∷ xs) zero l = (x, refl)
element (x ∷ xs) (suc i) l = element xs i (omega arith)

-- where all versions have begun, the latest one is the last
latest_at_end : (n : ℕ) (vs : List Version) (i : ℕ) (v : Version) → ((j : ℕ) (w : Version) → slice_get vs j ≡ Some w → w.from ≤ n) → IsLatest vs n i v → length vs ≤ suc i
latest_at_end n vs i v begun latest = ⊎_elim (λ le. le) late (reaches (length vs) (suc i)) where
  reaches : (a b : ℕ) → (a ≤ b) ⊎ (b < a)
  reaches a b = grind arith

  late : suc i < length vs → length vs ≤ suc i
  late lt = let w = element vs (suc i) lt in absurd (omega (arith, latest.none_later (suc i) w.0 (omega arith) w.1, begun (suc i) w.0 w.1))

-- the last version is the latest at the end
last_is_number : (T : Run) (n : ℕ) (logs : List Told) (u : ℕ) → AreLogs T n logs → u < length logs → IsNumberAt logs u n (last_number logs u)
last_is_number T n logs u are lt = by (element logs u lt) where
  by : (l : Told) × (slice_get logs u ≡ Some l) → IsNumberAt logs u n (last_number logs u)
  by l =
      let h = (are.each u l.0 l.1).histories in
      let x = h.told n (omega arith) in
      let last : x.number ≡ last_number logs u = omega (arith, last_of logs u l.0 l.1, slice_get_within l.0.versions x.number x.version x.latest.stands, latest_at_end n l.0.versions x.number x.version h.begun x.latest) in
      record { log = l.0; stands = l.1; version = x.version; latest = let F : ℕ → Type 0 = λ k. IsLatest l.0.versions n k x.version in subst F last x.latest }

-- what the last version of a log tells
pub record LastTells (T : Run) (u n : ℕ) (log : Told) (v : Version) : Type 0 where
  pub latest : IsLatest log.versions n (length log.versions - 1) v
  pub tells : IsVersionOf v (history T u n)

pub last_tells : (T : Run) (u n : ℕ) (log : Told) (v : Version) → TellsHistories T u n log → slice_get log.versions (length log.versions - 1) ≡ Some v → LastTells T u n log v
last_tells T u n log v h e =
    let x = h.told n (omega arith) in
    let last : x.number ≡ length log.versions - 1 = omega (arith, slice_get_within log.versions x.number x.version x.latest.stands, latest_at_end n log.versions x.number x.version h.begun x.latest) in
    let F : ℕ → Type 0 = λ k. IsLatest log.versions n k x.version in
    let here = subst F last x.latest in
    let same : x.version ≡ v = same_some (sym here.stands ∙ e) in
    let G : Version → Type 0 = λ w. IsLatest log.versions n (length log.versions - 1) w in
    let H : Version → Type 0 = λ w. IsVersionOf w (history T u n) in
    record { latest = subst G same here; tells = subst H same x.tells }

-- a transactor that didn't exist at place n has no step in a set that stands up to there
newborn_told : (T : Run) (H : ℕ → Type 0) (n : ℕ) (logs : List Told) (u : ℕ) → WellFormed T → ((j : ℕ) → H j → j ≤ n) → born T n ≤ u → AreLogs T (suc n) logs → u < length logs → TellsNumber T H (suc n) logs u 0
newborn_told T H n logs u known within late are lt =
    number_told 0 (omega arith)
    (record { steps = λ j acts. (λ h. absurd (omega (arith, acts_known T u j known acts, born-grows T j n (within j h), late)), λ l. absurd (omega (arith, l))); last = inl refl })
    (let x = last_is_number T (suc n) logs u are lt in record { log = x.log; stands = x.stands; version = ((are.each u x.log x.stands).opens).0; latest = ((are.each u x.log x.stands).opens).1 })

module _ (T : Run) (n : ℕ) (old new : List Told) (known : WellFormed T) (follow : LogsFollow T n old new) where
  more : length old ≤ length new
  more = omega (arith, follow.before.count, follow.after.count, born-grows T n (suc n) (omega arith))

  told_on : (H : ℕ → Type 0) (u i : ℕ) → TellsNumber T H n old u i → TellsNumber T H (suc n) new u i
  told_on H u i x = number_told x.tells.place (omega (arith, x.tells.within)) x.tells.bound (number_on n old new u x.tells.place i follow.go_on x.tells.within (number_of x))

  old_or_new : (u : ℕ) → u < length new → (u < length old) ⊎ (born T n ≤ u)
  old_or_new u lt = grind (arith, follow.before.count)

  -- the numbers of others are told in the new logs
  others_on : (H : ℕ → Type 0) (t v : ℕ) (xs : List ℕ) → ((j : ℕ) → H j → j ≤ n) → TellsBounds T H n old t v xs → (u : ℕ) → u < length new → u ≢ t → TellsNumber T H (suc n) new u (get_or xs u 0)
  others_on H t v xs within x u lt ne = ⊎_elim
      (λ there. told_on H u (get_or xs u 0) (x.others u there ne))
      (λ late. same_number T H (suc n) new u 0 (get_or xs u 0) (sym (get_or_past xs u 0 (omega (arith, x.few, follow.before.count, late)))) (newborn_told T H n new u known within late follow.after lt))
      (old_or_new u lt)

  pub bounds_on : (H : ℕ → Type 0) (t v : ℕ) (xs : List ℕ) → ((j : ℕ) → H j → j ≤ n) → TellsBounds T H n old t v xs → TellsBounds T H (suc n) new t v xs
  bounds_on H t v xs within x = record { own = told_on H t v x.own; others = others_on H t v xs within x; not_later = x.not_later; few = omega (arith, x.few, more) }

  -- with t's step at place n, t's version is the last one
  pub bounds_with : (H : ℕ → Type 0) (t v : ℕ) (xs : List ℕ) → ((j : ℕ) → H j → j ≤ n) → ActsAt T t n → HoldsStepsBefore T H t n → TellsBounds T H n old t v xs → TellsBounds T (With H n) (suc n) new t (last_number new t) xs
  bounds_with H t v xs within acts before x =
      let with_step = bounds_with_step H T t n acts before in
      let has = has_log T H n old t v x.own in record {
        own = number_told (suc n) (omega arith) with_step.own (last_is_number T (suc n) new t follow.after (omega (arith, has, more)));
        others = λ u lt ne. let y = others_on H t v xs within x u lt ne in number_told y.tells.place y.tells.within (with_step.other u y.tells.place ne y.tells.bound) (number_of y);
        not_later = omega (arith, x.not_later, up_to_last new t x.own.tells.place v (number_on n old new t x.own.tells.place v follow.go_on x.own.tells.within (number_of x.own)));
        few = omega (arith, x.few, more);
      }

  early : (m : ℕ) → m < sent T n → (j : ℕ) → HeardBy T m j → j ≤ n
  early m exists j h = omega (arith, heard_by_before T m n j known exists h)

  pub letter_stays : (m : ℕ) (sender : Option Sender) → m < sent T n → TellsHeardBy T m n old sender → TellsHeardBy T m (suc n) new sender
  letter_stays m None exists x = λ u lt. ⊎_elim (λ there. told_on (HeardBy T m) u 0 (x u there)) (λ late. newborn_told T (HeardBy T m) n new u known (early m exists) late follow.after lt) (old_or_new u lt)
  letter_stays m (Some s) exists x = (x.0, bounds_on (HeardBy T m) s.who s.version s.numbers.value.items (early m exists) x.1)

  module _ (t : ℕ) (exists : t < born T n) (xs : List ℕ) (x : TellsBounds T (Heard T t n) n old t (last_number old t) xs) where
    before : (j : ℕ) → Heard T t n j → j ≤ n
    before j h = omega (arith, heard_before T t n j known exists h)

    own_steps : HoldsStepsBefore T (Heard T t n) t n
    own_steps = (has_bounds T n known).own t exists

    -- with t's own step
    stepped : ActsAt T t n → TellsBounds T (With (Heard T t n) n) (suc n) new t (last_number new t) xs
    stepped acts = bounds_with (Heard T t n) t (last_number old t) xs before acts own_steps x

    other : ¬ ActsAt T t n → last_number new t ≡ last_number old t → TellsNext T t n new xs
    other none same =
        let F : ℕ → Type 0 = λ v. TellsBounds T (Heard T t (suc n)) (suc n) new t v xs in
        subst F (sym same) (same_bounds T (Heard T t n) (Heard T t (suc n)) (suc n) new t (last_number old t) xs (back (Heard T t (suc n)) (Heard T t n) ((heard_after_step T t n known).other none)) (bounds_on (Heard T t n) t (last_number old t) xs before x))

    alone : ActsAt T t n → HearsOfNone T n → TellsNext T t n new xs
    alone acts none = same_bounds T (With (Heard T t n) n) (Heard T t (suc n)) (suc n) new t (last_number new t) xs (back (Heard T t (suc n)) (With (Heard T t n) n) ((heard_after_step T t n known).alone acts none)) (stepped acts)

    -- where the message has nothing that t hadn't heard
    nothing_new : (m : ℕ) → ActsAt T t n → HearsOf T n m → ((j : ℕ) → HeardBy T m j → Heard T t n j) → TellsNext T t n new xs
    nothing_new m acts hears inside = same_bounds T (With (Heard T t n) n) (Heard T t (suc n)) (suc n) new t (last_number new t) xs same (stepped acts) where
      same : IsSame (With (Heard T t n) n) (Heard T t (suc n))
      same j =
          let step = (heard_after_step T t n known).hearing m acts hears j in (
            λ w. step.1 (⊎_elim (λ h. inl (inl h)) (λ e. inr e) w),
            λ h. ⊎_elim (λ g. inl (⊎_elim (λ a. a) (inside j) g)) (λ e. inr e) (step.0 h),
          )

    own_message : (m : ℕ) → ActsAt T t n → HearsOf T n m → HasSender T m t → TellsNext T t n new xs
    own_message m acts hears sender = nothing_new m acts hears inside where
      inside : (j : ℕ) → HeardBy T m j → Heard T t n j
      inside j h =
          let own = origin_acts T sender.place t m sender.origin in
          let early_send = heard_by_before T m n sender.place known (hears_known T m n known hears) ((heard_with_sender T m sender.place t sender.origin sender.place).1 (inr refl)) in
          ⊎_elim (heard_grows T t sender.place n (omega (arith, early_send)) j) (λ e. let F : ℕ → Type 0 = Heard T t n in subst F (sym e) (start (own_step own early_send))) ((heard_with_sender T m sender.place t sender.origin j).0 h)

    together_before : (m : ℕ) → m < sent T n → (j : ℕ) → HeardTogether T t n m j → j ≤ n
    together_before m there j = ⊎_elim (before j) (early m there j)

    post : (m : ℕ) → ActsAt T t n → HearsOf T n m → TellsHeardBy T m n old None → TellsNext T t n new xs
    post m acts hears none = same_bounds T (With (HeardTogether T t n m) n) (Heard T t (suc n)) (suc n) new t (last_number new t) xs (back (Heard T t (suc n)) (With (HeardTogether T t n m) n) ((heard_after_step T t n known).hearing m acts hears))
        (bounds_with (HeardTogether T t n m) t (last_number old t) xs (together_before m (hears_known T m n known hears)) acts ((has_bounds T n known).together t m exists (hears_known T m n known hears)) both) where
          both : TellsBounds T (HeardTogether T t n m) n old t (last_number old t) xs
          both = record {
            own = same_number T (HeardTogether T t n m) n old t (max (last_number old t) 0) (last_number old t) (omega arith) (told_together T (Heard T t n) (HeardBy T m) n old t (last_number old t) 0 x.own (none t (has_log T (Heard T t n) n old t (last_number old t) x.own)));
            others = λ u lt ne. same_number T (HeardTogether T t n m) n old u (max (get_or xs u 0) 0) (get_or xs u 0) (omega arith) (told_together T (Heard T t n) (HeardBy T m) n old u (get_or xs u 0) 0 (x.others u lt ne) (none u lt));
            not_later = x.not_later;
            few = x.few;
          }

    hearing : (m who version : ℕ) (ys zs : List ℕ) → ActsAt T t n → HearsOf T n m → TellsBounds T (HeardBy T m) n old who version ys → AreRaised xs who version ys zs → TellsNext T t n new zs
    hearing m who version ys zs acts hears y z =
        let there = hears_known T m n known hears in
        let both = bounds_of_union T (Heard T t n) (HeardBy T m) n old t who version xs ys zs x y z in
        same_bounds T (With (HeardTogether T t n m) n) (Heard T t (suc n)) (suc n) new t (last_number new t) zs (back (Heard T t (suc n)) (With (HeardTogether T t n m) n) ((heard_after_step T t n known).hearing m acts hears))
        (bounds_with (HeardTogether T t n m) t (last_number old t) zs (together_before m there) acts ((has_bounds T n known).together t m exists there) both)

    message : (m : ℕ) → IsOrigin T n t m → TellsBounds T (HeardBy T m) (suc n) new t (last_number new t) xs
    message m s = same_bounds T (With (Heard T t n) n) (HeardBy T m) (suc n) new t (last_number new t) xs (back (HeardBy T m) (With (Heard T t n) n) (heard_with_sender T m n t s)) (stepped (origin_acts T n t m s))

    newborn : (u : ℕ) (zs : List ℕ) → IsNew T n t u → last_number new u ≡ 0 → AreRaised xs t (last_number new t) [] zs → TellsNext T u n new zs
    newborn u zs b first z = same_bounds T (With (Heard T t n) n) (Heard T u (suc n)) (suc n) new u (last_number new u) zs (back (Heard T u (suc n)) (With (Heard T t n) n) ((heard_after_step T u n known).created t b)) ours where
      theirs : TellsBounds T (With (Heard T t n) n) (suc n) new t (last_number new t) xs
      theirs = stepped (new_acts T n t u b)

      within : (j : ℕ) → With (Heard T t n) n j → j ≤ n
      within j = ⊎_elim (before j) (λ e. omega (arith, e))

      exists_now : u < length new
      exists_now = omega (arith, follow.after.count, new-rises T n t u b, b.made)

      at : (v : ℕ) → v < length new → (v ≡ t) ⊎ (v ≢ t) → TellsNumber T (With (Heard T t n) n) (suc n) new v (get_or zs v 0)
      at v lt (inl e) =
          let F : ℕ → Type 0 = λ w. TellsNumber T (With (Heard T t n) n) (suc n) new w (get_or zs w 0) in
          subst F (sym e) (same_number T (With (Heard T t n) n) (suc n) new t (last_number new t) (get_or zs t 0) (omega (arith, z.at_who, theirs.not_later, get_or_past {X = ℕ} [] t 0 (omega arith))) theirs.own)
      at v lt (inr ne) = same_number T (With (Heard T t n) n) (suc n) new v (get_or xs v 0) (get_or zs v 0) (omega (arith, z.elsewhere v ne, get_or_past {X = ℕ} [] v 0 (omega arith))) (theirs.others v lt ne)

      apart : u ≢ t
      apart e = omega (arith, e, b.made, exists)

      ours : TellsBounds T (With (Heard T t n) n) (suc n) new u (last_number new u) zs
      ours = record {
        own = same_number T (With (Heard T t n) n) (suc n) new u 0 (last_number new u) (sym first) (newborn_told T (With (Heard T t n) n) n new u known within (omega (arith, b.made)) follow.after exists_now);
        others = λ v lt ne. at v lt (cases_eq v t);
        not_later = omega (arith, z.elsewhere u apart, get_or_past {X = ℕ} [] u 0 (omega arith), get_or_past xs u 0 (omega (arith, x.few, follow.before.count, b.made)));
        few = omega (arith, z.length_is, x.few, more, exists, follow.before.count);
      }

    pub after_step : BoundsAfterStep T t n old new xs
    after_step = record { other = other; alone = alone; post = post; own_message = own_message; hearing = hearing; message = message; newborn = newborn }

pub bounds_together : BoundsTogether
bounds_together T t n m who version logs xs ys zs x y z = bounds_of_union T (Heard T t n) (HeardBy T m) n logs t who version xs ys zs x y z

pub bounds_step_by_step : BoundsStepByStep
bounds_step_by_step T t n old new xs known exists follow x = after_step T n old new known follow t exists xs x

pub letters_stay : LettersStay
letters_stay T m n old new sender known exists follow x = letter_stays T n old new known follow m sender exists x

-- a copy has heard what the message that it repeats has heard
pub copies_hear_alike : CopiesHearAlike
copies_hear_alike T k n m at logs None c x = λ u lt. same_told T (HeardBy T n) (HeardBy T m) at logs u 0 (back (HeardBy T m) (HeardBy T n) (copies_hear T k n m c)) (x u lt)
copies_hear_alike T k n m at logs (Some s) c x =
    (record { place = x.0.place; origin = copied {k = k} {n = n} c x.0.origin }, same_bounds T (HeardBy T n) (HeardBy T m) at logs s.who s.version s.numbers.value.items (back (HeardBy T m) (HeardBy T n) (copies_hear T k n m c)) x.1)
