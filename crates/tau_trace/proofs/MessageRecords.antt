-- What a trace keeps of its messages, and all that it keeps, at the opening and after a step.
use Rattle.std.proofs.Common.{◌≡◌, ◌⊎◌, inl, inr, ⊎_elim, ℕ, suc, ◌+◌, ◌<◌, ◌≤◌, Bool, true, false, cond, eqb, List, [], ◌∷◌, ◌++◌, length, map, set, Option, Some, None, refl, sym, ap, ◌∙◌, subst, arith, length-append, length-set, lt-ltb}
use Rattle.std.specs.Prelude.{slice_get, option_and_then}
use Rattle.std.specs.Option.{option_map_or, option_or, option_map}
use Rattle.std.proofs.lemmas.Option.{slice_get_within, slice_get-map}
use Rattle.std.proofs.lemmas.List.{length-map}
use Rattle.std.proofs.lemmas.Bool.{cases_eq}
use Rattle.tau_value.specs.declared.shared.Value.{Value}
use Rattle.tau_history.specs.Timeline.{interval, opening, newborn}
use Rattle.tau_trace.specs.declared.opening.Opening.{Opening}
use Rattle.tau_trace.specs.declared.step.Step.{Step}
use Rattle.tau_trace.specs.declared.step.Step.TheVariants.{Send, Echo, Repeat}
use Rattle.tau_trace.specs.declared.transactor.Transactor.{Transactor}
use Rattle.tau_trace.specs.declared.message.Message.{Message}
use Rattle.tau_trace.specs.Steps.{actor, removed_by, is_new, makes_message}
use Rattle.tau_trace.specs.Run.{Run, len, step_at, appended, ActsAt, Agree}
use Rattle.tau_trace.specs.Places.{IsFirst}
use Rattle.tau_trace.specs.Numbering.{born, sent, IsSent, IsEchoed, IsRepeated, IsOrigin, direct, echoed, copied, HasSender, Receives, post, message, notice, copy, start, IsPlaceOf, IsSender, IsReceiver, Removes, number_made}
use Rattle.tau_trace.specs.Histories.{history, EndsAt}
use Rattle.tau_trace.specs.Known.{IsSound, IsKnownAt, MayFollow, WellFormed}
use Rattle.tau_trace.specs.Tracking.{Tracks, TracksAll, opened_at}
use Rattle.tau_trace.specs.Living.{Tracked}
use Rattle.tau_trace.specs.Stored.{transactors_after, sent_to, removed_at, removed_by_record, removed_of, origin_in, target_in, sender_in, with_sent, messages_after, posted, TracksMessage, TracksMessages, IsIndexed}
use Rattle.tau_trace.proofs.Lists.{same_some, slice_get-set_same, slice_get-set_other, slice_get-push_cases}
use Rattle.tau_trace.proofs.Counts.{count-zero}
use Rattle.tau_trace.proofs.Counted.{history-zero}
use Rattle.tau_trace.proofs.Agreement.{agree_appended, agree_below, agree_sym, step_at-appended, sent-same, removes-same, receives-same, origin-same, origin_before}
use Rattle.tau_trace.proofs.TrackingLemmas.{first-not, first-here, first-later}
use Rattle.tau_trace.proofs.Quiet.{known_removed, unsent_kept}
use Rattle.tau_trace.proofs.Indexing.{len-appended, sent-next, well_formed_appended, made_same, numbers_appended, transactors_appended}
use Rattle.tau_trace.proofs.Once.{echoed_maker, repeated_maker, origin_made, received_made, origin_acts}
use Rattle.tau_trace.proofs.Reading.{element}
use Rattle.tau_trace.proofs.Sequences.{cases_last}

abbrev one_if : Bool → ℕ
one_if b = cond b 1 0

length-removed : (k : ℕ) (ms : List Message) (o : Option ℕ) → length (removed_of k ms o) ≡ length ms
length-removed k ms None = refl
length-removed k ms (Some m) = by (slice_get ms m) where
  by : (o : Option Message) → length (removed_by_record k ms m o) ≡ length ms
  by None = refl
  by (Some r) = length-set ms m (removed_at k r)

length-with_sent : (steps : List Step) (k : ℕ) (s : Step) (ms : List Message) → length (with_sent steps k s ms) ≡ length ms + one_if (makes_message s)
length-with_sent steps k (Send t u v) ms = length-append ms (sent_to (Some u) (Some k) ∷ [])
length-with_sent steps k (Echo t m) ms = length-append ms (sent_to (sender_in steps ms m) (Some k) ∷ [])
length-with_sent steps k (Repeat m) ms = length-append ms (sent_to (target_in ms m) (origin_in ms m) ∷ [])
length-with_sent steps k s ms = omega arith

-- the record of the message that a step makes
abbrev record_made : List Step → ℕ → Step → List Message → Message
record_made steps k (Send t u v) ms = sent_to (Some u) (Some k)
record_made steps k (Echo t m) ms = sent_to (sender_in steps ms m) (Some k)
record_made steps k (Repeat m) ms = sent_to (target_in ms m) (origin_in ms m)
record_made steps k s ms = sent_to None None

record IsMade (steps : List Step) (k : ℕ) (s : Step) (ms : List Message) (m : ℕ) (r : Message) : Type 0 where
  last : m ≡ length ms
  makes : makes_message s ≡ true
  record_is : record_made steps k s ms ≡ r

with_sent-cases : (steps : List Step) (k : ℕ) (s : Step) (ms : List Message) (m : ℕ) (r : Message) → slice_get (with_sent steps k s ms) m ≡ Some r → (slice_get ms m ≡ Some r) ⊎ IsMade steps k s ms m r
with_sent-cases steps k (Send t u v) ms m r e = ⊎_elim (λ x. inl x) (λ p. inr (record { last = p.0; makes = refl; record_is = p.1 })) (slice_get-push_cases ms (sent_to (Some u) (Some k)) r m e)
with_sent-cases steps k (Echo t n) ms m r e = ⊎_elim (λ x. inl x) (λ p. inr (record { last = p.0; makes = refl; record_is = p.1 })) (slice_get-push_cases ms (sent_to (sender_in steps ms n) (Some k)) r m e)
with_sent-cases steps k (Repeat n) ms m r e = ⊎_elim (λ x. inl x) (λ p. inr (record { last = p.0; makes = refl; record_is = p.1 })) (slice_get-push_cases ms (sent_to (target_in ms n) (origin_in ms n)) r m e)
with_sent-cases steps k s ms m r e = inl e

data RemovedCase (k : ℕ) (ms : List Message) (o : Option ℕ) (m : ℕ) (r : Message) : Type 0 where
  own_message : o ≡ Some m → (q : Message) → slice_get ms m ≡ Some q → removed_at k q ≡ r → RemovedCase k ms o m r
  other_message : ¬ (o ≡ Some m) → slice_get ms m ≡ Some r → RemovedCase k ms o m r

removed-cases : (k : ℕ) (ms : List Message) (o : Option ℕ) (m : ℕ) (r : Message) → slice_get (removed_of k ms o) m ≡ Some r → RemovedCase k ms o m r
removed-cases k ms None m r e = other_message (λ f. cc) e
removed-cases k ms (Some u) m r e = by (slice_get ms u) refl e where
  by : (o : Option Message) → slice_get ms u ≡ o → slice_get (removed_by_record k ms u o) m ≡ Some r → RemovedCase k ms (Some u) m r
  by None f g = other_message (λ x. let both = sym g ∙ ap (slice_get ms) (sym (same_some x)) ∙ f in cc) g
  by (Some q) f g = ⊎_elim
      (λ (x : m ≡ u). own_message (ap Some (sym x)) q (ap (slice_get ms) x ∙ f) (same_some (sym (slice_get-set_same ms u (removed_at k q) (slice_get_within ms u q f)) ∙ ap (slice_get (set ms u (removed_at k q))) (sym x) ∙ g)))
      (λ ne. other_message (λ x. ne (sym (same_some x))) (sym (slice_get-set_other ms u m (removed_at k q) ne) ∙ g))
      (cases_eq m u)

-- the record of a message after a step that takes it out of flight
removed_own : (T : Run) (k m : ℕ) (q : Message) → Removes T m k → TracksMessage T k m q → TracksMessage T (suc k) m (removed_at k q)
removed_own T k m q r h = record { receiver = h.receiver; origin = h.origin; ended_by = by q.ended_by h.ended_by } where
  by : (o : Option ℕ) → IsFirst (Removes T m) k o → IsFirst (Removes T m) (suc k) (option_or o (Some k))
  by None f = first-here (Removes T m) k r f
  by (Some j) f = first-later (Removes T m) k j f

removed_other : (T : Run) (k m : ℕ) (r : Message) → ¬ Removes T m k → TracksMessage T k m r → TracksMessage T (suc k) m r
removed_other T k m r n h = record { receiver = h.receiver; origin = h.origin; ended_by = first-not (Removes T m) k r.ended_by n h.ended_by }

receiver_same : (T U : Run) (k m : ℕ) (o : Option ℕ) → Agree T U k → m < sent T k → IsReceiver T m o → IsReceiver U m o
receiver_same T U k m None a b h = λ u r. h u (receives-same k m u (agree_sym a) (omega (arith, b, sent-same k a)) r)
receiver_same T U k m (Some u) a b h = receives-same k m u a b h

place_same : (T U : Run) (k m : ℕ) (o : Option ℕ) → Agree T U k → m < sent T k → IsPlaceOf T m o → IsPlaceOf U m o
place_same T U k m None a b h = λ j by r. h j by (origin-same k j by m (agree_sym a) (omega (arith, b, sent-same k a)) r)
place_same T U k m (Some j) a b h = (h.0, origin-same k j h.0 m a b h.1)

message_same : (T U : Run) (k m : ℕ) (r : Message) → Agree T U k → m < sent T k → TracksMessage T k m r → TracksMessage U k m r
message_same T U k m r a b h = record { receiver = receiver_same T U k m r.target a b h.receiver; origin = place_same T U k m r.origin a b h.origin; ended_by = by r.ended_by h.ended_by } where
  by : (o : Option ℕ) → IsFirst (Removes T m) k o → IsFirst (Removes U m) k o
  by None n = λ j l e. n j l (removes-same m j (agree_below (suc j) l (agree_sym a)) e)
  by (Some i) n = (n.0, removes-same m i (agree_below (suc i) n.0 a) n.1, λ j l e. n.2 j l (removes-same m j (agree_below (suc j) (omega (arith, l, n.0)) (agree_sym a)) e))

-- the record of a message right after the step at place k that makes it, where `ms` are the records of the others, and
-- `steps` the steps before it
module _ (T : Run) (k : ℕ) (steps : List Step) (ms : List Message) (count : length ms ≡ sent T k) (agree : (j : ℕ) → j < k → slice_get steps j ≡ step_at T j) (tracked : (n : ℕ) (r : Message) → slice_get ms n ≡ Some r → TracksMessage T (suc k) n r) where
  target_found : (n : ℕ) → n < sent T k → IsReceiver T n (target_in ms n)
  target_found n l =
      let r = element ms n (omega (arith, l, count)) in
      let P : Option ℕ → Type 0 = IsReceiver T n in
      subst P (sym (ap (option_and_then (λ (x : Message). x.target)) r.1)) (tracked n r.0 r.1).receiver

  origin_found : (n : ℕ) → n < sent T k → IsPlaceOf T n (origin_in ms n)
  origin_found n l =
      let r = element ms n (omega (arith, l, count)) in
      let P : Option ℕ → Type 0 = IsPlaceOf T n in
      subst P (sym (ap (option_and_then (λ (x : Message). x.origin)) r.1)) (tracked n r.0 r.1).origin

  sender_found : (n : ℕ) → n < sent T k → IsSender T n (sender_in steps ms n)
  sender_found n l = by (origin_in ms n) (origin_found n l) where
    by : (o : Option ℕ) → IsPlaceOf T n o → IsSender T n (option_and_then (λ j. option_and_then actor (slice_get steps j)) o)
    by None h = λ u s. h s.place u s.origin
    by (Some j) h =
        let acts : option_and_then actor (slice_get steps j) ≡ Some h.0 = ap (option_and_then actor) (agree j (origin_before T j h.0 n k h.1 l)) ∙ origin_acts T j h.0 n h.1 in
        let P : Option ℕ → Type 0 = IsSender T n in
        subst P (sym acts) (record { place = j; origin = h.1 })

  echo_received : (t n m : ℕ) → IsEchoed T k t n m → (o : Option ℕ) → IsSender T n o → IsReceiver T m o
  echo_received t n m e None h = λ u r. h u (received_made T k m u (echoed_maker T k t n m e) r)
  echo_received t n m e (Some u) h = notice {j = k} {by = t} {n = n} e h

  copy_received : (n m : ℕ) → IsRepeated T k n m → (o : Option ℕ) → IsReceiver T n o → IsReceiver T m o
  copy_received n m c None h = λ u r. h u (received_made T k m u (repeated_maker T k n m c) r)
  copy_received n m c (Some u) h = copy {k = k} {n = n} c h

  copy_origin : (n m : ℕ) → IsRepeated T k n m → (o : Option ℕ) → IsPlaceOf T n o → IsPlaceOf T m o
  copy_origin n m c None h = λ j by r. h j by (origin_made T k j by m (repeated_maker T k n m c) r)
  copy_origin n m c (Some j) h = (h.0, copied {k = k} {n = n} c h.1)

  message_new : (m : ℕ) (s : Step) → step_at T k ≡ Some s → IsKnownAt T k s → makes_message s ≡ true → m ≡ sent T k → IsFirst (Removes T m) (suc k) None → TracksMessage T (suc k) m (record_made steps k s ms)
  message_new m (Send t u v) e known makes is f =
      let o : IsSent T k t m = record { to = u; value = v; stands = e; made = is } in
      record { receiver = message {j = k} {by = t} o refl; origin = (t, direct o); ended_by = f }
  message_new m (Echo t n) e known makes is f =
      let o : IsEchoed T k t n m = record { stands = e; made = is; earlier = omega (arith, known.1, is) } in
      record { receiver = echo_received t n m o (sender_in steps ms n) (sender_found n known.1); origin = (t, echoed {n = n} o); ended_by = f }
  message_new m (Repeat n) e known makes is f =
      let o : IsRepeated T k n m = record { stands = e; made = is; earlier = omega (arith, known, is) } in
      record {
        receiver = copy_received n m o (target_in ms n) (target_found n known);
        origin = copy_origin n m o (origin_in ms n) (origin_found n known);
        ended_by = f;
      }
  message_new m s e known makes is f = absurd (cc)

pub messages_appended : (T : Run) (s : Step) (ms : List Message) → WellFormed T → MayFollow T s → TracksMessages T ms → TracksMessages (appended T s) (messages_after T.steps s (len T) ms)
messages_appended T s ms w may h = record {
  count = omega (arith, length-with_sent T.steps (len T) s (removed_of (len T) ms (removed_by s)), length-removed (len T) ms (removed_by s), h.count, sent-same (len T) (agree_appended T s), sent-next (appended T s) (len T) s (step_at-appended T s), ap (sent (appended T s)) (len-appended T s));
  each = λ m r e. let P : ℕ → Type 0 = λ k. TracksMessage (appended T s) k m r in subst P (sym (len-appended T s)) (⊎_elim (old m r) (new m r) (with_sent-cases T.steps (len T) s (removed_of (len T) ms (removed_by s)) m r e));
} where
  removes : (m : ℕ) → removed_by s ≡ Some m → Removes (appended T s) m (len T)
  removes m e = ap (option_and_then removed_by) (step_at-appended T s) ∙ e

  removed : (m : ℕ) → Removes (appended T s) m (len T) → removed_by s ≡ Some m
  removed m e = sym (ap (option_and_then removed_by) (step_at-appended T s)) ∙ e

  before : (m : ℕ) (r : Message) → slice_get ms m ≡ Some r → TracksMessage (appended T s) (len T) m r
  before m r e = message_same T (appended T s) (len T) m r (agree_appended T s) (omega (arith, slice_get_within ms m r e, h.count)) (h.each m r e)

  old : (m : ℕ) (r : Message) → slice_get (removed_of (len T) ms (removed_by s)) m ≡ Some r → TracksMessage (appended T s) (suc (len T)) m r
  old m r e = by (removed-cases (len T) ms (removed_by s) m r e) where
    by : RemovedCase (len T) ms (removed_by s) m r → TracksMessage (appended T s) (suc (len T)) m r
    by (own_message a q f g) = let P : Message → Type 0 = λ x. TracksMessage (appended T s) (suc (len T)) m x in subst P g (removed_own (appended T s) (len T) m q (removes m a) (before m q f))
    by (other_message n f) = removed_other (appended T s) (len T) m r (λ x. n (removed m x)) (before m r f)

  count : length (removed_of (len T) ms (removed_by s)) ≡ sent (appended T s) (len T)
  count = omega (arith, length-removed (len T) ms (removed_by s), h.count, sent-same (len T) (agree_appended T s))

  known : IsKnownAt (appended T s) (len T) s
  known = (well_formed_appended T s w may).known (len T) s (step_at-appended T s)

  new : (m : ℕ) (r : Message) → IsMade T.steps (len T) s (removed_of (len T) ms (removed_by s)) m r → TracksMessage (appended T s) (suc (len T)) m r
  new m r p =
      let is : m ≡ sent T (len T) = omega (arith, p.last, length-removed (len T) ms (removed_by s), h.count) in
      let kept : IsFirst (Removes (appended T s) m) (suc (len T)) None = λ j l a. ⊎_elim
      (λ (x : j ≡ len T). omega (arith, is, known_removed T.opening (born T (len T)) (sent T (len T)) m s may.known (removed m (ap (λ i. option_and_then removed_by (step_at (appended T s) i)) (sym x) ∙ a))))
      (λ b. unsent_kept T m (len T) w.known (omega (arith, is)) j b (ap (option_and_then removed_by) ((agree_appended T s).steps j b) ∙ a))
      (cases_last j (len T) l) in
      let P : Message → Type 0 = λ x. TracksMessage (appended T s) (suc (len T)) m x in
      subst P p.record_is (message_new (appended T s) (len T) T.steps (removed_of (len T) ms (removed_by s)) count (λ j l. (agree_appended T s).steps j l) old m s (step_at-appended T s) known p.makes (is ∙ sent-same (len T) (agree_appended T s)) kept)

-- all of it after a step
pub index_appended : (T : Run) (s : Step) (made : List ℕ) (old new : Tracked) (records : List Message) (number : ℕ) → MayFollow T s → number ≡ number_made s (length old.transactors) (length records) → new.transactors ≡ transactors_after s (len T) old.transactors → new.nodes ≡ old.nodes → IsIndexed T made old records → IsIndexed (appended T s) (made ++ number ∷ []) new (messages_after T.steps s (len T) records)
index_appended T s made old new records number may is after nodes x = record {
  well_formed = well_formed_appended T s x.well_formed may;
  numbers = numbers_appended T s made number (is ∙ made_same s _ _ _ _ x.transactors.count x.messages.count) x.numbers;
  transactors = subst (TracksAll (appended T s)) (sym after) (transactors_appended T s old.transactors x.well_formed may x.transactors);
  nodes = nodes ∙ x.nodes;
  messages = messages_appended T s records x.well_formed may x.messages;
}

-- and at the opening
pub index_opened : (o : Opening) (tracked : Tracked) (records : List Message) → IsSound o → tracked.transactors ≡ map opened_at o.homes → tracked.nodes ≡ o.nodes → records ≡ map posted o.targets → IsIndexed (record { opening = o; steps = [] }) [] tracked records
index_opened o tracked records sound ts nodes ms = record {
  well_formed = record { opening = sound; known = λ k s e. absurd (cc); versions = λ k s e. absurd (cc); few_steps = omega arith };
  numbers = record { count = refl; each = λ k s e. absurd (cc) };
  transactors = subst (TracksAll T) (sym ts) (record { count = omega (arith, length-map o.homes opened_at, sound.a_home_each, count-zero (λ j. option_map_or is_new (step_at T j) false)); each = starts_at });
  nodes = nodes;
  messages = subst (TracksMessages T) (sym ms) (record { count = omega (arith, length-map o.targets posted, count-zero (λ j. option_map_or makes_message (step_at T j) false)); each = posts_at });
} where
  T : Run
  T = record { opening = o; steps = [] }

  starts_at : (t : ℕ) (r : Transactor) → slice_get (map opened_at o.homes) t ≡ Some r → Tracks (record { opening = o; steps = [] }) 0 t r
  starts_at t r e = by (slice_get o.homes t) refl (sym (slice_get-map opened_at o.homes t) ∙ e) where
    first : t < length o.homes → history (record { opening = o; steps = [] }) t 0 ≡ opening
    first l = history-zero (record { opening = o; steps = [] }) t ∙ ap (λ b. cond b opening newborn) (lt-ltb t (length o.names) (omega (arith, l, sound.a_home_each)))

    by : (h : Option ℕ) → slice_get o.homes t ≡ h → option_map opened_at h ≡ Some r → Tracks (record { opening = o; steps = [] }) 0 t r
    by None f g = absurd (cc)
    by (Some n) f g =
        let P : Transactor → Type 0 = λ x. Tracks (record { opening = o; steps = [] }) 0 t x in
        let here = first (slice_get_within o.homes t n f) in
        subst P (same_some g) (record {
          home = start f;
          turn = λ place m u. omega (arith, u.before);
          end = λ j l. absurd (omega (arith, l));
          stable = ap (λ x. x.stable) (sym here);
          at_opening = ap (λ x. eqb (interval x) 0) (sym here);
        })

  no_origin : (m j by : ℕ) → ¬ IsOrigin (record { opening = o; steps = [] }) j by m
  no_origin m j by (direct x) = let none = x.stands in cc
  no_origin m j by (echoed x) = let none = x.stands in cc
  no_origin m j by (copied x r) = let none = x.stands in cc

  posts_at : (m : ℕ) (r : Message) → slice_get (map posted o.targets) m ≡ Some r → TracksMessage (record { opening = o; steps = [] }) 0 m r
  posts_at m r e = by (slice_get o.targets m) refl (sym (slice_get-map posted o.targets m) ∙ e) where
    by : (h : Option ℕ) → slice_get o.targets m ≡ h → option_map posted h ≡ Some r → TracksMessage (record { opening = o; steps = [] }) 0 m r
    by None f g = absurd (cc)
    by (Some n) f g =
        let P : Message → Type 0 = λ x. TracksMessage (record { opening = o; steps = [] }) 0 m x in
        subst P (same_some g) (record { receiver = post f; origin = no_origin m; ended_by = λ j l. absurd (omega (arith, l)) })
