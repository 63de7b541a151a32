-- What is heard, carried and decided at a place reads the opening and the steps before it alone.
use Rattle.std.proofs.Common.{◌≡◌, ◌⊎◌, inl, inr, ⊎_elim, ℕ, suc, ◌<◌, ◌≤◌, List, length, sym, ap, ◌∙◌, subst, arith}
use Rattle.std.specs.Prelude.{option_and_then, false}
use Rattle.std.specs.Option.{option_map_or}
use Rattle.std.proofs.lemmas.Bool.{cases_lt}
use Rattle.tau_value.specs.declared.shared.Value.{Value}
use Rattle.tau_history.specs.Timeline.{interval}
use Rattle.tau_points.specs.declared.point.Point.{Point}
use Rattle.tau_points.specs.Reach.{Reach, start, next}
use Rattle.tau_points.proofs.Reach.{least, monotone}
use Rattle.tau_trace.specs.declared.step.Step.TheVariants.{Take}
use Rattle.tau_trace.specs.Steps.{actor, is_send}
use Rattle.tau_trace.specs.Run.{Run, Agree, step_at, starts, ActsAt}
use Rattle.tau_trace.specs.Numbering.{born, sent, IsSendAt}
use Rattle.tau_trace.specs.Histories.{history, Closes}
use Rattle.tau_trace.specs.Points.{point_at, IsOpeningPoint}
use Rattle.tau_trace.specs.Turns.{Turn}
use Rattle.tau_trace.specs.Known.{WellFormed}
use Rattle.tau_trace.proofs.Agreement.{agree_sym, agree_below, born-same, sent-same, history-same, move_at-same, is_new-same, origin-same, does-same, origin_before, new_before, same_at}
use Rattle.tau_trace.proofs.PointLemmas.{points_grow}
use Rattle.tau_past.specs.Carried.{Pending, touched, came, Carried, SentWith, TakesBy, by_set, by_new, is_set, touches}
use Rattle.tau_past.specs.Heard.{heard_by, Needs, earlier, message, birth, Own, own_step, own_birth, OriginOf, Heard, HeardBy, HeardTogether}
use Rattle.tau_past.specs.Pasts.{ClosesAt, checkpoint, opening as at_opening, Link, takes as by_takes, closing, PastIn, Is, FellIn, StabilizedIn, FirmIn}
use Rattle.tau_past.specs.Decisions.{HasFallen, FallsBy, DropsBy, Judgement, takes, falls, Verdict, fall, drop, take, Free}
use Rattle.tau_past.specs.States as states
use Rattle.tau_past.specs.States.{NoSet, StateAt, SavedWith}
use Rattle.tau_past.specs.LocalLaws.{DecisionsAreLocal}
use Rattle.tau_past.proofs.Known.{acts_known, hears_known, needs_before}

-- both sets of places stand below k and have the same members
record AlikeBelow (H G : ℕ → Type 0) (k : ℕ) : Type 0 where
  there : (j : ℕ) → H j → G j
  back : (j : ℕ) → G j → H j
  below : (j : ℕ) → H j → j < k

alike_sym : {H G : ℕ → Type 0} {k : ℕ} → AlikeBelow H G k → AlikeBelow G H k
alike_sym s = record { there = s.back; back = s.there; below = λ j g. s.below j (s.back j g) }

acts-same : (T U : Run) (t j : ℕ) → step_at T j ≡ step_at U j → ActsAt T t j → ActsAt U t j
acts-same T U t j e a = ap (option_and_then actor) (sym e) ∙ a

send-same : (T U : Run) (j : ℕ) → step_at T j ≡ step_at U j → IsSendAt T j → IsSendAt U j
send-same T U j e x = ap (λ o. option_map_or is_send o false) (sym e) ∙ x

-- the message of a Take exists at its place
taken : (T : Run) (t k place m : ℕ) → WellFormed T → Turn T t k place m → m < sent T place
taken T t k place m w u = (w.known place (Take t m) u.takes).1

-- an interval that is closed by place k was closed before it
closed_before : (T : Run) (t i j k : ℕ) → Closes T t j → (point_at T t j).interval ≡ i → suc i ≤ interval (history T t k) → j < k
closed_before T t i j k c e le = ⊎_elim (λ lt. lt) (λ ge. absurd (late ge)) (cases_lt j k) where
  late : k ≤ j → ⊥
  late ge = ⊎_elim (λ x. omega (arith, x, e, le)) (λ x. omega (arith, x.0, e, le)) ((points_grow T t j).grows k ge)

module _ {T U : Run} where
  pub point-same : (t k : ℕ) → Agree T U k → point_at T t k ≡ point_at U t k
  point-same t k a = ap (λ h. record { who = t; interval = interval h; incarnation = h.last }) (history-same t k a)

  needs-same : (k x y : ℕ) → WellFormed T → Agree T U k → x < k → Needs T x y → Needs U x y
  needs-same k x y w a lt (earlier {t = t} e f before) =
      earlier (acts-same T U t x (a.steps x lt) e) (acts-same T U t y (a.steps y (omega arith)) f) before
  needs-same k x y w a lt (message {m = m} {by = by} e o) =
      message (ap (option_and_then heard_by) (sym (a.steps x lt)) ∙ e) (origin-same x y by m (agree_below x (omega arith) a) (hears_known T m x w e) o)
  needs-same k x y w a lt (birth {u = u} {by = by} e n) =
      let before = new_before T y by u x n (acts_known T u x w e) in
      birth (acts-same T U u x (a.steps x lt) e) (is_new-same y by u (agree_below (suc y) (omega arith) a) n)

  -- what is reached from below a place
  reach-same : (k : ℕ) (P Q : ℕ → Type 0) → WellFormed T → Agree T U k → ((j : ℕ) → P j → Q j × (j < k)) → (j : ℕ) → Reach (Needs T) P j → Reach (Needs U) Q j × (j < k)
  reach-same k P Q w a first = least (Needs T) P (λ j. Reach (Needs U) Q j × (j < k)) (record {
    starts = λ j p. (start (first j p).0, (first j p).1);
    follows = λ x y h n. (next h.0 (needs-same k x y w a h.1 n), omega (arith, h.1, needs_before T x y w n));
  })

  own-same : (t k j : ℕ) → Agree T U k → t < born T k → Own T t k j → Own U t k j × (j < k)
  own-same t k j a lt (own_step e before) = (own_step (acts-same T U t j (a.steps j before) e) before, before)
  own-same t k j a lt (own_birth {by = by} n) =
      let before = new_before T j by t k n lt in
      (own_birth (is_new-same j by t (agree_below (suc j) (omega arith) a) n), before)

  heard-same : (t k : ℕ) → WellFormed T → Agree T U k → t < born T k → (j : ℕ) → Heard T t k j → Heard U t k j × (j < k)
  heard-same t k w a lt = reach-same k (Own T t k) (Own U t k) w a (λ j. own-same t k j a lt)

  origin_of-same : (m k j : ℕ) → Agree T U k → m < sent T k → OriginOf T m j → OriginOf U m j × (j < k)
  origin_of-same m k j a lt o =
      (record { by = o.by; origin = origin-same k j o.by m a lt o.origin }, origin_before T j o.by m k o.origin lt)

  heard_by-same : (m k : ℕ) → WellFormed T → Agree T U k → m < sent T k → (j : ℕ) → HeardBy T m j → HeardBy U m j × (j < k)
  heard_by-same m k w a lt = reach-same k (OriginOf T m) (OriginOf U m) w a (λ j. origin_of-same m k j a lt)

  turn-same : (t k place m : ℕ) → Agree T U k → Turn T t k place m → Turn U t k place m
  turn-same t k place m a = ((same_at T U k a).turn t place m).0

  pending-same : (t k : ℕ) (q : Point) → WellFormed T → Agree T U k → Pending T t k q → Pending U t k q
  unfolding point-same
  pending-same t k q w a (touched {take = place} {m = m} {j = j} u after before d e) =
      touched (turn-same t k place m a u) after before (does-same touches t j (a.steps j before) d) (e ∙ point-same t j (agree_below j (omega arith) a))
  pending-same t k q w a (came {take = place} {m = m} {j = j} {by = by} u o x p) =
      let before = origin_before T j by m place o (taken T t k place m w u) in
      let within = u.before in
      came (turn-same t k place m a u) (origin-same place j by m (agree_below place (omega (arith, within)) a) (taken T t k place m w u) o) (send-same T U j (a.steps j (omega arith)) x) (pending-same by j q w (agree_below j (omega arith) a) p)

  carried-same : (j k : ℕ) (q : Point) → WellFormed T → Agree T U k → j < k → Carried T j q → Carried U j q
  carried-same j k q w a lt c = record { by = c.by; acts = acts-same T U c.by j (a.steps j lt) c.acts; pending = pending-same c.by j q w (agree_below j (omega arith) a) c.pending }

  sent_with-same : (m k : ℕ) (q : Point) → WellFormed T → Agree T U k → m < sent T k → SentWith T m q → SentWith U m q
  sent_with-same m k q w a lt s =
      let before = origin_before T s.place s.by m k s.origin lt in
      record { place = s.place; by = s.by; origin = origin-same k s.place s.by m a lt s.origin; send = send-same T U s.place (a.steps s.place before) s.send; carried = carried-same s.place k q w a before s.carried }

  takes-same : (j k : ℕ) (p q : Point) → WellFormed T → Agree T U k → j < k → TakesBy T j p q → TakesBy U j p q
  takes-same j k p q w a lt (by_set {t = t} d e c ne) =
      by_set (does-same is_set t j (a.steps j lt) d) (e ∙ point-same t j (agree_below j (omega arith) a)) (carried-same j k q w a lt c) ne
  takes-same j k p q w a lt (by_new {by = by} {u = u} n e c ne) =
      by_new (is_new-same j by u (agree_below (suc j) (omega arith) a) n) e (carried-same j k q w a lt c) ne

  opening_point-same : (k : ℕ) (q : Point) → Agree T U k → IsOpeningPoint T q → IsOpeningPoint U q
  opening_point-same k q a o = record { is_start = subst (λ n. q.who < n) (ap (λ o. length o.names) a.opening) o.is_start; interval_is = o.interval_is; incarnation_is = o.incarnation_is }

  closes_at-same : {H G : ℕ → Type 0} (k t i : ℕ) (q : Point) → Agree T U k → AlikeBelow H G k → ClosesAt T H t i q → ClosesAt U G t i q
  closes_at-same k t i q a s (checkpoint {j = j} h c e is) =
      let lt = s.below j h in
      checkpoint (s.there j h) (sym (a.steps j lt) ∙ c) (e ∙ point-same t j (agree_below j (omega arith) a)) is
  closes_at-same k t i q a s (at_opening e f o) = at_opening e f (opening_point-same k q a o)

  link-same : {H G : ℕ → Type 0} (k : ℕ) (p q : Point) → WellFormed T → Agree T U k → AlikeBelow H G k → Link T H p q → Link U G p q
  link-same k p q w a s (by_takes {j = j} h t) = by_takes (s.there j h) (takes-same j k p q w a (s.below j h) t)
  link-same k p q w a s (closing {i = i} e c) = closing e (closes_at-same k p.who i q a s c)

  past-same : {H G : ℕ → Type 0} (k : ℕ) (P Q : Point → Type 0) → WellFormed T → Agree T U k → AlikeBelow H G k → ((q : Point) → P q → Q q) → (q : Point) → PastIn T H P q → PastIn U G Q q
  past-same {H} {G} k P Q w a s f = monotone (Link T H) (Link U G) P Q (λ x y. link-same k x y w a s) f

  fallen-same : {H G : ℕ → Type 0} (k : ℕ) (q : Point) → Agree T U k → AlikeBelow H G k → FellIn T H q → FellIn U G q
  fallen-same k q a s f =
      let lt = s.below f.place f.held in
      record { place = f.place; held = s.there f.place f.held; falls = sym (move_at-same q.who f.place (agree_below (suc f.place) (omega arith) a)) ∙ f.falls; at_point = f.at_point ∙ point-same q.who f.place (agree_below f.place (omega arith) a) }

  stabilized-same : {H G : ℕ → Type 0} (k : ℕ) (q : Point) → Agree T U k → AlikeBelow H G k → StabilizedIn T H q → StabilizedIn U G q
  stabilized-same k q a s z =
      let lt = s.below z.place z.held in
      record { place = z.place; held = s.there z.place z.held; stabilizes = sym (a.steps z.place lt) ∙ z.stabilizes; at_point = z.at_point ∙ point-same q.who z.place (agree_below z.place (omega arith) a) }

  is-same : (t k : ℕ) → Agree T U k → (q : Point) → Is (point_at T t k) q → Is (point_at U t k) q
  is-same t k a q e = e ∙ point-same t k a

  has_fallen-same : {H G : ℕ → Type 0} (k : ℕ) (P Q : Point → Type 0) → WellFormed T → Agree T U k → AlikeBelow H G k → ((q : Point) → P q → Q q) → HasFallen T H P → HasFallen U G Q
  has_fallen-same k P Q w a s f h = record { cause = h.cause; in_past = past-same k P Q w a s f h.cause h.in_past; fallen = fallen-same k h.cause a s h.fallen }

  no_set-same : (q : Point) (a k : ℕ) → Agree T U k → NoSet T q a k → NoSet U q a k
  no_set-same q a k s n j le lt d e =
      n j le lt (does-same is_set q.who j (sym (s.steps j lt)) d) (e ∙ sym (point-same q.who j (agree_below j (omega arith) s)))

module _ {T U : Run} where
  mutual
    state-same : (opening : List Value) (q : Point) (k : ℕ) (v : Value) → WellFormed T → Agree T U k → q.who < born T k → q.interval ≤ interval (history T q.who k) → StateAt T opening q k v → StateAt U opening q k v
    state-same opening q k v w a lt le (states.by_set {j = j} s e before n) =
        states.by_set (sym (a.steps j before) ∙ s) (e ∙ point-same q.who j (agree_below j (omega arith) a)) before (no_set-same q (suc j) k a n)
    state-same opening q k v w a lt le (states.by_new {j = j} {by = by} b e z n) =
        let before = new_before T j by q.who k b lt in
        states.by_new (record { behaviour = b.behaviour; node = b.node; state = b.state; stands = sym (a.steps j before) ∙ b.stands; made = b.made ∙ born-same j (agree_below j (omega arith) a) }) e z (no_set-same q 0 k a n)
    state-same opening q k v w a lt le (states.by_save {i = i} e s n) =
        states.by_save e (saved-same opening q.who i k v w a (omega arith) s) (no_set-same q 0 k a n)

    pub saved-same : (opening : List Value) (t i k : ℕ) (v : Value) → WellFormed T → Agree T U k → suc i ≤ interval (history T t k) → SavedWith T opening t i v → SavedWith U opening t i v
    saved-same opening t i k v w a le (states.at_opening s z e) = states.at_opening (subst (λ n. t < n) (ap (λ o. length o.names) a.opening) s) z e
    saved-same opening t i k v w a le (states.at_checkpoint {j = j} c e s) =
        let before = closed_before T t i j k c e le in
        let below = agree_below j (omega arith) a in
        let acts = ap (option_and_then actor) c in
        states.at_checkpoint (sym (a.steps j before) ∙ c) (ap (λ p. p.interval) (sym (point-same t j below)) ∙ e) (subst (λ p. StateAt U opening p j v) (point-same t j below) (state-same opening (point_at T t j) j v w below (acts_known T t j w acts) (omega arith) s))

together : (T U : Run) (t k m : ℕ) → WellFormed T → WellFormed U → Agree T U k → t < born T k → m < sent T k → AlikeBelow (HeardTogether T t k m) (HeardTogether U t k m) k
together T U t k m v w a lt below =
    let b = agree_sym a in
    let lu : t < born U k = omega (arith, lt, born-same k a) in
    let mu : m < sent U k = omega (arith, below, sent-same k a) in
    record {
      there = λ j. ⊎_elim (λ h. inl (heard-same t k v a lt j h).0) (λ h. inr (heard_by-same m k v a below j h).0);
      back = λ j. ⊎_elim (λ h. inl (heard-same t k w b lu j h).0) (λ h. inr (heard_by-same m k w b mu j h).0);
      below = λ j. ⊎_elim (λ h. (heard-same t k v a lt j h).1) (λ h. (heard_by-same m k v a below j h).1);
    }

alone : (T U : Run) (t k : ℕ) → WellFormed T → WellFormed U → Agree T U k → t < born T k → AlikeBelow (Heard T t k) (Heard U t k) k
alone T U t k v w a lt =
    let lu : t < born U k = omega (arith, lt, born-same k a) in
    record {
      there = λ j h. (heard-same t k v a lt j h).0;
      back = λ j h. (heard-same t k w (agree_sym a) lu j h).0;
      below = λ j h. (heard-same t k v a lt j h).1;
    }

falls_by-same : (T U : Run) (t k m : ℕ) → WellFormed T → WellFormed U → Agree T U k → t < born T k → m < sent T k → FallsBy T t k m → FallsBy U t k m
falls_by-same T U t k m v w a lt below = has_fallen-same k (Is (point_at T t k)) (Is (point_at U t k)) v a (together T U t k m v w a lt below) (is-same t k a)

drops_by-same : (T U : Run) (t k m : ℕ) → WellFormed T → WellFormed U → Agree T U k → t < born T k → m < sent T k → DropsBy T t k m → DropsBy U t k m
drops_by-same T U t k m v w a lt below = has_fallen-same k (SentWith T m) (SentWith U m) v a (together T U t k m v w a lt below) (λ q. sent_with-same m k q v a below)

verdict-same : (T U : Run) (t k m : ℕ) (j : Judgement) → WellFormed T → WellFormed U → Agree T U k → t < born T k → m < sent T k → Verdict T t k m j → Verdict U t k m j
verdict-same T U t k m j v w a lt below d =
    by j d where
      lu : t < born U k
      lu = omega (arith, lt, born-same k a)

      mu : m < sent U k
      mu = omega (arith, below, sent-same k a)

      by : (j : Judgement) → Verdict T t k m j → Verdict U t k m j
      by j (fall f) = fall (falls_by-same T U t k m v w a lt below f)
      by j (drop f d) = drop (λ g. f (falls_by-same U T t k m w v (agree_sym a) lu mu g)) (drops_by-same T U t k m v w a lt below d)
      by j (take f d) = take (λ g. f (falls_by-same U T t k m w v (agree_sym a) lu mu g)) (λ g. d (drops_by-same U T t k m w v (agree_sym a) lu mu g))

firm-same : {H G : ℕ → Type 0} (T U : Run) (k : ℕ) (q : Point) → Agree T U k → AlikeBelow H G k → FirmIn T H q → FirmIn U G q
firm-same T U k q a s f = record {
  not_fallen = λ g. f.not_fallen (fallen-same k q (agree_sym a) (alike_sym s) g);
  settled = ⊎_elim (λ z. inl (stabilized-same k q a s z)) (λ o. inr (opening_point-same k q a o)) f.settled;
}

free-same : (T U : Run) (t k : ℕ) → WellFormed T → WellFormed U → Agree T U k → t < born T k → Free T t k → Free U t k
free-same T U t k v w a lt f q p =
    let s = alone T U t k v w a lt in
    firm-same T U k q a s (f q (past-same k (Is (point_at U t k)) (Is (point_at T t k)) w (agree_sym a) (alike_sym s) (is-same t k (agree_sym a)) q p))

pub decisions_local : DecisionsAreLocal
decisions_local T U k v w a =
    let b = agree_sym a in
    let born_is = born-same k a in
    let sent_is = sent-same k a in
    record {
      heard = λ t j lt. (λ h. (heard-same t k v a lt j h).0, λ h. (heard-same t k w b (omega (arith, lt, born_is)) j h).0);
      heard_by = λ m j lt. (λ h. (heard_by-same m k v a lt j h).0, λ h. (heard_by-same m k w b (omega (arith, lt, sent_is)) j h).0);
      pending = λ t q. (pending-same t k q v a, pending-same t k q w b);
      sent_with = λ m q lt. (sent_with-same m k q v a lt, sent_with-same m k q w b (omega (arith, lt, sent_is)));
      verdict = λ t m j lt below. (verdict-same T U t k m j v w a lt below, verdict-same U T t k m j w v b (omega (arith, lt, born_is)) (omega (arith, below, sent_is)));
      free = λ t lt. (free-same T U t k v w a lt, free-same U T t k w v b (omega (arith, lt, born_is)));
      state = λ opening q x lt le. (state-same opening q k x v a lt le, state-same opening q k x w b (omega (arith, lt, born_is)) (omega (arith, le, ap interval (history-same q.who k a))));
    }
