-- What is kept at a place reads the opening and the steps before it alone.
use Rattle.std.proofs.Common.{◌≡◌, ◌↔◌, inl, inr, ⊎_elim, ℕ, suc, ◌<◌, ◌≤◌, Bool, false, List, length, get_or, Option, Some, None, refl, sym, ap, ◌∙◌, subst, arith}
use Rattle.std.specs.Prelude.{option_and_then, Contains}
use Rattle.std.specs.Option.{option_map_or}
use Rattle.std.proofs.lemmas.Option.{slice_get_within}
use Rattle.tau_points.specs.declared.point.Point.{Point}
use Rattle.tau_points.specs.Reach.{start, next}
use Rattle.tau_points.proofs.Reach.{least}
use Rattle.tau_trace.specs.Steps.{actor}
use Rattle.tau_trace.specs.Run.{Run, Agree, step_at, ActsAt}
use Rattle.tau_trace.specs.Numbering.{born, sent, HasSender}
use Rattle.tau_trace.specs.Histories.{is_fall, move_at}
use Rattle.tau_trace.specs.Points.{point_at, IsOpeningPoint}
use Rattle.tau_trace.specs.Known.{WellFormed}
use Rattle.tau_trace.proofs.Agreement.{agree_sym, agree_below, born-same, sent-same, move_at-same, is_new-same, origin-same, does-same, new_before, same_at}
use Rattle.tau_trace.proofs.Counts.{count-same}
use Rattle.tau_past.specs.Carried.{is_set, Pending, Carried, TakesBy, by_set, by_new}
use Rattle.tau_past.specs.Heard.{heard_by, Needs, earlier, message, birth, Own, own_step, own_birth, Heard, HeardBy, Bound}
use Rattle.tau_past.specs.KnownLaws.{IsSame}
use Rattle.tau_past.specs.Pasts.{ClosesAt, checkpoint, opening}
use Rattle.tau_past.proofs.Agreement.{point-same, decisions_local}
use Rattle.tau_past.proofs.Known.{acts_known, hears_known, heard_before, heard_by_before, needs_before}
use Rattle.tau_versions.specs.Logs.Told.{Told}
use Rattle.tau_versions.specs.Logs.Takes.{Covered, is_listed, is_closed, through, TellsTaken, TellsTakes, TellsPending, TellsSent}
use Rattle.tau_versions.proofs.Telling.{logs_are_local}
use Rattle.tau_heard.specs.declared.letter.Sender.{Sender}
use Rattle.tau_heard.specs.Bounds.{TellsNumber, TellsBounds, TellsHeardBy, last_number}
use Rattle.tau_versions.specs.Search.Logs.{AreLogs}
use Rattle.tau_heard.specs.Turns.{with_own, TellsTurn}
use Rattle.tau_heard.specs.Falls.{falls_at, falling_steps}
use Rattle.tau_heard.specs.Moves.{HearsIsLocal}
use Rattle.tau_heard.proofs.Bounds.{number_of, number_told}

acts-same : (T U : Run) (t j : ℕ) → step_at T j ≡ step_at U j → ActsAt T t j → ActsAt U t j
acts-same T U t j e a = ap (option_and_then actor) (sym e) ∙ a

-- one direction, for runs that agree below place k
module _ (T U : Run) (k : ℕ) (w : WellFormed T) (z : WellFormed U) (agree : Agree T U k) where
  carried-same : (j : ℕ) (q : Point) → j < k → Carried T j q → Carried U j q
  carried-same j q lt c = record {
    by = c.by;
    acts = acts-same T U c.by j (agree.steps j lt) c.acts;
    pending = ((decisions_local T U j w z (agree_below j (omega (arith, lt)) agree)).pending c.by q).0 c.pending;
  }

  takes-same : (j : ℕ) (p q : Point) → j < k → TakesBy T j p q → TakesBy U j p q
  takes-same j p q lt (by_set {t = t} d e c ne) =
      by_set (does-same is_set t j (agree.steps j lt) d) (e ∙ point-same t j (agree_below j (omega (arith, lt)) agree)) (carried-same j q lt c) ne
  takes-same j p q lt (by_new {by = by} {u = u} n e c ne) =
      by_new (is_new-same j by u (agree_below (suc j) (omega (arith, lt)) agree) n) e (carried-same j q lt c) ne

  needs-same : (x y : ℕ) → x < k → Needs T x y → Needs U x y
  needs-same x y lt (earlier {t = t} e f before) =
      earlier (acts-same T U t x (agree.steps x lt) e) (acts-same T U t y (agree.steps y (omega (arith, lt, before))) f) before
  needs-same x y lt (message {m = m} {by = by} e o) =
      message (ap (option_and_then heard_by) (sym (agree.steps x lt)) ∙ e) (origin-same x y by m (agree_below x (omega (arith, lt)) agree) (hears_known T m x w e) o)
  needs-same x y lt (birth {u = u} {by = by} e n) =
      let before = new_before T y by u x n (acts_known T u x w e) in
      birth (acts-same T U u x (agree.steps x lt) e) (is_new-same y by u (agree_below (suc y) (omega (arith, lt, before)) agree) n)

  -- what is u's own at place a, of a u that exists at k
  own-same : (u a j : ℕ) → a ≤ k → u < born T k → Own T u a j → Own U u a j × (j < k)
  own-same u a j le there (own_step e before) = (own_step (acts-same T U u j (agree.steps j (omega (arith, le, before))) e) before, omega (arith, le, before))
  own-same u a j le there (own_birth {by = by} n) =
      let before = new_before T j by u k n there in
      (own_birth (is_new-same j by u (agree_below (suc j) (omega (arith, before)) agree) n), before)

  heard-same : (u a : ℕ) → a ≤ k → u < born T k → (j : ℕ) → Heard T u a j → Heard U u a j × (j < k)
  heard-same u a le there = least (Needs T) (Own T u a) (λ j. Heard U u a j × (j < k)) (record {
    starts = λ j o. let s = own-same u a j le there o in (start s.0, s.1);
    follows = λ x y h n. (next h.0 (needs-same x y h.1 n), omega (arith, h.1, needs_before T x y w n));
  })

  opening_point-same : (q : Point) → IsOpeningPoint T q → IsOpeningPoint U q
  opening_point-same q o = record { is_start = subst (λ n. q.who < n) (ap (λ o. length o.names) agree.opening) o.is_start; interval_is = o.interval_is; incarnation_is = o.incarnation_is }

  -- of a set of places below k, whose places the other set has too
  module _ (H G : ℕ → Type 0) (grows : (j : ℕ) → H j → G j × (j < k)) where
    closes-same : (t i : ℕ) (q : Point) → ClosesAt T H t i q → ClosesAt U G t i q
    closes-same t i q (checkpoint {j = j} h c e f) =
        let there = grows j h in
        checkpoint there.0 (sym (agree.steps j there.1) ∙ c) (e ∙ point-same t j (agree_below j (omega (arith, there.1)) agree)) f
    closes-same t i q (opening a b o) = opening a b (opening_point-same q o)

    pub cover-same : (xs : List Point) (j : ℕ) (q : Point) → Covered T H xs j q → Covered U G xs j q
    cover-same xs j q (is_listed l) = is_listed l
    cover-same xs j q (is_closed c) = is_closed (closes-same q.who q.interval q c)
    cover-same xs j q (through {r = r} {i = i} l lt h t) =
        let there = grows i h in
        through (⊎_elim (λ a. inl a) (λ c. inr (closes-same r.who r.interval r c)) l) lt there.0 (takes-same i r q there.1 t)

  sender-same : (m s : ℕ) → m < sent T k → HasSender T m s → HasSender U m s
  sender-same m s there x = record { place = x.place; origin = origin-same k x.place s m agree there x.origin }

-- both directions, for sets of places below k that have the same places
module _ (T U : Run) (k : ℕ) (w : WellFormed T) (z : WellFormed U) (agree : Agree T U k) where
  module _ (H G : ℕ → Type 0) (below : (j : ℕ) → H j → j < k) (same : IsSame H G) where
    within : (u a : ℕ) → Bound T H u a → a ≤ k
    within u a b = ⊎_elim (λ e. omega (arith, e)) (λ s. omega (arith, s.1, below s.0 s.3)) b.last

    bound-same : (u a : ℕ) → Bound T H u a → Bound U G u a
    bound-same u a b = record {
      steps = λ j acts. (
        λ g. let h = (same j).1 g in (b.steps j (acts-same U T u j (sym (agree.steps j (below j h))) acts)).0 h,
        λ l. (same j).0 ((b.steps j (acts-same U T u j (sym (agree.steps j (omega (arith, l, within u a b)))) acts)).1 l),
      );
      last = ⊎_elim (λ e. inl e) (λ s. inr (s.0, s.1, acts-same T U u s.0 (agree.steps s.0 (below s.0 s.3)) s.2, (same s.0).0 s.3)) b.last;
    }

    told-same : (logs : List Told) (u i : ℕ) → TellsNumber T H k logs u i → TellsNumber U G k logs u i
    told-same logs u i x = number_told x.tells.place x.tells.within (bound-same u x.tells.place x.tells.bound) (number_of x)

    bounds-same : (logs : List Told) (who version : ℕ) (xs : List ℕ) → TellsBounds T H k logs who version xs → TellsBounds U G k logs who version xs
    bounds-same logs who version xs x = record {
      own = told-same logs who version x.own;
      others = λ u lt ne. told-same logs u (get_or xs u 0) (x.others u lt ne);
      not_later = x.not_later;
      few = x.few;
    }

  taken-same : (u a : ℕ) (listed : List Point) → a ≤ k → u < born T k → u < born U k → TellsTaken T u a listed → TellsTaken U u a listed
  taken-same u a listed le there here x = record { took = took; covers = covers } where
    point : point_at T u a ≡ point_at U u a
    point = point-same u a (agree_below a le agree)

    took : (q : Point) → Contains listed q → (j : ℕ) × Own U u a j × TakesBy U j (point_at U u a) q
    took q c =
        let y = x.took q c in
        let o = own-same T U k w z agree u a y.0 le there y.1 in
        let F : Point → Type 0 = λ p. TakesBy U y.0 p q in
        (y.0, o.0, subst F point (takes-same T U k w z agree y.0 (point_at T u a) q o.1 y.2))

    covers : (j : ℕ) (q : Point) → Own U u a j → TakesBy U j (point_at U u a) q → Covered U (Heard U u a) listed j q
    covers j q own t =
        let o = own-same U T k z w (agree_sym agree) u a j le here own in
        let F : Point → Type 0 = λ p. TakesBy T j p q in
        cover-same T U k w z agree (Heard T u a) (Heard U u a) (heard-same T U k w z agree u a le there) listed j q
        (x.covers j q o.0 (subst F (sym point) (takes-same U T k z w (agree_sym agree) j (point_at U u a) q o.1 t)))

  takes_told-same : (u : ℕ) (log : Told) → u < born T k → u < born U k → TellsTakes T u k log → TellsTakes U u k log
  takes_told-same u log there here x = record { within = x.within; told = λ a i v le latest. taken-same u a _ le there here (x.told a i v le latest) }

  logs-same : (logs : List Told) → AreLogs T k logs → AreLogs U k logs
  logs-same logs x = record {
    count = x.count ∙ born-same k agree;
    each = λ u log e.
        let y = x.each u log e in
        let there = slice_get_within logs u log e in record {
          opens = y.opens;
          few = y.few;
          histories = logs_are_local T U u k log agree y.histories;
          takes = takes_told-same u log (omega (arith, there, x.count)) (omega (arith, there, x.count, born-same k agree)) y.takes;
        };
  }

  turn-same : (t : ℕ) (roots : List Point) (touched depended : Bool) → t < born T k → TellsTurn T t k roots touched depended → TellsTurn U t k roots touched depended
  turn-same t roots touched depended there x = record {
    pending =
        let F : Point → Type 0 = λ p. TellsPending U t k (with_own touched p roots) in
        subst F point (record {
          pending = λ q c. (pending q).0 (x.pending.pending q c);
          covers = λ q p. cover-same T U k w z agree (Heard T t k) (Heard U t k) (heard-same T U k w z agree t k (omega arith) there) (with_own touched (point_at T t k) roots) k q (x.pending.covers q ((pending q).1 p));
        });
    touches = x.touches;
    took = λ d q p ne.
        let y = x.took d q ((pending q).1 p) (λ e. ne (e ∙ point)) in
        let F : Point → Type 0 = λ r. TakesBy U y.0 r q in
        (y.0, y.1, (own-same T U k w z agree t k y.0 (omega arith) there y.2).0, subst F point (takes-same T U k w z agree y.0 (point_at T t k) q y.1 y.3));
  } where
    point : point_at T t k ≡ point_at U t k
    point = point-same t k agree

    pending : (q : Point) → Pending T t k q ↔ Pending U t k q
    pending = (decisions_local T U k w z agree).pending t

  sent_roots-same : (m : ℕ) (roots : List Point) → m < sent T k → TellsSent T m k roots → TellsSent U m k roots
  sent_roots-same m roots there x = record {
    sent = λ q c. ((decisions_local T U k w z agree).sent_with m q there).0 (x.sent q c);
    covers = λ q s. cover-same T U k w z agree (HeardBy T m) (HeardBy U m) (λ j h. (((decisions_local T U k w z agree).heard_by m j there).0 h, heard_by_before T m k j w there h)) roots k q (x.covers q (((decisions_local T U k w z agree).sent_with m q there).1 s));
  }

  heard_by-same : (m : ℕ) (logs : List Told) (sender : Option Sender) → m < sent T k → TellsHeardBy T m k logs sender → TellsHeardBy U m k logs sender
  heard_by-same m logs None there x = λ u lt. told-same (HeardBy T m) (HeardBy U m) (λ j h. heard_by_before T m k j w there h) (λ j. (decisions_local T U k w z agree).heard_by m j there) logs u 0 (x u lt)
  heard_by-same m logs (Some s) there x =
      (sender-same T U k w z agree m s.who there x.0, bounds-same (HeardBy T m) (HeardBy U m) (λ j h. heard_by_before T m k j w there h) (λ j. (decisions_local T U k w z agree).heard_by m j there) logs s.who s.version s.numbers.value.items x.1)

  falls-same : falling_steps T k ≡ falling_steps U k
  falls-same = count-same (falls_at T) (falls_at U) k at_place where
    moves : (j : ℕ) → j < k → (o : Option ℕ) → option_map_or (λ t. is_fall (move_at T t j)) o false ≡ option_map_or (λ t. is_fall (move_at U t j)) o false
    moves j lt None = refl
    moves j lt (Some t) = ap is_fall (move_at-same t j (agree_below (suc j) (omega (arith, lt)) agree))

    at_place : (j : ℕ) → j < k → falls_at T j ≡ falls_at U j
    at_place j lt = moves j lt (option_and_then actor (step_at T j)) ∙ ap (λ o. option_map_or (λ t. is_fall (move_at U t j)) (option_and_then actor o) false) (agree.steps j lt)

pub hears_is_local : HearsIsLocal
hears_is_local T U n logs own letters falls w z agree x = record {
  logs_are = logs-same T U n w z agree logs x.logs_are;
  transactors = x.transactors ∙ born-same n agree;
  each = λ t o e.
      let y = x.each t o e in
      let there : t < born T n = omega (arith, slice_get_within own t o e, x.transactors) in record {
        heard = bounds-same T U n w z agree (Heard T t n) (Heard U t n) (λ j h. heard_before T t n j w there h) (λ j. (decisions_local T U n w z agree).heard t j there) logs t (last_number logs t) o.numbers.numbers y.heard;
        turn = turn-same T U n w z agree t o.roots o.touched o.depended there y.turn;
      };
  messages = x.messages ∙ sent-same n agree;
  letter = λ m l e.
      let y = x.letter m l e in
      let there : m < sent T n = omega (arith, slice_get_within letters m (Some l) e, x.messages) in record {
        heard = heard_by-same T U n w z agree m logs l.sender there y.heard;
        roots = sent_roots-same T U n w z agree m l.roots there y.roots;
      };
  in_flight = λ m f. x.in_flight m (((same_at T U n agree).in_flight m).1 f);
  falls_is = x.falls_is ∙ falls-same T U n w z agree;
}
