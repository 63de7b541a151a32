-- What a turn takes along, and what a message carries, step by step.
use Rattle.std.proofs.Common.{◌≡◌, ◌≢◌, ◌⊎◌, ◌↔◌, inl, inr, ⊎_elim, ℕ, suc, ◌<◌, Bool, true, false, IsTrue, IsFalse, List, [], ◌∷◌, ◌++◌, Some, refl, sym, ap, ◌∙◌, subst, arith}
use Rattle.std.specs.Prelude.{Contains, option_and_then}
use Rattle.std.specs.Option.{option_map_or}
use Rattle.std.proofs.lemmas.List.Elements.{Contains-append_left, Contains-push, Contains-push_cases}
use Rattle.tau_points.specs.declared.point.Point.{Point}
use Rattle.tau_points.specs.Reach.{start}
use Rattle.tau_points.proofs.PointOrder.{point_eq, point_eq-Decides}
use Rattle.tau_points.proofs.Membership.{Contains-none, Contains-head, Contains-cons_cases}
use Rattle.tau_trace.specs.declared.step.Step.{Step}
use Rattle.tau_trace.specs.declared.step.Step.TheVariants.{Take, Drop, Fall, Void, Get, Set, Skip, Send, New, Stabilize, Ask, Checkpoint, Rollback, Trap, Fail, Lose, Echo, Heed, Repeat}
use Rattle.tau_trace.specs.Steps.{ends_turn, is_send}
use Rattle.tau_trace.specs.Run.{Run, step_at, ActsAt, Does}
use Rattle.tau_trace.specs.Numbering.{IsNew, IsSent, IsEchoed, direct, echoed, IsSendAt}
use Rattle.tau_trace.specs.Histories.{IsFallingStep, by_fall, by_rollback, by_trap, by_fail}
use Rattle.tau_trace.specs.Points.{point_at, Leaves}
use Rattle.tau_trace.specs.Turns.{HasOpenTurn}
use Rattle.tau_trace.specs.Known.{WellFormed}
use Rattle.tau_trace.proofs.Agreement.{born-grows}
use Rattle.tau_trace.proofs.Counted.{falls_falling}
use Rattle.tau_trace.proofs.Lists.{same_some}
use Rattle.tau_trace.proofs.Once.{origin_acts, origin_is_one, copies_have_their_origin}
use Rattle.tau_trace.proofs.PointLemmas.{points_grow}
use Rattle.tau_trace.proofs.Quiet.{acts}
use Rattle.tau_past.specs.Carried.{touches, is_set, Pending, Carried, SentWith, TakesBy, by_set}
use Rattle.tau_past.specs.Heard.{heard_by, Own, own_step, own_birth, Heard, HeardBy}
use Rattle.tau_past.specs.KnownLaws.{KeepsPending, keeps_pending}
use Rattle.tau_past.specs.Pasts.{ClosesAt}
use Rattle.tau_past.proofs.Known.{acts_known, heard_closed}
use Rattle.tau_past.proofs.HeardLemmas.{absorbs_message, heard_grows, heard_with_sender, copies_hear}
use Rattle.tau_past.proofs.PendingLemmas.{pending_turn, pending_after_step}
use Rattle.tau_versions.specs.Logs.Takes.{Covered, is_listed, is_closed, through, TellsPending, TellsSent}
use Rattle.tau_versions.proofs.Taking.{cover_on}
use Rattle.tau_versions.proofs.Newborns.{newborns_take_what_is_carried}
use Rattle.tau_heard.specs.Turns.{with_own, taken_along, IsAlong, TellsTurn}
use Rattle.tau_heard.specs.Laws.{WithoutClosed, TurnAfterStep, TurnsStepByStep, CarriedStays, CopiesCarryAlike}
use Rattle.tau_heard.proofs.LeavingOut.{closed_on}

-- Which steps leave the point.

pub leaves_ends : (T : Run) (t n : ℕ) → Leaves T t n → Does ends_turn T t n
leaves_ends T t n (inl c) = record { step = Checkpoint t; stands = c; by = refl; passes = refl }
leaves_ends T t n (inr f) = by (falls_falling T t n f) where
  by : IsFallingStep T t n → Does ends_turn T t n
  by (by_fall {m = m} e) = record { step = Fall t m; stands = e; by = refl; passes = refl }
  by (by_rollback e) = record { step = Rollback t; stands = e; by = refl; passes = refl }
  by (by_trap {c = c} e v) = record { step = Trap t c; stands = e; by = refl; passes = refl }
  by (by_fail e v) = record { step = Fail t; stands = e; by = refl; passes = refl }

touching_ends_none : (s : Step) → IsTrue (touches s) → IsFalse (ends_turn s)
touching_ends_none (Get t) h = refl
touching_ends_none (Set t v) h = refl
touching_ends_none (Skip t) h = refl
touching_ends_none (Stabilize t) h = refl
touching_ends_none (Ask t a) h = refl
touching_ends_none s h = absurd (cc)

keeping_ends_none : (s : Step) → IsTrue (keeps_pending s) → IsFalse (ends_turn s)
keeping_ends_none (Send t u v) h = refl
keeping_ends_none (New t b n v) h = refl
keeping_ends_none (Drop t m) h = refl
keeping_ends_none (Void t m) h = refl
keeping_ends_none (Lose m) h = refl
keeping_ends_none (Echo t m) h = refl
keeping_ends_none (Heed t m) h = refl
keeping_ends_none (Repeat m) h = refl
keeping_ends_none s h = absurd (cc)

set_touches : (s : Step) → IsTrue (is_set s) → IsTrue (touches s)
set_touches (Set t v) h = refl
set_touches s h = absurd (cc)

-- a step of a class that ends no turn leaves the point
point_stays : (T : Run) (t n : ℕ) (test : Step → Bool) → ((s : Step) → IsTrue (test s) → IsFalse (ends_turn s)) → Does test T t n → point_at T t (suc n) ≡ point_at T t n
point_stays T t n test none d = (points_grow T t n).stays (λ l. apart (leaves_ends T t n l)) where
  apart : Does ends_turn T t n → ⊥
  apart e =
      let same : d.step ≡ e.step = same_some (sym d.stands ∙ e.stands) in
      let both : false ≡ true = sym (none d.step d.passes) ∙ ap ends_turn same ∙ e.passes in
      cc

-- A notice carries nothing.

notice_tells : (T : Run) (t n k m : ℕ) → IsEchoed T n t k m → TellsSent T m (suc n) []
notice_tells T t n k m o = record { sent = λ q c. absurd (Contains-none q c); covers = λ q s. absurd (none q s) } where
  none : (q : Point) → ¬ SentWith T m q
  none q s =
      let sends : IsSendAt T n = subst (IsSendAt T) (origin_is_one T s.place n s.by t m s.origin (echoed {n = k} o)).0 s.send in
      let both : false ≡ true = sym (ap (λ r. option_map_or is_send r false) o.stands) ∙ sends in
      cc

-- What is covered.

own_on : (T : Run) (t n j : ℕ) → Own T t n j → Own T t (suc n) j
own_on T t n j (own_step a lt) = own_step a (omega (arith, lt))
own_on T t n j (own_birth b) = own_birth b

point_cases : (p q : Point) → (p ≡ q) ⊎ (p ≢ q)
point_cases p q = by (point_eq p q) refl where
  by : (b : Bool) → point_eq p q ≡ b → (p ≡ q) ⊎ (p ≢ q)
  by true e = inl ((point_eq-Decides p q).0 e)
  by false e = inr (λ h. let f : point_eq p q ≡ true = (point_eq-Decides p q).1 h in absurd (cc))

only : (p q : Point) → Contains (p ∷ []) q → q ≡ p
only p q c = ⊎_elim (λ e. e) (λ n. absurd (Contains-none q n)) (Contains-cons_cases p [] q c)

-- the roots stand among the roots with the own point, and these among the roots and the own point
pub roots_among : (touched : Bool) (me : Point) (roots : List Point) (q : Point) → Contains roots q → Contains (with_own touched me roots) q
roots_among true me roots q c = Contains-append_left roots (me ∷ []) q c
roots_among false me roots q c = c

among_all : (touched : Bool) (me : Point) (roots : List Point) (q : Point) → Contains (with_own touched me roots) q → Contains (roots ++ me ∷ []) q
among_all true me roots q c = c
among_all false me roots q c = Contains-append_left roots (me ∷ []) q c

-- the roots alone, where the own point isn't touched or stands among them
pub along_roots : (touched : Bool) (me : Point) (roots along : List Point) → along ≡ roots → (touched ≡ false) ⊎ Contains roots me → IsAlong touched false me roots along
along_roots false me roots along is why q = let F : List Point → Type 0 = λ ps. Contains ps q in (λ c. subst F is c, λ c. subst F (sym is) c)
along_roots true me roots along is why q =
    let F : List Point → Type 0 = λ ps. Contains ps q in
    let G : Point → Type 0 = Contains roots in (
      λ c. Contains-append_left roots (me ∷ []) q (subst F is c),
      λ c. subst F (sym is) (⊎_elim (λ r. r) (λ e. subst G e (⊎_elim (λ (f : true ≡ false). absurd (cc)) (λ m. m) why)) (Contains-push_cases roots me q c)),
    )

-- the roots and the own point, where it is touched
pub along_both : (touched : Bool) (me : Point) (roots along : List Point) → touched ≡ true → along ≡ roots ++ me ∷ [] → IsAlong touched false me roots along
along_both true me roots along t is q = let F : List Point → Type 0 = λ ps. Contains ps q in (λ c. subst F is c, λ c. subst F (sym is) c)
along_both false me roots along t is q = absurd (cc)

-- where the turn takes along nothing
pub nothing_along : (T : Run) (t n : ℕ) → ((q : Point) → ¬ Pending T t n q) → TellsTurn T t n [] false false
nothing_along T t n none = record {
  pending = record { pending = λ q c. absurd (Contains-none q c); covers = λ q p. absurd (none q p) };
  touches = λ e. e;
  took = λ e. absurd (cc);
}

-- what a turn takes along is pending and covers all that is
pub along_pending : (T : Run) (t n : ℕ) (roots : List Point) (touched depended : Bool) → TellsTurn T t n roots touched depended → TellsPending T t n (taken_along touched depended (point_at T t n) roots)
along_pending T t n roots touched false x = x.pending
along_pending T t n roots false true x = absurd (let impossible : false ≡ true = x.touches refl in cc)
along_pending T t n roots true true x = record { pending = pending; covers = covers } where
  me : Point
  me = point_at T t n

  pending : (q : Point) → Contains (me ∷ []) q → Pending T t n q
  pending q c = let F : Point → Type 0 = Pending T t n in subst F (sym (only me q c)) (x.pending.pending me (Contains-push roots me))

  covers : (q : Point) → Pending T t n q → Covered T (Heard T t n) (me ∷ []) n q
  covers q p = ⊎_elim
      (λ e. is_listed (let F : Point → Type 0 = Contains (me ∷ []) in subst F (sym e) (Contains-head me [])))
      (λ ne. let y = x.took refl q p ne in through (inl (Contains-head me [])) y.1 (start y.2) y.3)
      (point_cases q me)

module _ (T : Run) (t n : ℕ) (roots : List Point) (touched depended : Bool) (x : TellsTurn T t n roots touched depended) where
  abbrev me : Point
  me = point_at T t n

  grows : (j : ℕ) → Heard T t n j → Heard T t (suc n) j
  grows = heard_grows T t n (suc n) (omega arith)

  took_on : IsTrue depended → point_at T t (suc n) ≡ me → (q : Point) → Pending T t n q → q ≢ point_at T t (suc n) → (i : ℕ) × (i < suc n) × Own T t (suc n) i × TakesBy T i (point_at T t (suc n)) q
  took_on d same q p ne =
      let y = x.took d q p (λ e. ne (e ∙ sym same)) in
      (y.0, omega (arith, y.1), own_on T t n y.0 y.2, let F : Point → Type 0 = λ r. TakesBy T y.0 r q in subst F (sym same) y.3)

  stays : KeepsPending T t n → point_at T t (suc n) ≡ me → TellsTurn T t (suc n) roots touched depended
  stays keeps same = record {
    pending =
        let rs = with_own touched me roots in
        let F : Point → Type 0 = λ p. TellsPending T t (suc n) (with_own touched p roots) in
        subst F (sym same) (record {
          pending = λ q c. (keeps q).1 (x.pending.pending q c);
          covers = λ q p. cover_on T (Heard T t n) (Heard T t (suc n)) rs rs n (suc n) q grows (λ r c. c) (omega arith) (x.pending.covers q ((keeps q).0 p));
        });
    touches = x.touches;
    took = λ d q p ne. took_on d same q ((keeps q).0 p) ne;
  }

  -- with the own point, after a touching step
  touched_pending : Does touches T t n → HasOpenTurn T t n → point_at T t (suc n) ≡ me → TellsPending T t (suc n) (roots ++ point_at T t (suc n) ∷ [])
  touched_pending d turn same = let F : Point → Type 0 = λ p. TellsPending T t (suc n) (roots ++ p ∷ []) in subst F (sym same) (record { pending = pending; covers = covers }) where
    after : (q : Point) → Pending T t (suc n) q ↔ (Pending T t n q ⊎ (HasOpenTurn T t n × (q ≡ me)))
    after = (pending_after_step T t n).touching d

    pending : (q : Point) → Contains (roots ++ me ∷ []) q → Pending T t (suc n) q
    pending q c = (after q).1 (⊎_elim (λ h. inl (x.pending.pending q (roots_among touched me roots q h))) (λ e. inr (turn, sym e)) (Contains-push_cases roots me q c))

    covers : (q : Point) → Pending T t (suc n) q → Covered T (Heard T t (suc n)) (roots ++ me ∷ []) (suc n) q
    covers q p = ⊎_elim
        (λ r. cover_on T (Heard T t n) (Heard T t (suc n)) (with_own touched me roots) (roots ++ me ∷ []) n (suc n) q grows (among_all touched me roots) (omega arith) (x.pending.covers q r))
        (λ e. is_listed (let F : Point → Type 0 = Contains (roots ++ me ∷ []) in subst F (sym e.1) (Contains-push roots me)))
        ((after q).0 p)

  touching : Does touches T t n → HasOpenTurn T t n → TellsTurn T t (suc n) roots true depended
  touching d turn =
      let same = point_stays T t n touches touching_ends_none d in record {
        pending = touched_pending d turn same;
        touches = λ e. refl;
        took = λ h q p ne. ⊎_elim (λ r. took_on h same q r ne) (λ e. absurd (ne (e.1 ∙ sym same))) (((pending_after_step T t n).touching d q).0 p);
      }

  set : Does is_set T t n → HasOpenTurn T t n → TellsTurn T t (suc n) roots true true
  set s turn = record {
    pending = touched_pending d turn same;
    touches = λ e. refl;
    took = λ h q p ne. ⊎_elim (λ r. taken q r ne) (λ e. absurd (ne (e.1 ∙ sym same))) (((pending_after_step T t n).touching d q).0 p);
  } where
    d : Does touches T t n
    d = record { step = s.step; stands = s.stands; by = s.by; passes = set_touches s.step s.passes }

    same : point_at T t (suc n) ≡ me
    same = point_stays T t n touches touching_ends_none d

    now : ActsAt T t n
    now = acts T t n s.step s.stands s.by

    taken : (q : Point) → Pending T t n q → q ≢ point_at T t (suc n) → (i : ℕ) × (i < suc n) × Own T t (suc n) i × TakesBy T i (point_at T t (suc n)) q
    taken q r ne = (n, omega arith, own_step now (omega arith), by_set s same (record { by = t; acts = now; pending = r }) ne)

  take : (m : ℕ) (carried left : List Point) → step_at T n ≡ Some (Take t m) → TellsSent T m n carried → WithoutClosed T (Heard T t (suc n)) carried left → TellsTurn T t (suc n) left false false
  take m carried left e sent without = record {
    pending = record { pending = λ q c. (after q).1 (sent.sent q (without.among q c)); covers = λ q p. covers q (sent.covers q ((after q).0 p)) };
    touches = λ h. h;
    took = λ h. absurd (cc);
  } where
    after : (q : Point) → Pending T t (suc n) q ↔ SentWith T m q
    after = (pending_after_step T t n).take m e

    heard : (j : ℕ) → HeardBy T m j → Heard T t (suc n) j
    heard = absorbs_message T (Heard T t (suc n)) n m (heard_closed T t (suc n)) (start (own_step (acts T t n (Take t m) e refl) (omega arith))) (ap (option_and_then heard_by) e)

    listed : (r : Point) → Contains carried r ⊎ ClosesAt T (HeardBy T m) r.who r.interval r → Contains left r ⊎ ClosesAt T (Heard T t (suc n)) r.who r.interval r
    listed r = ⊎_elim (without.closed r) (λ c. inr (closed_on T (HeardBy T m) (Heard T t (suc n)) r.who r.interval r heard c))

    covers : (q : Point) → Covered T (HeardBy T m) carried n q → Covered T (Heard T t (suc n)) left (suc n) q
    covers q (is_listed l) = ⊎_elim (λ c. is_listed c) (λ c. is_closed c) (without.closed q l)
    covers q (is_closed c) = is_closed (closed_on T (HeardBy T m) (Heard T t (suc n)) q.who q.interval q heard c)
    covers q (through {r = r} {i = i} l lt h b) = through (listed r l) (omega (arith, lt)) (heard i h) b

  -- what is taken along is pending, and covers all that is
  along_told : (rs : List Point) → IsAlong touched depended me roots rs → TellsPending T t n rs
  along_told rs same =
      let all = along_pending T t n roots touched depended x in record {
        pending = λ q c. all.pending q ((same q).0 c);
        covers = λ q p. cover_on T (Heard T t n) (Heard T t n) (taken_along touched depended me roots) rs n n q (λ j h. h) (λ r c. (same r).1 c) (omega arith) (all.covers q p);
      }

  message : (m : ℕ) (rs : List Point) → IsSent T n t m → IsAlong touched depended me roots rs → TellsSent T m (suc n) rs
  message m rs s same = record { sent = λ q c. forth q (told.pending q c); covers = λ q w. cover_on T (Heard T t n) (HeardBy T m) rs rs n (suc n) q heard (λ r c. c) (omega arith) (told.covers q (back q w)) } where
    told : TellsPending T t n rs
    told = along_told rs same

    now : ActsAt T t n
    now = origin_acts T n t m (direct s)

    forth : (q : Point) → Pending T t n q → SentWith T m q
    forth q p = record { place = n; by = t; origin = direct s; send = ap (λ o. option_map_or is_send o false) s.stands; carried = record { by = t; acts = now; pending = p } }

    back : (q : Point) → SentWith T m q → Pending T t n q
    back q w =
        let F : ℕ → Type 0 = λ j. Carried T j q in
        let c = subst F (origin_is_one T w.place n w.by t m w.origin (direct s)).0 w.carried in
        let G : ℕ → Type 0 = λ u. Pending T u n q in subst G (same_some (sym c.acts ∙ now)) c.pending

    heard : (j : ℕ) → Heard T t n j → HeardBy T m j
    heard j h = (heard_with_sender T m n t (direct s) j).1 (inl h)

  other : ¬ ActsAt T t n → TellsTurn T t (suc n) roots touched depended
  other none = stays ((pending_after_step T t n).other none) ((points_grow T t n).stays (λ l. let d = leaves_ends T t n l in none (acts T t n d.step d.stands d.by)))

  keeping : Does keeps_pending T t n → TellsTurn T t (suc n) roots touched depended
  keeping d = stays ((pending_after_step T t n).keeping d) (point_stays T t n keeps_pending keeping_ends_none d)

  pub after_step : WellFormed T → TurnAfterStep T t n roots touched depended
  after_step known = record {
    other = other;
    keeping = keeping;
    touching = touching;
    set = set;
    take = take;
    ending = λ d. nothing_along T t (suc n) ((pending_after_step T t n).ending d);
    message = message;
    notice = λ k m e. notice_tells T t n k m e;
    taken = λ u rs b same. newborns_take_what_is_carried T t u n rs known b (along_told rs same);
    newborn = λ u b. nothing_along T u (suc n) (unborn u b);
  } where
    unborn : (u : ℕ) → IsNew T n t u → (q : Point) → ¬ Pending T u (suc n) q
    unborn u b q p =
        let turn = pending_turn T u (suc n) q p in
        let place = turn.0 in
        let opens = turn.1.1 in
        omega (arith, acts_known T u place known (acts T u place (Take u turn.1.0) opens.takes refl), born-grows T place n (omega (arith, opens.before)), b.made)

pub turns_step_by_step : TurnsStepByStep
turns_step_by_step T t n roots touched depended known x = after_step T t n roots touched depended x known

pub carried_stays : CarriedStays
carried_stays T m n roots x = record {
  sent = x.sent;
  covers = λ q w. cover_on T (HeardBy T m) (HeardBy T m) roots roots n (suc n) q (λ j h. h) (λ r c. c) (omega arith) (x.covers q w);
}

-- a copy carries what the message that it repeats does
pub copies_carry_alike : CopiesCarryAlike
copies_carry_alike T k n m at roots c x = record {
  sent = λ q l. (carries q).1 (x.sent q l);
  covers = λ q s. cover_on T (HeardBy T n) (HeardBy T m) roots roots at at q (λ j h. (copies_hear T k n m c j).1 h) (λ r l. l) (omega arith) (x.covers q ((carries q).0 s));
} where
  carries : (q : Point) → (SentWith T m q → SentWith T n q) × (SentWith T n q → SentWith T m q)
  carries q = (
    λ s. record { place = s.place; by = s.by; origin = (copies_have_their_origin T k n m s.place s.by c).0 s.origin; send = s.send; carried = s.carried },
    λ s. record { place = s.place; by = s.by; origin = (copies_have_their_origin T k n m s.place s.by c).1 s.origin; send = s.send; carried = s.carried },
  )
