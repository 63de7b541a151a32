-- The change of each kind of step leads to what is right after it.
use Rattle.std.proofs.Common.{◌≡◌, ◌≢◌, ◌⊎◌, inl, inr, ⊎_elim, ℕ, zero, suc, ◌-◌, ◌<◌, ◌≤◌, Bool, true, false, IsTrue, List, [], ◌∷◌, ◌++◌, length, take, drop, append-nil, Option, Some, None, refl, sym, ap, ap₂, ◌∙◌, subst, arith}
use Rattle.std.specs.Prelude.{slice_get}
use Rattle.tau_history.specs.Timeline.{Timeline, Move, keep, stabilize, close, fall, moved}
use Rattle.tau_points.specs.declared.point.Point.{Point}
use Rattle.tau_trace.specs.declared.step.Step.{Step}
use Rattle.tau_trace.specs.declared.step.Step.TheVariants.{Take, Drop, Heed, Fall, Void, Get, Skip, Ask, Stabilize, Checkpoint, Hold, Rollback, Stay, Done, Trap, Fail}
use Rattle.tau_trace.specs.Steps.{actor, removed_by, ends_turn, is_new, makes_message}
use Rattle.tau_trace.specs.Run.{Run, len, appended, Does}
use Rattle.tau_trace.specs.Histories.{history, move_at, move_of, is_fall}
use Rattle.tau_trace.specs.Points.{Leaves}
use Rattle.tau_trace.proofs.Agreement.{agree_appended, history-same}
use Rattle.tau_trace.proofs.Counted.{history-suc, move_at-own, closes_move, move_closes}
use Rattle.tau_trace.proofs.Lists.{same_some}
use Rattle.tau_trace.proofs.PointLemmas.{points_grow}
use Rattle.tau_past.specs.Carried.{touches, is_set}
use Rattle.tau_past.specs.Heard.{heard_by, Heard}
use Rattle.tau_past.specs.KnownLaws.{keeps_pending}
use Rattle.tau_versions.specs.declared.logs.version.Version.{Version}
use Rattle.tau_versions.specs.Logs.Versions.{IsVersionOf}
use Rattle.tau_versions.specs.Logs.Told.{Told}
use Rattle.tau_versions.specs.Logs.Takes.{taken, TellsTaken}
use Rattle.tau_versions.proofs.Taking.{taken_stays, reached_points_have_taken_nothing}
use Rattle.tau_heard.specs.declared.own.Own.{Own}
use Rattle.tau_heard.specs.declared.letter.Letter.{Letter}
use Rattle.tau_heard.specs.declared.hearing.Hearing.{Hearing}
use Rattle.tau_heard.specs.declared.change.LogChange.TheVariants as log
use Rattle.tau_heard.specs.declared.change.TurnChange.{TurnChange}
use Rattle.tau_heard.specs.declared.change.TurnChange.TheVariants as turn
use Rattle.tau_heard.specs.After.{Leads}
use Rattle.tau_heard.specs.Changed.{TellsOn, HasRoomToHear, roots_after, touched_after, depended_after}
use Rattle.tau_heard.specs.Facts.{HearsRightly}
use Rattle.tau_heard.specs.Laws.{WithoutClosed}
use Rattle.tau_versions.specs.Search.Logs.{TellsLog}
use Rattle.tau_heard.specs.Logs.{KeepsLatest}
use Rattle.tau_heard.specs.Moves.{IsAdded}
use Rattle.tau_heard.specs.Next.{IsNext, actor_change, turn_change, only_touches, only_hears, only_ends, falls_if_volatile, IsLast, IsMoved, IsOnlyOne}
use Rattle.tau_heard.specs.Turns.{TellsTurn}
use Rattle.tau_heard.proofs.Bounds.{last_tells}
use Rattle.tau_heard.proofs.Leading as lead
use Rattle.tau_heard.proofs.Leading.{only_touches-touches}
use Rattle.tau_heard.proofs.Moves.{logs_step_by_step, takes_nothing}
use Rattle.tau_heard.proofs.Turns.{turns_step_by_step}

-- a step that moves no history, hears of no message, and makes nothing
record IsIdle (stable : Bool) (s : Step) : Type 0 where
  new : is_new s ≡ false
  send : makes_message s ≡ false
  set : is_set s ≡ false
  hears : heard_by s ≡ None
  keeps : move_of stable s ≡ keep

idle_touch : (b : Bool) (s : Step) → IsTrue (only_touches s) → IsIdle b s
idle_touch b (Get t) e = record { new = refl; send = refl; set = refl; hears = refl; keeps = refl }
idle_touch b (Skip t) e = record { new = refl; send = refl; set = refl; hears = refl; keeps = refl }
idle_touch b (Ask t a) e = record { new = refl; send = refl; set = refl; hears = refl; keeps = refl }
idle_touch b s e = absurd (cc)

idle_end : (b : Bool) (s : Step) → IsTrue (only_ends s) → IsIdle b s
idle_end b (Hold t) e = record { new = refl; send = refl; set = refl; hears = refl; keeps = refl }
idle_end b (Stay t) e = record { new = refl; send = refl; set = refl; hears = refl; keeps = refl }
idle_end b (Done t) e = record { new = refl; send = refl; set = refl; hears = refl; keeps = refl }
idle_end b s e = absurd (cc)

idle_failure : (s : Step) → IsTrue (falls_if_volatile s) → IsIdle true s
idle_failure (Trap t c) e = record { new = refl; send = refl; set = refl; hears = refl; keeps = refl }
idle_failure (Fail t) e = record { new = refl; send = refl; set = refl; hears = refl; keeps = refl }
idle_failure s e = absurd (cc)

-- a step that hears of a message and does nothing else
record IsHearing (stable : Bool) (s : Step) : Type 0 where
  new : is_new s ≡ false
  send : makes_message s ≡ false
  set : is_set s ≡ false
  keeps : move_of stable s ≡ keep
  removed : removed_by s ≡ heard_by s
  pending : keeps_pending s ≡ true

only_hearing : (b : Bool) (s : Step) → IsTrue (only_hears s) → IsHearing b s
only_hearing b (Drop t m) e = record { new = refl; send = refl; set = refl; keeps = refl; removed = refl; pending = refl }
only_hearing b (Heed t m) e = record { new = refl; send = refl; set = refl; keeps = refl; removed = refl; pending = refl }
only_hearing b s e = absurd (cc)

only_ends-ends : (s : Step) → IsTrue (only_ends s) → IsTrue (ends_turn s)
only_ends-ends (Hold t) e = refl
only_ends-ends (Stay t) e = refl
only_ends-ends (Done t) e = refl
only_ends-ends s e = absurd (cc)

failure-ends : (s : Step) → IsTrue (falls_if_volatile s) → IsTrue (ends_turn s)
failure-ends (Trap t c) e = refl
failure-ends (Fail t) e = refl
failure-ends s e = absurd (cc)

element : {A : Type 0} (xs : List A) (i : ℕ) → i < length xs → (x : A) × (slice_get xs i ≡ Some x)
element [] i l = absurd (omega arith)
element (x ∷ xs) zero l = (x, refl)
element (x ∷ xs) (suc i) l = element xs i (omega arith)

module _ (h : Hearing) (T : Run) (s : Step) (next : IsNext h T s) (t : ℕ) (by : actor s ≡ Some t) where
  abbrev U : Run
  U = appended T s

  abbrev n : ℕ
  n = len T

  abbrev stable : Bool
  stable = (history T t n).stable

  -- a change of the turn alone
  still : (c : TurnChange) (gone : Option ℕ) → IsIdle stable s → ((m : ℕ) → gone ≡ Some m → removed_by s ≡ Some m)
      → ((roots : List Point) (touched depended : Bool) → TellsTurn U t n roots touched depended → TellsTurn U t (suc n) (roots_after c roots) (touched_after c touched) (depended_after c depended))
      → Leads h (actor_change (record { who = t; hears = None; log = log.Stays; turn = c }) gone false) U
  still c gone idle removed turns =
      lead.actor_leads h T s next (record { who = t; hears = None; log = log.Stays; turn = c }) gone false by idle.new idle.send removed (ap is_fall idle.keeps)
      (lead.turn_follows h T s next t c by idle.set idle.hears idle.keeps turns) (lead.still_room h T s next t c by)

  none_gone : (m : ℕ) → None ≡ Some m → removed_by s ≡ Some m
  none_gone m e = absurd (cc)

  pub touch_leads : IsTrue (only_touches s) → Leads h (turn_change t turn.Touches) U
  touch_leads kind = still turn.Touches None (idle_touch stable s kind) none_gone
      (λ roots touched depended x. (turns_step_by_step U t n roots touched depended (lead.known h T s next) x).touching (lead.does h T s next touches t by (only_touches-touches s kind)) (lead.open_turn h T s next t by (only_touches-touches s kind)))

  ended : IsIdle stable s → IsTrue (ends_turn s) → Leads h (turn_change t turn.Ends) U
  ended idle ends = still turn.Ends None idle none_gone
      (λ roots touched depended x. (turns_step_by_step U t n roots touched depended (lead.known h T s next) x).ending (lead.does h T s next ends_turn t by ends))

  pub end_leads : IsTrue (only_ends s) → Leads h (turn_change t turn.Ends) U
  end_leads kind = ended (idle_end stable s kind) (only_ends-ends s kind)

  pub stable_failure_leads : IsTrue (falls_if_volatile s) → IsTrue stable → Leads h (turn_change t turn.Ends) U
  stable_failure_leads kind is =
      let F : Bool → Type 0 = λ b. IsIdle b s in ended (subst F (sym is) (idle_failure s kind)) (failure-ends s kind)

  pub void_leads : (m : ℕ) → s ≡ Void t m → Leads h (actor_change (record { who = t; hears = None; log = log.Stays; turn = turn.Stays }) (Some m) false) U
  void_leads m kind = still turn.Stays (Some m) idle (λ k e. ap removed_by kind ∙ e)
      (λ roots touched depended x. (turns_step_by_step U t n roots touched depended (lead.known h T s next) x).keeping (lead.does h T s next keeps_pending t by (ap keeps_pending kind))) where
        idle : IsIdle stable s
        idle = record { new = ap is_new kind; send = ap makes_message kind; set = ap is_set kind; hears = ap heard_by kind; keeps = ap (move_of stable) kind }

  -- A version more.

  module _ (v0 v : Version) (m : Move) (more : List ℕ) (last : IsLast h t v0) (is : IsMoved n v0 v m) (moves : move_of stable s ≡ m) (closes : (g : Timeline) → IsVersionOf v0 g → (moved m g).closed ≡ g.closed ++ more) where
    move_then : move_at U t n ≡ m
    move_then = move_at-own U t n s (lead.here h T s next) by ∙ ap (λ g. move_of g.stable s) (sym (history-same t n (agree_appended T s))) ∙ moves

    stays : m ≢ close → m ≢ fall → ¬ Leaves U t n
    stays no_close no_fall (inl c) = no_close (sym move_then ∙ closes_move U t n c)
    stays no_close no_fall (inr f) = no_fall (sym move_then ∙ f)

    leaves : (m ≡ close) ⊎ (m ≡ fall) → Leaves U t n
    leaves (inl e) = inl (move_closes U t n (move_then ∙ e))
    leaves (inr e) = inr (move_then ∙ e)

    not_set_then : is_set s ≡ false → ¬ Does is_set U t n
    not_set_then set d = let impossible : false ≡ true = sym set ∙ ap is_set (same_some (sym (lead.here h T s next) ∙ d.stands)) ∙ d.passes in cc

    -- the log with the version more
    added_log : is_set s ≡ false → (old new : Told) → slice_get h.logs.items t ≡ Some old → new.versions ≡ old.versions ++ v ∷ [] → new.takes ≡ old.takes → TellsOn old new v more → TellsLog U t n old
        → TellsLog U t (suc n) new × KeepsLatest n old new
    added_log set old new e versions takes tells x =
        (logs_step_by_step U t n old (lead.known h T s next) x).added new v [] added is.from (tells U t n is.from version closed x.histories) taken_then where
          tells0 : IsVersionOf v0 (history U t n)
          tells0 = (last_tells U t n old v0 x.histories (last old e)).tells

          ranges : (v0.first ≤ v0.last) × (v0.last ≤ length old.takes)
          ranges = x.takes.within (length old.versions - 1) v0 (last old e)

          moved_then : history U t (suc n) ≡ moved m (history U t n)
          moved_then = history-suc U t n ∙ ap (λ k. moved k (history U t n)) move_then

          version : IsVersionOf v (history U t (suc n))
          version = let F : Timeline → Type 0 = IsVersionOf v in subst F (sym moved_then) (is.tells (history U t n) tells0)

          closed : (history U t (suc n)).closed ≡ (history U t n).closed ++ more
          closed = ap (λ g. g.closed) moved_then ∙ closes (history U t n) tells0

          added : IsAdded old new v []
          added = record {
            versions = versions;
            takes = takes ∙ sym (append-nil old.takes);
            ordered = ⊎_elim (λ p. omega (arith, p.0, p.1, ranges.0)) (λ p. omega (arith, p.0, p.1)) is.takes;
            within = ⊎_elim (λ p. omega (arith, p.1, ranges.1, ap length takes)) (λ p. omega (arith, p.1)) is.takes;
          }

          same_range : (v.first ≡ v0.first) → (v.last ≡ v0.last) → taken old.takes v0 ≡ taken new.takes v
          same_range first end = ap₂ (λ a b. take (b - a) (drop a old.takes)) (sym first) (sym end) ∙ ap (λ ps. taken ps v) (sym takes)

          no_range : (v.first ≡ 0) → (v.last ≡ 0) → [] ≡ taken new.takes v
          no_range first end = ap₂ (λ a b. take (b - a) (drop a new.takes)) (sym first) (sym end)

          taken_then : TellsTaken U t (suc n) (taken new.takes v)
          taken_then = ⊎_elim
              (λ p.
              let F : List Point → Type 0 = TellsTaken U t (suc n) in
              subst F (same_range p.0 p.1) (taken_stays U t n (taken old.takes v0) ((points_grow U t n).stays (stays p.2 p.3)) (takes_nothing U t n (not_set_then set) (lead.exists h T s next t by))
              (x.takes.told n (length old.versions - 1) v0 (omega arith) (last_tells U t n old v0 x.histories (last old e)).latest)))
              (λ p. let F : List Point → Type 0 = TellsTaken U t (suc n) in subst F (no_range p.0 p.1) (reached_points_have_taken_nothing U t n (lead.known h T s next) (leaves p.2)))
              is.takes

  -- what the log of the actor has room for
  log_room : (l : Told) → slice_get h.logs.items t ≡ Some l → (1 ≤ l.spare_versions) × (1 ≤ l.spare_closed)
  log_room l e =
      let x = element h.own.items t (omega (arith, lead.exists h T s next t by, (lead.kept h T s next).transactors)) in
      let room = next.room.log t l x.0 by e x.1 in (room.versions, room.closed)

  -- a change with a version more
  moved_leads : (v0 v : Version) (m : Move) (c : TurnChange) (hears gone : Option ℕ) → IsLast h t v0 → IsMoved n v0 v m → move_of stable s ≡ m → ((g : Timeline) → IsVersionOf v0 g → (moved m g).closed ≡ g.closed ++ [])
      → is_new s ≡ false → makes_message s ≡ false → is_set s ≡ false → ((k : ℕ) → gone ≡ Some k → removed_by s ≡ Some k)
      → ((roots : List Point) (touched depended : Bool) → TellsTurn U t n roots touched depended → TellsTurn U t (suc n) (roots_after c roots) (touched_after c touched) (depended_after c depended))
      → HearsRightly U t n h.letters.items hears → ((x : Own) → slice_get h.own.items t ≡ Some x → HasRoomToHear hears h.letters.items x.numbers)
      → Leads h (actor_change (record { who = t; hears = hears; log = log.Moves v; turn = c }) gone (is_fall m)) U
  moved_leads v0 v m c hears gone last is moves closes new send set removed turns right hear_room =
      lead.actor_leads h T s next (record { who = t; hears = hears; log = log.Moves v; turn = c }) gone (is_fall m) by new send removed (ap is_fall moves)
      (record {
        acts = lead.acting h T s next t by;
        log = λ old next_log x e f after tells turn. added_log v0 v m [] last is moves closes set old next_log e after.0 after.1 after.2 tells;
        turn = turns;
        hears = right;
      })
      (record {
        log_exists = omega (arith, lead.exists h T s next t by, (lead.kept h T s next).logs_are.count);
        own_exists = omega (arith, lead.exists h T s next t by, (lead.kept h T s next).transactors);
        log_fits = λ l e. (log_room l e).0;
        own_fits = hear_room;
      })

  hear_room : (hears : Option ℕ) (m : ℕ) → heard_by s ≡ Some m → IsOnlyOne hears m → (x : Own) → slice_get h.own.items t ≡ Some x → HasRoomToHear hears h.letters.items x.numbers
  hear_room None m heard only x e = tt
  hear_room (Some k) m heard only x e = next.room.hears t k x by (heard ∙ ap Some (sym (only k refl))) e

  no_room : (x : Own) → slice_get h.own.items t ≡ Some x → HasRoomToHear None h.letters.items x.numbers
  no_room x e = tt

  pub stabilize_leads : (v0 v : Version) → IsLast h t v0 → IsMoved n v0 v stabilize → s ≡ Stabilize t → Leads h (actor_change (record { who = t; hears = None; log = log.Moves v; turn = turn.Touches }) None false) U
  stabilize_leads v0 v last is kind = moved_leads v0 v stabilize turn.Touches None None last is (ap (move_of stable) kind) (λ g e. sym (append-nil g.closed)) (ap is_new kind) (ap makes_message kind) (ap is_set kind) none_gone
      (λ roots touched depended x. (turns_step_by_step U t n roots touched depended (lead.known h T s next) x).touching (lead.does h T s next touches t by (ap touches kind)) (lead.open_turn h T s next t by (ap touches kind)))
      (inl (lead.hears_none h T s next (ap heard_by kind))) no_room

  -- a falling step
  falling_leads : (v0 v : Version) (hears : Option ℕ) → IsLast h t v0 → IsMoved n v0 v fall → move_of stable s ≡ fall → is_new s ≡ false → makes_message s ≡ false → is_set s ≡ false → IsTrue (ends_turn s)
      → HearsRightly U t n h.letters.items hears → ((x : Own) → slice_get h.own.items t ≡ Some x → HasRoomToHear hears h.letters.items x.numbers)
      → Leads h (actor_change (record { who = t; hears = hears; log = log.Moves v; turn = turn.Ends }) None true) U
  falling_leads v0 v hears last is moves new send set ends right room = moved_leads v0 v fall turn.Ends hears None last is moves (λ g e. sym (append-nil g.closed)) new send set none_gone
      (λ roots touched depended x. (turns_step_by_step U t n roots touched depended (lead.known h T s next) x).ending (lead.does h T s next ends_turn t by ends)) right room

  pub rollback_leads : (v0 v : Version) → IsLast h t v0 → IsMoved n v0 v fall → s ≡ Rollback t → Leads h (actor_change (record { who = t; hears = None; log = log.Moves v; turn = turn.Ends }) None true) U
  rollback_leads v0 v last is kind = falling_leads v0 v None last is (ap (move_of stable) kind) (ap is_new kind) (ap makes_message kind) (ap is_set kind) (ap ends_turn kind) (inl (lead.hears_none h T s next (ap heard_by kind))) no_room

  pub failure_leads : (v0 v : Version) → IsLast h t v0 → IsMoved n v0 v fall → IsTrue (falls_if_volatile s) → stable ≡ false → Leads h (actor_change (record { who = t; hears = None; log = log.Moves v; turn = turn.Ends }) None true) U
  failure_leads v0 v last is kind volatile =
      let x = idle_failure s kind in
      falling_leads v0 v None last is (ap (λ b. move_of b s) volatile ∙ falls_then s kind) x.new x.send x.set (failure-ends s kind) (inl (lead.hears_none h T s next x.hears)) no_room where
        falls_then : (s : Step) → IsTrue (falls_if_volatile s) → move_of false s ≡ fall
        falls_then (Trap u c) e = refl
        falls_then (Fail u) e = refl
        falls_then s e = absurd (cc)

  pub fall_leads : (m : ℕ) (v0 v : Version) (hears : Option ℕ) → IsLast h t v0 → IsMoved n v0 v fall → s ≡ Fall t m → HearsRightly U t n h.letters.items hears → IsOnlyOne hears m
      → Leads h (actor_change (record { who = t; hears = hears; log = log.Moves v; turn = turn.Ends }) None true) U
  fall_leads m v0 v hears last is kind right only = falling_leads v0 v hears last is (ap (move_of stable) kind) (ap is_new kind) (ap makes_message kind) (ap is_set kind) (ap ends_turn kind) right (hear_room hears m (ap heard_by kind) only)

  -- a Checkpoint
  pub close_leads : (v0 v : Version) → IsLast h t v0 → IsMoved n v0 v close → s ≡ Checkpoint t → Leads h (actor_change (record { who = t; hears = None; log = log.Closes v0.incarnation v; turn = turn.Ends }) None false) U
  close_leads v0 v last is kind =
      lead.actor_leads h T s next (record { who = t; hears = None; log = log.Closes v0.incarnation v; turn = turn.Ends }) None false by (ap is_new kind) (ap makes_message kind) none_gone (ap (λ r. is_fall (move_of stable r)) kind)
      (record {
        acts = lead.acting h T s next t by;
        log = λ old next_log x e f after tells turn.
            added_log v0 v close (v0.incarnation ∷ []) last is (ap (move_of stable) kind) (λ g y. ap (λ k. g.closed ++ k ∷ []) (sym y.incarnation_is)) (ap is_set kind) old next_log e after.0 after.1 after.2 tells;
        turn = λ roots touched depended x. (turns_step_by_step U t n roots touched depended (lead.known h T s next) x).ending (lead.does h T s next ends_turn t by (ap ends_turn kind));
        hears = inl (lead.hears_none h T s next (ap heard_by kind));
      })
      (record {
        log_exists = omega (arith, lead.exists h T s next t by, (lead.kept h T s next).logs_are.count);
        own_exists = omega (arith, lead.exists h T s next t by, (lead.kept h T s next).transactors);
        log_fits = λ l e. log_room l e;
        own_fits = no_room;
      })

  -- Steps that hear of a message and leave the log.

  heard_leads : (m : ℕ) (c : TurnChange) (hears : Option ℕ) → is_new s ≡ false → makes_message s ≡ false → is_set s ≡ false → move_of stable s ≡ keep → heard_by s ≡ Some m → removed_by s ≡ Some m
      → ((roots : List Point) (touched depended : Bool) → TellsTurn U t n roots touched depended → TellsTurn U t (suc n) (roots_after c roots) (touched_after c touched) (depended_after c depended))
      → HearsRightly U t n h.letters.items hears → IsOnlyOne hears m → Leads h (actor_change (record { who = t; hears = hears; log = log.Stays; turn = c }) (Some m) false) U
  heard_leads m c hears new send set keeps heard removed turns right only =
      lead.actor_leads h T s next (record { who = t; hears = hears; log = log.Stays; turn = c }) (Some m) false by new send (λ k e. removed ∙ e) (ap is_fall keeps)
      (record { acts = lead.acting h T s next t by; log = λ old new_log x e f after tells turn. lead.log_stays h T s next t by set keeps old new_log after tells; turn = turns; hears = right })
      (record {
        log_exists = omega (arith, lead.exists h T s next t by, (lead.kept h T s next).logs_are.count);
        own_exists = omega (arith, lead.exists h T s next t by, (lead.kept h T s next).transactors);
        log_fits = λ l e. tt;
        own_fits = hear_room hears m heard only;
      })

  pub hearing_leads : (m : ℕ) (hears : Option ℕ) → IsTrue (only_hears s) → heard_by s ≡ Some m → HearsRightly U t n h.letters.items hears → IsOnlyOne hears m
      → Leads h (actor_change (record { who = t; hears = hears; log = log.Stays; turn = turn.Stays }) (Some m) false) U
  hearing_leads m hears kind heard right only =
      let p = only_hearing stable s kind in
      heard_leads m turn.Stays hears p.new p.send p.set p.keeps heard (p.removed ∙ heard)
      (λ roots touched depended x. (turns_step_by_step U t n roots touched depended (lead.known h T s next) x).keeping (lead.does h T s next keeps_pending t by p.pending)) right only

  pub take_leads : (m : ℕ) (hears : Option ℕ) (l : Letter) (left : List Point) → s ≡ Take t m → slice_get h.letters.items m ≡ Some (Some l) → WithoutClosed U (Heard U t (suc n)) l.roots left
      → HearsRightly U t n h.letters.items hears → IsOnlyOne hears m
      → Leads h (actor_change (record { who = t; hears = hears; log = log.Stays; turn = turn.Begins left }) (Some m) false) U
  take_leads m hears l left kind e without right only = heard_leads m (turn.Begins left) hears (ap is_new kind) (ap makes_message kind) (ap is_set kind) (ap (move_of stable) kind) (ap heard_by kind) (ap removed_by kind)
      (λ roots touched depended x. (turns_step_by_step U t n roots touched depended (lead.known h T s next) x).take m l.roots left (lead.here h T s next ∙ ap Some kind) ((lead.kept h T s next).letter m l e).roots without) right only
