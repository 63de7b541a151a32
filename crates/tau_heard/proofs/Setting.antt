-- The changes of a Set lead to what is right after it.
use Rattle.std.proofs.Common.{◌≡◌, ◌≢◌, ◌⊎◌, ◌↔◌, inl, inr, ⊎_elim, ℕ, zero, suc, ◌-◌, ◌<◌, ◌≤◌, Bool, true, false, IsTrue, List, [], ◌∷◌, ◌++◌, length, append-nil, Some, None, refl, sym, ap, ◌∙◌, subst, arith}
use Rattle.std.specs.Prelude.{slice_get, Contains}
use Rattle.std.specs.Option.{option_map_or}
use Rattle.std.proofs.lemmas.List.Elements.{Contains-append_left, Contains-append_right, Contains-append_cases, Contains-push_cases}
use Rattle.std.specs.declared.alloc.Global.{Global}
use Rattle.std.specs.declared.vec.Vec.{Vec}
use Rattle.tau_value.specs.declared.shared.Value.{Value}
use Rattle.tau_history.specs.Timeline.{Timeline, keep, moved}
use Rattle.tau_points.specs.declared.point.Point.{Point}
use Rattle.tau_trace.specs.declared.step.Step.{Step}
use Rattle.tau_trace.specs.declared.step.Step.TheVariants.{Set}
use Rattle.tau_trace.specs.Steps.{actor, removed_by, is_new, makes_message}
use Rattle.tau_trace.specs.Run.{Run, len, appended, Does}
use Rattle.tau_trace.specs.Histories.{history, move_of, is_fall}
use Rattle.tau_trace.specs.Points.{point_at}
use Rattle.tau_trace.proofs.Agreement.{agree_appended, history-same}
use Rattle.tau_trace.proofs.Lists.{same_some}
use Rattle.tau_past.specs.Carried.{is_set, touches}
use Rattle.tau_past.specs.Heard.{heard_by, Heard}
use Rattle.tau_versions.specs.declared.logs.version.Version.{Version}
use Rattle.tau_versions.specs.Logs.Versions.{IsLatest, IsVersionOf}
use Rattle.tau_versions.specs.Logs.Told.{Told}
use Rattle.tau_versions.specs.Logs.Reading.{takes_told}
use Rattle.tau_versions.specs.Logs.Takes.{taken, TellsTaken}
use Rattle.tau_versions.proofs.Latest.{latest_is_unique}
use Rattle.tau_versions.proofs.Taking.{sets_take_the_roots, later_sets_take_nothing_new}
use Rattle.tau_heard.specs.declared.own.Own.{Own}
use Rattle.tau_heard.specs.declared.hearing.Hearing.{Hearing}
use Rattle.tau_heard.specs.declared.change.LogChange.TheVariants as log
use Rattle.tau_heard.specs.declared.change.TurnChange.TheVariants as turn
use Rattle.tau_heard.specs.After.{Leads}
use Rattle.tau_heard.specs.Changed.{TellsOn}
use Rattle.tau_heard.specs.Laws.{WithoutClosed}
use Rattle.tau_versions.specs.Search.Logs.{TellsLog}
use Rattle.tau_heard.specs.Logs.{KeepsLatest}
use Rattle.tau_heard.specs.Next.{IsNext, actor_change, turn_change, IsLast}
use Rattle.tau_versions.specs.Roots.Adding.{AreFresh, IsAdding}
use Rattle.tau_heard.specs.Turns.{with_own, TellsTurn}
use Rattle.tau_heard.proofs.Bounds.{last_tells}
use Rattle.tau_heard.proofs.LeavingOut.{taken_then_without}
use Rattle.tau_heard.proofs.Leading as lead
use Rattle.tau_heard.proofs.Moves.{logs_step_by_step}
use Rattle.tau_heard.proofs.Turns.{turns_step_by_step, roots_among}

element : {A : Type 0} (xs : List A) (i : ℕ) → i < length xs → (x : A) × (slice_get xs i ≡ Some x)
element [] i l = absurd (omega arith)
element (x ∷ xs) zero l = (x, refl)
element (x ∷ xs) (suc i) l = element xs i (omega arith)

module _ (h : Hearing) (T : Run) (s : Step) (next : IsNext h T s) (t : ℕ) (by : actor s ≡ Some t) (set : IsTrue (is_set s)) where
  abbrev U : Run
  U = appended T s

  abbrev n : ℕ
  n = len T

  abbrev me : Point
  me = point_at U t n

  -- what is so of a Set is so of the step
  of_set : {A : Type 0} (f : Step → A) (a : A) → ((u : ℕ) (v : Value) → f (Set u v) ≡ a) → (r : Step) → IsTrue (is_set r) → f r ≡ a
  of_set f a each (Set u v) e = each u v
  of_set f a each r e = absurd (cc)

  does_set : Does is_set U t n
  does_set = lead.does h T s next is_set t by set

  touching : IsTrue (touches s)
  touching = of_set touches true (λ u v. refl) s set

  keeps : (b : Bool) → move_of b s ≡ keep
  keeps b = of_set (move_of b) keep (λ u v. refl) s set

  history_stays : history U t (suc n) ≡ history U t n
  history_stays = lead.history_then h T s next t by ∙ ap (λ m. moved m (history T t n)) (keeps (history T t n).stable) ∙ history-same t n (agree_appended T s)

  -- the roots and the own point, but for the own point, are the roots
  own_left : (touched : Bool) (roots : List Point) (q : Point) → Contains (with_own touched me roots) q → q ≢ me → Contains roots q
  own_left true roots q c ne = ⊎_elim (λ r. r) (λ e. absurd (ne (sym e))) (Contains-push_cases roots me q c)
  own_left false roots q c ne = c

  -- what the point has taken then
  taken_then : (x : Own) (before fresh : List Point) → TellsTurn U t n x.roots x.touched x.depended → AreFresh x.roots me before fresh → TellsTaken U t n before → TellsTaken U t (suc n) (before ++ fresh)
  taken_then x before fresh turn are told = sets_take_the_roots U t n (with_own x.touched me x.roots) before (before ++ fresh) does_set turn.pending told same where
    same : (q : Point) → Contains (before ++ fresh) q ↔ (Contains before q ⊎ (Contains (with_own x.touched me x.roots) q × (q ≢ me)))
    same q = (
      λ c. ⊎_elim (λ b. inl b) (λ f. let r = are.among q f in inr (roots_among x.touched me x.roots q r.0, r.1)) (Contains-append_cases before fresh q c),
      λ c. ⊎_elim (λ b. Contains-append_left before fresh q b) (λ r. ⊎_elim (λ b. Contains-append_left before fresh q b) (λ f. Contains-append_right before fresh q f) (are.all q (own_left x.touched x.roots q r.0 r.1) r.1)) c,
    )

  turns : (roots : List Point) (touched depended : Bool) → TellsTurn U t n roots touched depended → TellsTurn U t (suc n) roots true true
  turns roots touched depended x = (turns_step_by_step U t n roots touched depended (lead.known h T s next) x).set does_set (lead.open_turn h T s next t by touching)

  none_gone : (m : ℕ) → None ≡ Some m → removed_by s ≡ Some m
  none_gone m e = absurd (cc)

  -- what is fresh of the turn's roots, by what was read of log, turn and point
  pub fresh_at : (v : Version) → IsLast h t v → (l : Told) (x : Own) (log : Told) (own : Own) (p : Point) (before fresh : List Point) → slice_get h.logs.items t ≡ Some l → slice_get h.own.items t ≡ Some x → slice_get h.logs.items t ≡ Some log
      → slice_get h.own.items t ≡ Some own → p ≡ me → before ≡ takes_told log (length log.versions - 1) → AreFresh own.roots p before fresh → AreFresh x.roots me (taken l.takes v) fresh
  fresh_at v last l x log own p before fresh e f log_is own_is here told are =
      let F : Own → Type 0 = λ y. AreFresh y.roots p before fresh in
      let G : Point → Type 0 = λ q. AreFresh x.roots q before fresh in
      let H : List Point → Type 0 = λ ps. AreFresh x.roots me ps fresh in
      let one : log ≡ l = same_some (sym log_is ∙ e) in
      let last_taken : takes_told l (length l.versions - 1) ≡ taken l.takes v = ap (λ o. option_map_or (taken l.takes) o []) (last l e) in
      subst H (told ∙ ap (λ k. takes_told k (length k.versions - 1)) one ∙ last_taken) (subst G here (subst F (same_some (sym own_is ∙ f)) are))

  -- a Set by which the point takes nothing new: the turn has depended before, or no root is fresh
  pub still_leads : (v : Version) → IsLast h t v
      → ((l : Told) (x : Own) → slice_get h.logs.items t ≡ Some l → slice_get h.own.items t ≡ Some x → IsTrue x.depended ⊎ AreFresh x.roots me (taken l.takes v) []) → Leads h (turn_change t turn.Depends) U
  still_leads v last none = lead.actor_leads h T s next (record { who = t; hears = None; log = log.Stays; turn = turn.Depends }) None false by (of_set is_new false (λ u w. refl) s set) (of_set makes_message false (λ u w. refl) s set) none_gone
      (ap is_fall (keeps (history T t n).stable))
      (record {
        acts = lead.acting h T s next t by;
        log = λ old new x e f after tells turn.
            let F : Told → Type 0 = λ l. TellsLog U t (suc n) l × KeepsLatest n old l in
            subst F (sym after) ((logs_step_by_step U t n old (lead.known h T s next) tells).same history_stays (taken_on old x e f tells turn), λ a i w le l. l);
        turn = turns;
        hears = inl (lead.hears_none h T s next (of_set heard_by None (λ u w. refl) s set));
      })
      (lead.still_room h T s next t turn.Depends by) where
        taken_on : (old : Told) (x : Own) → slice_get h.logs.items t ≡ Some old → slice_get h.own.items t ≡ Some x → TellsLog U t n old → TellsTurn U t n x.roots x.touched x.depended
            → (i : ℕ) (w : Version) → IsLatest old.versions n i w → TellsTaken U t n (taken old.takes w) → TellsTaken U t (suc n) (taken old.takes w)
        taken_on old x e f tells turn i w latest told = ⊎_elim again first (none old x e f) where
          one : v ≡ w
          one = (latest_is_unique old.versions n (length old.versions - 1) i v w (last_tells U t n old v tells.histories (last old e)).latest latest).1

          again : IsTrue x.depended → TellsTaken U t (suc n) (taken old.takes w)
          again d = later_sets_take_nothing_new U t n (taken old.takes w) does_set (turn.took d) told

          first : AreFresh x.roots me (taken old.takes v) [] → TellsTaken U t (suc n) (taken old.takes w)
          first are =
              let F : Version → Type 0 = λ z. AreFresh x.roots me (taken old.takes z) [] in
              let G : List Point → Type 0 = TellsTaken U t (suc n) in
              subst G (append-nil (taken old.takes w)) (taken_then x (taken old.takes w) [] turn (subst F one are) told)

  -- a Set by which it takes the fresh roots
  pub taking_leads : (unclosed : Point → Bool) (v w : Version) (points : List Point) (more : Vec Point Global) → more.items ≡ points → IsLast h t v → w.from ≡ suc n
      → ((l : Told) (x : Own) → slice_get h.logs.items t ≡ Some l → slice_get h.own.items t ≡ Some x → (fresh : List Point) × AreFresh x.roots me (taken l.takes v) fresh × ((add : IsAdding unclosed l v fresh points w) × WithoutClosed U (Heard U t n) (taken l.takes v) add.kept))
      → Leads h (actor_change (record { who = t; hears = None; log = log.Takes more w; turn = turn.Depends }) None false) U
  taking_leads unclosed v w points more is last from takes = lead.actor_leads h T s next (record { who = t; hears = None; log = log.Takes more w; turn = turn.Depends }) None false by (of_set is_new false (λ u z. refl) s set)
      (of_set makes_message false (λ u z. refl) s set) none_gone (ap is_fall (keeps (history T t n).stable))
      (record {
        acts = lead.acting h T s next t by;
        log = λ old new x e f after tells turn. added old new x e f after.0 (after.1 ∙ ap (λ ps. old.takes ++ ps) is) after.2 tells turn;
        turn = turns;
        hears = inl (lead.hears_none h T s next (of_set heard_by None (λ u z. refl) s set));
      })
      (record {
        log_exists = omega (arith, lead.exists h T s next t by, (lead.kept h T s next).logs_are.count);
        own_exists = omega (arith, lead.exists h T s next t by, (lead.kept h T s next).transactors);
        log_fits = fits;
        own_fits = λ x e. tt;
      }) where
        added : (old new : Told) (x : Own) → slice_get h.logs.items t ≡ Some old → slice_get h.own.items t ≡ Some x → new.versions ≡ old.versions ++ w ∷ [] → new.takes ≡ old.takes ++ points → TellsOn old new w [] → TellsLog U t n old
            → TellsTurn U t n x.roots x.touched x.depended → TellsLog U t (suc n) new × KeepsLatest n old new
        added old new x e f versions grown tells_on tells turn =
            let y = takes old x e f in
            let told = last_tells U t n old v tells.histories (last old e) in
            let F : Timeline → Type 0 = IsVersionOf w in
            let before = tells.takes.told n (length old.versions - 1) v (omega arith) told.latest in
            let G : List Point → Type 0 = TellsTaken U t (suc n) in
            (logs_step_by_step U t n old (lead.known h T s next) tells).added new w points (record { versions = versions; takes = grown; ordered = y.2.0.ordered; within = omega (arith, y.2.0.within, ap length grown) }) from
            (tells_on U t n from (subst F (sym history_stays) (y.2.0.tells (history U t n) told.tells)) (ap (λ g. g.closed) history_stays ∙ sym (append-nil (history U t n).closed)) tells.histories)
            (subst G (sym (ap (λ ps. taken ps w) grown ∙ y.2.0.taken_is)) (taken_then_without U t n (taken old.takes v) y.2.0.kept y.0 y.2.1 (taken_then x (taken old.takes v) y.0 turn y.1 before)))

        fits : (l : Told) → slice_get h.logs.items t ≡ Some l → (1 ≤ l.spare_versions) × (length more.items ≤ l.spare_takes)
        fits l e =
            let x = element h.own.items t (omega (arith, lead.exists h T s next t by, (lead.kept h T s next).transactors)) in
            let room = next.room.log t l x.0 by e x.1 in
            let y = takes l x.0 e x.1 in
            let same : takes_told l (length l.versions - 1) ≡ taken l.takes v = ap (λ o. option_map_or (taken l.takes) o []) (last l e) in
            (room.versions, omega (arith, room.takes set, ap length is, y.1.few, y.2.0.few, ap length same))
