-- A change leads to what is right after the step: what all kinds share.
use Rattle.std.proofs.Common.{◌≡◌, ◌⊎◌, inl, inr, ℕ, zero, suc, ◌+◌, ◌-◌, ◌^◌, ◌<◌, ◌≤◌, Bool, true, false, IsTrue, cond, List, [], ◌∷◌, length, Option, Some, None, refl, sym, ap, ◌∙◌, subst, arith}
use Rattle.std.specs.Prelude.{slice_get, option_and_then, if◌then◌else◌, nat_lt, nat_le, ◌&&◌}
use Rattle.std.specs.Option.{option_map_or}
use Rattle.std.proofs.lemmas.Option.{slice_get_within}
use Rattle.tau_history.specs.Timeline.{Timeline, Move, keep, close, fall, moved}
use Rattle.tau_points.specs.declared.point.Point.{Point}
use Rattle.tau_trace.specs.declared.step.Step.{Step}
use Rattle.tau_trace.specs.declared.step.Step.TheVariants.{Get, Skip, Ask, Lose, Repeat}
use Rattle.tau_trace.specs.Steps.{actor, removed_by, is_new, makes_message}
use Rattle.tau_trace.specs.Run.{Run, len, step_at, appended, starts, ActsAt, Does}
use Rattle.tau_trace.specs.Numbering.{born, HasSender}
use Rattle.tau_trace.specs.Histories.{history, move_at, move_of, is_fall, is_close}
use Rattle.tau_trace.specs.Known.{WellFormed}
use Rattle.tau_trace.specs.Turns.{HasOpenTurn}
use Rattle.tau_trace.proofs.Agreement.{agree_appended, step_at-appended, sent-same, history-same, same_at}
use Rattle.tau_trace.proofs.Counts.{count-le}
use Rattle.tau_trace.proofs.Counted.{history-suc, move_at-own, counted}
use Rattle.tau_trace.proofs.Indexing.{len-appended, born-next, sent-next, well_formed_appended}
use Rattle.tau_trace.proofs.Lists.{same_some}
use Rattle.tau_trace.proofs.Quiet.{acts}
use Rattle.tau_past.specs.Carried.{touches, is_set}
use Rattle.tau_past.specs.Heard.{heard_by}
use Rattle.tau_past.specs.KnownLaws.{HearsOf, HearsOfNone}
use Rattle.tau_past.proofs.Known.{acts_known}
use Rattle.tau_versions.specs.declared.logs.version.Version.{Version}
use Rattle.tau_versions.specs.Logs.Versions.{IsVersionOf}
use Rattle.tau_versions.specs.Logs.Told.{Told}
use Rattle.tau_versions.specs.Logs.Takes.{taken}
use Rattle.tau_versions.specs.Logs.Reading.{takes_told}
use Rattle.tau_heard.specs.declared.own.Own.{Own}
use Rattle.tau_heard.specs.declared.letter.Letter.{Letter}
use Rattle.tau_heard.specs.declared.letter.Sender.{Sender}
use Rattle.tau_heard.specs.declared.hearing.Hearing.{Hearing}
use Rattle.tau_heard.specs.declared.change.ActorChange.{ActorChange}
use Rattle.tau_heard.specs.declared.change.HearingChange.{HearingChange}
use Rattle.tau_heard.specs.declared.change.LogChange.TheVariants as log
use Rattle.tau_heard.specs.declared.change.TurnChange.{TurnChange}
use Rattle.tau_heard.specs.After.{HasRoom, HasRoomFor, Leads}
use Rattle.tau_heard.specs.Bounds.{TellsHeardBy}
use Rattle.tau_heard.specs.Changed.{roots_after, touched_after, depended_after}
use Rattle.tau_heard.specs.Facts.{ActorFollows, IsSameSender, IsChange}
use Rattle.tau_heard.specs.Falls.{falls_at}
use Rattle.tau_heard.specs.Hears.{Hears}
use Rattle.tau_versions.specs.Search.Logs.{TellsLog}
use Rattle.tau_heard.specs.Logs.{KeepsLatest}
use Rattle.tau_heard.specs.Next.{IsNext, actor_change, only_touches, IsLast, IsMoved}
use Rattle.tau_heard.specs.Turns.{TellsTurn}
use Rattle.tau_heard.proofs.Bounds.{last_tells}
use Rattle.tau_heard.proofs.Following.{changes_follow}
use Rattle.tau_heard.proofs.Moves.{logs_step_by_step}
use Rattle.tau_heard.proofs.Places.{hears_is_local}

element : {A : Type 0} (xs : List A) (i : ℕ) → i < length xs → (x : A) × (slice_get xs i ≡ Some x)
element [] i l = absurd (omega arith)
element (x ∷ xs) zero l = (x, refl)
element (x ∷ xs) (suc i) l = element xs i (omega arith)

module _ (h : Hearing) (T : Run) (s : Step) (next : IsNext h T s) where
  abbrev pub U : Run
  U = appended T s

  abbrev pub n : ℕ
  n = len T

  pub known : WellFormed U
  known = well_formed_appended T s next.well_formed next.follows

  pub here : step_at U n ≡ Some s
  here = step_at-appended T s

  pub kept : Hears U n h.logs.items h.own.items h.letters.items h.falls
  kept = hears_is_local T U n h.logs.items h.own.items h.letters.items h.falls next.well_formed known (agree_appended T s) next.knows

  pub leads : (c : HearingChange) → IsChange U n h c → HasRoom h c → Leads h c U
  leads c change room = record {
    room = room;
    after = λ g after.
        let F : ℕ → Type 0 = λ k. Hears U k g.logs.items g.own.items g.letters.items g.falls in
        subst F (sym (len-appended T s)) (changes_follow U n h g c known kept after change);
  }

  pub does : (test : Step → Bool) (t : ℕ) → actor s ≡ Some t → IsTrue (test s) → Does test U t n
  does test t by passes = record { step = s; stands = here; by = by; passes = passes }

  pub acting : (t : ℕ) → actor s ≡ Some t → ActsAt U t n
  acting t by = acts U t n s here by

  pub exists : (t : ℕ) → actor s ≡ Some t → t < born U n
  exists t by = acts_known U t n known (acting t by)

  pub open_turn : (t : ℕ) → actor s ≡ Some t → IsTrue (touches s) → HasOpenTurn U t n
  open_turn t by passes =
      let turn = next.ready.touching t by passes in
      (turn.0, (turn.1.0, ((same_at T U n (agree_appended T s)).turn t turn.0 turn.1.0).0 turn.1.1))

  pub history_then : (t : ℕ) → actor s ≡ Some t → history U t (suc n) ≡ moved (move_of (history T t n).stable s) (history T t n)
  history_then t by =
      let same = history-same t n (agree_appended T s) in
      let F : Timeline → Timeline = λ g. moved (move_of g.stable s) g in
      history-suc U t n ∙ ap (λ m. moved m (history U t n)) (move_at-own U t n s here by) ∙ ap F (sym same)

  pub hears_none : heard_by s ≡ None → HearsOfNone U n
  hears_none e = ap (option_and_then heard_by) here ∙ e

  -- one more falling step can be counted
  pub few_falls : h.falls + 1 < 2 ^ 32
  few_falls = omega (arith, next.knows.falls_is, count-le (falls_at T) n, next.follows.few_steps)

  -- a change of the actor alone
  pub actor_leads : (a : ActorChange) (gone : Option ℕ) (falls : Bool) → actor s ≡ Some a.who → is_new s ≡ false → makes_message s ≡ false → ((m : ℕ) → gone ≡ Some m → removed_by s ≡ Some m)
      → is_fall (move_of (history T a.who n).stable s) ≡ falls → ActorFollows U n h.letters.items h.logs.items h.own.items a → HasRoomFor a h.letters.items h.logs.items h.own.items → Leads h (actor_change a gone falls) U
  actor_leads a gone falls by new send removed fell follows room = leads (actor_change a gone falls)
      (record {
        actor = follows;
        newborn = let F : Bool → ℕ = λ b. cond b 1 0 in omega (arith, born-next U n s here, ap F new);
        letter = let F : Bool → ℕ = λ b. cond b 1 0 in omega (arith, sent-next U n s here, ap F send);
        gone = λ m e. ap (option_and_then removed_by) here ∙ removed m e;
        falls = ap (λ o. option_map_or (λ t. is_fall (move_at U t n)) o false) (acting a.who by) ∙ ap is_fall (move_at-own U a.who n s here by) ∙ ap (λ g. is_fall (move_of g.stable s)) (sym (history-same a.who n (agree_appended T s))) ∙ fell;
      })
      (record { actor = room; logs = next.room.logs; own = next.room.own; letters = next.room.letters; falls = few_falls })

  -- the log of a step that isn't a Set and doesn't move the history stays
  pub log_stays : (t : ℕ) → actor s ≡ Some t → is_set s ≡ false → move_of (history T t n).stable s ≡ keep → (old new : Told) → new ≡ old → TellsLog U t n old → TellsLog U t (suc n) new × KeepsLatest n old new
  log_stays t by not_set keeps old new same tells =
      let F : Told → Type 0 = λ l. TellsLog U t (suc n) l × KeepsLatest n old l in
      subst F (sym same) ((logs_step_by_step U t n old known tells).quiet (λ d. let impossible : false ≡ true = sym not_set ∙ ap is_set (same_some (sym here ∙ d.stands)) ∙ d.passes in cc) stays (exists t by), λ a i v le l. l) where
        stays : history U t (suc n) ≡ history U t n
        stays = history_then t by ∙ ap (λ m. moved m (history T t n)) keeps ∙ history-same t n (agree_appended T s)

  -- a change of the turn alone, by a step that hears of no message
  pub turn_follows : (t : ℕ) (c : TurnChange) → actor s ≡ Some t → is_set s ≡ false → heard_by s ≡ None → move_of (history T t n).stable s ≡ keep
      → ((roots : List Point) (touched depended : Bool) → TellsTurn U t n roots touched depended → TellsTurn U t (suc n) (roots_after c roots) (touched_after c touched) (depended_after c depended))
      → ActorFollows U n h.letters.items h.logs.items h.own.items (record { who = t; hears = None; log = log.Stays; turn = c })
  turn_follows t c by not_set alone keeps turns = record {
    acts = acting t by;
    log = λ old new x e f is tells turn. log_stays t by not_set keeps old new is tells;
    turn = turns;
    hears = inl (hears_none alone);
  }

  -- there is room where the log stays and nothing is heard
  pub still_room : (t : ℕ) (c : TurnChange) → actor s ≡ Some t → HasRoomFor (record { who = t; hears = None; log = log.Stays; turn = c }) h.letters.items h.logs.items h.own.items
  still_room t c by = record {
    log_exists = omega (arith, exists t by, kept.logs_are.count);
    own_exists = omega (arith, exists t by, kept.transactors);
    log_fits = λ l e. tt;
    own_fits = λ x e. tt;
  }

  -- What is there.

  pub log_there : (t : ℕ) → actor s ≡ Some t → (l : Told) × (slice_get h.logs.items t ≡ Some l)
  log_there t by = element h.logs.items t (omega (arith, exists t by, kept.logs_are.count))

  pub own_there : (t : ℕ) → actor s ≡ Some t → (x : Own) × (slice_get h.own.items t ≡ Some x)
  own_there t by = element h.own.items t (omega (arith, exists t by, kept.transactors))

  pub letter_there : (m : ℕ) → heard_by s ≡ Some m → (l : Letter) × (slice_get h.letters.items m ≡ Some (Some l))
  letter_there m e = next.knows.in_flight m (next.ready.hearing m e)

  pub repeated_there : (m : ℕ) → s ≡ Repeat m → (l : Letter) × (slice_get h.letters.items m ≡ Some (Some l))
  repeated_there m e = next.knows.in_flight m (next.ready.repeating m e)

  pub some_version : (t : ℕ) (l : Told) → slice_get h.logs.items t ≡ Some l → 1 ≤ length l.versions
  some_version t l e = let x = (kept.logs_are.each t l e).opens in omega (arith, slice_get_within l.versions 0 x.0 x.1.stands)

  -- the last version has the point of the actor, and small numbers
  pub last_is : (t : ℕ) (v : Version) → actor s ≡ Some t → IsLast h t v → IsVersionOf v (history U t n)
  last_is t v by last = let l = log_there t by in (last_tells U t n l.0 v (kept.logs_are.each t l.0 l.1).histories (last l.0 l.1)).tells

  pub few_incarnations : (t : ℕ) (v : Version) → actor s ≡ Some t → IsLast h t v → v.incarnation ≤ n
  few_incarnations t v by last =
      let c = counted U t n in
      omega (arith, (last_is t v by last).incarnation_is, c.incarnation_is, count-le (λ j. nat_le c.since j && is_fall (move_at U t j)) n)

  pub few_intervals : (t : ℕ) (v : Version) → actor s ≡ Some t → IsLast h t v → v.interval ≤ n + 1
  few_intervals t v by last =
      let c = counted U t n in
      omega (arith, (last_is t v by last).interval_is, c.interval_is, count-le (λ j. is_close (move_at U t j)) n, one_at_most (nat_lt t (starts U))) where
        one_at_most : (b : Bool) → (if b then 1 else 0) ≤ 1
        one_at_most true = omega arith
        one_at_most false = omega arith

  -- what the last version's point has taken stands in the log's takes
  pub ranges_are : (t : ℕ) (v : Version) (l : Told) → IsLast h t v → slice_get h.logs.items t ≡ Some l → (v.first ≤ v.last) × (v.last ≤ length l.takes)
  ranges_are t v l last e = (kept.logs_are.each t l e).takes.within (length l.versions - 1) v (last l e)

  pub told_last : (t : ℕ) (v : Version) (l : Told) → IsLast h t v → slice_get h.logs.items t ≡ Some l → takes_told l (length l.versions - 1) ≡ taken l.takes v
  told_last t v l last e = ap (λ o. option_map_or (taken l.takes) o []) (last l e)

  -- there is a last version, and only one
  pub last_there : (t : ℕ) → actor s ≡ Some t → (v : Version) × IsLast h t v
  last_there t by =
      let l = log_there t by in
      let v = element l.0.versions (length l.0.versions - 1) (omega (arith, some_version t l.0 l.1)) in
      (v.0, λ k e. let F : Told → Type 0 = λ m. slice_get m.versions (length m.versions - 1) ≡ Some v.0 in subst F (same_some (sym l.1 ∙ e)) v.1)

  pub last_once : (t : ℕ) (v w : Version) → actor s ≡ Some t → IsLast h t v → IsLast h t w → v ≡ w
  last_once t v w by x y = let l = log_there t by in same_some (sym (x l.0 l.1) ∙ y l.0 l.1)

  -- the version after a step by which the point is left
  pub left_moved : (t k : ℕ) (v w : Version) (m : Move) → actor s ≡ Some t → IsLast h t v → k ≡ n → w.from ≡ k + 1 → ((g : Timeline) → IsVersionOf v g → IsVersionOf w (moved m g)) → (w.first ≡ 0) × (w.last ≡ 0)
      → (m ≡ close) ⊎ (m ≡ fall) → (x : Version) → IsLast h t x → IsMoved n x w m
  left_moved t k v w m by last place from tells takes leaves x other =
      let F : Version → Type 0 = λ y. IsMoved n y w m in
      subst F (last_once t v x by last other) (record { from = omega (arith, from, place); tells = tells; takes = inr (takes.0, takes.1, leaves) })

  -- the actor is stable where its last version is
  pub mode_is : (t : ℕ) (v : Version) → actor s ≡ Some t → IsLast h t v → v.stable ≡ (history T t n).stable
  mode_is t v by last = (last_is t v by last).stable_is ∙ ap (λ g. g.stable) (sym (history-same t n (agree_appended T s)))

  pub few_places : n + 1 < 2 ^ 32
  few_places = omega (arith, next.follows.few_steps)

  pub hears_of : (m : ℕ) → heard_by s ≡ Some m → HearsOf U n m
  hears_of m e = ap (option_and_then heard_by) here ∙ e

  -- the sender of a message in flight is the one that is kept
  pub sender_is : (m : ℕ) (l : Letter) (sender : Sender) → slice_get h.letters.items m ≡ Some (Some l) → l.sender ≡ Some sender → HasSender U m sender.who
  sender_is m l sender e is = let F : Option Sender → Type 0 = TellsHeardBy U m n h.logs.items in (subst F is (kept.letter m l e).heard).0

pub only_touches-touches : (s : Step) → IsTrue (only_touches s) → IsTrue (touches s)
only_touches-touches (Get t) e = refl
only_touches-touches (Skip t) e = refl
only_touches-touches (Ask t a) e = refl
only_touches-touches s e = absurd (cc)

-- a Lose is a step of nobody
pub lose_leads : (h : Hearing) (T : Run) (s : Step) → IsNext h T s → (m : ℕ) → s ≡ Lose m → Leads h (record { actor = None; newborn = None; gone = Some m; letter = None; falls = false }) (appended T s)
lose_leads h T s next m kind = leads h T s next (record { actor = None; newborn = None; gone = Some m; letter = None; falls = false })
    (record {
      actor = λ t a. let impossible : None ≡ Some t = sym nobody ∙ a in absurd (cc);
      newborn = let F : Bool → ℕ = λ b. cond b 1 0 in omega (arith, born-next (appended T s) (len T) s (here h T s next), ap F (ap is_new kind));
      letter = let F : Bool → ℕ = λ b. cond b 1 0 in omega (arith, sent-next (appended T s) (len T) s (here h T s next), ap F (ap makes_message kind));
      gone = λ k e. ap (option_and_then removed_by) (here h T s next) ∙ ap removed_by kind ∙ e;
      falls = ap (λ o. option_map_or (λ t. is_fall (move_at (appended T s) t (len T))) o false) nobody;
    })
    (record { actor = tt; logs = next.room.logs; own = next.room.own; letters = next.room.letters; falls = few_falls h T s next }) where
      nobody : option_and_then actor (step_at (appended T s) (len T)) ≡ None
      nobody = ap (option_and_then actor) (here h T s next) ∙ ap actor kind

-- and so is a Repeat
pub repeat_leads : (h : Hearing) (T : Run) (s : Step) → IsNext h T s → (m : ℕ) (l copy : Letter) → s ≡ Repeat m → slice_get h.letters.items m ≡ Some (Some l) → IsSameSender l.sender copy.sender → copy.roots ≡ l.roots
    → Leads h (record { actor = None; newborn = None; gone = None; letter = Some copy; falls = false }) (appended T s)
repeat_leads h T s next m l copy kind stands sender roots = leads h T s next (record { actor = None; newborn = None; gone = None; letter = Some copy; falls = false })
    (record {
      actor = λ t a. let impossible : None ≡ Some t = sym nobody ∙ a in absurd (cc);
      newborn = let F : Bool → ℕ = λ b. cond b 1 0 in omega (arith, born-next (appended T s) (len T) s (here h T s next), ap F (ap is_new kind));
      letter = record {
        repeated = m;
        letter = l;
        stands = stands;
        copies = record { stands = here h T s next ∙ ap Some kind; made = refl; earlier = omega (arith, (next.ready.repeating m kind).exists, sent-same (len T) (agree_appended T s)) };
        sender = sender;
        roots = roots;
      };
      gone = λ k e. absurd (cc);
      falls = ap (λ o. option_map_or (λ t. is_fall (move_at (appended T s) t (len T))) o false) nobody;
    })
    (record { actor = tt; logs = next.room.logs; own = next.room.own; letters = next.room.letters; falls = few_falls h T s next }) where
      nobody : option_and_then actor (step_at (appended T s) (len T)) ≡ None
      nobody = ap (option_and_then actor) (here h T s next) ∙ ap actor kind
