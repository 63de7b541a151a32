-- The changes of a Send and of a New lead to what is right after them.
use Rattle.std.proofs.Common.{◌≡◌, ℕ, suc, Bool, true, false, IsTrue, cond, List, [], length, Some, None, refl, sym, ap, ◌∙◌, subst, ◌<◌, arith}
use Rattle.std.specs.Prelude.{slice_get, option_and_then}
use Rattle.std.specs.Option.{option_map_or}
use Rattle.tau_value.specs.declared.shared.Value.{Value}
use Rattle.tau_history.specs.Timeline.{keep}
use Rattle.tau_points.specs.declared.point.Point.{Point}
use Rattle.tau_trace.specs.declared.step.Step.{Step}
use Rattle.tau_trace.specs.declared.step.Step.TheVariants.{Send, New, Echo}
use Rattle.tau_trace.specs.Steps.{actor, removed_by, is_send, is_new, makes_message}
use Rattle.tau_trace.specs.Run.{Run, len, step_at, appended}
use Rattle.tau_trace.specs.Numbering.{born, sent, IsNew}
use Rattle.tau_trace.specs.Known.{IsKnownAt}
use Rattle.tau_trace.specs.Histories.{history, move_at, move_of, is_fall}
use Rattle.tau_trace.proofs.Agreement.{agree_appended, sent-same, history-same}
use Rattle.tau_trace.proofs.Counted.{move_at-own}
use Rattle.tau_trace.proofs.Indexing.{born-next, sent-next}
use Rattle.tau_trace.proofs.Lists.{same_some}
use Rattle.tau_past.specs.Carried.{is_set}
use Rattle.tau_past.specs.Heard.{heard_by}
use Rattle.tau_past.specs.KnownLaws.{keeps_pending}
use Rattle.tau_heard.specs.declared.own.Own.{Own}
use Rattle.tau_heard.specs.declared.letter.Letter.{Letter}
use Rattle.tau_heard.specs.declared.letter.Sender.{Sender}
use Rattle.tau_heard.specs.declared.hearing.Hearing.{Hearing}
use Rattle.tau_heard.specs.declared.change.Newborn.{Newborn}
use Rattle.tau_heard.specs.declared.change.TurnChange.TheVariants as turn
use Rattle.tau_heard.specs.After.{Leads}
use Rattle.tau_heard.specs.Bounds.{last_number, AreRaised}
use Rattle.tau_heard.specs.Facts.{TakesAlong, ActorFollows, sends, echoes}
use Rattle.tau_heard.specs.Next.{IsNext, idle_actor, IsFirstLog}
use Rattle.tau_heard.proofs.Births.{newborn_tells}
use Rattle.tau_heard.proofs.Leading as lead
use Rattle.tau_heard.proofs.Turns.{turns_step_by_step}

-- what a Send and a New name
pub send_of : (s : Step) (t : ℕ) → IsTrue (is_send s) → actor s ≡ Some t → (to : ℕ) × (v : Value) × (s ≡ Send t to v)
send_of (Send u to v) t e by = (to, v, ap (λ w. Send w to v) (same_some by))
send_of s t e by = absurd (cc)

pub new_of : (s : Step) (t : ℕ) → IsTrue (is_new s) → actor s ≡ Some t → (b : ℕ) × (n : ℕ) × (v : Value) × (s ≡ New t b n v)
new_of (New u b n v) t e by = (b, n, v, ap (λ w. New w b n v) (same_some by))
new_of s t e by = absurd (cc)

-- a step that a transactor makes without a move of its history, without hearing, and without a message gone
record IsMaking (stable : Bool) (s : Step) : Type 0 where
  set : is_set s ≡ false
  hears : heard_by s ≡ None
  keeps : move_of stable s ≡ keep
  pending : keeps_pending s ≡ true

module _ (h : Hearing) (T : Run) (s : Step) (next : IsNext h T s) (t : ℕ) (by : actor s ≡ Some t) where
  abbrev U : Run
  U = appended T s

  abbrev n : ℕ
  n = len T

  abbrev stable : Bool
  stable = (history T t n).stable

  -- the maker's log and turn stay
  follows : IsMaking stable s → ActorFollows U n h.letters.items h.logs.items h.own.items (idle_actor t)
  follows m = lead.turn_follows h T s next t turn.Stays by m.set m.hears m.keeps
      (λ roots touched depended x. (turns_step_by_step U t n roots touched depended (lead.known h T s next) x).keeping (lead.does h T s next keeps_pending t by m.pending))

  falls_none : move_of stable s ≡ keep → option_map_or (λ u. is_fall (move_at U u n)) (option_and_then actor (step_at U n)) false ≡ false
  falls_none keeps =
      ap (λ o. option_map_or (λ u. is_fall (move_at U u n)) o false) (lead.acting h T s next t by) ∙ ap is_fall (move_at-own U t n s (lead.here h T s next) by) ∙ ap (λ g. is_fall (move_of g.stable s)) (sym (history-same t n (agree_appended T s))) ∙ ap is_fall keeps

  same_born : is_new s ≡ false → born U (suc n) ≡ born U n
  same_born e = let F : Bool → ℕ = λ b. cond b 1 0 in omega (arith, born-next U n s (lead.here h T s next), ap F e)

  same_sent : makes_message s ≡ false → sent U (suc n) ≡ sent U n
  same_sent e = let F : Bool → ℕ = λ b. cond b 1 0 in omega (arith, sent-next U n s (lead.here h T s next), ap F e)

  pub send_leads : (to : ℕ) (v : Value) (l : Letter) (sender : Sender) → s ≡ Send t to v → l.sender ≡ Some sender → sender.who ≡ t → sender.version ≡ last_number h.logs.items t
      → ((x : Own) → slice_get h.own.items t ≡ Some x → sender.numbers.value.items ≡ x.numbers.numbers) → ((x : Own) → slice_get h.own.items t ≡ Some x → TakesAlong U t n x l.roots)
      → Leads h (record { actor = Some (idle_actor t); newborn = None; gone = None; letter = Some l; falls = false }) U
  send_leads to v l sender kind is who version numbers roots =
      lead.leads h T s next (record { actor = Some (idle_actor t); newborn = None; gone = None; letter = Some l; falls = false })
      (record {
        actor = follows (record { set = ap is_set kind; hears = ap heard_by kind; keeps = ap (move_of stable) kind; pending = ap keeps_pending kind });
        newborn = same_born (ap is_new kind);
        letter = record {
          carries = sends (record { to = to; value = v; stands = lead.here h T s next ∙ ap Some kind; made = refl }) roots;
          log_stays = refl;
          sender = sender;
          is_sender = is;
          who = who;
          version = version;
          numbers = numbers;
        };
        gone = λ m e. absurd (cc);
        falls = falls_none (ap (move_of stable) kind);
      })
      (record { actor = lead.still_room h T s next t turn.Stays by; logs = next.room.logs; own = next.room.own; letters = next.room.letters; falls = lead.few_falls h T s next })

  pub echo_leads : (m : ℕ) (l : Letter) (sender : Sender) → s ≡ Echo t m → l.sender ≡ Some sender → sender.who ≡ t → sender.version ≡ last_number h.logs.items t
      → ((x : Own) → slice_get h.own.items t ≡ Some x → sender.numbers.value.items ≡ x.numbers.numbers) → l.roots ≡ []
      → Leads h (record { actor = Some (idle_actor t); newborn = None; gone = Some m; letter = Some l; falls = false }) U
  echo_leads m l sender kind is who version numbers roots =
      lead.leads h T s next (record { actor = Some (idle_actor t); newborn = None; gone = Some m; letter = Some l; falls = false })
      (record {
        actor = follows (record { set = ap is_set kind; hears = ap heard_by kind; keeps = ap (move_of stable) kind; pending = ap keeps_pending kind });
        newborn = same_born (ap is_new kind);
        letter = record {
          carries = echoes {m = m} (record { stands = lead.here h T s next ∙ ap Some kind; made = refl; earlier = omega (arith, known.1, sent-same n (agree_appended T s)) }) roots;
          log_stays = refl;
          sender = sender;
          is_sender = is;
          who = who;
          version = version;
          numbers = numbers;
        };
        gone = λ k e. ap (option_and_then removed_by) (lead.here h T s next) ∙ ap removed_by kind ∙ e;
        falls = falls_none (ap (move_of stable) kind);
      })
      (record { actor = lead.still_room h T s next t turn.Stays by; logs = next.room.logs; own = next.room.own; letters = next.room.letters; falls = lead.few_falls h T s next }) where
        known : (t < born T n) × (m < sent T n)
        known = subst (IsKnownAt T n) kind next.follows.known

  pub new_leads : (behaviour node : ℕ) (v : Value) (b : Newborn) (points : List Point) → s ≡ New t behaviour node v → IsFirstLog b.log points → ((x : Own) → slice_get h.own.items t ≡ Some x → TakesAlong U t n x points)
      → ((x : Own) → slice_get h.own.items t ≡ Some x → AreRaised x.numbers.numbers t (last_number h.logs.items t) [] b.own.numbers.numbers) → b.own.roots ≡ [] → b.own.touched ≡ false → b.own.depended ≡ false
      → Leads h (record { actor = Some (idle_actor t); newborn = Some b; gone = None; letter = None; falls = false }) U
  new_leads behaviour node v b points kind first along numbers roots touched depended =
      lead.leads h T s next (record { actor = Some (idle_actor t); newborn = Some b; gone = None; letter = None; falls = false })
      (record {
        actor = follows (record { set = ap is_set kind; hears = ap heard_by kind; keeps = ap (move_of stable) kind; pending = ap keeps_pending kind });
        newborn = record {
          birth = birth;
          log_stays = refl;
          log = λ x e told. newborn_tells U (born U n) n t b.log points (lead.known h T s next) birth first.versions first.takes (λ late quiet. first.tells U (born U n) (suc n) late quiet) (told points (along x e));
          one_version = ap length first.versions;
          numbers = numbers;
          roots = roots;
          touched = touched;
          depended = depended;
        };
        letter = same_sent (ap makes_message kind);
        gone = λ m e. absurd (cc);
        falls = falls_none (ap (move_of stable) kind);
      })
      (record { actor = lead.still_room h T s next t turn.Stays by; logs = next.room.logs; own = next.room.own; letters = next.room.letters; falls = lead.few_falls h T s next }) where
        birth : IsNew U n t (born U n)
        birth = record { behaviour = behaviour; node = node; state = v; stands = lead.here h T s next ∙ ap Some kind; made = refl }
