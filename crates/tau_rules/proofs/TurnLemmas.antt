-- Turns, replies and values after one step more.
use Rattle.std.proofs.Common.{◌≡◌, ◌≢◌, ℕ, suc, ◌<◌, ◌≤◌, IsTrue, Some, None, List, [], ◌∷◌, ◌++◌, sym, ap, ◌∙◌, subst, arith}
use Rattle.std.specs.Prelude.{option_and_then}
use Rattle.tau_value.specs.declared.shared.Value.{Value}
use Rattle.tau_value.specs.Val.{Val}
use Rattle.tau_value.specs.Value.{val_of}
use Rattle.tau_tree.specs.declared.programs.Program.{Program}
use Rattle.tau_trace.specs.declared.step.Step.{Step}
use Rattle.tau_trace.specs.declared.step.Step.TheVariants.{Take, New}
use Rattle.tau_trace.specs.Steps.{actor, ends_turn}
use Rattle.tau_trace.specs.Run.{Run, step_at, ActsAt, Does, len, appended}
use Rattle.tau_trace.specs.Numbering.{born, sent}
use Rattle.tau_trace.specs.Turns.{Turn, IsOpenTurn}
use Rattle.tau_trace.specs.Known.{WellFormed}
use Rattle.tau_trace.proofs.Agreement.{agree_appended, step_at-appended, same_at, born-same, born-grows, sent-grows}
use Rattle.tau_trace.proofs.Indexing.{len-appended}
use Rattle.tau_past.specs.KnownLaws.{KeepsTurns}
use Rattle.tau_past.proofs.PendingLemmas.{turns_after_step}
use Rattle.tau_states.specs.Opening.{opening_states}
use Rattle.tau_legal.specs.Turns.{HasBehaviour, created, HasValue, Replies, RepliesOf, before, another, reply}
use Rattle.tau_legal.proofs.LocalLemmas.{replies-same, replies_of-same, behaviour-same, value-same}
use Rattle.tau_legal.proofs.TraceLemmas.{known_at_end}
use Rattle.tau_rules.specs.declared.records.Record.{Record}
use Rattle.tau_rules.specs.Records.{IsOfTurn, IsRecord}

module _ (P : Program) (T : Run) (s : Step) (v : WellFormed T) (w : WellFormed (appended T s)) where
  -- the step stands at the end
  stands : step_at (appended T s) (len T) ≡ Some s
  stands = step_at-appended T s

  acts : (t : ℕ) → actor s ≡ Some t → ActsAt (appended T s) t (len T)
  acts t e = ap (option_and_then actor) stands ∙ e

  not_acts : (t : ℕ) → actor s ≢ Some t → ¬ ActsAt (appended T s) t (len T)
  not_acts t ne a = ne (sym (ap (option_and_then actor) stands) ∙ a)

  -- the turns that are open one step later are those that were open before
  turn_before : (t place m : ℕ) → KeepsTurns (appended T s) t (len T) → Turn (appended T s) t (len (appended T s)) place m → Turn T t (len T) place m
  turn_before t place m keeps u =
      let later : Turn (appended T s) t (suc (len T)) place m = subst (λ k. Turn (appended T s) t k place m) (len-appended T s) u in
      ((same_at T (appended T s) (len T) (agree_appended T s)).turn t place m).1 ((keeps place m).0 later)

  -- at the length of the longer run
  at_end : (opening : List Value) (t a : ℕ) (rs : List Val) → RepliesOf (appended T s) opening t a (suc (len T)) rs → RepliesOf (appended T s) opening t a (len (appended T s)) rs
  at_end opening t a rs = subst (λ k. RepliesOf (appended T s) opening t a k rs) (sym (len-appended T s))

  -- the record of another transactor
  pub record_kept : (t : ℕ) (r : Record) → t < born T (len T) → actor s ≢ Some t → IsRecord P T t r → IsRecord P (appended T s) t r
  record_kept t r lt ne h = record {
    behaviour = behaviour-same P t (len T) r.behaviour (agree_appended T s) lt h.behaviour;
    turn = λ place m u. of_turn place m (turn_before t place m ((turns_after_step (appended T s) t (len T)).other (not_acts t ne)) u);
  } where
    of_turn : (place m : ℕ) → Turn T t (len T) place m → IsOfTurn P (appended T s) t place m r
    of_turn place m u =
        let old = h.turn place m u in
        let known = (v.known place (Take t m) u.takes).1 in
        let within = u.before in
        record {
          message = value-same P m (len T) (val_of r.message) (agree_appended T s) (omega (arith, known, sent-grows T place (len T) (omega arith))) old.message;
          replies = at_end (opening_states P.starts) t (suc place) r.replies (another (omega arith) (not_acts t ne) (replies_of-same (opening_states P.starts) t (suc place) (len T) r.replies v w (agree_appended T s) old.replies));
        }

  -- the record of the transactor that makes the step, where its turn goes on and has a reply
  pub record_replied : (t : ℕ) (r : Record) (x : Val) → t < born T (len T) → actor s ≡ Some t → KeepsTurns (appended T s) t (len T)
      → Replies T (opening_states P.starts) (len T) s x → IsRecord P T t r → (q : Record) → q.behaviour ≡ r.behaviour → q.message ≡ r.message → q.replies ≡ r.replies ++ x ∷ []
      → IsRecord P (appended T s) t q
  record_replied t r x lt by keeps gives h q same_behaviour same_message same_replies = record {
    behaviour = subst (HasBehaviour P (appended T s) t) (sym same_behaviour) (behaviour-same P t (len T) r.behaviour (agree_appended T s) lt h.behaviour);
    turn = λ place m u. of_turn place m (turn_before t place m keeps u);
  } where
    of_turn : (place m : ℕ) → Turn T t (len T) place m → IsOfTurn P (appended T s) t place m q
    of_turn place m u =
        let old = h.turn place m u in
        let known = (v.known place (Take t m) u.takes).1 in
        let within = u.before in
        let opening = opening_states P.starts in
        let a = agree_appended T s in
        let message = value-same P m (len T) (val_of r.message) a (omega (arith, known, sent-grows T place (len T) (omega arith))) old.message in
        let replies = reply x (omega arith) (acts t by) stands (replies-same opening (len T) s x v w a (known_at_end T s w) gives) (replies_of-same opening t (suc place) (len T) r.replies v w a old.replies) in
        record {
          message = subst (λ y. HasValue P (appended T s) m (val_of y)) (sym same_message) message;
          replies = subst (λ rs. RepliesOf (appended T s) opening t (suc place) (len (appended T s)) rs) (sym same_replies) (at_end opening t (suc place) (r.replies ++ x ∷ []) replies);
        }

  -- where its turn ends
  pub record_ended : (t : ℕ) (r : Record) → t < born T (len T) → actor s ≡ Some t → IsTrue (ends_turn s) → IsRecord P T t r → IsRecord P (appended T s) t r
  record_ended t r lt by ends h = record {
    behaviour = behaviour-same P t (len T) r.behaviour (agree_appended T s) lt h.behaviour;
    turn = λ place m u. absurd (none place m (subst (λ k. Turn (appended T s) t k place m) (len-appended T s) u));
  } where
    does : Does ends_turn (appended T s) t (len T)
    does = record { step = s; stands = stands; by = by; passes = ends }

    none : (place m : ℕ) → ¬ Turn (appended T s) t (suc (len T)) place m
    none place m u = (turns_after_step (appended T s) t (len T)).ending does place m u

  -- where no turn of it is open, and none begins
  pub record_idle : (t : ℕ) (r : Record) → t < born T (len T) → KeepsTurns (appended T s) t (len T) → IsOpenTurn T t (len T) None → IsRecord P T t r → IsRecord P (appended T s) t r
  record_idle t r lt keeps idle h = record {
    behaviour = behaviour-same P t (len T) r.behaviour (agree_appended T s) lt h.behaviour;
    turn = λ place m u. absurd (idle place m (turn_before t place m keeps u));
  }

  -- where it begins a turn
  pub record_begun : (t m : ℕ) (r : Record) → t < born T (len T) → m < sent T (len T) → s ≡ Take t m → IsRecord P T t r
      → (q : Record) → q.behaviour ≡ r.behaviour → HasValue P T m (val_of q.message) → q.replies ≡ [] → IsRecord P (appended T s) t q
  record_begun t m r lt below is h q same_behaviour value no_replies = record {
    behaviour = subst (HasBehaviour P (appended T s) t) (sym same_behaviour) (behaviour-same P t (len T) r.behaviour (agree_appended T s) lt h.behaviour);
    turn = λ place n u. of_turn place n (((turns_after_step (appended T s) t (len T)).take m (stands ∙ ap Some is) place n).0 (subst (λ k. Turn (appended T s) t k place n) (len-appended T s) u));
  } where
    of_turn : (place n : ℕ) → (place ≡ len T) × (n ≡ m) → IsOfTurn P (appended T s) t place n q
    of_turn place n e = record {
      message = subst (λ i. HasValue P (appended T s) i (val_of q.message)) (sym e.1) (value-same P m (len T) (val_of q.message) (agree_appended T s) below value);
      replies = subst (λ rs. RepliesOf (appended T s) (opening_states P.starts) t (suc place) (len (appended T s)) rs) (sym no_replies) (before (omega (arith, e.0, len-appended T s)));
    }

  -- the record of the transactor that the step makes
  pub record_newborn : (t b n : ℕ) (x : Value) (q : Record) → s ≡ New t b n x → q.behaviour ≡ b → IsRecord P (appended T s) (born T (len T)) q
  record_newborn t b n x q is same = record {
    behaviour = created (record { behaviour = b; node = n; state = x; stands = stands ∙ ap Some is; made = born-same (len T) (agree_appended T s) }) (sym same);
    turn = λ place m u. absurd (unborn place m u);
  } where
    unborn : (place m : ℕ) → ¬ Turn (appended T s) (born T (len T)) (len (appended T s)) place m
    unborn place m u =
        let known = (w.known place (Take (born T (len T)) m) u.takes).0 in
        let within : place ≤ len T = omega (arith, u.before, len-appended T s) in
        omega (arith, known, born-grows (appended T s) place (len T) within, born-same (len T) (agree_appended T s))

  -- the values of the messages that existed before
  pub value_kept : (m : ℕ) (x : Val) → m < sent T (len T) → HasValue P T m x → HasValue P (appended T s) m x
  value_kept m x lt h = value-same P m (len T) x (agree_appended T s) lt h
