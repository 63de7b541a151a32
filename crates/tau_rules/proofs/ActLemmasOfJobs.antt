-- The job of an open turn: its transactor exists, its next effect is that of the turn, and the record of its transactor gives it.
use Rattle.std.proofs.Common.{◌≡◌, ℕ, zero, suc, ◌<◌, Some, List, [], ◌∷◌, length, refl, sym, ap, ◌∙◌, subst, arith}
use Rattle.std.specs.Prelude.{slice_get, slice_index_or, map}
use Rattle.tau_value.specs.Value.{val_of}
use Rattle.tau_tree.specs.declared.programs.Program.{Program}
use Rattle.tau_tree.specs.Behaviour.{NamedCode}
use Rattle.tau_tree.specs.Code.{Code}
use Rattle.tau_trace.specs.declared.step.Step.TheVariants.{Take}
use Rattle.tau_trace.specs.Run.{Run, len}
use Rattle.tau_trace.specs.Numbering.{born}
use Rattle.tau_trace.specs.Turns.{Turn, IsOpenTurn}
use Rattle.tau_trace.specs.Known.{WellFormed}
use Rattle.tau_trace.proofs.Agreement.{born-grows}
use Rattle.tau_script.specs.Openings.{program_opening}
use Rattle.tau_states.specs.Opening.{opening_states}
use Rattle.tau_eval.specs.Eff.{Eff}
use Rattle.tau_eval.specs.Meaning.{next}
use Rattle.tau_eval.specs.Turn as jobs
use Rattle.tau_eval.specs.Turn.{IsTurnOf, next_in}
use Rattle.tau_legal.specs.Turns.{HasBehaviour, HasBody, HasValue, RepliesOf, TurnHas}
use Rattle.tau_legal.proofs.TraceLemmas.{below_length}
use Rattle.tau_rules.specs.declared.records.Record.{Record}
use Rattle.tau_rules.specs.Records.{IsRecord, AreRecords}
use Rattle.tau_rules.specs.Answers.{IsOpenJob}
use Rattle.tau_rules.specs.Inner.Acting.{IsTaker}
use Rattle.tau_rules.proofs.OpeningLemmas.{length-map}
use Rattle.tau_rules.proofs.DeliverLemmas.{index_get}

-- the transactor of a Take exists
pub taker_exists : (T : Run) → WellFormed T → (t place : ℕ) → IsTaker T place (Some t) → t < born T (len T)
taker_exists T w t place taker =
    let known = (w.known place (Take t taker.0) taker.1).0 in
    let within = below_length T.steps place (Take t taker.0) taker.1 in
    omega (arith, known, born-grows T place (len T) (omega arith))

-- an open turn began by a Take
pub open_taker : (T : Run) (t place : ℕ) → IsOpenTurn T t (len T) (Some place) → IsTaker T place (Some t)
open_taker T t place u = (u.0, u.1.takes)

-- and so does that of an open turn
pub turn_exists : (P : Program) (T : Run) → WellFormed T → (t : ℕ) (e : Eff) → TurnHas P T t (len T) e → t < born T (len T)
turn_exists P T w t e h = taker_exists T w t h.place (h.message, h.turn.takes)

-- the opening has as many behaviours as the program
pub behaviours_counted : (P : Program) (T : Run) → T.opening ≡ program_opening P → length T.opening.behaviours ≡ length P.behaviours
behaviours_counted P T opens = ap (λ o. length o.behaviours) opens ∙ length-map (λ x. x.name) P.behaviours

-- a body by its place is that of the behaviour there
behaviour_of_body : (bs : List NamedCode) (k : ℕ) (body : Code) → slice_get (map (λ x. x.body) bs) k ≡ Some body → (c : NamedCode) × (slice_get bs k ≡ Some c) × (c.body ≡ body)
behaviour_of_body [] k body e = absurd (cc)
behaviour_of_body (c ∷ cs) zero body e =
    let same : c.body ≡ body = cc in
    (c, refl, same)
behaviour_of_body (c ∷ cs) (suc k) body e = behaviour_of_body cs k body e

has_body : (P : Program) (T : Run) (t b : ℕ) (body : Code) → HasBehaviour P T t b → slice_get (map (λ x. x.body) P.behaviours) b ≡ Some body → HasBody P T t body
has_body P T t b body h e =
    let found = behaviour_of_body P.behaviours b body e in
    record { number = b; behaviour = found.0; has = h; stands = found.1; is = found.2 }

-- the job of the record of a transactor whose turn from a place is open
pub record_open : (P : Program) (T : Run) (t place : ℕ) (r : Record) (job : jobs.TurnSoFar) → IsRecord P T t r → IsOpenTurn T t (len T) (Some place)
    → IsTurnOf P t r.behaviour place (val_of r.message) r.replies job → IsOpenJob P T job
record_open P T t place r job h open_turn is =
    let O = opening_states P.starts in
    let m = open_turn.0 in
    let of_turn = h.turn place m open_turn.1 in
    record {
      message = m;
      turn = subst (λ w. Turn T w (len T) job.place m) (sym is.who) (subst (λ p. Turn T t (len T) p m) (sym is.place) open_turn.1);
      body = subst (λ w. HasBody P T w job.body) (sym is.who) (has_body P T t r.behaviour job.body h.behaviour is.body);
      nodes = is.nodes;
      value = subst (HasValue P T m) (sym is.message) of_turn.message;
      replies = subst (λ w. RepliesOf T O w (suc job.place) (len T) job.replies) (sym is.who)
          (subst (λ p. RepliesOf T O t (suc p) (len T) job.replies) (sym is.place)
          (subst (RepliesOf T O t (suc place) (len T)) (sym is.replies) of_turn.replies));
    }

-- the transactor of a Take has a record
pub taker_within_records : (P : Program) (T : Run) (rs : List Record) → WellFormed T → AreRecords P T rs → (t place : ℕ) → IsTaker T place (Some t) → t < length rs
taker_within_records P T rs w are t place taker = omega (arith, taker_exists T w t place taker, are.count)

-- and what is read there is its record
pub taker_record : (P : Program) (T : Run) (rs : List Record) → WellFormed T → AreRecords P T rs → (t place : ℕ) → IsTaker T place (Some t) → (r : Record) → r ≡ slice_index_or rs t r → IsRecord P T t r
taker_record P T rs w are t place taker r is = are.each t r (index_get rs t r (taker_within_records P T rs w are t place taker) is)

-- the next effect of the turn is that of the job
pub job_effect : (P : Program) (T : Run) (job : jobs.TurnSoFar) → IsOpenJob P T job → TurnHas P T job.who (len T) (next_in job)
job_effect P T job h = record {
  place = job.place;
  message = h.message;
  body = job.body;
  value = job.message;
  replies = job.replies;
  turn = h.turn;
  body_is = h.body;
  value_is = h.value;
  replies_are = h.replies;
  effect_is = ap (λ n. next job.body (record { nodes = n; own = job.who; message = job.message }) job.replies) (sym h.nodes);
}
