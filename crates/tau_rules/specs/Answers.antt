-- What the calls of the system answer (docs/rules.md, "Steps").
use Rattle.std.specs.Prelude.{◌≡◌, ◌≢◌, ℕ, suc, ◌<◌, IsTrue, Option, Some, None, ◌||◌}
use Rattle.tau_value.specs.declared.shared.Value.{Value}
use Rattle.tau_value.specs.Value.{val_of}
use Rattle.tau_tree.specs.declared.programs.Program.{Program}
use Rattle.tau_trace.specs.declared.step.Step.{Step}
use Rattle.tau_trace.specs.declared.step.Step.TheVariants.{Take, Drop, Fall, Void, Echo, Heed}
use Rattle.tau_trace.specs.Steps.{ends_turn, is_take}
use Rattle.tau_trace.specs.Run.{Run, len, step_at, Does}
use Rattle.tau_trace.specs.Numbering.{born, Receives, Removes, InFlight}
use Rattle.tau_trace.specs.Places.{IsFirst}
use Rattle.tau_trace.specs.Histories.{EndsAt, IsLiving}
use Rattle.tau_trace.specs.Turns.{Turn, IsOpenTurn}
use Rattle.tau_states.specs.Opening.{opening_states}
use Rattle.tau_eval.specs.Turn.{with_reply}
use Rattle.tau_eval.specs.Turn as jobs
use Rattle.tau_legal.specs.Turns.{HasBody, HasValue, Replies, RepliesOf}
use Rattle.tau_legal.specs.Fits.{IsStepOfTurn}
use Rattle.tau_legal.specs.Choices.{goes_on}
use Rattle.tau_rules.specs.declared.answers.Standing.{Standing}
use Rattle.tau_rules.specs.declared.answers.Standing.TheVariants as standings
use Rattle.tau_rules.specs.declared.answers.Delivered.{Delivered}
use Rattle.tau_rules.specs.declared.answers.Delivered.TheVariants.{Began, Dropped, Fell, Voided, Echoed, Heeded}
use Rattle.tau_rules.specs.declared.answers.Acted.{Acted}
use Rattle.tau_rules.specs.declared.answers.Acted.TheVariants.{Reply, TurnOver, Redo}
use Rattle.tau_rules.specs.declared.errors.DeliverError.{DeliverError}
use Rattle.tau_rules.specs.declared.errors.DeliverError.TheVariants as deliver_errors
use Rattle.tau_rules.specs.declared.errors.ActError.{ActError}
use Rattle.tau_rules.specs.declared.errors.ActError.TheVariants as act_errors
use Rattle.tau_rules.specs.declared.errors.FailError.{FailError}
use Rattle.tau_rules.specs.declared.errors.FailError.TheVariants as fail_errors
use Rattle.tau_rules.specs.declared.errors.LoseError.{LoseError}
use Rattle.tau_rules.specs.declared.errors.LoseError.TheVariants as lose_errors
use Rattle.tau_rules.specs.declared.errors.RepeatError.{RepeatError}
use Rattle.tau_rules.specs.declared.errors.RepeatError.TheVariants as repeat_errors
use Rattle.tau_rules.specs.System.{Core, with_step}

-- the job is the record of a turn that is open after the run: the body of its transactor's behaviour, the number of nodes,
-- its transactor, the place of its Take, the value of that message, and the replies since
pub record IsOpenJob (P : Program) (T : Run) (job : jobs.TurnSoFar) : Type 0 where
  pub message : ℕ
  pub turn : Turn T job.who (len T) job.place message
  pub body : HasBody P T job.who job.body
  pub nodes : job.nodes ≡ P.nodes
  pub value : HasValue P T message job.message
  pub replies : RepliesOf T (opening_states P.starts) job.who (suc job.place) (len T) job.replies

-- the job of the record of t's open turn; None where no turn of it is open
abbrev pub IsJobOf : Core → ℕ → Option jobs.TurnSoFar → Type 0
IsJobOf k t None = IsOpenTurn k.run t (len k.run) None
IsJobOf k t (Some job) = (job.who ≡ t) × IsOpenJob k.program k.run job

-- the Take of the message at the end of the old run opened the turn of the job
pub record IsBegun (old new : Core) (m : ℕ) (job : jobs.TurnSoFar) : Type 0 where
  pub appended : new ≡ with_step old (Take job.who m)
  pub place : job.place ≡ len old.run
  pub opened : IsOpenJob new.program new.run job

-- a step of the message was appended
abbrev pub IsDelivered : Core → Core → ℕ → Delivered → Type 0
IsDelivered old new m (Began job) = IsBegun old new m job
IsDelivered old new m Dropped = (t : ℕ) × (new ≡ with_step old (Drop t m))
IsDelivered old new m Fell = (t : ℕ) × (new ≡ with_step old (Fall t m))
IsDelivered old new m Voided = (t : ℕ) × (new ≡ with_step old (Void t m))
IsDelivered old new m Echoed = (t : ℕ) × (new ≡ with_step old (Echo t m))
IsDelivered old new m Heeded = (t : ℕ) × (new ≡ with_step old (Heed t m))

-- why a message isn't delivered: the named step took it; or it is in flight, and the named turn of its receiver is open
abbrev pub IsUndelivered : Run → ℕ → DeliverError → Type 0
IsUndelivered T m (deliver_errors.NotInFlight place) = IsFirst (Removes T m) (len T) (Some place)
IsUndelivered T m (deliver_errors.Busy turn) = (t : ℕ) × Receives T m t × IsOpenTurn T t (len T) (Some turn) × InFlight T m (len T)
IsUndelivered T m deliver_errors.NoMemory = Unit {0}

-- the pending's job was the record of the turn, and the step of its effect was appended
pub record IsStepped (old new : Core) (pending : jobs.TurnSoFar) (s : Step) : Type 0 where
  pub was_open : IsOpenJob old.program old.run pending
  pub step : IsStepOfTurn old.program old.run pending.who s
  pub appended : new ≡ with_step old s

-- nothing was appended: another job is the record of the turn that is open at the pending's place
pub record IsRedone (old new : Core) (pending job : jobs.TurnSoFar) : Type 0 where
  pub unchanged : new ≡ old
  pub place : job.place ≡ pending.place
  pub is_open : IsOpenJob old.program old.run job
  pub differs : job ≢ pending

-- what came of an effect: its step and the reply, after which the record of the turn is the pending's with that reply; its
-- step, which ended the turn; or another job
abbrev pub IsActed : Core → Core → jobs.TurnSoFar → Acted → Type 0
IsActed old new pending (Reply r) =
    (s : Step) × IsStepped old new pending s × IsTrue (goes_on s) × Replies old.run (opening_states old.program.starts) (len old.run) s (val_of r) × IsOpenJob new.program new.run (with_reply pending (val_of r))
IsActed old new pending TurnOver = (s : Step) × IsStepped old new pending s × IsTrue (ends_turn s)
IsActed old new pending (Redo job) = IsRedone old new pending job

-- the answer for a job that is known to be the record: the turn goes on with a reply, or is over
abbrev pub acted_by : Option Value → Acted
acted_by (Some r) = Reply r
acted_by None = TurnOver

-- no turn that began at a place is open after the run
abbrev pub NoTurnFrom : Run → ℕ → Type 0
NoTurnFrom T place = (t m : ℕ) → ¬ Turn T t (len T) place m

-- where the turn from a place ended: at its transactor's next step that ends a turn or begins one; at the length of the
-- run where no Take stands at the place
pub data IsTurnEnd (T : Run) (place : ℕ) : ℕ → Type 0 where
  ended : {t m k : ℕ} → step_at T place ≡ Some (Take t m) → place < k → Does (λ s. ends_turn s || is_take s) T t k
      → ((j : ℕ) → place < j → j < k → ¬ Does (λ s. ends_turn s || is_take s) T t j) → IsTurnEnd T place k
  no_take : {k : ℕ} → ((t m : ℕ) → step_at T place ≢ Some (Take t m)) → k ≡ len T → IsTurnEnd T place k

-- why an effect's step isn't made
abbrev pub IsUnacted : Run → ℕ → ActError → Type 0
IsUnacted T place (act_errors.Stale ended_by) = NoTurnFrom T place × IsTurnEnd T place ended_by
IsUnacted T place act_errors.NoMemory = Unit {0}

-- why a transactor doesn't fail
abbrev pub IsUnfailed : Run → ℕ → FailError → Type 0
IsUnfailed T t (fail_errors.Ended place) = (place < len T) × EndsAt T t place
IsUnfailed T t fail_errors.NoMemory = Unit {0}

-- why a message isn't lost
abbrev pub IsUnlost : Run → ℕ → LoseError → Type 0
IsUnlost T m (lose_errors.NotInFlight place) = IsFirst (Removes T m) (len T) (Some place)
IsUnlost T m lose_errors.NoMemory = Unit {0}

-- why a message isn't repeated
abbrev pub IsUnrepeated : Run → ℕ → RepeatError → Type 0
IsUnrepeated T m (repeat_errors.NotInFlight place) = IsFirst (Removes T m) (len T) (Some place)
IsUnrepeated T m repeat_errors.NoMemory = Unit {0}

-- what a transactor is doing after the run; None where it doesn't exist
abbrev pub IsStanding : Run → ℕ → Option Standing → Type 0
IsStanding T t None = ¬ (t < born T (len T))
IsStanding T t (Some standings.Idle) = (t < born T (len T)) × IsLiving T t (len T) × IsOpenTurn T t (len T) None
IsStanding T t (Some (standings.Busy turn)) = (t < born T (len T)) × IsOpenTurn T t (len T) (Some turn)
IsStanding T t (Some (standings.Ended place)) = (t < born T (len T)) × (place < len T) × EndsAt T t place
