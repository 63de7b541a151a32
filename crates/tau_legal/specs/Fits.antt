-- Which step fits at a place of a run (docs/definitions.md, "Fitting and legal steps").
use Rattle.std.specs.Prelude.{◌≡◌, ◌⊎◌, ◌↔◌, ℕ, ◌<◌, ◌≤◌, Bool, true, false, IsTrue, IsFalse, None, Some}
use Rattle.tau_value.specs.Val.{Val}
use Rattle.tau_value.specs.Value.{val_of}
use Rattle.tau_tree.specs.declared.programs.Program.{Program}
use Rattle.tau_trace.specs.declared.step.Step.{Step}
use Rattle.tau_trace.specs.declared.step.Step.TheVariants.{Take, Drop, Fall, Void, Get, Set, Skip, Send, New, Stabilize, Ask, Checkpoint, Hold, Rollback, Stay, Done, Trap, Fail, Lose, Echo, Heed, Repeat}
use Rattle.tau_trace.specs.Steps.{actor}
use Rattle.tau_trace.specs.Run.{Run, len}
use Rattle.tau_trace.specs.Numbering.{born, Receives, InFlight, HasSender, IsNotice}
use Rattle.tau_trace.specs.Histories.{history, Ended, IsLiving}
use Rattle.tau_trace.specs.Turns.{IsOpenTurn}
use Rattle.tau_past.specs.Decisions.{Verdict, takes, drops, falls, Free}
use Rattle.tau_eval.specs.Eff as eff
use Rattle.tau_legal.specs.Turns.{TurnHas}

-- message m can be received by t at place k: it is in flight to t, and t hasn't ended and is in no turn
pub record Arrives (T : Run) (t m k : ℕ) : Type 0 where
  pub in_flight : InFlight T m k
  pub receiver : Receives T m t
  pub living : IsLiving T t k
  pub idle : IsOpenTurn T t k None

-- message m is in flight to t at place k, and t has ended
pub record ArrivesLate (T : Run) (t m k : ℕ) : Type 0 where
  pub in_flight : InFlight T m k
  pub receiver : Receives T m t
  pub ended : Ended T t k

-- the receipt of message m at place k by a transactor that has ended makes a notice: the version is 2, m isn't a notice itself, and
-- it has a sender, which lives
pub record Echoes (P : Program) (T : Run) (m k : ℕ) : Type 0 where
  pub version : P.version ≡ 2
  pub not_notice : ¬ IsNotice T m
  pub sender : ℕ
  pub has : HasSender T m sender
  pub living : IsLiving T sender k

-- the most transactors that there can be
abbrev pub most_transactors : ℕ
most_transactors = 2048

-- t is stable, or volatile, at place k
abbrev pub IsStable : Run → ℕ → ℕ → Type 0
IsStable T t k = IsTrue (history T t k).stable

abbrev pub IsVolatile : Run → ℕ → ℕ → Type 0
IsVolatile T t k = IsFalse (history T t k).stable

-- the next effect of t's turn at place k is to create a transactor, and no number is left for one
pub record LacksNumber (P : Program) (T : Run) (t k : ℕ) : Type 0 where
  pub behaviour : ℕ
  pub node : ℕ
  pub state : Val
  pub effect : TurnHas P T t k (eff.new behaviour node state)
  pub full : most_transactors ≤ born T k

-- the step fits after the steps before place k; in version 1 there is no notice, and no Echo, Heed and Repeat fits
abbrev pub Fits : Program → Run → ℕ → Step → Type 0
Fits P T k (Take t m) = Arrives T t m k × Verdict T t k m takes × (¬ IsNotice T m)
Fits P T k (Drop t m) = Arrives T t m k × Verdict T t k m drops
Fits P T k (Fall t m) = Arrives T t m k × Verdict T t k m falls
Fits P T k (Void t m) = ArrivesLate T t m k × (¬ Echoes P T m k)
Fits P T k (Get t) = TurnHas P T t k eff.get
Fits P T k (Set t v) = TurnHas P T t k (eff.set (val_of v)) × IsVolatile T t k
Fits P T k (Skip t) = (v : Val) × TurnHas P T t k (eff.set v) × IsStable T t k
Fits P T k (Send t u v) = TurnHas P T t k (eff.send u (val_of v))
Fits P T k (New t b n v) = TurnHas P T t k (eff.new b n (val_of v)) × (born T k < most_transactors)
Fits P T k (Stabilize t) = TurnHas P T t k eff.stabilize
Fits P T k (Ask t answer) = TurnHas P T t k eff.ask × (IsTrue answer ↔ (¬ Free T t k))
Fits P T k (Checkpoint t) = TurnHas P T t k eff.checkpoint × Free T t k
Fits P T k (Hold t) = TurnHas P T t k eff.checkpoint × (¬ Free T t k)
Fits P T k (Rollback t) = TurnHas P T t k eff.rollback × IsVolatile T t k
Fits P T k (Stay t) = TurnHas P T t k eff.rollback × IsStable T t k
Fits P T k (Done t) = TurnHas P T t k eff.done
Fits P T k (Trap t code) = TurnHas P T t k (eff.trap code) ⊎ ((code ≡ 7) × LacksNumber P T t k)
Fits P T k (Fail t) = (t < born T k) × IsLiving T t k
Fits P T k (Lose m) = InFlight T m k
Fits P T k (Echo t m) = ArrivesLate T t m k × Echoes P T m k
Fits P T k (Heed t m) = Arrives T t m k × Verdict T t k m takes × IsNotice T m
Fits P T k (Repeat m) = InFlight T m k × (P.version ≡ 2)

-- the kinds of steps that an open turn makes
abbrev pub is_of_turn : Step → Bool
is_of_turn (Get t) = true
is_of_turn (Set t v) = true
is_of_turn (Skip t) = true
is_of_turn (Send t u v) = true
is_of_turn (New t b n v) = true
is_of_turn (Stabilize t) = true
is_of_turn (Ask t a) = true
is_of_turn (Checkpoint t) = true
is_of_turn (Hold t) = true
is_of_turn (Rollback t) = true
is_of_turn (Stay t) = true
is_of_turn (Done t) = true
is_of_turn (Trap t c) = true
is_of_turn s = false

-- the step is of the open turn of t, and fits at the end of the run
pub record IsStepOfTurn (P : Program) (T : Run) (t : ℕ) (s : Step) : Type 0 where
  pub by : actor s ≡ Some t
  pub of_turn : IsTrue (is_of_turn s)
  pub fits : Fits P T (len T) s
