-- Of which runs what is known tells, and what it decides.
use Rattle.std.specs.Prelude.{◌≡◌, ℕ, IsTrue, Some, []}
use Rattle.tau_trace.specs.declared.opening.Opening.{Opening}
use Rattle.tau_trace.specs.declared.step.Step.{Step}
use Rattle.tau_trace.specs.declared.step.Step.TheVariants.{Checkpoint, Repeat}
use Rattle.tau_trace.specs.Steps.{actor}
use Rattle.tau_trace.specs.Run.{Run, len}
use Rattle.tau_trace.specs.Numbering.{InFlight}
use Rattle.tau_trace.specs.Histories.{history}
use Rattle.tau_trace.specs.Turns.{HasOpenTurn}
use Rattle.tau_past.specs.Carried.{touches}
use Rattle.tau_past.specs.Heard.{heard_by}
use Rattle.tau_past.specs.Decisions.{Judgement, takes, drops, falls}
use Rattle.tau_knowledge.specs.declared.receipt.Receipt.{Receipt}
use Rattle.tau_knowledge.specs.declared.receipt.Receipt.TheVariants.{Take, Drop, Fall}

-- the run without steps
abbrev pub opened : Opening → Run
opened o = record { opening = o; steps = [] }

-- what a step at the end of the run must meet so that what is known can follow: it touches only in an open turn, closes only
-- a stable history, and hears only of a message in flight and repeats only one
pub record IsReady (T : Run) (s : Step) : Type 0 where
  pub touching : (t : ℕ) → actor s ≡ Some t → IsTrue (touches s) → HasOpenTurn T t (len T)
  pub closing : (t : ℕ) → s ≡ Checkpoint t → IsTrue (history T t (len T)).stable
  pub hearing : (m : ℕ) → heard_by s ≡ Some m → InFlight T m (len T)
  pub repeating : (m : ℕ) → s ≡ Repeat m → InFlight T m (len T)

-- the verdict that a receipt stands for
abbrev pub judged : Receipt → Judgement
judged Take = takes
judged Drop = drops
judged Fall = falls
