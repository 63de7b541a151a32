-- Families of steps: the receipts of one message, and the steps of one transactor's open turn. One step of a family fits.
use Rattle.std.specs.Prelude.{◌≡◌, ℕ, Option, Some, None}
use Rattle.tau_tree.specs.declared.programs.Program.{Program}
use Rattle.tau_trace.specs.declared.step.Step.{Step}
use Rattle.tau_trace.specs.declared.step.Step.TheVariants.{Get, Set, Skip, Send, New, Stabilize, Ask, Checkpoint, Hold, Rollback, Stay, Done, Trap}
use Rattle.tau_trace.specs.Steps.{received_by}
use Rattle.tau_trace.specs.Run.{Run}
use Rattle.tau_script.specs.Openings.{program_opening}
use Rattle.tau_legal.specs.Fits.{Fits}

-- the transactor whose open turn makes the step
abbrev pub turn_of : Step → Option ℕ
turn_of (Get t) = Some t
turn_of (Set t v) = Some t
turn_of (Skip t) = Some t
turn_of (Send t u v) = Some t
turn_of (New t b n v) = Some t
turn_of (Stabilize t) = Some t
turn_of (Ask t a) = Some t
turn_of (Checkpoint t) = Some t
turn_of (Hold t) = Some t
turn_of (Rollback t) = Some t
turn_of (Stay t) = Some t
turn_of (Done t) = Some t
turn_of (Trap t c) = Some t
turn_of s = None

-- two receipts of one message, or two steps of one transactor's open turn
pub data AreOfOneFamily (s r : Step) : Type 0 where
  receipts : {m : ℕ} → received_by s ≡ Some m → received_by r ≡ Some m → AreOfOneFamily s r
  turn_steps : {t : ℕ} → turn_of s ≡ Some t → turn_of r ≡ Some t → AreOfOneFamily s r

-- at a place of a run of the program, one step of each family fits at most
abbrev pub OneStepOfAFamilyFits : Type 0
OneStepOfAFamilyFits = (P : Program) (T : Run) (k : ℕ) (s r : Step) → T.opening ≡ program_opening P → AreOfOneFamily s r → Fits P T k s → Fits P T k r → s ≡ r
