-- What a command with one text writes, and why it ends without writing.
use Rattle.std.specs.Prelude.{◌≡◌, ◌⊎◌, ℕ, ◌<◌, IsTrue, List, length, Option, Some, None}
use Rattle.tau_points.specs.declared.point.Point.{Point}
use Rattle.tau_command.specs.declared.commands.TextCommand.{TextCommand}
use Rattle.tau_command.specs.declared.commands.TextCommand.TheVariants.{Run, Check, Audit, Report, Print, Gen, Drill, Migrate, Why, Cut, Draw, Storm}
use Rattle.tau_output.specs.declared.outputs.End.{End}
use Rattle.tau_output.specs.Faults.{input_limit, reads_input, IsInputFault}
use Rattle.tau_output.specs.Asking.{AsksInVain}
use Rattle.tau_output.specs.declared.refusals.Wanted.{Wanted}
use Rattle.tau_output.specs.declared.refusals.Wanted.TheVariants.{Step, Behaviour, Outcome}
use Rattle.tau_command.specs.declared.storms.Question.TheVariants.{Outcomes, Claim, Show}
use Rattle.tau_cli.specs.declared.statuses.Status.{Status}
use Rattle.tau_cli.specs.declared.statuses.Status.TheVariants.{Done, Stopped, Input, Bad, ReadFault, NoMemory, Broken, Place, Claim as Broken_claim, NoClaim, NoOutcome}
use Rattle.tau_cli.specs.Status.{of_end}

-- how a command ends where its input has no fault and nothing fails; `why`, `draw` and `storm` may ask in vain
abbrev pub IsEndOf : TextCommand → Status → Type 0
IsEndOf (Run workers jobs seed steps) status = (status ≡ Done) ⊎ (status ≡ Stopped)
IsEndOf Check status = (status ≡ Done) ⊎ ((place : ℕ) × (status ≡ Bad place))
IsEndOf Audit status = (status ≡ Done) ⊎ ((checkpoint : ℕ) × (point : Point) × (fall : ℕ) × (status ≡ Broken checkpoint point fall))
IsEndOf Report status = status ≡ Done
IsEndOf Print status = status ≡ Done
IsEndOf (Gen number) status = status ≡ Done
IsEndOf (Drill number) status = (status ≡ Done) ⊎ (status ≡ Stopped)
IsEndOf Migrate status = (status ≡ Done) ⊎ ((place : ℕ) × (status ≡ Bad place))
IsEndOf (Why place) status = (status ≡ Done) ⊎ (status ≡ Place place)
IsEndOf Cut status = status ≡ Done
IsEndOf (Draw from to ask) status = (status ≡ Done) ⊎ ((place : ℕ) × (ask ≡ Some place) × (status ≡ Place place))
IsEndOf (Storm workers numbers Outcomes) status = status ≡ Done
IsEndOf (Storm workers numbers (Claim name)) status = (status ≡ Done) ⊎ ((status ≡ Broken_claim) ⊎ (status ≡ NoClaim))
IsEndOf (Storm workers numbers (Show outcome)) status = (status ≡ Done) ⊎ (status ≡ NoOutcome)

-- the bytes are those that a source had left, where it tells them
abbrev pub AreLeft : Option (List ℕ) → List ℕ → Type 0
AreLeft None bytes = Unit {0}
AreLeft (Some left) bytes = bytes ≡ left

-- more bytes than an input may have were left
pub record IsTooLong (left : Option (List ℕ)) : Type 0 where
  pub bytes : List ℕ
  pub are_left : AreLeft left bytes
  pub many : input_limit < length bytes

-- that a command writes this text for bytes, and how it then ends
abbrev pub Writing : Type 1
Writing = TextCommand → List ℕ → End → List ℕ → Type 0

-- a command writes this text for the bytes that a source had left, where it reads them, and ends with this status
pub record IsOutput (Writes : Writing) (command : TextCommand) (left : Option (List ℕ)) (status : Status) (text : List ℕ) : Type 0 where
  pub bytes : List ℕ
  pub are_left : IsTrue (reads_input command) → AreLeft left bytes
  pub end : End
  pub writes : Writes command bytes end text
  pub is_status : status ≡ of_end end

-- the bytes that a source had left are an input of a command that has this fault at this place
pub record IsFaulty (command : TextCommand) (left : Option (List ℕ)) (fault at : ℕ) : Type 0 where
  pub bytes : List ℕ
  pub are_left : AreLeft left bytes
  pub has_fault : IsInputFault command bytes fault at

-- a command wants this in vain of the bytes that the source had left
pub record IsUnasked (command : TextCommand) (left : Option (List ℕ)) (wanted : Wanted) : Type 0 where
  pub bytes : List ℕ
  pub are_left : AreLeft left bytes
  pub in_vain : AsksInVain command bytes wanted

-- why a command ends before it writes, by the status; that the source failed is given
abbrev pub Stops : TextCommand → Option (List ℕ) → Type 0 → Status → Type 0
Stops command left Failed (Input fault at) = IsFaulty command left fault at
Stops command left Failed ReadFault = IsTrue (reads_input command) × Failed
Stops command left Failed (Place place) = IsUnasked command left (Step place)
Stops command left Failed NoClaim = IsUnasked command left Behaviour
Stops command left Failed NoOutcome = IsUnasked command left Outcome
Stops command left Failed NoMemory = Unit {0}
Stops command left Failed status = ⊥

-- this status, or a failed read or want of memory in its place
abbrev pub IsUnlessUnread : Status → Status → Type 0
IsUnlessUnread result status = (result ≡ status) ⊎ ((result ≡ ReadFault) ⊎ (result ≡ NoMemory))
