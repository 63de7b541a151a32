-- The kinds of steps, by the words that begin their forms.
use Rattle.std.specs.Prelude.{ℕ, Bool, true, false, ◌==◌, List, codes, if◌then◌else◌}
use Rattle.std.specs.Str.{bytes_eq}
use Rattle.tau_trace.specs.declared.step.Step.{Step}
use Rattle.tau_trace.specs.declared.step.Step.TheVariants as steps
use Rattle.tau_steps.specs.declared.kinds.Kind.{Kind}
use Rattle.tau_steps.specs.declared.kinds.Kind.TheVariants as kinds
use Rattle.tau_steps.specs.declared.kinds.MessageKind.{MessageKind}
use Rattle.tau_steps.specs.declared.kinds.MessageKind.TheVariants as messages
use Rattle.tau_steps.specs.declared.kinds.AloneKind.{AloneKind}
use Rattle.tau_steps.specs.declared.kinds.AloneKind.TheVariants as alone

-- what a form is by the word that begins it
abbrev pub kind_in : List ℕ → Kind
kind_in w =
    if bytes_eq w (codes "take") then kinds.OfMessage messages.Take
    else (if bytes_eq w (codes "drop") then kinds.OfMessage messages.Drop
    else (if bytes_eq w (codes "fall") then kinds.OfMessage messages.Fall
    else (if bytes_eq w (codes "void") then kinds.OfMessage messages.Void
    else (if bytes_eq w (codes "get") then kinds.Alone alone.Get
    else (if bytes_eq w (codes "set") then kinds.Set
    else (if bytes_eq w (codes "skip") then kinds.Alone alone.Skip
    else (if bytes_eq w (codes "send") then kinds.Send
    else (if bytes_eq w (codes "new") then kinds.New
    else (if bytes_eq w (codes "stabilize") then kinds.Alone alone.Stabilize
    else (if bytes_eq w (codes "ask") then kinds.Ask
    else (if bytes_eq w (codes "checkpoint") then kinds.Alone alone.Checkpoint
    else (if bytes_eq w (codes "hold") then kinds.Alone alone.Hold
    else (if bytes_eq w (codes "rollback") then kinds.Alone alone.Rollback
    else (if bytes_eq w (codes "stay") then kinds.Alone alone.Stay
    else (if bytes_eq w (codes "done") then kinds.Alone alone.Done
    else (if bytes_eq w (codes "trap") then kinds.Trap
    else (if bytes_eq w (codes "fail") then kinds.Alone alone.Fail
    else (if bytes_eq w (codes "lose") then kinds.Lose
    else (if bytes_eq w (codes "echo") then kinds.Echo
    else (if bytes_eq w (codes "heed") then kinds.OfMessage messages.Heed
    else (if bytes_eq w (codes "repeat") then kinds.Repeat
    else kinds.Other)))))))))))))))))))))

-- the kinds of steps that stand in version 2 alone
abbrev pub is_later : Kind → Bool
is_later kinds.Echo = true
is_later (kinds.OfMessage messages.Heed) = true
is_later kinds.Repeat = true
is_later k = false

-- what a form of the kind is in a version: in version 1 no step is of a later kind
abbrev pub kind_at : ℕ → Kind → Kind
kind_at v k = if is_later k then (if v == 2 then k else kinds.Other) else k

-- the kind of a step
abbrev pub kind_of : Step → Kind
kind_of (steps.Take t m) = kinds.OfMessage messages.Take
kind_of (steps.Drop t m) = kinds.OfMessage messages.Drop
kind_of (steps.Fall t m) = kinds.OfMessage messages.Fall
kind_of (steps.Void t m) = kinds.OfMessage messages.Void
kind_of (steps.Get t) = kinds.Alone alone.Get
kind_of (steps.Set t v) = kinds.Set
kind_of (steps.Skip t) = kinds.Alone alone.Skip
kind_of (steps.Send t u v) = kinds.Send
kind_of (steps.New t b n v) = kinds.New
kind_of (steps.Stabilize t) = kinds.Alone alone.Stabilize
kind_of (steps.Ask t a) = kinds.Ask
kind_of (steps.Checkpoint t) = kinds.Alone alone.Checkpoint
kind_of (steps.Hold t) = kinds.Alone alone.Hold
kind_of (steps.Rollback t) = kinds.Alone alone.Rollback
kind_of (steps.Stay t) = kinds.Alone alone.Stay
kind_of (steps.Done t) = kinds.Alone alone.Done
kind_of (steps.Trap t c) = kinds.Trap
kind_of (steps.Fail t) = kinds.Alone alone.Fail
kind_of (steps.Lose m) = kinds.Lose
kind_of (steps.Echo t m) = kinds.Echo
kind_of (steps.Heed t m) = kinds.OfMessage messages.Heed
kind_of (steps.Repeat m) = kinds.Repeat

-- the step of a kind that names a transactor and a message
abbrev pub message_step : MessageKind → ℕ → ℕ → Step
message_step messages.Take t m = steps.Take t m
message_step messages.Drop t m = steps.Drop t m
message_step messages.Fall t m = steps.Fall t m
message_step messages.Void t m = steps.Void t m
message_step messages.Heed t m = steps.Heed t m

-- the step of a kind that names its transactor alone
abbrev pub alone_step : AloneKind → ℕ → Step
alone_step alone.Get t = steps.Get t
alone_step alone.Skip t = steps.Skip t
alone_step alone.Stabilize t = steps.Stabilize t
alone_step alone.Checkpoint t = steps.Checkpoint t
alone_step alone.Hold t = steps.Hold t
alone_step alone.Rollback t = steps.Rollback t
alone_step alone.Stay t = steps.Stay t
alone_step alone.Done t = steps.Done t
alone_step alone.Fail t = steps.Fail t
